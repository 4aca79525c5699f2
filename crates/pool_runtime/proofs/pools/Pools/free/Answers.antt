use Rattle.std.proofs.Common.{◌≡◌, Option, Some, None, OnOk, OnErr, sym, ap, subst}
use Rattle.std.specs.Prelude.{is_some}
use Rattle.slab_space.specs.PoolSteps.{freed_in}
use Rattle.slab_space.specs.Pools as all
use Rattle.pool_runtime.specs.Seen.{pool_seen, pools_of}
use Rattle.pool_runtime.specs.Tables.{IsPool}
use Rattle.pool_runtime.specs.Changes.{Changes}
use Rattle.pool_runtime.proofs.PoolsSeen.{never_gone}
use Rattle.pool_runtime.proofs.PoolsChanged.{changed_pools, changed_seen, nothing_seen}
use Rattle.pool_runtime.proofs.Frees.{free_step_is, nothing_freed, other_freed, ok_frees, err_frees, back_frees}
use Rattle.pool_runtime.proofs.pools.Pools.free.Goals as goal

pub returns-in_default-clause-err : goal.returns-in_default-clause-err
returns-in_default-clause-err c = rw (← c.self.view_is) (nothing_freed c.self.inside c.self.invariant c.args.id.0 c.args.address c.in_default.ensures)

pub returns-then-found-id-clause-err : goal.returns-then-found-id-clause-err
returns-then-found-id-clause-err c = rw (← c.self.view_is) (other_freed c.self.inside c.self.invariant c.args.id.0 c.args.address c.in-Some.found c.in-Some.ensures c.if-found-id.true)

pub free-requires-clause-pool : goal.free-requires-clause-pool
free-requires-clause-pool c =
    subst (λ n. IsPool c.self.inside.slabs n c.in-Some-get_mut.pool.now) (sym c.if-found-id.false) (c.self.invariant.pools c.args.id.0 c.in-Some-get_mut.pool.now (sym c.in-Some-get_mut.ensures.value))

pub invariant_of-self : goal.invariant_of-self
invariant_of-self c =
    let s = c.self.inside in let pool = c.in-Some-get_mut.pool.now in
    changed_pools s c.self.invariant c.args.id.0 pool c.free.new.self c.free.new.slabs (sym c.in-Some-get_mut.ensures.value) (subst (λ n. Changes n s.slabs c.free.new.slabs pool c.free.new.self) c.if-found-id.false c.free.ensures.changes)
    (c.get_mut.follows.lender c.free.new.self) ((c.get_mut.follows.holds c.free.new.self).3 (ap is_some (sym c.in-Some-get_mut.ensures.value))) (c.get_mut.follows.holds c.free.new.self).0

pub invariant_of-self-in-None : goal.invariant_of-self-in-None
invariant_of-self-in-None c = absurd (never_gone c.self.inside c.self.invariant c.args.self.now c.args.id.0 c.self.view_is (sym c.in-None.ensures.value) c.requires)

pub returns-in-Some-get_mut-clause-ok : goal.returns-in-Some-get_mut-clause-ok
returns-in-Some-get_mut-clause-ok c =
    let s = c.self.inside in let old = s.slabs in let pool = c.in-Some-get_mut.pool.now in let p = pools_of s in
    let now = pools_of (record s { slabs = c.free.new.slabs; pools = c.get_mut.follows.lender c.free.new.self }) in
    let step = freed_in old.space.owners (pool_seen old.space.bytes pool) c.args.address in
    let seen = changed_seen s c.self.invariant c.args.id.0 pool c.free.new.self c.free.new.slabs (sym c.in-Some-get_mut.ensures.value) (subst (λ n. Changes n s.slabs c.free.new.slabs pool c.free.new.self) c.if-found-id.false c.free.ensures.changes)
    (c.get_mut.follows.lender c.free.new.self) ((c.get_mut.follows.holds c.free.new.self).3 (ap is_some (sym c.in-Some-get_mut.ensures.value))) (c.get_mut.follows.holds c.free.new.self).0 in
    rw (← c.self.view_is) (subst (λ (x : Option all.Pools). OnOk c.free.result (x ≡ Some (pools_of (record s { slabs = c.free.new.slabs; pools = c.get_mut.follows.lender c.free.new.self }))))
    (sym (free_step_is s c.self.invariant c.args.id.0 c.args.address pool (sym c.in-Some-get_mut.ensures.value)))
    (ok_frees p c.args.id.0 step old c.free.new.slabs pool c.free.new.self now c.free.result (c.free.ensures.frees c.args.address c.in-Some.ensures) seen))

pub returns-in-Some-get_mut-clause-err : goal.returns-in-Some-get_mut-clause-err
returns-in-Some-get_mut-clause-err c =
    let s = c.self.inside in let old = s.slabs in let pool = c.in-Some-get_mut.pool.now in let p = pools_of s in
    let step = freed_in old.space.owners (pool_seen old.space.bytes pool) c.args.address in
    rw (← c.self.view_is) (subst (λ (x : Option all.Pools). OnErr c.free.result (x ≡ None)) (sym (free_step_is s c.self.invariant c.args.id.0 c.args.address pool (sym c.in-Some-get_mut.ensures.value)))
    (err_frees p c.args.id.0 step old c.free.new.slabs pool c.free.new.self p c.free.result (c.free.ensures.frees c.args.address c.in-Some.ensures)))

pub returns-in-Some-get_mut-clause-unchanged : goal.returns-in-Some-get_mut-clause-unchanged
returns-in-Some-get_mut-clause-unchanged c =
    let s = c.self.inside in let old = s.slabs in let pool = c.in-Some-get_mut.pool.now in let p = pools_of s in
    let now = pools_of (record s { slabs = c.free.new.slabs; pools = c.get_mut.follows.lender c.free.new.self }) in
    let step = freed_in old.space.owners (pool_seen old.space.bytes pool) c.args.address in
    let back = nothing_seen s c.self.invariant c.args.id.0 pool c.free.new.self c.free.new.slabs (sym c.in-Some-get_mut.ensures.value) (subst (λ n. Changes n s.slabs c.free.new.slabs pool c.free.new.self) c.if-found-id.false c.free.ensures.changes)
    (c.get_mut.follows.lender c.free.new.self) ((c.get_mut.follows.holds c.free.new.self).3 (ap is_some (sym c.in-Some-get_mut.ensures.value))) (c.get_mut.follows.holds c.free.new.self).0 in
    rw (← c.self.view_is) (back_frees p c.args.id.0 step old c.free.new.slabs pool c.free.new.self now c.free.result back (c.free.ensures.frees c.args.address c.in-Some.ensures))

pub returns-in-None-clause-err : goal.returns-in-None-clause-err
returns-in-None-clause-err c = absurd (never_gone c.self.inside c.self.invariant c.args.self.now c.args.id.0 c.self.view_is (sym c.in-None.ensures.value) c.requires)
