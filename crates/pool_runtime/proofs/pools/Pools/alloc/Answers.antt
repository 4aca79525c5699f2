use Rattle.std.proofs.Common.{◌≡◌, Err, IfOk, ◌↔◌, refl, sym, ap, subst}
use Rattle.std.specs.Prelude.{is_some}
use Rattle.slab_space.specs.PoolSteps.{Allocation, placed, index_exhausted, heap_exhausted, placed_in}
use Rattle.slab_space.specs.Pools.{TakesSlabs}
use Rattle.slab_space.specs.Pools as all
use Rattle.pool_runtime.specs.declared.pools.AllocEnd.TheVariants.{HeapExhausted, IndexExhausted, OutOfMemory}
use Rattle.pool_runtime.specs.Seen.{pool_seen, pools_of}
use Rattle.pool_runtime.proofs.PoolsSeen.{never_gone}
use Rattle.pool_runtime.proofs.PoolsChanged.{changed_pools, changed_seen, nothing_seen}
use Rattle.pool_runtime.proofs.AllocEnds.{step_is, ok_ends, heap_ends, index_ends, memory_ends, err_ends}
use Rattle.pool_runtime.proofs.pools.Pools.alloc.Goals as goal

pub alloc-requires-clause-pool : goal.alloc-requires-clause-pool
alloc-requires-clause-pool c = c.self.invariant.pools c.args.id.0 c.in-Some.pool.now (sym c.in-Some.ensures.value)

pub invariant_of-self : goal.invariant_of-self
invariant_of-self c =
    changed_pools c.self.inside c.self.invariant c.args.id.0 c.in-Some.pool.now c.alloc.new.self c.alloc.new.slabs (sym c.in-Some.ensures.value) c.alloc.ensures.changes (c.get_mut.follows.lender c.alloc.new.self)
    ((c.get_mut.follows.holds c.alloc.new.self).3 (ap is_some (sym c.in-Some.ensures.value))) (c.get_mut.follows.holds c.alloc.new.self).0

pub returns-in-Some-clause-ok : goal.returns-in-Some-clause-ok
returns-in-Some-clause-ok c =
    let s = c.self.inside in let old = s.slabs in let pool = c.in-Some.pool.now in let p = pools_of s in
    let step = placed_in s.index old.space.owners (pool_seen old.space.bytes pool) c.args.bytes in
    let seen = changed_seen s c.self.invariant c.args.id.0 pool c.alloc.new.self c.alloc.new.slabs (sym c.in-Some.ensures.value) c.alloc.ensures.changes (c.get_mut.follows.lender c.alloc.new.self)
    ((c.get_mut.follows.holds c.alloc.new.self).3 (ap is_some (sym c.in-Some.ensures.value))) (c.get_mut.follows.holds c.alloc.new.self).0 in
    rw (← c.self.view_is) (subst (λ (x : Allocation all.Pools). IfOk c.alloc.result (λ address. x ≡ placed address (pools_of (record s { slabs = c.alloc.new.slabs; pools = c.get_mut.follows.lender c.alloc.new.self }))))
    (sym (step_is s c.self.invariant c.args.id.0 c.args.bytes pool (sym c.in-Some.ensures.value) c.if-bytes-eq0.false))
    (ok_ends p c.args.id.0 step old c.alloc.new.slabs pool c.alloc.new.self (pools_of (record s { slabs = c.alloc.new.slabs; pools = c.get_mut.follows.lender c.alloc.new.self })) c.alloc.result c.alloc.ensures.ends seen))

pub returns-in-Some-clause-heap : goal.returns-in-Some-clause-heap
returns-in-Some-clause-heap c =
    let s = c.self.inside in let old = s.slabs in let pool = c.in-Some.pool.now in let p = pools_of s in
    let step = placed_in s.index old.space.owners (pool_seen old.space.bytes pool) c.args.bytes in
    rw (← c.self.view_is) (subst (λ (x : Allocation all.Pools). (c.alloc.result ≡ Err HeapExhausted) ↔ (x ≡ heap_exhausted))
    (sym (step_is s c.self.invariant c.args.id.0 c.args.bytes pool (sym c.in-Some.ensures.value) c.if-bytes-eq0.false))
    (heap_ends p c.args.id.0 step old c.alloc.new.slabs pool c.alloc.new.self p c.alloc.result c.alloc.ensures.ends))

pub returns-in-Some-clause-index : goal.returns-in-Some-clause-index
returns-in-Some-clause-index c =
    let s = c.self.inside in let old = s.slabs in let pool = c.in-Some.pool.now in let p = pools_of s in
    let step = placed_in s.index old.space.owners (pool_seen old.space.bytes pool) c.args.bytes in
    rw (← c.self.view_is) (subst (λ (x : Allocation all.Pools). (c.alloc.result ≡ Err IndexExhausted) ↔ (x ≡ index_exhausted))
    (sym (step_is s c.self.invariant c.args.id.0 c.args.bytes pool (sym c.in-Some.ensures.value) c.if-bytes-eq0.false))
    (index_ends p c.args.id.0 step old c.alloc.new.slabs pool c.alloc.new.self p c.alloc.result c.alloc.ensures.ends))

pub returns-in-Some-clause-memory : goal.returns-in-Some-clause-memory
returns-in-Some-clause-memory c =
    let s = c.self.inside in let old = s.slabs in let pool = c.in-Some.pool.now in let p = pools_of s in
    let step = placed_in s.index old.space.owners (pool_seen old.space.bytes pool) c.args.bytes in
    rw (← c.self.view_is) (subst (λ (x : Allocation all.Pools). c.alloc.result ≡ Err OutOfMemory → TakesSlabs p x)
    (sym (step_is s c.self.invariant c.args.id.0 c.args.bytes pool (sym c.in-Some.ensures.value) c.if-bytes-eq0.false))
    (memory_ends p c.args.id.0 step old c.alloc.new.slabs pool c.alloc.new.self p c.alloc.result refl c.alloc.ensures.ends))

pub returns-in-Some-clause-err : goal.returns-in-Some-clause-err
returns-in-Some-clause-err c =
    let s = c.self.inside in let old = s.slabs in let pool = c.in-Some.pool.now in let p = pools_of s in
    let step = placed_in s.index old.space.owners (pool_seen old.space.bytes pool) c.args.bytes in
    let back = nothing_seen s c.self.invariant c.args.id.0 pool c.alloc.new.self c.alloc.new.slabs (sym c.in-Some.ensures.value) c.alloc.ensures.changes (c.get_mut.follows.lender c.alloc.new.self)
    ((c.get_mut.follows.holds c.alloc.new.self).3 (ap is_some (sym c.in-Some.ensures.value))) (c.get_mut.follows.holds c.alloc.new.self).0 in
    rw (← c.self.view_is) (err_ends p c.args.id.0 step old c.alloc.new.slabs pool c.alloc.new.self (pools_of (record s { slabs = c.alloc.new.slabs; pools = c.get_mut.follows.lender c.alloc.new.self })) c.alloc.result back c.alloc.ensures.ends)

pub returns-in-None-clause-heap : goal.returns-in-None-clause-heap
returns-in-None-clause-heap c = absurd (never_gone c.self.inside c.self.invariant c.args.self.now c.args.id.0 c.self.view_is (sym c.in-None.ensures.value) c.requires)

pub returns-in-None-clause-index : goal.returns-in-None-clause-index
returns-in-None-clause-index c = absurd (never_gone c.self.inside c.self.invariant c.args.self.now c.args.id.0 c.self.view_is (sym c.in-None.ensures.value) c.requires)
