use Rattle.std.proofs.Common.{◌≡◌, ◌+◌, length, sym, ap, ◌∙◌, arith}
use Rattle.slab_space.specs.Pools as all
use Rattle.pool_runtime.proofs.PoolsSeen.{length-pools_seen}
use Rattle.pool_runtime.proofs.PoolsChanged.{unchanged_pools, added_pools, added_seen}
use Rattle.pool_runtime.proofs.pools.Pools.init.Goals as goal
use Rattle.pool_runtime.proofs.pools.Pools.init.Goals.{Joined-insert-2}

next : (c : Joined-insert-2) → c.in-Some.id ≡ c.self.inside.made + 1
next c = omega (arith, c.in-Some.ensures)

pub invariant_of-self : goal.invariant_of-self
invariant_of-self c =
    added_pools c.self.inside c.self.invariant c.args.kind c.in-Some.id c.in_ok-pool.pool c.insert.new.self (next c) c.in_ok-pool.ensures c.in-Ok.ensures.updates c.in-Ok.ensures.entries c.in-Ok.ensures.was_ordered

pub returns-in-Ok-clause-number : goal.returns-in-Ok-clause-number
returns-in-Ok-clause-number c =
    let s = c.self.inside in
    next c ∙ ap (λ n. n + 1) (sym (length-pools_seen s.slabs.space.bytes s.pools s.made) ∙ ap (λ (p : all.Pools). length p.pools) c.self.view_is)

pub returns-in-Ok-clause-ok : goal.returns-in-Ok-clause-ok
returns-in-Ok-clause-ok c =
    rw (← c.self.view_is) (added_seen c.self.inside c.self.invariant c.args.kind c.in-Some.id c.in_ok-pool.pool c.insert.new.self (next c) c.in_ok-pool.ensures c.in-Ok.ensures.updates c.in-Ok.ensures.entries c.in-Ok.ensures.was_ordered)

pub invariant_of-self-in-Err : goal.invariant_of-self-in-Err
invariant_of-self-in-Err c = unchanged_pools c.self.inside c.insert.new.self c.in-Err.ensures.err c.self.invariant
