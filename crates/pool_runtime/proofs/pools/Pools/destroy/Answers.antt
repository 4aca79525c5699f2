use Rattle.std.proofs.Common.{sym, subst, ◌∙◌}
use Rattle.pool_runtime.specs.declared.slabs.Slabs.{Slabs}
use Rattle.pool_runtime.specs.Changes.{ReturnsSlabs}
use Rattle.pool_runtime.proofs.PoolRuns.{pool_givable, pool_given}
use Rattle.pool_runtime.proofs.PoolsChanged.{unchanged_pools}
use Rattle.pool_runtime.proofs.PoolsEnded.{ended_pools, ended_seen, none_ended}
use Rattle.pool_runtime.proofs.pools.Pools.destroy.Goals as goal

pub give_slabs-requires-clause-runs : goal.give_slabs-requires-clause-runs
give_slabs-requires-clause-runs c =
    let s = c.self.inside in let there = sym c.remove.ensures.value ∙ c.in-Some.is in
    pool_givable s.slabs c.args.id.0 c.in-Some.pool (c.self.invariant.pools c.args.id.0 c.in-Some.pool there) c.self.invariant.space

pub invariant_of-self : goal.invariant_of-self
invariant_of-self c =
    let s = c.self.inside in let is = c.self.invariant in let there = sym c.remove.ensures.value ∙ c.in-Some.is in
    let gives = subst (λ (slabs : Slabs). ReturnsSlabs c.args.id.0 c.in-Some.pool s.slabs slabs) (sym c.give_slabs.ensures) (pool_given s.slabs c.args.id.0 c.in-Some.pool is.space (is.pools c.args.id.0 c.in-Some.pool there)) in
    ended_pools s is c.args.id.0 c.in-Some.pool c.give_slabs.new.slabs there gives c.remove.new.self c.remove.ensures.updates c.remove.ensures.entries

pub invariant_of-self-in_default : goal.invariant_of-self-in_default
invariant_of-self-in_default c = unchanged_pools c.self.inside c.remove.new.self c.in_default.ensures.unchanged c.self.invariant

pub returns-in-Some : goal.returns-in-Some
returns-in-Some c =
    let s = c.self.inside in let is = c.self.invariant in let there = sym c.remove.ensures.value ∙ c.in-Some.is in
    let gives = subst (λ (slabs : Slabs). ReturnsSlabs c.args.id.0 c.in-Some.pool s.slabs slabs) (sym c.give_slabs.ensures) (pool_given s.slabs c.args.id.0 c.in-Some.pool is.space (is.pools c.args.id.0 c.in-Some.pool there)) in
    rw (← c.self.view_is) (ended_seen s is c.args.id.0 c.in-Some.pool c.give_slabs.new.slabs there gives c.remove.new.self c.remove.ensures.updates c.remove.ensures.entries)

pub returns-in_default : goal.returns-in_default
returns-in_default c =
    let s = c.self.inside in let none = sym c.remove.ensures.value ∙ c.in_default.is in
    rw (← c.self.view_is) (none_ended s c.self.invariant c.args.id.0 c.remove.new.self none c.in_default.ensures.unchanged)
