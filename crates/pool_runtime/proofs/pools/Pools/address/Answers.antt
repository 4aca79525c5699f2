use Rattle.std.proofs.Common.{Option, sym, ap, ◌∙◌}
use Rattle.slab_space.specs.Pool.{address_in}
use Rattle.slab_space.specs.Pool as one
use Rattle.slab_space.specs.Pools.{cells_of}
use Rattle.pool_runtime.proofs.PoolsSeen.{pool_there, no_pool_there}
use Rattle.pool_runtime.proofs.Loads.{have_sizes}
use Rattle.pool_runtime.proofs.Classes.{some_class}
use Rattle.pool_runtime.proofs.pools.Pools.address.Goals as goal

pub address-requires-clause-some : goal.address-requires-clause-some
address-requires-clause-some c = some_class c.self.inside.slabs c.args.id.0 c.in-Some.pool.now (c.self.invariant.pools c.args.id.0 c.in-Some.pool.now (sym c.in-Some.ensures.value))

pub address-requires-clause-sizes : goal.address-requires-clause-sizes
address-requires-clause-sizes c = have_sizes c.self.inside c.self.invariant c.args.id.0 c.in-Some.pool.now (sym c.in-Some.ensures.value)

pub returns-in-Some : goal.returns-in-Some
returns-in-Some c =
    let s = c.self.inside in
    rw (← c.self.view_is) (c.address.ensures s.slabs.space.bytes ∙ sym (ap (λ (o : Option one.Pool). address_in (cells_of o) c.args.index) (pool_there s c.self.invariant c.args.id.0 c.in-Some.pool.now (sym c.in-Some.ensures.value))))

pub returns-in-None : goal.returns-in-None
returns-in-None c =
    let s = c.self.inside in
    rw (← c.self.view_is) (sym (ap (λ (o : Option one.Pool). address_in (cells_of o) c.args.index) (no_pool_there s c.self.invariant c.args.id.0 (sym c.in-None.ensures.value))))
