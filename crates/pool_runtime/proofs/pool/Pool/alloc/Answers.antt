use Rattle.std.proofs.Common.{ap, subst}
use Rattle.slab_space.specs.PoolSteps.{Allocation, PoolInSlabs, placed_as}
use Rattle.pool_runtime.specs.Seen.{pool_seen}
use Rattle.pool_runtime.specs.Changes.{Ends}
use Rattle.pool_runtime.proofs.Classes.{some_class}
use Rattle.pool_runtime.proofs.pool.Pool.alloc.Goals as goal

pub class_for-requires : goal.class_for-requires
class_for-requires c = some_class c.args.slabs.now c.args.id c.args.self.now c.requires.pool

pub returns-in-Some-clause-ends : goal.returns-in-Some-clause-ends
returns-in-Some-clause-ends c =
    let old = c.args.slabs.now in let p = pool_seen old.space.bytes c.args.self.now in
    subst (λ (step : Allocation PoolInSlabs). Ends step old c.alloc_cell.new.slabs c.args.self.now c.alloc_cell.new.self c.alloc_cell.result) (ap (placed_as c.args.limit old.space.owners p c.args.bytes) (c.in-Some.ensures.class old.space.bytes)) c.alloc_cell.ensures.ends

pub returns-in-None-clause-ends : goal.returns-in-None-clause-ends
returns-in-None-clause-ends c =
    let old = c.args.slabs.now in let p = pool_seen old.space.bytes c.args.self.now in
    subst (λ (step : Allocation PoolInSlabs). Ends step old c.alloc_large.new.slabs c.args.self.now c.alloc_large.new.self c.alloc_large.result) (ap (placed_as c.args.limit old.space.owners p c.args.bytes) (c.in-None.ensures.class old.space.bytes)) c.alloc_large.ensures.ends
