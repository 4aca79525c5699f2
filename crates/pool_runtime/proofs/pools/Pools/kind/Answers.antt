use Rattle.std.proofs.Common.{sym, ap}
use Rattle.std.specs.Prelude.{option_map}
use Rattle.slab_space.specs.Pool as one
use Rattle.pool_runtime.proofs.PoolsSeen.{pool_there, no_pool_there}
use Rattle.pool_runtime.proofs.pools.Pools.kind.Goals as goal

pub returns-in-Some : goal.returns-in-Some
returns-in-Some c = rw (← c.self.view_is) (sym (ap (option_map (λ (p : one.Pool). p.kind)) (pool_there c.self.inside c.self.invariant c.args.id.0 c.in-Some.pool.now (sym c.in-Some.ensures.value))))

pub returns-in-None : goal.returns-in-None
returns-in-None c = rw (← c.self.view_is) (sym (ap (option_map (λ (p : one.Pool). p.kind)) (no_pool_there c.self.inside c.self.invariant c.args.id.0 (sym c.in-None.ensures.value))))
