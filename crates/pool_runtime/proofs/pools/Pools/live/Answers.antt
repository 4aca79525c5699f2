use Rattle.std.proofs.Common.{sym}
use Rattle.slab_space.specs.Pool.{live_in}
use Rattle.pool_runtime.proofs.PoolsSeen.{told, not_told}
use Rattle.pool_runtime.proofs.pools.Pools.live.Goals as goal

pub returns-in-Some : goal.returns-in-Some
returns-in-Some c = rw (← c.self.view_is) (told c.self.inside c.self.invariant (live_in) c.args.id.0 c.in-Some.pool.now c.in-Some.pool.now.live (sym c.in-Some.ensures.value) (c.self.invariant.pools c.args.id.0 c.in-Some.pool.now (sym c.in-Some.ensures.value)).live)

pub returns-in-None : goal.returns-in-None
returns-in-None c = rw (← c.self.view_is) (not_told c.self.inside c.self.invariant (live_in) c.args.id.0 (sym c.in-None.ensures.value))
