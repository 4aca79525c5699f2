use Rattle.std.proofs.Common.{sym, refl}
use Rattle.pool_runtime.proofs.PoolsSeen.{told, not_told}
use Rattle.pool_runtime.proofs.pools.Pools.peak.Goals as goal

pub returns-in-Some : goal.returns-in-Some
returns-in-Some c = rw (← c.self.view_is) (told c.self.inside c.self.invariant (λ pool. pool.peak) c.args.id.0 c.in-Some.pool.now c.in-Some.pool.now.peak (sym c.in-Some.ensures.value) refl)

pub returns-in-None : goal.returns-in-None
returns-in-None c = rw (← c.self.view_is) (not_told c.self.inside c.self.invariant (λ pool. pool.peak) c.args.id.0 (sym c.in-None.ensures.value))
