use Rattle.std.proofs.Common.{◌∙◌}
use Rattle.pool_runtime.proofs.PoolsSeen.{lives_seen}
use Rattle.pool_runtime.proofs.pools.Pools.lives.Goals as goal

pub returns : goal.returns
returns c = rw (← c.self.view_is) (c.contains_key.ensures ∙ lives_seen c.self.inside c.self.invariant c.args.id.0)
