use Rattle.std.proofs.Common.{take}
use Rattle.pool_rewrite.specs.Made.{MakesPoints}
use Rattle.pool_rewrite.proofs.points.points_of.Given as goal

-- the points before the index
abbrev pub invariant-loop-op : goal.invariant-loop-op
invariant-loop-op l = MakesPoints l.tac l.plan l.locals (take l.op-index l.points) l.made.items
