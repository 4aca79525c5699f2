use Rattle.std.proofs.Common.{take}
use Rattle.pool_runtime.proofs.Fresh.{AreFresh}
use Rattle.pool_runtime.proofs.pool.Pool.new.Given as goal

abbrev pub invariant-loop-size : goal.invariant-loop-size
invariant-loop-size l = AreFresh (take l.size-index l.size-items) l.classes.items
