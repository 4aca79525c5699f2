use Rattle.std.proofs.Common.{◌≡◌, map, drop}
use Rattle.std.specs.Prelude.{max}
use Rattle.pool_ir.specs.Views.{function_of, op_of}
use Rattle.stack_code.specs.Emitting.{greatest_height, height_of}
use Rattle.stack_code.proofs.heights.of_function.Given as goal

-- with the points that are left, it is the height of the function
abbrev pub invariant-loop-op : goal.invariant-loop-op
invariant-loop-op l = max l.height (greatest_height (map op_of (drop l.op-index l.function.points.items))) ≡ height_of (function_of l.function)
