use Rattle.std.proofs.Common.{◌≡◌, ◌++◌, map, take}
use Rattle.std.specs.Prelude.{slice_index}
use Rattle.pool_ir.specs.Views.{function_of, op_of}
use Rattle.stack_code.specs.Emitting.{opening, blocks}
use Rattle.stack_code.proofs.functions.instructions.Given as goal

-- the blocks before the number are appended
abbrev pub invariant-loop-number : goal.invariant-loop-number
invariant-loop-number l =
    l.code.items ≡ opening (function_of l.function) ++ blocks (slice_index l.places.items) (function_of l.function) 0 (take l.number (map op_of l.function.points.items))
