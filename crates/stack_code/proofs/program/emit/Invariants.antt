use Rattle.std.proofs.Common.{◌≡◌, ◌∷◌, ◌++◌, map, drop}
use Rattle.pool_ir.specs.Views.{function_of}
use Rattle.stack_code.specs.Emitting.{emitted_function}
use Rattle.stack_code.specs.Units.{unit_function}
use Rattle.stack_code.proofs.program.emit.Given as goal

-- with the functions that are left, it is all of them
abbrev pub invariant-loop-function : goal.invariant-loop-function
invariant-loop-function l =
    map unit_function l.functions.items ++ map emitted_function (map function_of (drop l.function-index l.code.functions.items))
    ≡ emitted_function (function_of l.code.start) ∷ map emitted_function (map function_of l.code.functions.items)
