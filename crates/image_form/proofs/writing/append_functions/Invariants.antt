use Rattle.std.proofs.Common.{◌≡◌, ◌++◌, take, length}
use Rattle.std.specs.Prelude.{map}
use Rattle.std.specs.List.{flat_map}
use Rattle.pool_isa.specs.Number.{number_bytes}
use Rattle.image_form.specs.Form.{function_of, function_bytes}
use Rattle.image_form.proofs.writing.append_functions.Given as goal

-- the count and the functions so far
abbrev pub invariant-loop-function : goal.invariant-loop-function
invariant-loop-function l =
    l.bytes.items ≡ l.fn.bytes.items ++ (number_bytes (length (map function_of l.functions)) ++ flat_map function_bytes (map function_of (take l.function-index l.functions)))
