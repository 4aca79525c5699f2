use Rattle.std.proofs.Common.{◌≡◌, map, length, drop}
use Rattle.std.specs.List.{list_all}
use Rattle.tac_ir.specs.Views.{function_in}
use Rattle.graph_tests.specs.KnownCalls.{calls_known}
use Rattle.graph_tests.proofs.known_calls.calls_are_known.Given as goal

-- the calls of the functions from the index on are known just where all are
abbrev pub invariant-loop-function : goal.invariant-loop-function
invariant-loop-function l =
    list_all (calls_known (length l.tac.functions.items)) (map (function_in l.tac.types) (drop l.function-index l.function-items))
    ≡ list_all (calls_known (length l.tac.functions.items)) (map (function_in l.tac.types) l.function-items)
