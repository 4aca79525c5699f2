use Rattle.std.proofs.Common.{◌≡◌, map, length, drop}
use Rattle.std.specs.List.{list_all}
use Rattle.tac_ir.specs.Views.{op_in}
use Rattle.graph_tests.specs.KnownCalls.{is_known}
use Rattle.graph_tests.proofs.known_calls.are_known.Given as goal

-- the calls at the points from the index on are known just where all are
abbrev pub invariant-loop-op : goal.invariant-loop-op
invariant-loop-op l =
    list_all (is_known (length l.tac.functions.items)) (map (op_in l.tac.types) (drop l.op-index l.points)) ≡ list_all (is_known (length l.tac.functions.items)) (map (op_in l.tac.types) l.points)
