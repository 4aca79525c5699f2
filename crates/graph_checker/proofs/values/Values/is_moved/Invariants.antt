use Rattle.std.proofs.Common.{◌≡◌, drop}
use Rattle.std.specs.List.{list_any}
use Rattle.heap_graph.specs.Closed.{is_moved}
use Rattle.graph_checker.specs.Values.{family_of}
use Rattle.graph_checker.proofs.values.Values.is_moved.Given as goal

-- a step from the index on is to another element where one of all is
abbrev pub invariant-loop-part : goal.invariant-loop-part
invariant-loop-part l = list_any (is_moved (family_of l.self)) (drop l.part-index l.parts) ≡ list_any (is_moved (family_of l.self)) l.parts
