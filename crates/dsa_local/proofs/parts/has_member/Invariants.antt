use Rattle.std.proofs.Common.{◌≡◌, map, drop}
use Rattle.std.specs.List.{list_any}
use Rattle.heap_graph.specs.Points.{is_member}
use Rattle.graph_unification.specs.GraphPremises.First.{step_in}
use Rattle.dsa_local.proofs.parts.has_member.Given as goal

-- there is none before the index
abbrev pub invariant-loop-part : goal.invariant-loop-part
invariant-loop-part l = list_any is_member (map step_in (drop l.part-index l.parts)) ≡ list_any is_member (map step_in l.parts)
