use Rattle.std.proofs.Common.{◌≡◌, ◌++◌, drop}
use Rattle.call_graph.specs.RowLists.{gathered}
use Rattle.call_graph.specs.TakenLists.{at_point}
use Rattle.call_graph.proofs.taken.add_points.Given as goal

abbrev pub invariant-loop-op : goal.invariant-loop-op
invariant-loop-op l = l.taken.items ++ gathered at_point (drop l.op-index l.points) ≡ l.initial.taken.items ++ gathered at_point l.points
