use Rattle.std.proofs.Common.{◌≡◌, ◌++◌, drop}
use Rattle.call_graph.specs.RowLists.{gathered}
use Rattle.call_graph.specs.TakenLists.{at_first}
use Rattle.call_graph.proofs.taken.add_firsts.Given as goal

abbrev pub invariant-loop-first : goal.invariant-loop-first
invariant-loop-first l = l.taken.items ++ gathered (at_first l.names) (drop l.first-index l.firsts) ≡ l.initial.taken.items ++ gathered (at_first l.names) l.firsts
