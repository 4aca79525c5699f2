use Rattle.std.proofs.Common.{◌≡◌, ◌++◌, drop}
use Rattle.call_graph.specs.RowLists.{gathered}
use Rattle.call_graph.specs.TakenLists.{at_global}
use Rattle.call_graph.proofs.taken.add_globals.Given as goal

abbrev pub invariant-loop-global : goal.invariant-loop-global
invariant-loop-global l = l.taken.items ++ gathered (at_global l.names) (drop l.global-index l.globals) ≡ l.initial.taken.items ++ gathered (at_global l.names) l.globals
