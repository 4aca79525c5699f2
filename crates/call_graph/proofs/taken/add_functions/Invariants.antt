use Rattle.std.proofs.Common.{◌≡◌, ◌++◌, drop}
use Rattle.call_graph.specs.RowLists.{gathered}
use Rattle.call_graph.specs.TakenLists.{at_function}
use Rattle.call_graph.proofs.taken.add_functions.Given as goal

abbrev pub invariant-loop-function : goal.invariant-loop-function
invariant-loop-function l = l.taken.items ++ gathered at_function (drop l.function-index l.functions) ≡ l.initial.taken.items ++ gathered at_function l.functions
