use Rattle.graph_unification.specs.Memory.{IsGraph}
use Rattle.graph_tests.proofs.scenes.first_wrong.Given as goal

abbrev pub invariant-loop-number : goal.invariant-loop-number
invariant-loop-number l = IsGraph l.types.table l.graph
