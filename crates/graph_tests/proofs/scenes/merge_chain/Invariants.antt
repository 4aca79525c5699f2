use Rattle.graph_unification.specs.Memory.{IsGraph}
use Rattle.graph_tests.proofs.scenes.merge_chain.Given as goal

abbrev pub invariant-loop-i : goal.invariant-loop-i
invariant-loop-i l = IsGraph l.types.table l.graph
