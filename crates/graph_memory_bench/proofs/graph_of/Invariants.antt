use Rattle.graph_unification.specs.Memory.{IsGraph}
use Rattle.graph_memory_bench.proofs.graph_of.Given as goal

abbrev pub invariant-loop-number : goal.invariant-loop-number
invariant-loop-number l = IsGraph l.types l.graph
