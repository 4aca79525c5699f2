use Rattle.graph_unification.specs.Memory.{IsGraph}
use Rattle.graph_memory_bench.proofs.merge_in_pairs.Given as goal

abbrev pub invariant-loop-number : goal.invariant-loop-number
invariant-loop-number l = IsGraph l.types l.graph
