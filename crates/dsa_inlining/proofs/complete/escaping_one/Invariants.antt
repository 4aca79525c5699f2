use Rattle.heap_graph.specs.Marks.{Adds}
use Rattle.dsa_inlining.proofs.OutsideNodes.{IsOutsideFirst}
use Rattle.dsa_inlining.proofs.complete.escaping_one.Given as goal

abbrev pub invariant-loop-index : goal.invariant-loop-index
invariant-loop-index l = Adds l.initial.starts l.starts (IsOutsideFirst l.owners l.names l.index)
