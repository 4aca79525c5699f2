use Rattle.heap_graph.proofs.ReachedNodes.Numbers.{AreFirstMarked}
use Rattle.heap_graph.proofs.marks.NodeMarks.numbers.Given as goal

abbrev pub invariant-loop-number : goal.invariant-loop-number
invariant-loop-number l = AreFirstMarked l.self l.number l.numbers.items
