use Rattle.std.proofs.Common.{length}
use Rattle.heap_graph.specs.Marks.{Adds}
use Rattle.heap_graph.proofs.Adding.{IsAmongFirst}
use Rattle.heap_graph.proofs.Places.{value_at}
use Rattle.heap_graph.proofs.marks.NodeMarks.add_found.Given as goal

abbrev pub invariant-loop-target : goal.invariant-loop-target
invariant-loop-target l = Adds l.initial.self l.self (IsAmongFirst (length l.yielded) (value_at l.targets.entries))
