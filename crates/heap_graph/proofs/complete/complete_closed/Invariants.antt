use Rattle.heap_graph.specs.Marks.{Adds}
use Rattle.heap_graph.proofs.Members.{IsOutsideFirst}
use Rattle.heap_graph.proofs.complete.complete_closed.Given as goal

abbrev pub invariant-loop-member : goal.invariant-loop-member
invariant-loop-member l = Adds l.initial.starts l.starts (IsOutsideFirst l.members l.functions l.member-index)
