use Rattle.heap_graph.specs.Frozen.{target_in}
use Rattle.heap_graph.specs.Marks.{Adds}
use Rattle.heap_graph.proofs.Adding.{IsAmongFirst}
use Rattle.heap_graph.proofs.marks.NodeMarks.add_targets.Given as goal

abbrev pub invariant-loop-target : goal.invariant-loop-target
invariant-loop-target l = Adds l.initial.self l.self (IsAmongFirst l.target-index (target_in l.targets))
