use Rattle.std.proofs.Common.{◌≡◌, true, false}
use Rattle.heap_graph.specs.Marks.{is_marked}
use Rattle.heap_graph.proofs.Nodes.{FirstHold}
use Rattle.heap_graph.proofs.complete.others_complete.Given as goal

abbrev pub invariant-loop-number : goal.invariant-loop-number
invariant-loop-number l = FirstHold l.node-items (λ number node. is_marked l.marks number ≡ false → node.flags.complete ≡ true) l.number
