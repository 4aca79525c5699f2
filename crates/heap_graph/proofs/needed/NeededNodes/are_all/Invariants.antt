use Rattle.std.proofs.Common.{◌≡◌, true}
use Rattle.heap_graph.specs.Marks.{is_marked}
use Rattle.heap_graph.proofs.Nodes.{FirstHold}
use Rattle.heap_graph.proofs.needed.NeededNodes.are_all.Given as goal

abbrev pub invariant-loop-number : goal.invariant-loop-number
invariant-loop-number l = FirstHold l.node-items (λ number node. is_marked l.self.marks number ≡ true) l.number
