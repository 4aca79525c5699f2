use Rattle.std.proofs.Common.{◌≡◌, true}
use Rattle.heap_graph.proofs.Nodes.{FirstHold}
use Rattle.heap_graph.proofs.complete.all_complete.Given as goal

abbrev pub invariant-loop-node : goal.invariant-loop-node
invariant-loop-node l = FirstHold l.node-items (λ number node. node.flags.complete ≡ true) l.node-index
