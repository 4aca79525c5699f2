use Rattle.heap_graph.specs.Searches.{left, IsSearch}
use Rattle.heap_graph.proofs.order.ordered.Given as goal

abbrev pub invariant-loop-node : goal.invariant-loop-node
invariant-loop-node l = IsSearch l.graph.nodes.items l.fn.starts l.made l.pending.items

abbrev pub decreases-loop-node : goal.decreases-loop-node
decreases-loop-node l = left l.graph.nodes.items l.made l.pending.items
