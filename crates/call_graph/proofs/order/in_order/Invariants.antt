use Rattle.call_graph.specs.Heads.{turned_edges}
use Rattle.std.proofs.Common.{length}
use Rattle.call_graph.specs.Orders.{IsOrdering, AreInOrder, unplaced}
use Rattle.call_graph.proofs.order.in_order.Given as goal

abbrev pub invariant-loop-head : goal.invariant-loop-head
invariant-loop-head l = record {
  kept : IsOrdering l.heads (turned_edges l.heads l.edges) l.ordering;
  in_order : AreInOrder l.heads l.edges l.ordering.placed.items;
}

abbrev pub decreases-loop-head : goal.decreases-loop-head
decreases-loop-head l = unplaced l.ordering.placed.items (length l.heads)
