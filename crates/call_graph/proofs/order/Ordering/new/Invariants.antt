use Rattle.call_graph.specs.Orders.{AreReadySoFar}
use Rattle.call_graph.proofs.order.Ordering.new.Given as goal

abbrev pub invariant-loop-node : goal.invariant-loop-node
invariant-loop-node l = AreReadySoFar l.node l.heads l.counts.items l.ready
