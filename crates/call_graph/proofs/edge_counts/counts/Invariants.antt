use Rattle.std.proofs.Common.{take}
use Rattle.call_graph.specs.Orders.{AreCounts}
use Rattle.call_graph.proofs.edge_counts.counts.Given as goal

abbrev pub invariant-loop-edge : goal.invariant-loop-edge
invariant-loop-edge l = AreCounts l.nodes (take l.edge-index l.edges) l.counts.items
