use Rattle.std.proofs.Common.{◌≡◌, drop}
use Rattle.heap_graph.specs.Graphs.{edge_in}
use Rattle.heap_graph.specs.Frozen.{edges_of}
use Rattle.heap_graph.proofs.frozen.Node.edge.Given as goal

-- what is found is found among the edges from this index on
abbrev pub invariant-loop-edge : goal.invariant-loop-edge
invariant-loop-edge l = edge_in (edges_of (drop l.edge-index l.edge-items)) l.slot ≡ edge_in (edges_of l.self.edges.items) l.slot
