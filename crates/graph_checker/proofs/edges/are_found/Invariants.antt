use Rattle.std.proofs.Common.{◌≡◌, drop}
use Rattle.heap_graph.specs.Frozen.{edges_of}
use Rattle.graph_checker.specs.Tests.{are_found}
use Rattle.graph_checker.proofs.edges.are_found.Given as goal

-- the edges from this index on are found where all are
abbrev pub invariant-loop-edge : goal.invariant-loop-edge
invariant-loop-edge l = are_found (edges_of l.node.edges.items) (edges_of (drop l.edge-index l.edge-items)) ≡ are_found (edges_of l.node.edges.items) (edges_of l.node.edges.items)
