use Rattle.std.proofs.Common.{◌≡◌, ◌++◌, drop}
use Rattle.call_graph.specs.RowLists.{gathered}
use Rattle.call_graph.specs.Heads.{turned_edge, turned_edges}
use Rattle.call_graph.proofs.first_nodes.turned_edges.Given as goal

abbrev pub invariant-loop-edge : goal.invariant-loop-edge
invariant-loop-edge l = l.turned.items ++ gathered (turned_edge l.heads) (drop l.edge-index l.edges) ≡ turned_edges l.heads l.edges
