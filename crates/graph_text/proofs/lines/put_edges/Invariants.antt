use Rattle.std.proofs.Common.{◌≡◌, ◌++◌, drop}
use Rattle.heap_graph.specs.Orders.{number_of}
use Rattle.graph_text.specs.Texts.{edges_text}
use Rattle.graph_text.proofs.lines.put_edges.Given as goal

abbrev pub invariant-loop-edge : goal.invariant-loop-edge
invariant-loop-edge l = l.text.items ++ edges_text (number_of l.order) (drop l.edge-index l.edges) ≡ l.fn.text.items ++ edges_text (number_of l.order) l.edges
