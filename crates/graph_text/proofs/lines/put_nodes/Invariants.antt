use Rattle.std.proofs.Common.{◌≡◌, ◌++◌, drop}
use Rattle.heap_graph.specs.Orders.{number_of}
use Rattle.graph_text.specs.Texts.{node_lines}
use Rattle.graph_text.proofs.lines.put_nodes.Given as goal

abbrev pub invariant-loop-number : goal.invariant-loop-number
invariant-loop-number l = l.text.items ++ node_lines l.table l.graph.nodes.items (number_of l.order) (drop l.number-index l.number-items) ≡ l.fn.text.items ++ node_lines l.table l.graph.nodes.items (number_of l.order) l.number-items
