use Rattle.std.proofs.Common.{◌≡◌, ◌++◌, drop}
use Rattle.heap_graph.specs.Orders.{number_of}
use Rattle.graph_text.specs.Texts.{name_lines}
use Rattle.graph_text.proofs.lines.put_names.Given as goal

abbrev pub invariant-loop-named : goal.invariant-loop-named
invariant-loop-named l = l.text.items ++ name_lines l.labels (number_of l.order) (drop l.named-index l.names) ≡ l.fn.text.items ++ name_lines l.labels (number_of l.order) l.names
