use Rattle.std.proofs.Common.{◌++◌, sym, ap, ◌∙◌}
use Rattle.heap_graph.specs.Orders.{number_of}
use Rattle.heap_graph.proofs.Slots.{by_slot_same}
use Rattle.graph_text.specs.Texts.{edges_text}
use Rattle.graph_text.proofs.lines.put_node_edges.Goals as goal

pub returns : goal.returns
returns c =
    c.in_ok-put_edges.ensures ∙ ap (λ l. c.args.text.now.items ++ edges_text (number_of c.args.order.now) l) (c.deref.ensures.value ∙ sym (by_slot_same c.args.node.now.edges.items c.requires))
