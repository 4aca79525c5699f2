use Rattle.std.proofs.Common.{◌∙◌}
use Rattle.graph_text.proofs.Appending.{appends_lines}
use Rattle.graph_text.proofs.graphs.put_graph.Goals as goal

pub returns : goal.returns
returns c =
    appends_lines c.args.table.now c.args.labels.now c.args.graph.now.nodes.items c.args.names.now c.args.text.now.items c.put_names.new.text.items c.put_nodes.new.text.items c.as_slice.result.now c.in_ok-order.order
    (c.as_slice.ensures.value ∙ c.in_ok-starts.ensures) c.in_ok-order.ensures c.in_ok-put_names.ensures c.in_ok-put_nodes.ensures
