use Rattle.graph_text.proofs.lines.put_node.Goals as goal

pub put_node_edges-requires : goal.put_node_edges-requires
put_node_edges-requires c = c.requires c.args.number c.in-Some.node.now c.in-Some.ensures
