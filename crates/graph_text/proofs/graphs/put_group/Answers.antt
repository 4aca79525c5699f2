use Rattle.std.proofs.Common.{◌∙◌}
use Rattle.graph_text.specs.Names.{member_names}
use Rattle.graph_text.proofs.Statics.{names_with}
use Rattle.graph_text.proofs.graphs.put_group.Goals as goal

pub returns : goal.returns
returns c = record {
  names = c.as_slice.result.now;
  are = names_with c.args.graph.now (member_names c.args.graphs.now.functions.items c.args.members.now) c.in_ok-names.names.items c.as_slice.result.now c.in_ok-names.ensures (c.as_slice.ensures.value ∙ c.in_ok-add_members.ensures);
  lines = c.in_ok-put_graph.ensures;
}
