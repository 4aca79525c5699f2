use Rattle.std.proofs.Common.{subst, ◌∙◌}
use Rattle.graph_text.specs.declared.names.Owner.TheVariants as O
use Rattle.graph_text.specs.Names.{own_names}
use Rattle.graph_text.specs.Texts.{AppendsLines}
use Rattle.graph_text.proofs.Statics.{names_with}
use Rattle.graph_text.proofs.graphs.put_start.Goals as goal

pub returns : goal.returns
returns c = record {
  names = c.as_slice.result.now;
  are = names_with c.args.graphs.now.start (own_names O.Start c.args.graphs.now.start_function.names) c.in_ok-names.names.items c.as_slice.result.now c.in_ok-names.ensures (c.as_slice.ensures.value ∙ c.in_ok-add_function.ensures);
  lines = subst (λ l. AppendsLines c.args.table.now c.args.labels.now c.args.graphs.now.start.nodes.items c.as_slice.result.now l c.put_graph.new.text.items) c.in_ok-extend_from_slice.ensures.items c.in_ok-put_graph.ensures;
}
