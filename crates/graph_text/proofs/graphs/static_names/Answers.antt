use Rattle.graph_text.proofs.Statics.{both_statics}
use Rattle.graph_text.proofs.graphs.static_names.Goals as goal

pub returns : goal.returns
returns c = both_statics c.args.graph.now c.new-names.result.items c.add_globals.new.found.items c.add_literals.new.found.items c.new-names.ensures.items c.in_ok-add_globals.ensures c.in_ok-add_literals.ensures
