use Rattle.std.proofs.Common.{ap, ◌∙◌}
use Rattle.heap_graph.specs.Targets.{same_target, shifted, edge_at}
use Rattle.heap_graph.specs.Frozen.{bare}
use Rattle.graph_checker.proofs.kept.is_edge_kept.Goals as goal

pub returns : goal.returns
returns c = λ table.
    let graph = bare table c.args.graph.now in
    let own = c.edge_at-own.ensures table ∙ ap (edge_at graph) (c.shifted.ensures.at table ∙ ap (shifted graph c.args.edge.slot) c.widened.ensures.same) in
    let image = c.image.ensures table in
    c.is_at.ensures ∙ (λ i. same_target (own i) (image i))
