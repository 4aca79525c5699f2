use Rattle.std.proofs.Common.{sym, ap, ◌∙◌}
use Rattle.heap_graph.specs.Targets.{shifted}
use Rattle.heap_graph.specs.Frozen.{optional_target, static_in, bare}
use Rattle.graph_checker.specs.Images.{placed}
use Rattle.graph_checker.proofs.images.image.Goals as goal

pub returns : goal.returns
returns c = λ table.
    let graph = bare table c.args.graph.now in
    c.shifted.ensures.at table
    ∙ ap (λ node. shifted graph c.in_ok-target.target.shift node) (c.widened.ensures.same ∙ ap optional_target (c.copied-node.ensures ∙ c.get.ensures.value))
    ∙ sym (ap (λ target. placed graph (static_in c.args.embedding.now) (optional_target target)) c.in_ok-target.was)
