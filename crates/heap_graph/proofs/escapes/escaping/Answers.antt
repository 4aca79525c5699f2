use Rattle.std.proofs.Common.{◌⊎◌}
use Rattle.std.proofs.lemmas.Result.{IfOk-weaker}
use Rattle.heap_graph.specs.Marks.{IsOutside, IsMentionedBy}
use Rattle.heap_graph.proofs.Adding.{adds_both}
use Rattle.heap_graph.proofs.Marking.{these_of_none, these_reached}
use Rattle.heap_graph.proofs.Escaped.{marked_escapes}
use Rattle.heap_graph.proofs.escapes.escaping.Goals as goal

pub returns-clause-size : goal.returns-clause-size
returns-clause-size c = IfOk-weaker c.reached.result _ _ (λ marks reached. reached.size) c.reached.ensures

pub returns-clause-escapes : goal.returns-clause-escapes
returns-clause-escapes c =
    let graph = c.args.graph.now in
    let names = c.args.names.now in
    let nodes = graph.nodes.items in
    let fresh = c.in_ok-starts.starts in
    let starts = c.add_statics.new.self in
    let added = adds_both fresh c.add_outside.new.self starts (IsOutside names) (IsMentionedBy graph) c.add_outside.ensures c.add_statics.ensures in
    let begun = these_of_none nodes fresh starts (λ number. IsOutside names number ⊎ IsMentionedBy graph number) c.in_ok-starts.ensures added in
    IfOk-weaker c.reached.result _ _
    (λ marks reached. λ table family owner shows named. marked_escapes table family owner graph names shows named c.requires marks (these_reached nodes starts marks _ begun reached)) c.reached.ensures
