use Rattle.std.proofs.Common.{◌≡◌, true, sym, ap, ◌∙◌}
use Rattle.std.specs.Prelude.{◌&&◌}
use Rattle.tac_ir.specs.Views.{op_in}
use Rattle.heap_graph.specs.Closed.{mentions_closed, graph_of}
use Rattle.heap_graph.specs.Points.{point_closed}
use Rattle.heap_graph.proofs.ShownPoints.{points_shown}
use Rattle.graph_checker.specs.Contexts.{code_of, owner_of}
use Rattle.graph_checker.proofs.context.Context.plain_point_closed.Goals as goal

pub returns-then-mentions_closed : goal.returns-then-mentions_closed
returns-then-mentions_closed c = λ family shows names.
    let own = c.args.self.now in
    let op = op_in own.tac.now.types c.args.op.now in
    let mentioned : mentions_closed family (owner_of own) op ≡ true = sym (c.mentions_closed.ensures family (owner_of own) shows) ∙ c.if-mentions_closed.true in
    c.point_closed.ensures
    ∙ sym (points_shown (code_of own) own.tac.now.types family (owner_of own) own.graph.now own.names.now shows names op)
    ∙ sym (ap (λ b. b && point_closed (code_of own) (graph_of family (owner_of own)) (owner_of own) op) mentioned)
