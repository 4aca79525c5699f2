use Rattle.std.proofs.Common.{◌≡◌, List, map, ap, ◌∙◌, arith}
use Rattle.std.proofs.lemmas.List.{take_all}
use Rattle.pool_ir.specs.declared.program.Edge.{Edge}
use Rattle.pool_ir.specs.Views.{action_of, edge_of}
use Rattle.pool_rewrite.proofs.Taken.{mapped_next}
use Rattle.pool_rewrite.proofs.functions.copied_edges.Goals as goal

pub loop-edge-preserved : goal.loop-edge-preserved
loop-edge-preserved c =
    let edge = c.edge-item.result in
    let own : Edge = record { from = edge.from; to = edge.to; actions = c.in_ok-copied_actions.field-0 } in
    let actions : own.actions.items ≡ edge.actions.items = c.in_ok-copied_actions.ensures ∙ c.as_slice.ensures.value in
    let same : edge_of own ≡ edge_of edge = λ i. record { from = edge.from.0; to = edge.to.0; actions = map action_of (actions i) } in
    mapped_next edge_of edge_of c.loop-edge.copy.items c.push.new.self.items own c.args.edges.now c.loop-edge.edge-index edge c.in_ok-push.ensures.items same c.loop-edge-test.true c.edge-item.is c.loop-edge.invariant

pub returns : goal.returns
returns c =
    let edges = c.args.edges.now in
    c.loop-edge.invariant ∙ ap (λ (items : List Edge). map edge_of items) (take_all c.loop-edge.edge-index edges (omega (arith, c.loop-edge-test.false)))
