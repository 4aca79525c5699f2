use Rattle.std.proofs.Common.{refl, sym, ◌∙◌}
use Rattle.std.proofs.lemmas.List.{at_drop_all}
use Rattle.graph_checker.specs.Tests.{is_sound, are_sound}
use Rattle.graph_checker.proofs.Listed.{refused, one_fails}
use Rattle.graph_checker.proofs.EdgesTold.{edges_told, edges_pass}
use Rattle.graph_checker.proofs.edges.edges_are_sound.Goals as goal

pub returns-then-not-is_sound : goal.returns-then-not-is_sound
returns-then-not-is_sound c = λ table.
    let graph = c.args.graph.now in
    refused (are_sound graph graph.nodes.items) (one_fails (is_sound graph) c.deref-node-items.result.now c.loop-node.node-index c.node-item.result _ c.loop-node-test.true c.node-item.is c.if-not-is_sound.ensures c.loop-node.invariant)
    (edges_pass table graph)

pub returns : goal.returns
returns c = λ table.
    let graph = c.args.graph.now in
    let all = sym c.loop-node.invariant ∙ at_drop_all (are_sound graph) c.deref-node-items.result.now c.loop-node.node-index c.loop-node-test.false in
    (λ is. edges_told table graph all, λ told. refl)
