use Rattle.std.proofs.Common.{◌≡◌, true, refl, sym, ap, ◌∙◌}
use Rattle.std.proofs.lemmas.Bool.{false≢true}
use Rattle.heap_graph.specs.Frozen.{node_there}
use Rattle.heap_graph.proofs.Nodes.{first_none, first_more, first_all, item_there}
use Rattle.heap_graph.proofs.Completing.{complete_own, not_all, are_complete}
use Rattle.heap_graph.proofs.complete.all_complete.Goals as goal

pub loop-node-init : goal.loop-node-init
loop-node-init c = first_none c.deref-node-items.result.now (λ number node. node.flags.complete ≡ true)

pub returns-then-not-is_complete : goal.returns-then-not-is_complete
returns-then-not-is_complete c =
    λ table shown same.
    let at = c.loop-node.node-index in
    let there = sym (ap (λ l. node_there l at) c.deref-node-items.ensures.value) ∙ item_there c.deref-node-items.result.now at c.node-item.result c.loop-node-test.true c.node-item.is in
    (λ wrong. absurd (false≢true wrong), λ all. absurd (not_all table c.args.graph.now.nodes.items shown same at c.node-item.result there (sym c.is_complete.ensures ∙ c.if-not-is_complete.true) all))

pub loop-node-preserved : goal.loop-node-preserved
loop-node-preserved c =
    let item = c.node-item.result in
    first_more c.deref-node-items.result.now (λ number node. node.flags.complete ≡ true) c.loop-node.node-index item c.loop-node.invariant c.loop-node-test.true c.node-item.is
    (λ node is. complete_own item node (sym c.is_complete.ensures ∙ c.if-not-is_complete.false) is)

pub returns : goal.returns
returns c =
    λ table shown same.
    let all = first_all c.deref-node-items.result.now (λ number node. node.flags.complete ≡ true) c.loop-node.node-index c.loop-node.invariant c.loop-node-test.false in
    (λ is. are_complete table c.args.graph.now.nodes.items shown same (λ number node there. all number node (ap (λ l. node_there l number) c.deref-node-items.ensures.value ∙ there)), λ known. refl)
