use Rattle.std.proofs.Common.{◌≡◌, ◌≤◌, length, true, false, refl, sym, ap, ◌∙◌}
use Rattle.std.proofs.lemmas.Bool.{false≢true}
use Rattle.heap_graph.specs.Frozen.{node_there}
use Rattle.heap_graph.specs.Marks.{is_marked}
use Rattle.heap_graph.proofs.Nodes.{first_none, first_more, first_all, item_there}
use Rattle.heap_graph.proofs.Completing.{complete_own, not_others}
use Rattle.heap_graph.proofs.complete.others_complete.Goals.{else-not-is_complete-via-then-not-is_complete+else-not-is_marked, else-not-is_complete-via-else-not-is_complete}
use Rattle.heap_graph.proofs.complete.others_complete.Goals as goal

pub loop-number-init : goal.loop-number-init
loop-number-init c = first_none c.deref-node-items.result.now (λ number node. is_marked c.args.marks.now number ≡ false → node.flags.complete ≡ true)

pub returns-then-not-is_marked : goal.returns-then-not-is_marked
returns-then-not-is_marked c =
    let at = c.loop-number.number in
    let there = sym (ap (λ l. node_there l at) c.deref-node-items.ensures.value) ∙ item_there c.deref-node-items.result.now at c.node-item.result c.loop-number-test.true c.node-item.is in (
      λ wrong. absurd (false≢true wrong),
      λ all. absurd (not_others c.args.graph.now.nodes.items c.args.marks.now at c.node-item.result there
          (sym c.is_complete.ensures ∙ c.if-not-is_complete.true) (sym c.is_marked.ensures ∙ c.if-not-is_marked.true) all),
    )

pub loop-number-preserved : goal.loop-number-preserved
loop-number-preserved c =
    let item = c.node-item.result in
    let marks = c.args.marks.now in
    first_more c.deref-node-items.result.now (λ number node. is_marked marks number ≡ false → node.flags.complete ≡ true) c.loop-number.number item c.loop-number.invariant c.loop-number-test.true c.node-item.is
    (elim c.else-not-is_complete.branch [
      | else-not-is_complete-via-then-not-is_complete+else-not-is_marked w ↦ λ node is unmarked. absurd (false≢true (sym unmarked ∙ (sym w.is_marked.ensures ∙ w.if-not-is_marked.false)))
      | else-not-is_complete-via-else-not-is_complete w ↦ λ node is unmarked. complete_own item node (sym c.is_complete.ensures ∙ w.if-not-is_complete.false) is
    ])

pub returns : goal.returns
returns c =
    let long : length c.deref-node-items.result.now ≤ c.loop-number.number = c.loop-number-test.false in
    let all = first_all c.deref-node-items.result.now (λ number node. is_marked c.args.marks.now number ≡ false → node.flags.complete ≡ true) c.loop-number.number c.loop-number.invariant long in
    (λ is number node there. all number node (ap (λ l. node_there l number) c.deref-node-items.ensures.value ∙ there), λ known. refl)
