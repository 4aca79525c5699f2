use Rattle.std.proofs.Common.{◌≡◌, true, refl, sym, ap, ◌∙◌}
use Rattle.std.specs.Prelude.{is_some}
use Rattle.std.proofs.lemmas.Bool.{false≢true}
use Rattle.heap_graph.specs.Frozen.{node_there, bare}
use Rattle.heap_graph.specs.Marks.{is_marked}
use Rattle.heap_graph.proofs.Nodes.{first_none, first_more, first_all, item_there}
use Rattle.heap_graph.proofs.Completing.{not_all_marked, are_all_marked}
use Rattle.heap_graph.proofs.needed.NeededNodes.are_all.Goals.{else-is_some-via-then-is_some+else-not-is_marked, else-is_some-via-else-is_some}
use Rattle.heap_graph.proofs.needed.NeededNodes.are_all.Goals as goal

pub loop-number-init : goal.loop-number-init
loop-number-init c = first_none c.deref-node-items.result.now (λ number node. is_marked c.args.self.now.marks number ≡ true)

pub returns-then-not-is_marked : goal.returns-then-not-is_marked
returns-then-not-is_marked c =
    λ table.
    let at = c.loop-number.number in
    let there = sym (ap (λ l. node_there l at) c.deref-node-items.ensures.value) ∙ item_there c.deref-node-items.result.now at c.node-item.result c.loop-number-test.true c.node-item.is in (
      λ wrong. absurd (false≢true wrong),
      λ all. absurd (not_all_marked table c.args.graph.now.nodes.items (bare table c.args.graph.now) refl c.args.self.now.marks at c.node-item.result there
          (sym c.is_some.ensures ∙ c.if-is_some.true) (sym c.is_marked.ensures ∙ c.if-not-is_marked.true) all),
    )

pub loop-number-preserved : goal.loop-number-preserved
loop-number-preserved c =
    let item = c.node-item.result in
    let marks = c.args.self.now.marks in
    first_more c.deref-node-items.result.now (λ number node. is_marked marks number ≡ true) c.loop-number.number item c.loop-number.invariant c.loop-number-test.true c.node-item.is
    (elim c.else-is_some.branch [
      | else-is_some-via-then-is_some+else-not-is_marked w ↦ λ node is. sym w.is_marked.ensures ∙ w.if-not-is_marked.false
      | else-is_some-via-else-is_some w ↦ λ node is. absurd (false≢true (sym (sym c.is_some.ensures ∙ w.if-is_some.false) ∙ ap is_some is))
    ])

pub returns : goal.returns
returns c =
    λ table.
    let all = first_all c.deref-node-items.result.now (λ number node. is_marked c.args.self.now.marks number ≡ true) c.loop-number.number c.loop-number.invariant c.loop-number-test.false in (
      λ is. are_all_marked table c.args.graph.now.nodes.items (bare table c.args.graph.now) refl c.args.self.now.marks
          (λ number node there. all number node (ap (λ l. node_there l number) c.deref-node-items.ensures.value ∙ there)),
      λ known. refl,
    )
