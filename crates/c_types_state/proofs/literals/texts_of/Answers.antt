use Rattle.std.proofs.Common.{◌+◌, ◌∙◌, ap, sym, subst, refl, drop, map, arith, []}
use Rattle.c_syntax.specs.Views.{item_tree}
use Rattle.c_rules.specs.Elaborated.{literals_in_items}
use Rattle.c_types_state.specs.Lists.{item_literals}
use Rattle.c_types_state.proofs.LiteralsAdded.{SoFar, items_more, so_far-more, so_far-all}
use Rattle.c_types_state.proofs.literals.texts_of.Goals as goal

pub loop-item-init : goal.loop-item-init
loop-item-init c =
    let all = literals_in_items (map item_tree c.as_slice-item-items.result.now) in
    subst (λ found. SoFar all all [] found) (sym c.new.ensures.items) refl

pub loop-item-preserved : goal.loop-item-preserved
loop-item-preserved c =
    let items = c.as_slice-item-items.result.now in
    so_far-more (λ left. literals_in_items (map item_tree left)) items c.loop-item.item-index c.item-item.result (item_literals (item_tree c.item-item.result)) (literals_in_items (map item_tree items)) [] c.loop-item.literals.found.items c.of_item.new.self.found.items
    (omega arith) c.item-item.is (items_more (item_tree c.item-item.result) (map item_tree (drop (c.loop-item.item-index + 1) items))) c.loop-item.invariant (c.in_ok-of_item.ensures {u = tt})

pub returns : goal.returns
returns c =
    let items = c.as_slice-item-items.result.now in
    so_far-all (λ left. literals_in_items (map item_tree left)) items c.loop-item.item-index (literals_in_items (map item_tree items)) [] c.loop-item.literals.found.items (omega arith) refl c.loop-item.invariant
    ∙ ap (λ is. literals_in_items (map item_tree is)) c.as_slice-item-items.ensures.value
