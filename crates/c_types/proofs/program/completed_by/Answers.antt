use Rattle.std.proofs.Common.{◌≡◌, ℕ, ◌+◌, List, [], ◌∷◌, ◌++◌, map, Vec, Global, sym, ap, subst, ◌∙◌}
use Rattle.c_syntax.specs.declared.declaration.Item.{Item}
use Rattle.c_syntax.specs.Views.{item_tree}
use Rattle.c_rules.specs.Programs.{each_once, completed_in}
use Rattle.c_types.proofs.CompletedOnce.{CompletedFar, base_of, far-none, far-plain, far-new, far-there, far-all, map_same}
use Rattle.c_types.proofs.program.completed_by.Goals.{in-Declaration, in-Function, in-Struct+in_ok-from_slice+in_ok-insert+then-branch+in_ok-from_slice-2+in_ok-push, in-Struct+in_ok-from_slice+in_ok-insert+else-branch, in_default}
use Rattle.c_types.proofs.program.completed_by.Goals as goal

pub loop-item-init : goal.loop-item-init
loop-item-init c = far-none c.as_slice-item-items.result.now c.new-tags.result.keys c.new-completed.result.items c.new-tags.ensures.empty c.new-completed.ensures.items

pub loop-item-preserved : goal.loop-item-preserved
loop-item-preserved c =
    let items = c.as_slice-item-items.result.now in
    let here = c.loop-item.item-index in
    let item = c.item-item.result in
    let keys = c.loop-item.tags.keys in
    let completed = c.loop-item.completed.items in
    let far = c.loop-item.invariant in
    let within = c.loop-item-test.true in
    let own : c.match-item.base.now ≡ base_of item = elim c.match-item.branch [
      | in-Declaration w ↦ (λ i. (w.base-is i).now) ∙ sym (ap base_of w.in-Declaration.is)
      | in-Function w ↦ (λ i. (w.base-is i).now) ∙ sym (ap base_of w.in-Function.is)
    ] in
    elim c.match-base.branch [
      | in-Struct+in_ok-from_slice+in_ok-insert+then-branch+in_ok-from_slice-2+in_ok-push w ↦
          far-new items here item c.match-item.base.now _ _ _ keys c.match-base.tags.keys w.in_ok-from_slice.field-0 completed within c.item-item.is own w.in-Struct.is far
          (w.in_ok-from_slice.ensures.items ∙ w.as_slice-bytes.ensures) ((λ i. (w.tags-is i).keys) ∙ w.in_ok-insert.ensures.keys)
          c.match-base.completed.items (sym w.in_ok-insert.ensures.added ∙ w.if-branch.true)
          ((λ i. (w.completed-is i).items) ∙ w.in_ok-push.ensures.items ∙ ap (λ (bytes : List ℕ). completed ++ bytes ∷ []) (w.in_ok-from_slice-2.ensures ∙ w.as_slice-bytes.ensures))
      | in-Struct+in_ok-from_slice+in_ok-insert+else-branch w ↦
          subst (λ (names : List (List ℕ)). CompletedFar items (here + 1) c.match-base.tags.keys names) (sym (λ i. (w.completed-is i).items))
          (far-there items here item c.match-item.base.now _ _ _ keys c.match-base.tags.keys w.in_ok-from_slice.field-0 completed within c.item-item.is own w.in-Struct.is far
          (w.in_ok-from_slice.ensures.items ∙ w.as_slice-bytes.ensures) ((λ i. (w.tags-is i).keys) ∙ w.in_ok-insert.ensures.keys)
          (sym w.in_ok-insert.ensures.added ∙ w.if-branch.false))
      | in_default w ↦
          subst (λ (names : List (List ℕ)). CompletedFar items (here + 1) c.match-base.tags.keys names) (sym (λ i. (w.completed-is i).items))
          (subst (λ (keys : List (Vec ℕ Global)). CompletedFar items (here + 1) keys completed) (sym (λ i. (w.tags-is i).keys))
          (far-plain items here item c.match-item.base.now keys completed within c.item-item.is own w.in_default.not-Struct far))
    ]

pub returns : goal.returns
returns c =
    let items = c.as_slice-item-items.result.now in
    map_same c.loop-item.completed.items ∙ far-all items c.loop-item.item-index c.loop-item.tags.keys c.loop-item.completed.items c.loop-item-test.false c.loop-item.invariant
    ∙ ap (λ (items : List Item). each_once [] (completed_in (map item_tree items))) c.as_slice-item-items.ensures.value
