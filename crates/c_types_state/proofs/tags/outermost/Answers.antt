use Rattle.std.proofs.Common.{◌≡◌, refl, sym, ap, ◌∙◌, arith, option_map, [], Bor, Some}
use Rattle.c_syntax.specs.declared.name.Name as memory_name
use Rattle.c_syntax.specs.Views.{declarator_tree, name_tree}
use Rattle.c_types_state.specs.NameTables.{State, with_once}
use Rattle.c_rules.specs.Expressions.{declared_name}
use Rattle.c_rules.specs.Programs.{tags_in_declarator, bytes_of_name}
use Rattle.c_types_state.specs.Lists.{with_tags}
use Rattle.c_types_state.proofs.Listing.{left-more, left-end, of_items, of_item, items-more, of_declarators, declarators-more, declarator_tags, with_defined, is_none}
use Rattle.c_types_state.proofs.tags.outermost.Goals.{in-Declaration+in_ok-tags_in_base-in-Declaration+else-loop-tree-test, in-Function+in_ok-tags_in_base-in-Function+in_ok-tags_in_declarator-in-Function+in-Some+in_ok-add_defined-in-Function, in-Function+in_ok-tags_in_base-in-Function+in_ok-tags_in_declarator-in-Function+in_default}
use Rattle.c_types_state.proofs.tags.outermost.Goals as goal

pub loop-tree-preserved : goal.loop-tree-preserved
loop-tree-preserved c =
    left-more of_declarators (λ a. with_tags (declarator_tags a)) declarators-more c.as_slice-tree-items.result.now c.loop-tree.tree-index c.tree-item.result (omega arith) (sym c.tree-item.is) c.loop-tree.invariant c.in_ok-tags_in_init_declarator-in-Declaration.ensures

pub loop-item-preserved : goal.loop-item-preserved
loop-item-preserved c =
    let old = c.loop-item.checker in
    let step : c.match-item.checker ≡ of_item c.item-item.result old = elim c.match-item.branch [
      | in-Declaration+in_ok-tags_in_base-in-Declaration+else-loop-tree-test w ↦
          w.checker-is
          ∙ left-end of_declarators (λ a. with_tags (declarator_tags a)) (λ s. refl) w.as_slice-tree-items.result.now w.loop-tree.tree-index w.loop-tree-test.false w.loop-tree.invariant
          ∙ ap (λ items. of_declarators items w.tags_in_base.new.checker) w.as_slice-tree-items.ensures.value
          ∙ ap (of_declarators w.in-Declaration.declarators.items) w.in_ok-tags_in_base-in-Declaration.ensures
          ∙ ap (λ item. of_item item old) (sym w.in-Declaration.is)
      | in-Function+in_ok-tags_in_base-in-Function+in_ok-tags_in_declarator-in-Function+in-Some+in_ok-add_defined-in-Function w ↦
          let tree = declarator_tree w.in-Function.declarator in
          let name : bytes_of_name (declared_name tree) ≡ bytes_of_name (Some (name_tree w.in-Some.name.now)) =
          ap bytes_of_name (sym w.declared_name.ensures ∙ ap (option_map (λ (name : Bor memory_name.Name). name_tree name.now)) w.in-Some.is) in
          w.checker-is ∙ w.in_ok-add_defined-in-Function.ensures.done
          ∙ (λ i. let s : State = w.in_ok-tags_in_declarator-in-Function.ensures i in record s { defined = with_once s.defined (w.as_slice.ensures i) })
          ∙ (λ i. with_defined (sym name i) (with_tags (tags_in_declarator tree) (w.in_ok-tags_in_base-in-Function.ensures i)))
          ∙ ap (λ item. of_item item old) (sym w.in-Function.is)
      | in-Function+in_ok-tags_in_base-in-Function+in_ok-tags_in_declarator-in-Function+in_default w ↦
          let tree = declarator_tree w.in-Function.declarator in
          let name : bytes_of_name (declared_name tree) ≡ [] =
          ap bytes_of_name (sym w.declared_name.ensures ∙ ap (option_map (λ (name : Bor memory_name.Name). name_tree name.now)) (is_none w.declared_name.result w.in_default.not-Some)) in
          w.checker-is ∙ w.in_ok-tags_in_declarator-in-Function.ensures
          ∙ (λ i. with_defined (sym name i) (with_tags (tags_in_declarator tree) (w.in_ok-tags_in_base-in-Function.ensures i)))
          ∙ ap (λ item. of_item item old) (sym w.in-Function.is)
    ] in
    left-more of_items of_item items-more c.as_slice-item-items.result.now c.loop-item.item-index c.item-item.result (omega arith) (sym c.item-item.is) c.loop-item.invariant step

pub returns : goal.returns
returns c =
    left-end of_items of_item (λ s. refl) c.as_slice-item-items.result.now c.loop-item.item-index (omega arith) c.loop-item.invariant
    ∙ ap (λ items. of_items items c.args.checker.now) c.as_slice-item-items.ensures.value
