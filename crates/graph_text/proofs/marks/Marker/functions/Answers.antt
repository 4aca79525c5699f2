use Rattle.std.proofs.Common.{◌≡◌, ◌∙◌, ◌+◌, ◌++◌, List, drop, map, sym, ap, subst, arith}
use Rattle.std.proofs.lemmas.List.{append-nil, append_assoc, drop_all}
use Rattle.c_syntax.specs.Views.{item_tree}
use Rattle.c_rules.specs.Names.{Scope}
use Rattle.c_rules.specs.Programs as rules
use Rattle.c_types.specs.Outside.{IsOutside}
use Rattle.graph_text.specs.declared.function_labels.FunctionLabels.{FunctionLabels}
use Rattle.graph_text.specs.Adding.{scope_at}
use Rattle.graph_text.specs.ProgramLabels as L
use Rattle.graph_text.proofs.MarksAdded.{at-here}
use Rattle.graph_text.proofs.marks.Marker.functions.Goals as goal

pub loop-tree-init : goal.loop-tree-init
loop-tree-init c = record {
  outside = c.requires;
  labels = ap (λ (found : List FunctionLabels). map L.own_in found ++ L.items_labels (scope_at c.args.self.now) (map item_tree c.args.items.now)) c.new-functions.ensures.items;
}

pub declare_item-requires : goal.declare_item-requires
declare_item-requires c = c.loop-tree.invariant.outside

pub add_function-requires : goal.add_function-requires
add_function-requires c = c.in_ok-declare_item.ensures.outside

pub loop-tree-preserved : goal.loop-tree-preserved
loop-tree-preserved c =
    let items = c.args.items.now in
    let here = c.loop-tree.tree-index in
    let item = c.tree-item.result in
    let one = item_tree item in
    let rest = map item_tree (drop (here + 1) items) in
    let now = scope_at c.loop-tree.self in
    let mid = scope_at c.declare_item.new.self in
    let new = scope_at c.add_function.new.self in
    let old = map L.own_in c.loop-tree.functions.items in
    let declared : mid ≡ (rules.item now one).scope = c.in_ok-declare_item.ensures.scope in
    let kept : new ≡ mid = c.in_ok-add_function.ensures.scope in
    let split = at-here items here item (omega arith) c.tree-item.is in
    record {
      outside = subst IsOutside (sym kept) c.in_ok-declare_item.ensures.outside;
      labels =
          ap (λ found. found ++ L.items_labels new rest) c.in_ok-add_function.ensures.functions
          ∙ append_assoc old (L.item_labels mid one) (L.items_labels new rest)
          ∙ ap (λ (scope : Scope). old ++ (L.item_labels mid one ++ L.items_labels scope rest)) kept
          ∙ ap (λ (scope : Scope). old ++ (L.item_labels scope one ++ L.items_labels scope rest)) declared
          ∙ sym (ap (λ these. old ++ L.items_labels now (map item_tree these)) split)
          ∙ c.loop-tree.invariant.labels;
    }

pub returns : goal.returns
returns c =
    let items = c.args.items.now in
    let now = scope_at c.loop-tree.self in
    let found = map L.own_in c.loop-tree.functions.items in
    sym (append-nil found)
    ∙ sym (ap (λ these. found ++ L.items_labels now (map item_tree these)) (drop_all c.loop-tree.tree-index items c.loop-tree-test.false))
    ∙ c.loop-tree.invariant.labels
