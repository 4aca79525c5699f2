use Rattle.std.proofs.Common.{◌≡◌, Some, None, Bor, map, option_map, sym, ap, subst, ◌∙◌}
use Rattle.std.proofs.lemmas.Result.{on_ok_weaker}
use Rattle.c_syntax.specs.Trees as Trees
use Rattle.c_syntax.specs.declared.name.Name.{Name}
use Rattle.c_syntax.specs.Views.{name_tree, base_tree, declarator_tree, init_declarator_tree, item_tree, block_of}
use Rattle.c_typed.specs.Table.{type_in}
use Rattle.c_types_state.specs.Finding.{each_in}
use Rattle.c_types_state.specs.NameTables.{scope_of}
use Rattle.c_rules.specs.Programs.{base_type, base_place}
use Rattle.c_types.specs.Outside.{IsOutside}
use Rattle.c_types.specs.InitialValues.{item_values}
use Rattle.c_types.proofs.Covering.{covers-none}
use Rattle.c_types.proofs.KeptValues.{adds-none, adds-same}
use Rattle.c_types.proofs.Reaching.{base-made, base-outside}
use Rattle.c_types.proofs.ReachedItems.{ReachesItem, DefinesItem, reaches-declaration, keeps-declaration, defines-declaration, reaches-function, defines-function, defines-none}
use Rattle.c_types.proofs.items.item.Goals as goal

pub file_declarators-requires : goal.file_declarators-requires
file_declarators-requires c =
    (base-made c.base_type.new.pass.checker.table c.in_ok-c_type-in-Declaration.c_type (base_type (scope_of c.args.pass.now.checker) (base_tree c.in-Declaration.base)).type_of.known c.in_ok-c_type-in-Declaration.ensures.made).0

pub returns-in_ok-c_type-in-Declaration-clause-reaches : goal.returns-in_ok-c_type-in-Declaration-clause-reaches
returns-in_ok-c_type-in-Declaration-clause-reaches c =
    let s = c.args.pass.now in
    let t = c.base_type.new.pass in
    let u = c.file_declarators.new.pass in
    let base = base_tree c.in-Declaration.base in
    let c_type = c.in_ok-c_type-in-Declaration.c_type in
    let first = c.in_ok-c_type-in-Declaration.ensures in
    let known = (base-made t.checker.table c_type (base_type (scope_of s.checker) base).type_of.known first.made).1 in
    let tree : Trees.Declaration base (map init_declarator_tree c.as_slice.result.now) ≡ item_tree c.args.item.now = ap (λ items. Trees.Declaration base (map init_declarator_tree items)) c.as_slice.ensures.value ∙ sym (ap item_tree c.in-Declaration.is) in
    on_ok_weaker c.file_declarators.result
    (λ covers. subst (λ tree. ReachesItem tree s u) tree
    (reaches-declaration base c_type first.reaches known u (map init_declarator_tree c.as_slice.result.now) (covers (base_place base))))
    c.file_declarators.ensures.covers

pub returns-in_ok-c_type-in-Declaration-clause-defined : goal.returns-in_ok-c_type-in-Declaration-clause-defined
returns-in_ok-c_type-in-Declaration-clause-defined c =
    let s = c.args.pass.now in
    let t = c.base_type.new.pass in
    let u = c.file_declarators.new.pass in
    let base = base_tree c.in-Declaration.base in
    let c_type = c.in_ok-c_type-in-Declaration.c_type in
    let first = c.in_ok-c_type-in-Declaration.ensures in
    let known = (base-made t.checker.table c_type (base_type (scope_of s.checker) base).type_of.known first.made).1 in
    let tree : Trees.Declaration base (map init_declarator_tree c.as_slice.result.now) ≡ item_tree c.args.item.now = ap (λ items. Trees.Declaration base (map init_declarator_tree items)) c.as_slice.ensures.value ∙ sym (ap item_tree c.in-Declaration.is) in
    on_ok_weaker c.file_declarators.result
    (λ behind. subst (λ tree. DefinesItem tree s u c.args.defined.now c.file_declarators.new.defined) tree
    (defines-declaration base c_type first.reaches known u (map init_declarator_tree c.as_slice.result.now) (behind (base_place base))))
    c.file_declarators.ensures.defined

pub returns-in_ok-c_type-in-Declaration-clause-values : goal.returns-in_ok-c_type-in-Declaration-clause-values
returns-in_ok-c_type-in-Declaration-clause-values c =
    let s = c.args.pass.now in
    let t = c.base_type.new.pass in
    let u = c.file_declarators.new.pass in
    let base = base_tree c.in-Declaration.base in
    let c_type = c.in_ok-c_type-in-Declaration.c_type in
    let first = c.in_ok-c_type-in-Declaration.ensures in
    let known = (base-made t.checker.table c_type (base_type (scope_of s.checker) base).type_of.known first.made).1 in
    let tree : Trees.Declaration base (map init_declarator_tree c.as_slice.result.now) ≡ item_tree c.args.item.now = ap (λ items. Trees.Declaration base (map init_declarator_tree items)) c.as_slice.ensures.value ∙ sym (ap item_tree c.in-Declaration.is) in
    on_ok_weaker c.file_declarators.result
    (λ adds. adds-same (ap (item_values (scope_of s.checker)) tree) (keeps-declaration base c_type first.reaches known u (map init_declarator_tree c.as_slice.result.now) (adds (base_place base))))
    c.file_declarators.ensures.values

pub function-requires-clause-base : goal.function-requires-clause-base
function-requires-clause-base c =
    (base-made c.base_type-in-Function.new.pass.checker.table c.in_ok-c_type-in-Function.c_type (base_type (scope_of c.args.pass.now.checker) (base_tree c.in-Function.base)).type_of.known c.in_ok-c_type-in-Function.ensures.made).0

pub function-requires-clause-outside : goal.function-requires-clause-outside
function-requires-clause-outside c =
    subst IsOutside (sym c.in_ok-c_type-in-Function.ensures.reaches.scope) (base-outside (scope_of c.args.pass.now.checker) (base_tree c.in-Function.base) c.requires)

pub returns-in-Some-clause-reaches : goal.returns-in-Some-clause-reaches
returns-in-Some-clause-reaches c =
    let s = c.args.pass.now in
    let t = c.base_type-in-Function.new.pass in
    let u = c.function.new.pass in
    let base = base_tree c.in-Function.base in
    let body = c.in-Function.body in
    let c_type = c.in_ok-c_type-in-Function.c_type in
    let first = c.in_ok-c_type-in-Function.ensures in
    let known = (base-made t.checker.table c_type (base_type (scope_of s.checker) base).type_of.known first.made).1 in
    let name = ap (option_map (λ (name : Bor Name). name_tree name.now)) (sym c.in-Some.is) ∙ c.declared_name.ensures in
    on_ok_weaker c.function.result
    (λ covers. subst (λ tree. ReachesItem tree s u) (sym (ap item_tree c.in-Function.is))
    (reaches-function base c_type first.reaches known u (declarator_tree c.in-Function.declarator) body.place (block_of body.items.items) (Some (name_tree c.in-Some.name.now)) name (covers (base_place base))))
    c.function.ensures.covers

pub returns-in-Some-clause-defined : goal.returns-in-Some-clause-defined
returns-in-Some-clause-defined c =
    let s = c.args.pass.now in
    let t = c.base_type-in-Function.new.pass in
    let u = c.function.new.pass in
    let base = base_tree c.in-Function.base in
    let body = c.in-Function.body in
    let c_type = c.in_ok-c_type-in-Function.c_type in
    let first = c.in_ok-c_type-in-Function.ensures in
    let known = (base-made t.checker.table c_type (base_type (scope_of s.checker) base).type_of.known first.made).1 in
    let name = ap (option_map (λ (name : Bor Name). name_tree name.now)) (sym c.in-Some.is) ∙ c.declared_name.ensures in
    on_ok_weaker c.function.result
    (λ behind. subst (λ tree. DefinesItem tree s u c.args.defined.now c.function.new.defined) (sym (ap item_tree c.in-Function.is))
    (defines-function base c_type first.reaches known u (declarator_tree c.in-Function.declarator) body.place (block_of body.items.items) (Some (name_tree c.in-Some.name.now)) name behind))
    c.function.ensures.defined

pub returns-in-None-clause-reaches : goal.returns-in-None-clause-reaches
returns-in-None-clause-reaches c =
    let s = c.args.pass.now in
    let t = c.base_type-in-Function.new.pass in
    let base = base_tree c.in-Function.base in
    let body = c.in-Function.body in
    let c_type = c.in_ok-c_type-in-Function.c_type in
    let first = c.in_ok-c_type-in-Function.ensures in
    let known = (base-made t.checker.table c_type (base_type (scope_of s.checker) base).type_of.known first.made).1 in
    let name = ap (option_map (λ (name : Bor Name). name_tree name.now)) (sym c.in-None.is) ∙ c.declared_name.ensures in
    subst (λ tree. ReachesItem tree s t) (sym (ap item_tree c.in-Function.is))
    (reaches-function base c_type first.reaches known t (declarator_tree c.in-Function.declarator) body.place (block_of body.items.items) None name (covers-none t))

pub returns-in-None-clause-defined : goal.returns-in-None-clause-defined
returns-in-None-clause-defined c =
    let s = c.args.pass.now in
    let t = c.base_type-in-Function.new.pass in
    let base = base_tree c.in-Function.base in
    let body = c.in-Function.body in
    let c_type = c.in_ok-c_type-in-Function.c_type in
    let first = c.in_ok-c_type-in-Function.ensures in
    let known = (base-made t.checker.table c_type (base_type (scope_of s.checker) base).type_of.known first.made).1 in
    let name = ap (option_map (λ (name : Bor Name). name_tree name.now)) (sym c.in-None.is) ∙ c.declared_name.ensures in
    let declarator = declarator_tree c.in-Function.declarator in
    subst (λ tree. DefinesItem tree s t c.args.defined.now c.args.defined.now) (sym (ap item_tree c.in-Function.is))
    (defines-function base c_type first.reaches known t declarator body.place (block_of body.items.items) None name
    (defines-none t.checker.table c.args.defined.now (scope_of t.checker) (each_in type_in t.checker.table c_type) declarator (block_of body.items.items)))

pub returns-in-Some-clause-values : goal.returns-in-Some-clause-values
returns-in-Some-clause-values c =
    let s = c.args.pass.now in
    on_ok_weaker c.function.result (λ (covers : _). adds-same (ap (item_values (scope_of s.checker)) (sym (ap item_tree c.in-Function.is))) (adds-none c.function.new.pass.checker.table c.args.values.now.items)) c.function.ensures.covers

pub returns-in-None-clause-values : goal.returns-in-None-clause-values
returns-in-None-clause-values c =
    let s = c.args.pass.now in
    adds-same (ap (item_values (scope_of s.checker)) (sym (ap item_tree c.in-Function.is))) (adds-none c.base_type-in-Function.new.pass.checker.table c.args.values.now.items)
