use Rattle.std.proofs.Common.{◌≡◌, Option, Some, None, Bor, option_map, sym, ap, subst, ◌∙◌}
use Rattle.std.proofs.lemmas.Result.{on_ok_weaker}
use Rattle.c_syntax.specs.declared.name.Name.{Name}
use Rattle.c_syntax.specs.Trees.{NameTree}
use Rattle.c_syntax.specs.Views.{name_tree, declarator_tree, init_declarator_tree}
use Rattle.c_typed.specs.Table.{type_in}
use Rattle.c_rules.specs.Elaborated.{declared_global}
use Rattle.c_rules.specs.Expressions.{declared_name}
use Rattle.c_types_state.specs.Finding.{each_in}
use Rattle.c_types_state.specs.NameTables.{scope_of}
use Rattle.c_rules.specs.Programs.{file_declarator}
use Rattle.c_types_expressions.specs.Roles.{role_of}
use Rattle.c_types.specs.Made.{Covers}
use Rattle.c_rules.specs.NamedItems.{named_in_file_declarator}
use Rattle.c_types.proofs.Filed.{known_stands-each}
use Rattle.c_types.specs.InitialValues.{declarator_values}
use Rattle.c_types.proofs.DefinedStays.{Defines}
use Rattle.c_types.proofs.VariableNumbers.{option-none}
use Rattle.c_types.proofs.KeptValues.{adds-none, adds-same}
use Rattle.c_types.proofs.OutsideMade.{has_first-some, found-stands, found-kept, declared-stands, declarator-covers, declarator-keeps, declarator-stands, declarator-defines}
use Rattle.c_types.proofs.items.file_declarator.Goals as goal

pub as_outside-own-requires : goal.as_outside-own-requires
as_outside-own-requires c = found-stands c.in_ok-declared.ensures.finds

pub name_type-requires : goal.name_type-requires
name_type-requires c = known_stands-each c.as_outside-own.new.checker.table c.as_outside-own.result (found-stands c.as_outside-own.ensures)

pub declare_outside-requires : goal.declare_outside-requires
declare_outside-requires c = found-kept c.as_outside-own.ensures c.in_ok-name_type.ensures.checker

pub first_values-requires : goal.first_values-requires
first_values-requires c =
    let base = each_in type_in c.args.pass.now.checker.table c.args.base in
    let tree = init_declarator_tree c.args.tree.now in
    let name = name_tree c.in-Some.name.now in
    declared-stands base tree name (role_of c.initialized_role-role.result) c.is_some.result c.initialized_role-role.ensures (c.is_some.ensures ∙ has_first-some c.args.tree.now.init)
    c.in_ok-declared.ensures c.as_outside-own.ensures c.in_ok-name_type.ensures.checker c.in_ok-name_type.ensures.names c.in_ok-declare_outside.ensures

pub define_global-requires : goal.define_global-requires
define_global-requires c =
    let base = each_in type_in c.args.pass.now.checker.table c.args.base in
    let tree = init_declarator_tree c.args.tree.now in
    let name = name_tree c.in-Some.name.now in
    declarator-stands base tree name (role_of c.initialized_role-role.result) c.is_some.result c.initialized_role-role.ensures (c.is_some.ensures ∙ has_first-some c.args.tree.now.init)
    c.in_ok-declared.ensures c.as_outside-own.ensures c.in_ok-name_type.ensures.checker c.in_ok-name_type.ensures.names c.in_ok-declare_outside.ensures c.in_ok-first.ensures.made

pub returns-clause-covers : goal.returns-clause-covers
returns-clause-covers c =
    let s = c.args.pass.now in
    let scope = scope_of s.checker in
    let base = each_in type_in s.checker.table c.args.base in
    let tree = init_declarator_tree c.args.tree.now in
    let name = name_tree c.in-Some.name.now in
    let is_name : Some name ≡ declared_name (declarator_tree c.args.tree.now.declarator) = ap (option_map (λ (name : Bor Name). name_tree name.now)) (sym c.in-Some.is) ∙ c.declared_name.ensures in
    on_ok_weaker c.define_global.result
    (λ defines place. subst (λ (n : Option NameTree). Covers (file_declarator scope place base tree n).found (named_in_file_declarator scope base tree n) (file_declarator scope place base tree n).scope s c.first_values.new.pass) is_name
    (declarator-covers base tree name (role_of c.initialized_role-role.result) c.is_some.result c.initialized_role-role.ensures (c.is_some.ensures ∙ has_first-some c.args.tree.now.init)
    c.in_ok-declared.ensures c.as_outside-own.ensures c.in_ok-name_type.ensures.checker c.in_ok-name_type.ensures.names c.in_ok-declare_outside.ensures c.in_ok-first.ensures.made place))
    c.define_global.ensures

pub returns-clause-defined : goal.returns-clause-defined
returns-clause-defined c =
    let s = c.args.pass.now in
    let scope = scope_of s.checker in
    let base = each_in type_in s.checker.table c.args.base in
    let tree = init_declarator_tree c.args.tree.now in
    let name = name_tree c.in-Some.name.now in
    let is_name : Some name ≡ declared_name (declarator_tree c.args.tree.now.declarator) = ap (option_map (λ (name : Bor Name). name_tree name.now)) (sym c.in-Some.is) ∙ c.declared_name.ensures in
    on_ok_weaker c.define_global.result
    (λ (defines : _). subst (λ (n : Option NameTree). Defines s.checker.table c.args.defined.now c.first_values.new.pass.checker.table c.define_global.new.defined (declared_global scope base tree n)) is_name
    (declarator-defines base tree name (role_of c.initialized_role-role.result) c.is_some.result c.initialized_role-role.ensures (c.is_some.ensures ∙ has_first-some c.args.tree.now.init)
    c.in_ok-declared.ensures c.as_outside-own.ensures c.in_ok-name_type.ensures.checker c.in_ok-name_type.ensures.names c.in_ok-declare_outside.ensures c.in_ok-first.ensures.made
    c.args.defined.now c.define_global.new.defined defines))
    c.define_global.ensures

pub returns-in_default-clause-values : goal.returns-in_default-clause-values
returns-in_default-clause-values c =
    let none : None ≡ declared_name (declarator_tree c.args.tree.now.declarator) = sym (ap (option_map (λ (name : Bor Name). name_tree name.now)) (option-none c.declared_name.result c.in_default.not-Some)) ∙ c.declared_name.ensures in
    let s = c.args.pass.now in
    adds-same (ap (declarator_values (scope_of s.checker) (each_in type_in s.checker.table c.args.base) (init_declarator_tree c.args.tree.now)) none) (adds-none s.checker.table c.args.values.now.items)

pub returns-clause-values : goal.returns-clause-values
returns-clause-values c =
    let s = c.args.pass.now in
    let base = each_in type_in s.checker.table c.args.base in
    let tree = init_declarator_tree c.args.tree.now in
    let name = name_tree c.in-Some.name.now in
    let is_name : Some name ≡ declared_name (declarator_tree c.args.tree.now.declarator) = ap (option_map (λ (name : Bor Name). name_tree name.now)) (sym c.in-Some.is) ∙ c.declared_name.ensures in
    on_ok_weaker c.define_global.result
    (λ (defines : _). adds-same (ap (declarator_values (scope_of s.checker) base tree) is_name)
    (declarator-keeps base tree name (role_of c.initialized_role-role.result) c.is_some.result c.initialized_role-role.ensures (c.is_some.ensures ∙ has_first-some c.args.tree.now.init)
    c.in_ok-declared.ensures c.as_outside-own.ensures c.in_ok-name_type.ensures.checker c.in_ok-name_type.ensures.names c.in_ok-declare_outside.ensures c.first_values.new.pass c.in_ok-first.ensures.values))
    c.define_global.ensures
