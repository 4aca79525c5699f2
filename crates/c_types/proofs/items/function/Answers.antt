use Rattle.std.proofs.Common.{refl, ap, ◌∙◌}
use Rattle.c_syntax.specs.Views.{name_tree, declarator_tree, block_of}
use Rattle.c_typed.specs.Table.{type_in}
use Rattle.c_types_state.specs.Finding.{each_in}
use Rattle.c_types_expressions.proofs.Passing.{with_checker}
use Rattle.c_types.proofs.Filed.{known_stands-each}
use Rattle.c_types.proofs.OutsideMade.{found-stands, found-kept}
use Rattle.c_types.proofs.FunctionMade.{function-outside, entered-stands, function-leave, function-covers, function-stands, function-defines}
use Rattle.c_types.proofs.items.function.Goals as goal

pub as_function-own-requires : goal.as_function-own-requires
as_function-own-requires c = found-stands c.in_ok-declared.ensures.finds

pub name_type-requires : goal.name_type-requires
name_type-requires c = known_stands-each c.as_function-own.new.checker.table c.as_function-own.result (found-stands c.as_function-own.ensures)

pub declare_outside-requires : goal.declare_outside-requires
declare_outside-requires c = found-kept c.as_function-own.ensures c.in_ok-name_type.ensures.checker

pub enter_function-requires : goal.enter_function-requires
enter_function-requires c =
    function-outside (each_in type_in c.args.pass.now.checker.table c.args.base) (declarator_tree c.args.declarator.now) (block_of c.args.body.now.items.items) (name_tree c.args.name.now)
    c.in_ok-declared.ensures c.as_function-own.ensures c.in_ok-name_type.ensures.checker c.in_ok-name_type.ensures.names c.in_ok-declare_outside.ensures c.requires.outside

pub returned_by-requires : goal.returned_by-requires
returned_by-requires c =
    entered-stands (each_in type_in c.args.pass.now.checker.table c.args.base) (declarator_tree c.args.declarator.now) (block_of c.args.body.now.items.items) (name_tree c.args.name.now)
    c.in_ok-declared.ensures c.as_function-own.ensures c.in_ok-name_type.ensures.checker c.in_ok-name_type.ensures.names c.in_ok-declare_outside.ensures c.requires.outside c.in_ok-outer.ensures.covers

pub block_items-requires : goal.block_items-requires
block_items-requires c = c.returned_by.ensures.stands

pub leave-requires : goal.leave-requires
leave-requires c =
    function-leave (each_in type_in c.args.pass.now.checker.table c.args.base) (declarator_tree c.args.declarator.now) (block_of c.args.body.now.items.items) (name_tree c.args.name.now)
    c.in_ok-declared.ensures c.as_function-own.ensures c.in_ok-name_type.ensures.checker c.in_ok-name_type.ensures.names c.in_ok-declare_outside.ensures c.requires.outside c.in_ok-outer.ensures.covers
    c.returned_by.result c.returned_by.ensures.returned c.returned_by.ensures.stands (block_of c.as_slice.result.now) (ap block_of c.as_slice.ensures.value) c.in_ok-body.ensures c.in_ok-outer.outer c.in_ok-outer.ensures.outer

pub parameters_of-requires : goal.parameters_of-requires
parameters_of-requires c =
    function-stands (each_in type_in c.args.pass.now.checker.table c.args.base) (declarator_tree c.args.declarator.now) (block_of c.args.body.now.items.items) (name_tree c.args.name.now)
    c.in_ok-declared.ensures c.as_function-own.ensures c.in_ok-name_type.ensures.checker c.in_ok-name_type.ensures.names c.in_ok-declare_outside.ensures c.requires.outside c.in_ok-outer.ensures.covers
    c.returned_by.result c.returned_by.ensures.returned c.returned_by.ensures.stands (block_of c.as_slice.result.now) (ap block_of c.as_slice.ensures.value) c.in_ok-body.ensures
    (with_checker c.block_items.new.pass c.leave.new.self) c.in_ok-outer.outer c.in_ok-outer.ensures.outer c.leave.ensures refl

pub returns-clause-covers : goal.returns-clause-covers
returns-clause-covers c =
    function-covers (each_in type_in c.args.pass.now.checker.table c.args.base) (declarator_tree c.args.declarator.now) (block_of c.args.body.now.items.items) (name_tree c.args.name.now)
    c.in_ok-declared.ensures c.as_function-own.ensures c.in_ok-name_type.ensures.checker c.in_ok-name_type.ensures.names c.in_ok-declare_outside.ensures c.requires.outside c.in_ok-outer.ensures.covers
    c.returned_by.result c.returned_by.ensures.returned c.returned_by.ensures.stands (block_of c.as_slice.result.now) (ap block_of c.as_slice.ensures.value) c.in_ok-body.ensures
    (with_checker c.block_items.new.pass c.leave.new.self) c.in_ok-outer.outer c.in_ok-outer.ensures.outer c.leave.ensures refl

pub returns-clause-defined : goal.returns-clause-defined
returns-clause-defined c =
    function-defines (each_in type_in c.args.pass.now.checker.table c.args.base) (declarator_tree c.args.declarator.now) (block_of c.args.body.now.items.items) (name_tree c.args.name.now)
    c.in_ok-declared.ensures c.as_function-own.ensures c.in_ok-name_type.ensures.checker c.in_ok-name_type.ensures.names c.in_ok-declare_outside.ensures c.requires.outside c.in_ok-outer.ensures.covers
    c.returned_by.result c.returned_by.ensures.returned c.returned_by.ensures.stands (block_of c.as_slice.result.now) (ap block_of c.as_slice.ensures.value) c.in_ok-body.ensures
    (with_checker c.block_items.new.pass c.leave.new.self) c.in_ok-outer.outer c.in_ok-outer.ensures.outer c.leave.ensures refl
    c.args.defined.now (record { globals = c.args.defined.now.globals; functions = c.push.new.self })
    (record { name = c.in_ok-from_slice.field-0; c_type = c.unwrap_or.result; parameters = c.in_ok-parameters_of.field-0; returned = c.unwrap_or-2.result; body = c.in_ok-body.body })
    (record { 0 = 0 }) refl refl c.in_ok-push.ensures.items (c.in_ok-from_slice.ensures ∙ c.as_slice-2.ensures) c.unwrap_or.ensures c.unwrap_or-2.ensures refl
    c.in_ok-parameters_of.ensures.stand c.in_ok-parameters_of.ensures.types
