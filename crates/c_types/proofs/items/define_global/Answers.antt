use Rattle.std.proofs.Common.{sym, subst, ◌∙◌}
use Rattle.c_syntax.specs.Views.{name_tree}
use Rattle.c_typed.specs.Table.{Stands}
use Rattle.c_typed.specs.DefinitionViews.{all_first}
use Rattle.c_types_state.specs.Finding.{AllStand}
use Rattle.c_types.proofs.VariableNumbers.{option-none}
use Rattle.c_types.proofs.DefinedStays.{on_ok_both, defines-none, defines-function, defines-variable}
use Rattle.c_types.proofs.items.define_global.Goals as goal

pub is_function-requires : goal.is_function-requires
is_function-requires c = subst (AllStand Stands c.args.checker.now.table) c.in-Some.is c.requires

pub returns-in_default : goal.returns-in_default
returns-in_default c = defines-none (name_tree c.args.name.now) (all_first c.args.first.items) c.args.checker.now.table c.args.defined.now c.args.c_type (option-none c.args.c_type c.in_default.not-Some)

pub returns-then-is_function : goal.returns-then-is_function
returns-then-is_function c = defines-function (name_tree c.args.name.now) (all_first c.args.first.items) c.args.checker.now.table c.args.defined.now c.args.c_type c.in-Some.c_type c.in-Some.is (sym c.is_function.ensures ∙ c.if-is_function.true)

pub returns : goal.returns
returns c =
    let table = c.args.checker.now.table in
    on_ok_both c.add.result
    (λ adds stand. defines-variable (name_tree c.args.name.now) (all_first c.args.first.items) table c.args.defined.now c.args.c_type c.in-Some.c_type c.in-Some.is c.as_slice.result.now c.as_slice.ensures c.add.new.self
    (sym c.is_function.ensures ∙ c.if-is_function.false) adds stand (subst (AllStand Stands table) c.in-Some.is c.requires))
    c.add.ensures.globals c.add.ensures.stand
