use Rattle.std.proofs.Common.{List, Option, [], refl, sym, subst, ◌∙◌}
use Rattle.c_syntax.specs.Trees.{ParametersTree}
use Rattle.c_syntax.specs.Views.{parameters_of}
use Rattle.c_typed.specs.declared.c_type.CType.{CType}
use Rattle.c_typed.specs.Table.{Interned}
use Rattle.c_types_state.specs.NameTables.{scope_of}
use Rattle.c_rules.specs.Programs.{entered_function}
use Rattle.c_types.specs.Made.{Covers}
use Rattle.c_types.specs.Outside.{AllKnown, AreTypes, local_types}
use Rattle.c_types.proofs.ParameterLocals.{are-known, entered-all}
use Rattle.c_types.proofs.parameters.enter_function.Goals as goal

pub declare_parameters-requires-clause-stand : goal.declare_parameters-requires-clause-stand
declare_parameters-requires-clause-stand c =
    subst (λ (types : List (Option CType)). AllKnown c.enter-outer.new.self.table types) (sym c.as_slice.ensures.value)
    (subst (λ (table : Interned). AllKnown table c.in_ok-types.types.items) (sym c.enter-outer.ensures.scope.table)
    (are-known c.parameter_locals.new.pass.checker.table c.in_ok-types.types.items (local_types (scope_of c.args.pass.now.checker) (parameters_of c.own_parameters-parameters.result.now)) c.in_ok-types.ensures.made.made))

pub returns-clause-covers : goal.returns-clause-covers
returns-clause-covers c =
    let s = c.args.pass.now in
    let p = c.parameter_locals.new.pass in
    let scope = scope_of s.checker in
    let tree = parameters_of c.own_parameters-parameters.result.now in
    let are : AreTypes c.enter-outer.new.self.table c.as_slice.result.now (local_types scope tree) =
    subst (λ (types : List (Option CType)). AreTypes c.enter-outer.new.self.table types (local_types scope tree)) (sym c.as_slice.ensures.value)
    (subst (λ (table : Interned). AreTypes table c.in_ok-types.types.items (local_types scope tree)) (sym c.enter-outer.ensures.scope.table) c.in_ok-types.ensures.made.made) in
    subst (λ (tree : ParametersTree). Covers (entered_function scope tree).found [] (entered_function scope tree).scope s c.declare_parameters.new.pass) c.own_parameters-parameters.ensures
    (entered-all {s = s} {p = p} {q = record p { checker = c.enter-outer.new.self }} {t = c.declare_parameters.new.pass} tree c.requires (sym c.if-is_void_alone.false ∙ c.is_void_alone.ensures)
    c.in_ok-types.ensures.made.covers c.enter-outer.ensures.scope refl (c.in_ok-declare_parameters.ensures scope are))
