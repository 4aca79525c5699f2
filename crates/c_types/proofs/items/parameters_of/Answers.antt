use Rattle.std.proofs.Common.{◌++◌, length, Some, map, sym, ap, subst, ◌∙◌, arith}
use Rattle.c_typed.specs.Table.{type_in, types_in}
use Rattle.c_typed.specs.DefinitionViews.{TypesStand}
use Rattle.c_types_state.specs.Finding.{each_in}
use Rattle.c_rules.specs.Elaborated as elaborated
use Rattle.c_types.proofs.ParameterTypes.{stand-pushed, types-more, types-end, none-of-shape}
use Rattle.c_types.proofs.items.parameters_of.Goals as goal

-- without a type
pub returns-in_default-clause-stand : goal.returns-in_default-clause-stand
returns-in_default-clause-stand c = subst (TypesStand c.args.checker.now.table) (sym c.new-types.ensures.items) tt

pub returns-in_default-clause-types : goal.returns-in_default-clause-types
returns-in_default-clause-types c =
    let table = c.args.checker.now.table in
    ap (map (type_in table)) c.new-types.ensures.items ∙ ap (λ c_type. elaborated.parameters_of (each_in type_in table c_type)) (sym c.in_default.is)

-- of no function
pub returns-in_default-shape-clause-stand : goal.returns-in_default-shape-clause-stand
returns-in_default-shape-clause-stand c = subst (TypesStand c.args.checker.now.table) (sym c.new-types.ensures.items) tt

pub returns-in_default-shape-clause-types : goal.returns-in_default-shape-clause-types
returns-in_default-shape-clause-types c =
    let table = c.args.checker.now.table in
    ap (map (type_in table)) c.new-types.ensures.items
    ∙ none-of-shape table c.shape.result c.in-Some.c_type c.shape.ensures c.in_default-shape.not-Function
    ∙ ap (λ c_type. elaborated.parameters_of (each_in type_in table c_type)) (sym c.in-Some.is)

-- of a function
pub loop-first-init : goal.loop-first-init
loop-first-init c =
    let table = c.args.checker.now.table in
    let function = c.in-Function.ensures in
    record {
      rest = function.parts.1;
      stand = subst (TypesStand table) (sym c.new-types.ensures.items) tt;
      whole =
          ap (λ items. map (type_in table) items ++ elaborated.types_in (types_in table c.in-Function.parameters)) c.new-types.ensures.items
          ∙ ap (λ c_type. elaborated.parameters_of (Some c_type)) (sym function.means)
          ∙ ap (λ c_type. elaborated.parameters_of (each_in type_in table c_type)) (sym c.in-Some.is);
    }

pub first_parameter-requires : goal.first_parameter-requires
first_parameter-requires c = c.loop-first.invariant.rest

pub loop-first-smaller : goal.loop-first-smaller
loop-first-smaller c =
    let e = ap (λ types. length (elaborated.types_in types)) c.in-Some-first_parameter.ensures.0 in
    omega arith

pub loop-first-preserved : goal.loop-first-preserved
loop-first-preserved c =
    let table = c.args.checker.now.table in
    let split = c.in-Some-first_parameter.ensures in
    record {
      rest = split.2;
      stand = subst (TypesStand table) (sym c.in_ok-push.ensures.items) (stand-pushed table c.loop-first.types.items c.in-Some-first_parameter.first c.loop-first.invariant.stand split.1);
      whole = types-more table c.loop-first.types.items c.push.new.self.items c.in-Some-first_parameter.first (types_in table c.loop-first.rest) (types_in table c.in-Some-first_parameter.others) _ c.in_ok-push.ensures.items split.0 c.loop-first.invariant.whole;
    }

pub returns-clause-stand : goal.returns-clause-stand
returns-clause-stand c = c.loop-first.invariant.stand

pub returns-clause-types : goal.returns-clause-types
returns-clause-types c =
    let table = c.args.checker.now.table in
    types-end table c.loop-first.types.items (types_in table c.loop-first.rest) _ c.in_default-first_parameter.ensures c.loop-first.invariant.whole
