use Rattle.std.proofs.Common.{◌≡◌, ◌+◌, ◌&&◌, get_or, drop, sym, ap, ◌∙◌}
use Rattle.c_typed.specs.Types.{CType}
use Rattle.c_typed.specs.Table.{type_in, types_in}
use Rattle.tac_ir.specs.declared.register.Local.TheVariants as L
use Rattle.tac_ir.specs.declared.register.Register.TheVariants as R
use Rattle.heap_graph.specs.Closed.{parameters_in, parameters_of, arguments_closed}
use Rattle.heap_graph.specs.Frozen.{bare}
use Rattle.heap_graph.specs.Reached.{optional_reached}
use Rattle.graph_checker.specs.Images.{placed_by}
use Rattle.graph_checker.proofs.Cases.{next_item}
use Rattle.graph_checker.proofs.Passing.{one_more, no_more}
use Rattle.graph_checker.proofs.calls.are_passed.Goals as goal

pub loop-number-init : goal.loop-number-init
loop-number-init c = record {
  stands = c.in-Function.ensures.parts.1;
  others = λ family owner formals shows are. ap (λ (t : CType). arguments_closed family owner formals 0 (parameters_of t) c.args.arguments.now) (sym c.in-Function.ensures.means ∙ c.number_of.ensures.means);
}

pub first_parameter-requires : goal.first_parameter-requires
first_parameter-requires c = c.loop-number.invariant.stands

pub returns-in_default-first_parameter : goal.returns-in_default-first_parameter
returns-in_default-first_parameter c = λ family owner formals shows are.
    sym (ap (λ t. arguments_closed family owner formals c.loop-number.number (parameters_in t) (drop c.loop-number.number c.args.arguments.now)) c.in_default-first_parameter.ensures)
    ∙ c.loop-number.invariant.others family owner formals shows are

pub returns-then-not-is_passed : goal.returns-then-not-is_passed
returns-then-not-is_passed c = λ family owner formals shows are.
    let table = c.args.caller.types.now in
    let number = c.loop-number.number in
    let arguments = c.args.arguments.now in
    let place = optional_reached c.place.result in
    let formal : formals number ≡ place = are number ∙ sym (c.place.ensures table ∙ ap (placed_by (bare table c.args.caller.graph.now) c.args.places) c.register-formal.ensures) in
    let more =
    one_more family owner c.args.caller.names.now shows formals number (type_in table c.in-Some.first) (types_in table c.loop-number.parameters)
    (types_in table c.in-Some.others) (get_or arguments number (R.Local (L.Parameter 0))) arguments place c.is_passed.result c.in-Some.ensures.0
    (next_item arguments number (R.Local (L.Parameter 0)) c.loop-number-test.true) formal c.is_passed.ensures in
    sym (more ∙ ap (λ test. test && arguments_closed family owner formals (number + 1) (parameters_in (types_in table c.in-Some.others)) (drop (number + 1) arguments)) c.if-not-is_passed.true)
    ∙ c.loop-number.invariant.others family owner formals shows are

pub loop-number-preserved : goal.loop-number-preserved
loop-number-preserved c =
    let table = c.args.caller.types.now in
    let number = c.loop-number.number in
    let arguments = c.args.arguments.now in
    let place = optional_reached c.place.result in
    record {
      stands = c.in-Some.ensures.2;
      others = λ family owner formals shows are.
          let formal : formals number ≡ place = are number ∙ sym (c.place.ensures table ∙ ap (placed_by (bare table c.args.caller.graph.now) c.args.places) c.register-formal.ensures) in
          let more =
          one_more family owner c.args.caller.names.now shows formals number (type_in table c.in-Some.first) (types_in table c.loop-number.parameters)
          (types_in table c.in-Some.others) (get_or arguments number (R.Local (L.Parameter 0))) arguments place c.is_passed.result c.in-Some.ensures.0
          (next_item arguments number (R.Local (L.Parameter 0)) c.loop-number-test.true) formal c.is_passed.ensures in
          sym (more ∙ ap (λ test. test && arguments_closed family owner formals (number + 1) (parameters_in (types_in table c.in-Some.others)) (drop (number + 1) arguments)) c.if-not-is_passed.false)
          ∙ c.loop-number.invariant.others family owner formals shows are;
    }

pub returns : goal.returns
returns c = λ family owner formals shows are.
    sym (no_more family owner formals c.loop-number.number (types_in c.args.caller.types.now c.loop-number.parameters) c.args.arguments.now c.loop-number-test.false)
    ∙ c.loop-number.invariant.others family owner formals shows are
