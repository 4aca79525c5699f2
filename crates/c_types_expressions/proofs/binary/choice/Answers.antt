use Rattle.std.proofs.Common.{◌≡◌, Box, Global, true, false, ◌&&◌, if◌then◌else◌, Some, refl, sym, subst, ◌∙◌}
use Rattle.c_typed.specs.declared.c_type.CType as number
use Rattle.c_rules.specs.declared.rule.TypeRule.TheVariants as R
use Rattle.c_typed.specs.Types as T
use Rattle.c_typed.specs.Typed as typed
use Rattle.c_typed.specs.declared.typed.Value as memory_value
use Rattle.c_typed.specs.Table.{type_in}
use Rattle.c_typed.specs.Views.{value_in, ValueStands}
use Rattle.c_typed.proofs.Grown.{void_stands}
use Rattle.c_rules.specs.Known as known
use Rattle.c_rules.specs.Known.{give, require, value_of_type}
use Rattle.c_rules.specs.Operators.{both_integers, converted, pointers_agree, agreed_pointer, integer_choice}
use Rattle.c_types_state.specs.Finding.{Finds, condition_in}
use Rattle.c_types_state.proofs.Findings.{finds-give}
use Rattle.c_types_state.specs.Operands.{operand_in, IsOperand}
use Rattle.c_types_state.proofs.Steps.{and_taken, and_left}
use Rattle.c_types_expressions.proofs.Agreed.{agreed_operand, agreed_test, choice-made}
use Rattle.c_types_expressions.proofs.binary.choice.Goals.{else-is_void-via-then-is_void+else-is_void-2, else-is_void-via-else-is_void}
use Rattle.c_types_expressions.proofs.binary.choice.Goals as goal

-- src/binary.rt:450:9
pub returns-then-is_void-2 : goal.returns-then-is_void-2
returns-then-is_void-2 c =
    let old = c.args.checker.now in
    let table = old.table in
    let whole = c.args.whole in
    let a = operand_in table c.args.then in
    let b = operand_in table c.args.otherwise in
    let tests = condition_in table c.args.condition in
    let void : number.CType = record { 0 = 0 } in
    let its = void_stands table void refl in
    let first : both_integers a b ≡ false = sym c.both_integers.ensures ∙ c.if-both_integers.false in
    let second : (T.is_void a.c_type && T.is_void b.c_type) ≡ true =
    and_taken _ _ _ (sym c.is_void.ensures ∙ c.if-is_void.true) (sym c.is_void-then-is_void.ensures ∙ c.if-is_void-2.true) in
    let on = c.in_ok-value.ensures.ok in
    let of_then = c.into_value.ensures in
    let of_otherwise = c.into_value-then-is_void-2.ensures in
    let made = c.of_type.ensures table its.0 (subst (ValueStands table) (sym on) (c.requires.condition, subst (λ (b : Box memory_value.Value Global). ValueStands table b.value) (sym of_then) c.requires.then.1, subst (λ (b : Box memory_value.Value Global). ValueStands table b.value) (sym of_otherwise) c.requires.otherwise.1)) in
    let plain = give (value_of_type T.Void (typed.Conditional tests.test (known.value_in a) (known.value_in b))) in
    let rule = require (pointers_agree a b) R.T11 whole (give (value_of_type (agreed_pointer a b) (typed.Conditional tests.test (converted whole (agreed_pointer a b) a) (converted whole (agreed_pointer a b) b)))) in
    subst (λ test. Finds IsOperand (if test then integer_choice tests a b else if T.is_void a.c_type && T.is_void b.c_type then plain else rule) old old (Some c.of_type.result)) (sym first)
    (subst (λ test. Finds IsOperand (if test then plain else rule) old old (Some c.of_type.result)) (sym second)
    (finds-give
    (made.0, made.1 ∙ (λ i. value_of_type (its.1 i) (value_in table (on i))) ∙ (λ i. value_of_type T.Void (typed.Conditional tests.test (value_in table (of_then i).value) (value_in table (of_otherwise i).value))))))

-- src/binary.rt:459:31
pub converted-requires-clause-operand : goal.converted-requires-clause-operand
converted-requires-clause-operand c =
    (agreed_operand c.args.checker.now c.require.new.self c.args.whole c.pointers_agree-agrees.result c.require.result c.require.ensures.result c.if-not-require.false c.require.ensures.noted c.agreed_pointer.new.checker c.args.then c.args.otherwise c.in_ok-c_type.c_type c.pointers_agree-agrees.ensures c.in_ok-c_type.ensures c.args.then c.requires.then).0

-- src/binary.rt:460:36
pub converted-requires-2-clause-operand : goal.converted-requires-2-clause-operand
converted-requires-2-clause-operand c =
    (agreed_operand c.args.checker.now c.require.new.self c.args.whole c.pointers_agree-agrees.result c.require.result c.require.ensures.result c.if-not-require.false c.require.ensures.noted c.agreed_pointer.new.checker c.args.then c.args.otherwise c.in_ok-c_type.c_type c.pointers_agree-agrees.ensures c.in_ok-c_type.ensures c.args.otherwise c.requires.otherwise).0

-- src/binary.rt:428:1
pub returns : goal.returns
returns c =
    let old = c.args.checker.now in
    let new = c.agreed_pointer.new.checker in
    let table = new.table in
    let a = operand_in old.table c.args.then in
    let b = operand_in old.table c.args.otherwise in
    let first : both_integers a b ≡ false = sym c.both_integers.ensures ∙ c.if-both_integers.false in
    let second : (T.is_void a.c_type && T.is_void b.c_type) ≡ false =
    elim c.else-is_void.branch [
      | else-is_void-via-then-is_void+else-is_void-2 w ↦ and_taken _ _ _ (sym c.is_void.ensures ∙ w.if-is_void.true) (sym w.is_void-then-is_void.ensures ∙ w.if-is_void-2.false)
      | else-is_void-via-else-is_void w ↦ and_left _ _ _ (sym c.is_void.ensures ∙ w.if-is_void.false) refl
    ] in
    let found = c.in_ok-c_type.ensures in
    let on = c.in_ok-value-2.ensures.ok in
    let test = agreed_test old c.require.new.self c.args.whole c.pointers_agree-agrees.result c.require.result c.require.ensures.result c.if-not-require.false c.require.ensures.noted new c.args.then c.args.otherwise c.in_ok-c_type.c_type c.pointers_agree-agrees.ensures found c.args.condition c.requires.condition in
    let x = value_in table c.in_ok-converted.field-0.value in
    let y = value_in table c.in_ok-converted-2.field-0.value in
    let z = value_in table c.args.condition.test.value in
    let made = c.of_type-2.ensures table found.known.0 (subst (ValueStands table) (sym on) (test.0, c.in_ok-converted.ensures.stands, c.in_ok-converted-2.ensures.stands)) in
    choice-made old c.require.new.self c.args.whole c.pointers_agree-agrees.result c.require.result c.require.ensures.result c.if-not-require.false c.require.ensures.noted new c.args.then c.args.otherwise c.in_ok-c_type.c_type c.pointers_agree-agrees.ensures found
    c.of_type-2.result x y c.requires.then c.requires.otherwise
    c.in_ok-converted.ensures.converted c.in_ok-converted-2.ensures.converted
    c.args.condition z refl c.requires.condition first false second refl
    (made.0, made.1 ∙ (λ i. value_of_type (type_in table c.in_ok-c_type.c_type) (value_in table (on i))))
