use Rattle.std.proofs.Common.{◌≡◌, true, false, Some, sym, ap, subst, ◌∙◌, if◌then◌else◌}
use Rattle.c_num.specs.declared.IntType.TheVariants as I
use Rattle.c_rules.specs.declared.rule.TypeRule.TheVariants as R
use Rattle.c_typed.specs.Types as T
use Rattle.c_typed.specs.Typed as typed
use Rattle.c_typed.specs.Table.{Stands, type_in}
use Rattle.c_typed.specs.Views.{value_in, ValueStands}
use Rattle.c_typed.proofs.Grown.{integer_stands}
use Rattle.c_rules.specs.Known.{value_of_type, give, require}
use Rattle.c_rules.specs.Operators.{both_integers, compared, pointers_agree, agreed_pointer, target_of, unconverted_value}
use Rattle.c_types_state.specs.NameTables.{State}
use Rattle.c_types_state.specs.Finding.{Finds}
use Rattle.c_types_state.specs.Operands.{operand_in, IsOperand}
use Rattle.c_types_state.proofs.Steps.{same_state, finds-here, finds-passed}
use Rattle.c_types_expressions.proofs.binary.equated.Goals as goal

pub returns : goal.returns
returns c =
    let old = c.args.checker.now in
    let table = old.table in
    let whole = c.args.whole in
    let a = operand_in table c.args.left in
    let b = operand_in table c.args.right in
    let first : both_integers a b ≡ false = sym c.both_integers.ensures ∙ c.if-both_integers.false in
    let agreed : c.pointers_agree-agrees.result ≡ true = sym c.require.ensures.result ∙ c.if-not-require.false in
    let same : c.require.new.self ≡ old = same_state R.T11 whole agreed c.require.ensures.noted in
    let on = c.in_ok-value.ensures.ok in
    let target = c.agreed_target-target.result in
    let stands : Stands table target = subst (λ (s : State). Stands s.table target) same c.agreed_target-target.ensures.stands in
    let its_target = target_of (agreed_pointer a b) in
    let to : type_in table target ≡ its_target =
    subst (λ (s : State). type_in s.table target ≡ target_of (agreed_pointer (operand_in s.table c.args.left) (operand_in s.table c.args.right))) same c.agreed_target-target.ensures.target in
    let on_left = c.in_ok-unconverted.ensures.unconverted table ∙ ap (λ (to : T.CType). unconverted_value to a) to in
    let on_right = c.in_ok-unconverted-2.ensures.unconverted table ∙ ap (λ (to : T.CType). unconverted_value to b) to in
    let its = integer_stands table c.integer.result I.Int c.integer.ensures in
    let made = c.of_type.ensures table its.0 (subst (ValueStands table) (sym on) (c.in_ok-unconverted.ensures.stands table stands c.requires.left, c.in_ok-unconverted-2.ensures.stands table stands c.requires.right)) in
    let rule = require (pointers_agree a b) R.T11 whole (give (value_of_type T.int (typed.ComparePointers c.args.relation whole (unconverted_value its_target a) (unconverted_value its_target b)))) in
    subst (λ test. Finds IsOperand (if test then compared c.args.relation a b else rule) old c.require.new.self (Some c.of_type.result)) (sym first)
    (finds-passed R.T11 whole (sym c.pointers_agree-agrees.ensures) agreed
    (finds-here same
    (made.0, made.1 ∙ (λ i. value_of_type (its.1 i) (value_in table (on i))) ∙ (λ i. value_of_type T.int (typed.ComparePointers c.args.relation whole (on_left i) (on_right i))))))
