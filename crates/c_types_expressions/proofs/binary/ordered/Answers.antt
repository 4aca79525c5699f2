use Rattle.std.proofs.Common.{◌≡◌, Box, Global, true, false, ◌&&◌, Some, sym, subst, ◌∙◌, if◌then◌else◌}
use Rattle.c_num.specs.declared.IntType.TheVariants as I
use Rattle.c_rules.specs.declared.rule.TypeRule.TheVariants as R
use Rattle.c_typed.specs.Types as T
use Rattle.c_typed.specs.Typed as typed
use Rattle.c_typed.specs.declared.typed.Value as memory_value
use Rattle.c_typed.specs.Table.{type_in}
use Rattle.c_typed.specs.Views.{value_in, ValueStands}
use Rattle.c_typed.proofs.Grown.{integer_stands}
use Rattle.c_rules.specs.Known.{value_of_type, give, require}
use Rattle.c_rules.specs.Operators.{both_integers, compared}
use Rattle.c_types_state.specs.Finding.{Finds}
use Rattle.c_types_state.specs.Operands.{operand_in, IsOperand}
use Rattle.c_types_state.proofs.Steps.{same_state, finds-here, finds-passed, and_taken, and_left}
use Rattle.c_types_expressions.proofs.binary.ordered.Goals.{then-is_object_pointer, else-is_object_pointer}
use Rattle.c_types_expressions.proofs.binary.ordered.Goals as goal

-- src/binary.rt:293:1
pub returns : goal.returns
returns c =
    let old = c.args.checker.now in
    let table = old.table in
    let whole = c.args.whole in
    let left = c.args.left in
    let right = c.args.right in
    let a = operand_in table left in
    let b = operand_in table right in
    let first : both_integers a b ≡ false = sym c.both_integers.ensures ∙ c.if-both_integers.false in
    let agreed : c.if-is_object_pointer.agrees ≡ true = sym c.require.ensures.result ∙ c.if-not-require.false in
    let agrees : (T.is_object_pointer (type_in table left.c_type) && T.same_type (type_in table left.c_type) (type_in table right.c_type)) ≡ c.if-is_object_pointer.agrees =
    elim c.if-is_object_pointer.branch [
      | then-is_object_pointer w ↦ and_taken _ _ _ (sym c.is_object_pointer.ensures ∙ w.if-is_object_pointer.true) (sym w.same-agrees.ensures ∙ sym w.agrees-is)
      | else-is_object_pointer w ↦ and_left _ _ _ (sym c.is_object_pointer.ensures ∙ w.if-is_object_pointer.false) (w.agrees-is ∙ w.if-is_object_pointer.false)
    ] in
    let same : c.require.new.self ≡ old = same_state R.T11 whole agreed c.require.ensures.noted in
    let on = c.in_ok-value.ensures.ok in
    let of_left = c.into_value.ensures in
    let of_right = c.into_value-2.ensures in
    let its_type = T.Integer I.Int in
    let its = integer_stands table c.integer.result I.Int c.integer.ensures in
    let made = c.of_type.ensures table its.0 (subst (ValueStands table) (sym on) (subst (λ (b : Box memory_value.Value Global). ValueStands table b.value) (sym of_left) c.requires.left.1, subst (λ (b : Box memory_value.Value Global). ValueStands table b.value) (sym of_right) c.requires.right.1)) in
    let rule = require (T.is_object_pointer a.c_type && T.same_type a.c_type b.c_type) R.T11 whole (give (value_of_type T.int (typed.ComparePointers c.args.relation whole (value_in table left.value.value) (value_in table right.value.value)))) in
    subst (λ test. Finds IsOperand (if test then compared c.args.relation a b else rule) old c.require.new.self (Some c.of_type.result)) (sym first)
    (finds-passed R.T11 whole agrees agreed
    (finds-here same
    (made.0, made.1 ∙ (λ i. value_of_type (its.1 i) (value_in table (on i))) ∙ (λ i. value_of_type its_type (typed.ComparePointers c.args.relation whole (value_in table (of_left i).value) (value_in table (of_right i).value))))))
