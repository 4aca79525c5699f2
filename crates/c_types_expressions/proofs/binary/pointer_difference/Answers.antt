use Rattle.std.proofs.Common.{◌≡◌, Box, Global, true, ◌&&◌, sym, subst, ◌∙◌}
use Rattle.c_typed.specs.Typed as typed
use Rattle.c_typed.specs.declared.typed.Value as memory_value
use Rattle.c_num.specs.declared.IntType.TheVariants as I
use Rattle.c_rules.specs.declared.rule.TypeRule.TheVariants as R
use Rattle.c_typed.specs.Types as T
use Rattle.c_typed.specs.Table.{type_in}
use Rattle.c_typed.specs.Views.{value_in, ValueStands}
use Rattle.c_typed.proofs.Grown.{integer_stands}
use Rattle.c_rules.specs.Known.{value_of_type}
use Rattle.c_rules.specs.Operators.{is_pointer_to_complete}
use Rattle.c_types_state.specs.NameTables.{State, scope_of}
use Rattle.c_types_state.proofs.Steps.{same_state, finds-here, finds-passed, and_taken, and_left}
use Rattle.c_types_expressions.proofs.binary.pointer_difference.Goals.{then-is_pointer, else-is_pointer}
use Rattle.c_types_expressions.proofs.binary.pointer_difference.Goals as goal

-- src/binary.rt:244:1
pub returns : goal.returns
returns c =
    let old = c.args.checker.now in
    let table = old.table in
    let whole = c.args.whole in
    let left = c.args.left in
    let right = c.args.right in
    let agreed : c.if-is_pointer.agrees ≡ true = sym c.require.ensures.result ∙ c.if-not-require.false in
    let agrees : (T.is_pointer (type_in table left.c_type) && T.same_type (type_in table left.c_type) (type_in table right.c_type)) ≡ c.if-is_pointer.agrees =
    elim c.if-is_pointer.branch [
      | then-is_pointer w ↦ and_taken _ _ _ (sym c.is_pointer.ensures ∙ w.if-is_pointer.true) (sym w.same-agrees.ensures ∙ sym w.agrees-is)
      | else-is_pointer w ↦ and_left _ _ _ (sym c.is_pointer.ensures ∙ w.if-is_pointer.false) (w.agrees-is ∙ w.if-is_pointer.false)
    ] in
    let same : c.require.new.self ≡ old = same_state R.T11 whole agreed c.require.ensures.noted in
    let complete : c.is_pointer_to_complete-is_complete.result ≡ true = sym c.require-2.ensures.result ∙ c.if-not-require-2.false in
    let same-2 : c.require-2.new.self ≡ c.require.new.self = same_state R.T14 whole complete c.require-2.ensures.noted in
    let is_complete : c.is_pointer_to_complete-is_complete.result ≡ is_pointer_to_complete (scope_of old) (type_in table left.c_type) =
    subst (λ (s : State). c.is_pointer_to_complete-is_complete.result ≡ is_pointer_to_complete (scope_of s) (type_in s.table left.c_type)) same c.is_pointer_to_complete-is_complete.ensures in
    let on = c.in_ok-value.ensures.ok in
    let of_left = c.into_value.ensures in
    let of_right = c.into_value-2.ensures in
    let its_type = T.Integer I.Long in
    let its = integer_stands table c.integer.result I.Long c.integer.ensures in
    let made = c.of_type.ensures table its.0 (subst (ValueStands table) (sym on) (subst (λ (b : Box memory_value.Value Global). ValueStands table b.value) (sym of_left) c.requires.left.1, subst (λ (b : Box memory_value.Value Global). ValueStands table b.value) (sym of_right) c.requires.right.1)) in
    finds-passed R.T11 whole agrees agreed
    (finds-passed R.T14 whole (sym is_complete) complete
    (finds-here (same-2 ∙ same)
    (made.0, made.1 ∙ (λ i. value_of_type (its.1 i) (value_in table (on i))) ∙ (λ i. value_of_type its_type (typed.PointerDifference whole (value_in table (of_left i).value) (value_in table (of_right i).value))))))
