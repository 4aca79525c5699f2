use Rattle.std.proofs.Common.{◌≡◌, false, ◌&&◌, None, refl, sym, subst, ◌∙◌}
use Rattle.c_rules.specs.declared.rule.TypeRule.TheVariants as R
use Rattle.c_typed.specs.Types as T
use Rattle.c_rules.specs.Known.{refuse}
use Rattle.c_rules.specs.Operators.{both_integers, sum}
use Rattle.c_types_state.specs.NameTables.{scope_of}
use Rattle.c_types_state.specs.Finding.{Finds}
use Rattle.c_types_state.proofs.Findings.{finds-refuse-lesser}
use Rattle.c_types_state.specs.Operands.{operand_in, IsOperand}
use Rattle.c_types_state.proofs.Steps.{none_holds, and_taken, and_left}
use Rattle.c_types_expressions.proofs.binary.sum.Goals.{else-is_pointer-via-then-is_pointer+else-is_integer, else-is_pointer-via-else-is_pointer, else-is_integer-2-via-then-is_integer-2+else-is_pointer-2, else-is_integer-2-via-else-is_integer-2}
use Rattle.c_types_expressions.proofs.binary.sum.Goals as goal

pub moved_pointer-requires-clause-address : goal.moved_pointer-requires-clause-address
moved_pointer-requires-clause-address c = c.moved-address.ensures.stands c.args.checker.now.table c.requires.left.2

pub moved_pointer-requires-then-is_pointer-2-clause-address : goal.moved_pointer-requires-then-is_pointer-2-clause-address
moved_pointer-requires-then-is_pointer-2-clause-address c = c.moved-address-then-is_pointer-2.ensures.stands c.args.checker.now.table c.requires.right.2

pub returns : goal.returns
returns c =
    let old = c.args.checker.now in
    let a = operand_in old.table c.args.left in
    let b = operand_in old.table c.args.right in
    let first : both_integers a b ≡ false = sym c.both_integers.ensures ∙ c.if-both_integers.false in
    let second : (T.is_pointer a.c_type && T.is_integer b.c_type) ≡ false =
    elim c.else-is_pointer.branch [
      | else-is_pointer-via-then-is_pointer+else-is_integer w ↦ and_taken _ _ _ (sym c.is_pointer.ensures ∙ w.if-is_pointer.true) (sym w.is_integer.ensures ∙ w.if-is_integer.false)
      | else-is_pointer-via-else-is_pointer w ↦ and_left _ _ _ (sym c.is_pointer.ensures ∙ w.if-is_pointer.false) refl
    ] in
    let third : (T.is_integer a.c_type && T.is_pointer b.c_type) ≡ false =
    elim c.else-is_integer-2.branch [
      | else-is_integer-2-via-then-is_integer-2+else-is_pointer-2 w ↦ and_taken _ _ _ (sym c.is_integer-2.ensures ∙ w.if-is_integer-2.true) (sym w.is_pointer-then-is_integer-2.ensures ∙ w.if-is_pointer-2.false)
      | else-is_integer-2-via-else-is_integer-2 w ↦ and_left _ _ _ (sym c.is_integer-2.ensures ∙ w.if-is_integer-2.false) refl
    ] in
    let is : sum (scope_of old) c.args.whole a b ≡ refuse R.T11 c.args.whole = none_holds _ _ _ _ _ _ _ first second third in
    subst (λ checked. Finds IsOperand checked old c.note.new.self None) (sym is) (finds-refuse-lesser R.T11 c.args.whole c.note.ensures)
