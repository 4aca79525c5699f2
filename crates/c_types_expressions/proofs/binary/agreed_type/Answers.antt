use Rattle.std.proofs.Common.{◌≡◌, false, ◌&&◌, refl, sym, ◌∙◌}
use Rattle.c_typed.specs.Types as T
use Rattle.c_types_state.specs.Operands.{operand_in}
use Rattle.c_types_state.proofs.Steps.{none_holds, and_taken, and_left}
use Rattle.c_types_expressions.proofs.binary.agreed_type.Goals.{else-is_pointer-via-then-is_pointer+else-b, else-is_pointer-via-else-is_pointer, else-is_pointer-2-via-then-is_pointer-2+else-a-2, else-is_pointer-2-via-else-is_pointer-2}
use Rattle.c_types_expressions.proofs.binary.agreed_type.Goals as goal

pub returns-clause-agreed : goal.returns-clause-agreed
returns-clause-agreed c =
    let table = c.args.checker.now.table in
    let a = operand_in table c.args.a.now in
    let b = operand_in table c.args.b.now in
    let first : (T.is_pointer a.c_type && b.is_null) ≡ false =
    elim c.else-is_pointer.branch [
      | else-is_pointer-via-then-is_pointer+else-b w ↦ and_taken _ _ _ (sym c.is_pointer.ensures ∙ w.if-is_pointer.true) w.if-b.false
      | else-is_pointer-via-else-is_pointer w ↦ and_left _ _ _ (sym c.is_pointer.ensures ∙ w.if-is_pointer.false) refl
    ] in
    let second : (T.is_pointer b.c_type && a.is_null) ≡ false =
    elim c.else-is_pointer-2.branch [
      | else-is_pointer-2-via-then-is_pointer-2+else-a-2 w ↦ and_taken _ _ _ (sym c.is_pointer-2.ensures ∙ w.if-is_pointer-2.true) w.if-a-2.false
      | else-is_pointer-2-via-else-is_pointer-2 w ↦ and_left _ _ _ (sym c.is_pointer-2.ensures ∙ w.if-is_pointer-2.false) refl
    ] in
    let third : T.same_type a.c_type b.c_type ≡ false = sym c.same.ensures ∙ c.if-same.false in
    sym (none_holds _ _ _ _ _ _ _ first second third)
