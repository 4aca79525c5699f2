use Rattle.std.proofs.Common.{◌≡◌, Ok, FitsSigned, to_z, of_z, to_z-of_z, sym, ap, subst, ◌∙◌}
use Rattle.std.specs.Int.{w128}
use Rattle.c_num.specs.Conversion.{convert_to}
use Rattle.c_num.specs.Arith.{IsRightOperand, outcome_of}
use Rattle.c_num.proofs.Words.{value_fits}
use Rattle.c_typed.specs.Table.{empty}
use Rattle.ref_semantics.specs.Values.{integer_of}
use Rattle.ref_semantics.specs.Meaning.{arithmetic, right_of}
use Rattle.ref_meaning.specs.RefStore.Views.{scalar_in}
use Rattle.ref_meaning.specs.RefStore.Holding.{IsUndefined}
use Rattle.ref_meaning.proofs.Both.{shifts-right, other-right, no_shift, right-fits, comes-arithmetic, undefined-arithmetic}
use Rattle.ref_meaning.proofs.operand.arithmetic.Goals as goal
use Rattle.ref_meaning.proofs.operand.arithmetic.Goals.{in-Shl, in_default}

pub binary-requires-clause-right : goal.binary-requires-clause-right
binary-requires-clause-right c =
    let op = c.args.op in
    let t = c.args.int_type in
    let right : to_z w128 c.match-op.right-bits ≡ right_of op t (integer_of (scalar_in empty c.args.right)) = elim c.match-op.branch [
      | in-Shl w ↦
          let fits : FitsSigned w128 w.integer-right.result = record { sfits = w.integer-right.type_inv } in
          w.right-is ∙ (to_z-of_z fits ∙ (w.integer-right.ensures empty ∙ sym (shifts-right op t (integer_of (scalar_in empty c.args.right)) w.in-Shl.is)))
      | in_default w ↦
          let fits : FitsSigned w128 w.integer.result = record { sfits = w.integer.type_inv } in
          let converts : FitsSigned w128 w.convert-right.result = record { sfits = w.convert-right.type_inv } in
          w.right-is ∙ (to_z-of_z converts ∙ (w.convert-right.ensures.value ∙ (ap (convert_to t) (to_z-of_z fits ∙ w.integer.ensures empty)
          ∙ sym (other-right op t (integer_of (scalar_in empty c.args.right)) (no_shift op w.in_default.not-Shl w.in_default.not-Shr)))))
    ] in
    subst (IsRightOperand op t) (sym right) (right-fits op t (integer_of (scalar_in empty c.args.right)))

pub returns-in-Ok-clause-gives : goal.returns-in-Ok-clause-gives
returns-in-Ok-clause-gives c = λ around store base.
    let op = c.args.op in
    let t = c.args.int_type in
    let table = store.types.now in
    let right : to_z w128 c.match-op.right-bits ≡ right_of op t (integer_of (scalar_in table c.args.right)) = elim c.match-op.branch [
      | in-Shl w ↦
          let fits : FitsSigned w128 w.integer-right.result = record { sfits = w.integer-right.type_inv } in
          w.right-is ∙ (to_z-of_z fits ∙ (w.integer-right.ensures table ∙ sym (shifts-right op t (integer_of (scalar_in table c.args.right)) w.in-Shl.is)))
      | in_default w ↦
          let fits : FitsSigned w128 w.integer.result = record { sfits = w.integer.type_inv } in
          let converts : FitsSigned w128 w.convert-right.result = record { sfits = w.convert-right.type_inv } in
          w.right-is ∙ (to_z-of_z converts ∙ (w.convert-right.ensures.value ∙ (ap (convert_to t) (to_z-of_z fits ∙ w.integer.ensures table)
          ∙ sym (other-right op t (integer_of (scalar_in table c.args.right)) (no_shift op w.in_default.not-Shl w.in_default.not-Shr)))))
    ] in
    let fits : FitsSigned w128 c.integer-2.result = record { sfits = c.integer-2.type_inv } in
    let converts : FitsSigned w128 c.convert.result = record { sfits = c.convert.type_inv } in
    let left : to_z w128 (of_z w128 c.convert.result) ≡ convert_to t (integer_of (scalar_in table c.args.left)) = to_z-of_z converts ∙ (c.convert.ensures.value ∙ ap (convert_to t) (to_z-of_z fits ∙ c.integer-2.ensures table)) in
    comes-arithmetic around store base op t c.args.here (scalar_in table c.args.left) (scalar_in table c.args.right) (to_z w128 (of_z w128 c.in-Ok.value))
    (ap Ok (to_z-of_z (value_fits t c.in-Ok.value c.in-Ok.ensures.in_range)) ∙ (sym c.in-Ok.is ∙ (c.binary.ensures.outcome ∙ (λ i. outcome_of op t (left i) (right i)))))

pub returns-in-Err-clause-gives : goal.returns-in-Err-clause-gives
returns-in-Err-clause-gives c = λ around store base state at.
    let op = c.args.op in
    let t = c.args.int_type in
    let table = store.types.now in
    let a = scalar_in table c.args.left in
    let b = scalar_in table c.args.right in
    let right : to_z w128 c.match-op.right-bits ≡ right_of op t (integer_of (scalar_in table c.args.right)) = elim c.match-op.branch [
      | in-Shl w ↦
          let fits : FitsSigned w128 w.integer-right.result = record { sfits = w.integer-right.type_inv } in
          w.right-is ∙ (to_z-of_z fits ∙ (w.integer-right.ensures table ∙ sym (shifts-right op t (integer_of (scalar_in table c.args.right)) w.in-Shl.is)))
      | in_default w ↦
          let fits : FitsSigned w128 w.integer.result = record { sfits = w.integer.type_inv } in
          let converts : FitsSigned w128 w.convert-right.result = record { sfits = w.convert-right.type_inv } in
          w.right-is ∙ (to_z-of_z converts ∙ (w.convert-right.ensures.value ∙ (ap (convert_to t) (to_z-of_z fits ∙ w.integer.ensures table)
          ∙ sym (other-right op t (integer_of (scalar_in table c.args.right)) (no_shift op w.in_default.not-Shl w.in_default.not-Shr)))))
    ] in
    let fits : FitsSigned w128 c.integer-2.result = record { sfits = c.integer-2.type_inv } in
    let converts : FitsSigned w128 c.convert.result = record { sfits = c.convert.type_inv } in
    let left : to_z w128 (of_z w128 c.convert.result) ≡ convert_to t (integer_of (scalar_in table c.args.left)) = to_z-of_z converts ∙ (c.convert.ensures.value ∙ ap (convert_to t) (to_z-of_z fits ∙ c.integer-2.ensures table)) in
    subst (λ kind. IsUndefined (arithmetic op t c.args.here a b) state kind c.args.here) (sym c.kind_of.ensures)
    (undefined-arithmetic around store base op t c.args.here a b c.in-Err.kind (sym c.in-Err.is ∙ (c.binary.ensures.outcome ∙ (λ i. outcome_of op t (left i) (right i)))) state)
