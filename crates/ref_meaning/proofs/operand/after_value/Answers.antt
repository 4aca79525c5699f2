use Rattle.std.proofs.Common.{ℤ, neg_ℤ, FitsSigned, to_z-of_z, sym, subst, ◌∙◌}
use Rattle.std.specs.Int.{w128}
use Rattle.c_typed.specs.Views.{value_in}
use Rattle.ref_semantics.specs.Pointers.{added}
use Rattle.ref_semantics.specs.Parts.{value_of_both}
use Rattle.ref_meaning.specs.RefStore.Views.{scalar_in}
use Rattle.ref_meaning.specs.RefStore.Holding.{CallGives}
use Rattle.ref_meaning.proofs.Leftover.{is-assignment}
use Rattle.ref_meaning.proofs.operand.after_value.Goals as goal

pub returns-in-Arithmetic-clause-gives : goal.returns-in-Arithmetic-clause-gives
returns-in-Arithmetic-clause-gives c = λ around base.
    let store = c.args.store.now in
    let table = store.types.now in
    let a = scalar_in table c.args.first in
    let b = scalar_in table c.args.second in
    subst (λ v. CallGives around store store base (scalar_in table) (value_of_both around (value_in table v) a b) c.arithmetic.result) (sym c.in-Arithmetic.is) (c.arithmetic.ensures.gives around store base)

pub returns-in-Arithmetic-clause-stands : goal.returns-in-Arithmetic-clause-stands
returns-in-Arithmetic-clause-stands c = c.arithmetic.ensures.stands c.args.store.now.types.now

pub returns-in-Compare-clause-stands : goal.returns-in-Compare-clause-stands
returns-in-Compare-clause-stands c = c.truth.ensures.stands c.args.store.now.types.now

pub returns-in-ComparePointers-clause-gives : goal.returns-in-ComparePointers-clause-gives
returns-in-ComparePointers-clause-gives c = λ around base.
    let store = c.args.store.now in
    let table = store.types.now in
    let a = scalar_in table c.args.first in
    let b = scalar_in table c.args.second in
    subst (λ v. CallGives around store store base (scalar_in table) (value_of_both around (value_in table v) a b) c.compared.result) (sym c.in-ComparePointers.is) (c.compared.ensures.gives around base)

pub returns-in-PointerPlus-clause-gives : goal.returns-in-PointerPlus-clause-gives
returns-in-PointerPlus-clause-gives c = λ around base.
    let store = c.args.store.now in
    let table = store.types.now in
    let a = scalar_in table c.args.first in
    let b = scalar_in table c.args.second in
    let fits : FitsSigned w128 c.integer-in-PointerPlus.result = record { sfits = c.integer-in-PointerPlus.type_inv } in
    subst (λ v. CallGives around store store base (scalar_in table) (value_of_both around (value_in table v) a b) c.added.result) (sym c.in-PointerPlus.is)
    (subst (λ (z : ℤ). CallGives around store store base (scalar_in table) (added c.in-PointerPlus.place a z) c.added.result) (to_z-of_z fits ∙ c.integer-in-PointerPlus.ensures table) (c.added.ensures.gives around base))

pub returns-in-NumberPlus-clause-gives : goal.returns-in-NumberPlus-clause-gives
returns-in-NumberPlus-clause-gives c = λ around base.
    let store = c.args.store.now in
    let table = store.types.now in
    let a = scalar_in table c.args.first in
    let b = scalar_in table c.args.second in
    let fits : FitsSigned w128 c.integer-in-NumberPlus.result = record { sfits = c.integer-in-NumberPlus.type_inv } in
    subst (λ v. CallGives around store store base (scalar_in table) (value_of_both around (value_in table v) a b) c.added-in-NumberPlus.result) (sym c.in-NumberPlus.is)
    (subst (λ (z : ℤ). CallGives around store store base (scalar_in table) (added c.in-NumberPlus.place b z) c.added-in-NumberPlus.result) (to_z-of_z fits ∙ c.integer-in-NumberPlus.ensures table) (c.added-in-NumberPlus.ensures.gives around base))

pub returns-in-PointerMinus-clause-gives : goal.returns-in-PointerMinus-clause-gives
returns-in-PointerMinus-clause-gives c = λ around base.
    let store = c.args.store.now in
    let table = store.types.now in
    let a = scalar_in table c.args.first in
    let b = scalar_in table c.args.second in
    let fits : FitsSigned w128 c.integer-in-PointerMinus.result = record { sfits = c.integer-in-PointerMinus.type_inv } in
    subst (λ v. CallGives around store store base (scalar_in table) (value_of_both around (value_in table v) a b) c.added-in-PointerMinus.result) (sym c.in-PointerMinus.is)
    (subst (λ (z : ℤ). CallGives around store store base (scalar_in table) (added c.in-PointerMinus.place a (neg_ℤ z)) c.added-in-PointerMinus.result) (to_z-of_z fits ∙ c.integer-in-PointerMinus.ensures table) (c.added-in-PointerMinus.ensures.gives around base))

pub returns-in-PointerDifference-clause-gives : goal.returns-in-PointerDifference-clause-gives
returns-in-PointerDifference-clause-gives c = λ around base.
    let store = c.args.store.now in
    let table = store.types.now in
    let a = scalar_in table c.args.first in
    let b = scalar_in table c.args.second in
    subst (λ v. CallGives around store store base (scalar_in table) (value_of_both around (value_in table v) a b) c.difference.result) (sym c.in-PointerDifference.is) (c.difference.ensures.gives around base)

pub returns-in-Assign-clause-gives : goal.returns-in-Assign-clause-gives
returns-in-Assign-clause-gives c = λ around base. c.after_assigned.ensures.gives around base (is-assignment c.args.store.now.types.now c.args.value.now c.in-Assign.is)
