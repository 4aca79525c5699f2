use Rattle.std.proofs.Common.{ℤ, FitsSigned, to_z-of_z, sym, subst, ◌∙◌}
use Rattle.std.specs.Int.{w128}
use Rattle.c_typed.specs.Views.{object_in}
use Rattle.ref_semantics.specs.Pointers.{added}
use Rattle.ref_semantics.specs.Parts.{address_of_both}
use Rattle.ref_meaning.specs.RefStore.Views.{scalar_in}
use Rattle.ref_meaning.specs.RefStore.Holding.{CallGives}
use Rattle.ref_meaning.proofs.operand.after_address.Goals as goal

pub returns-in-Element-clause-gives : goal.returns-in-Element-clause-gives
returns-in-Element-clause-gives c = λ around base.
    let store = c.args.store.now in
    let table = store.types.now in
    let a = scalar_in table c.args.first in
    let b = scalar_in table c.args.second in
    let fits : FitsSigned w128 c.integer.result = record { sfits = c.integer.type_inv } in
    subst (λ object. CallGives around store store base (scalar_in table) (address_of_both (object_in table object) a b) c.added.result) (sym c.in-Element.is)
    (subst (λ (z : ℤ). CallGives around store store base (scalar_in table) (added c.in-Element.place a z) c.added.result) (to_z-of_z fits ∙ c.integer.ensures table) (c.added.ensures.gives around base))

pub returns-in-ElementOf-clause-gives : goal.returns-in-ElementOf-clause-gives
returns-in-ElementOf-clause-gives c = λ around base.
    let store = c.args.store.now in
    let table = store.types.now in
    let a = scalar_in table c.args.first in
    let b = scalar_in table c.args.second in
    let fits : FitsSigned w128 c.integer-in-ElementOf.result = record { sfits = c.integer-in-ElementOf.type_inv } in
    subst (λ object. CallGives around store store base (scalar_in table) (address_of_both (object_in table object) a b) c.added-in-ElementOf.result) (sym c.in-ElementOf.is)
    (subst (λ (z : ℤ). CallGives around store store base (scalar_in table) (added c.in-ElementOf.place b z) c.added-in-ElementOf.result) (to_z-of_z fits ∙ c.integer-in-ElementOf.ensures table) (c.added-in-ElementOf.ensures.gives around base))
