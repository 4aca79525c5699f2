use Rattle.std.proofs.Common.{◌≡◌, Ok, subst, ℤ, pos, negsuc, neg_ℤ, ◌-ℤ◌, FitsSigned, to_z, of_z, to_z-of_z, arith, refl, sym, ap, ◌∙◌}
use Rattle.std.specs.Int.{w128}
use Rattle.std.proofs.lemmas.Int.{ints}
use Rattle.c_num.specs.declared.BinOp.TheVariants as B
use Rattle.c_num.specs.Conversion.{convert_to}
use Rattle.c_typed.specs.Table.{type_in}
use Rattle.ref_semantics.specs.Values.{Place, IntegerValue, PointerValue}
use Rattle.ref_semantics.specs.Store.{give, decayed}
use Rattle.ref_semantics.specs.Pointers.{read, repointed, tested}
use Rattle.ref_semantics.specs.Meaning.{arithmetic}
use Rattle.ref_semantics.specs.Parts.{Comes, comes, step_integer, step_pointer}
use Rattle.ref_meaning.specs.declared.value.Scalar.TheVariants as M
use Rattle.ref_meaning.specs.RefStore.Views.{place_in, scalar_in}
use Rattle.ref_meaning.specs.declared.first_operand.Next.TheVariants as X
use Rattle.ref_meaning.specs.Nexts.{scalar_next}
use Rattle.ref_meaning.proofs.Nexts.{value_nexts, form-next, form-scalar, form-found, gives-next, scalar_next-stands, stands-is}
use Rattle.ref_meaning.proofs.LastOperands.{value_last}
use Rattle.ref_meaning.specs.declared.control.Node.TheVariants as N
use Rattle.ref_meaning.specs.Holding.{IsPlaced}
use Rattle.ref_meaning.proofs.RowElements.{pointed-element}
use Rattle.ref_meaning.proofs.first_operand.after_value.Goals as goal

pub returns-in-Read-clause-gives : goal.returns-in-Read-clause-gives
returns-in-Read-clause-gives c = λ around base.
    let store = c.args.store.now in
    let table = store.types.now in
    form-scalar around base store c.args.first (value_nexts around base store c.args.first) c.args.value.now _ c.in-Read.is store
    (read around c.in-Read.place (place_in table c.place.result)) c.read.result c.given.result
    (ap (λ (p : Place). comes (read around c.in-Read.place p)) (sym (c.place.ensures.means table))) c.given.ensures (c.read.ensures.gives around base)

pub returns-in-Read-clause-stands : goal.returns-in-Read-clause-stands
returns-in-Read-clause-stands c =
    let store = c.args.store.now in
    let table = store.types.now in
    stands-is table (scalar_next c.read.result) c.given.result c.given.ensures (scalar_next-stands table c.read.result (c.read.ensures.stands c.requires.store.around c.requires.store.base c.requires.store.state c.requires.store.at))

pub decayed-requires-clause-element : goal.decayed-requires-clause-element
decayed-requires-clause-element c =
    let table = c.args.store.now.types.now in
    pointed-element table c.args.first c.place-in-Decay.result (c.place-in-Decay.ensures.means table) (c.requires.placed (subst (λ value. IsPlaced (N.Value (record c.args.value { now = value }))) (sym c.in-Decay.is) tt))

pub returns-in-Decay-clause-gives : goal.returns-in-Decay-clause-gives
returns-in-Decay-clause-gives c = λ around base.
    let store = c.args.store.now in
    let table = store.types.now in
    form-found around base store c.args.first (value_nexts around base store c.args.first) c.args.value.now _ c.in-Decay.is
    (decayed around (place_in table c.place-in-Decay.result)) (Ok c.decayed.result) c.pointed.result
    (ap (λ (p : Place). give (Comes (PointerValue (decayed around p)))) (sym (c.place-in-Decay.ensures.means table))) c.pointed.ensures (λ state at. c.decayed.ensures.found around at.structs) tt

pub returns-in-Converted-clause-stands : goal.returns-in-Converted-clause-stands
returns-in-Converted-clause-stands c = c.converted.ensures.stands c.args.store.now.types.now

pub returns-in-Repointed-clause-gives : goal.returns-in-Repointed-clause-gives
returns-in-Repointed-clause-gives c = λ around base.
    let store = c.args.store.now in
    let table = store.types.now in
    let a = scalar_in table c.args.first in
    form-scalar around base store c.args.first (value_nexts around base store c.args.first) c.args.value.now _ c.in-Repointed.is c.repointed.new.self
    (repointed around c.in-Repointed.place (type_in table c.in-Repointed.target) a) c.repointed.result c.given-in-Repointed.result
    refl c.given-in-Repointed.ensures (c.repointed.ensures.gives around base)

pub returns-in-Tested-clause-gives : goal.returns-in-Tested-clause-gives
returns-in-Tested-clause-gives c = λ around base.
    let store = c.args.store.now in
    let table = store.types.now in
    let a = scalar_in table c.args.first in
    form-scalar around base store c.args.first (value_nexts around base store c.args.first) c.args.value.now _ c.in-Tested.is store
    (tested c.in-Tested.place a) c.tested.result c.given-in-Tested.result
    refl c.given-in-Tested.ensures (c.tested.ensures.gives around base)

pub returns-in-Minus-clause-gives : goal.returns-in-Minus-clause-gives
returns-in-Minus-clause-gives c = λ around base.
    let store = c.args.store.now in
    let table = store.types.now in
    let a = scalar_in table c.args.first in
    form-scalar around base store c.args.first (value_nexts around base store c.args.first) c.args.value.now _ c.in-Minus.is store
    (arithmetic B.Sub c.in-Minus.int_type c.in-Minus.place (IntegerValue (pos 0)) a) c.arithmetic.result c.given-in-Minus.result
    refl c.given-in-Minus.ensures (c.arithmetic.ensures.gives around store base)

pub returns-in-Minus-clause-stands : goal.returns-in-Minus-clause-stands
returns-in-Minus-clause-stands c =
    let store = c.args.store.now in
    let table = store.types.now in
    stands-is table (scalar_next c.arithmetic.result) c.given-in-Minus.result c.given-in-Minus.ensures (scalar_next-stands table c.arithmetic.result (c.arithmetic.ensures.stands table))

pub returns-in-Complement-clause-gives : goal.returns-in-Complement-clause-gives
returns-in-Complement-clause-gives c = λ around base.
    let store = c.args.store.now in
    let table = store.types.now in
    let t = c.in-Complement.int_type in
    let n = c.integer.result in
    let fits : FitsSigned w128 n = record { sfits = c.integer.type_inv } in
    let converts : FitsSigned w128 c.convert.result = record { sfits = c.convert.type_inv } in
    let e : to_z w128 (of_z w128 (negsuc 0 -ℤ to_z w128 (of_z w128 n))) ≡ (neg_ℤ n -ℤ pos 1) = omega (arith, ints) in
    form-next around base store c.args.first (value_nexts around base store c.args.first) c.args.value.now _ c.in-Complement.is (X.Given (M.Integer (to_z w128 (of_z w128 c.convert.result))))
    (ap (λ (z : ℤ). give (Comes (IntegerValue z)))
    (ap (λ (z : ℤ). convert_to t (neg_ℤ z -ℤ pos 1)) (sym (c.integer.ensures table)) ∙ (sym (ap (convert_to t) e) ∙ (sym c.convert.ensures.value ∙ sym (to_z-of_z converts)))))

pub returns-in-Not-clause-stands : goal.returns-in-Not-clause-stands
returns-in-Not-clause-stands c = c.truth.ensures.stands c.args.store.now.types.now

pub returns-else-is_true-clause-stands : goal.returns-else-is_true-clause-stands
returns-else-is_true-clause-stands c = c.truth-else-is_true.ensures.stands c.args.store.now.types.now

pub returns-then-is_true-2-clause-stands : goal.returns-then-is_true-2-clause-stands
returns-then-is_true-2-clause-stands c = c.truth-then-is_true-2.ensures.stands c.args.store.now.types.now

pub returns-in-StepInteger-clause-gives : goal.returns-in-StepInteger-clause-gives
returns-in-StepInteger-clause-gives c = λ around base.
    let store = c.args.store.now in
    let table = store.types.now in
    form-scalar around base store c.args.first (value_nexts around base store c.args.first) c.args.value.now _ c.in-StepInteger.is c.step_integer.new.store
    (step_integer around c.in-StepInteger.stepping c.in-StepInteger.place c.in-StepInteger.int_type (place_in table c.place-in-StepInteger.result)) c.step_integer.result c.given-in-StepInteger.result
    (ap (λ (p : Place). comes (step_integer around c.in-StepInteger.stepping c.in-StepInteger.place c.in-StepInteger.int_type p)) (sym (c.place-in-StepInteger.ensures.means table))) c.given-in-StepInteger.ensures (c.step_integer.ensures.gives around base)

pub returns-in-StepPointer-clause-gives : goal.returns-in-StepPointer-clause-gives
returns-in-StepPointer-clause-gives c = λ around base.
    let store = c.args.store.now in
    let table = store.types.now in
    form-scalar around base store c.args.first (value_nexts around base store c.args.first) c.args.value.now _ c.in-StepPointer.is c.step_pointer.new.store
    (step_pointer around c.in-StepPointer.stepping c.in-StepPointer.place (place_in table c.place-in-StepPointer.result)) c.step_pointer.result c.given-in-StepPointer.result
    (ap (λ (p : Place). comes (step_pointer around c.in-StepPointer.stepping c.in-StepPointer.place p)) (sym (c.place-in-StepPointer.ensures.means table))) c.given-in-StepPointer.ensures (c.step_pointer.ensures.gives around base)

pub returns-in_default-clause-gives : goal.returns-in_default-clause-gives
returns-in_default-clause-gives c = λ around base.
    let store = c.args.store.now in
    let table = store.types.now in
    let a = scalar_in table c.args.first in
    gives-next around base store (value_nexts around base store c.args.first c.args.value.now) (X.Given c.args.first)
    (value_last around table c.args.value.now a c.in_default.not-Read c.in_default.not-Decay c.in_default.not-Converted c.in_default.not-Repointed c.in_default.not-MadeNull c.in_default.not-Tested c.in_default.not-Minus c.in_default.not-Complement c.in_default.not-Not c.in_default.not-Arithmetic c.in_default.not-Compare c.in_default.not-ComparePointers c.in_default.not-PointerPlus c.in_default.not-NumberPlus c.in_default.not-PointerMinus c.in_default.not-PointerDifference c.in_default.not-And c.in_default.not-Or c.in_default.not-Conditional c.in_default.not-Assign c.in_default.not-AssignArithmetic c.in_default.not-AssignMoved c.in_default.not-StepInteger c.in_default.not-StepPointer)
