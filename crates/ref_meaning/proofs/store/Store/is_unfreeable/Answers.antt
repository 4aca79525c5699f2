use Rattle.std.proofs.Common.{◌≡◌, ℕ, not, ◌||◌, ◌==◌, sym, ap, ◌∙◌}
use Rattle.ref_semantics.specs.Values.{Place, Heap, PointerValue}
use Rattle.ref_semantics.specs.Store.{TypeEnvironment, Objects, is_dead, offset_of}
use Rattle.ref_semantics.specs.Library.{is_heap, is_unfreeable}
use Rattle.ref_meaning.specs.RefStore.Views.{name_of, place_in, scalar_in}
use Rattle.ref_meaning.proofs.store.Store.is_unfreeable.Goals as goal

of_allocation : (around : TypeEnvironment) (objects : Objects) (place : Place) (number : ℕ) → place.name ≡ Heap number → is_unfreeable around objects (PointerValue place) ≡ is_dead (objects place.name) || not (offset_of around place == 0)
of_allocation around objects place number heap = ap (λ name. not (is_heap name) || (is_dead (objects place.name) || not (offset_of around place == 0))) heap

pub returns-in-Raw : goal.returns-in-Raw
returns-in-Raw c = λ around base state at.
    c.is_dead.ensures around base state at ∙ sym (ap (λ v. is_unfreeable around state.objects (scalar_in c.args.self.now.types.now v)) c.in-Raw.is)

pub returns-then-is_dead : goal.returns-then-is_dead
returns-then-is_dead c = λ around base state at.
    let table = c.args.self.now.types.now in
    let place = place_in table c.in-Pointer.place in
    c.if-is_dead.true
    ∙ sym (ap (λ v. is_unfreeable around state.objects (scalar_in table v)) c.in-Pointer.is
    ∙ (of_allocation around state.objects place c.in-Heap.field-0 (ap name_of c.in-Heap.is)
    ∙ ap (λ dead. dead || not (offset_of around place == 0)) (sym (c.is_dead-in-Pointer.ensures around base state at) ∙ c.if-is_dead.true)))

pub returns-else-is_dead : goal.returns-else-is_dead
returns-else-is_dead c = λ around base state at.
    let table = c.args.self.now.types.now in
    let place = place_in table c.in-Pointer.place in
    sym (ap (λ v. is_unfreeable around state.objects (scalar_in table v)) c.in-Pointer.is
    ∙ (of_allocation around state.objects place c.in-Heap.field-0 (ap name_of c.in-Heap.is)
    ∙ (ap (λ dead. dead || not (offset_of around place == 0)) (sym (c.is_dead-in-Pointer.ensures around base state at) ∙ c.if-is_dead.false)
    ∙ ap (λ offset. not (offset == 0)) (sym (c.offset.ensures around at.structs)))))
