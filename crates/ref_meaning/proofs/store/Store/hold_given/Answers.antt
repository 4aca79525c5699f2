use Rattle.std.proofs.Common.{◌≡◌, ℕ, false, ◌==◌, ◌<◌, ◌≤◌, List, [], ◌∷◌, length, arith, zero-add, OnOk, sym, ap, subst, ◌∙◌}
use Rattle.std.proofs.lemmas.Bool.{false≢true}
use Rattle.c_typed.specs.DefinitionViews.{program_of, first_of, held_of}
use Rattle.ref_semantics.specs.First.{around_of, walked}
use Rattle.ref_meaning.specs.RefStore.Views.{place_in, scalar_in}
use Rattle.ref_meaning.specs.RefStore.Holding.{AllHeld}
use Rattle.ref_semantics.specs.Values.{Heap, Place, object_place}
use Rattle.ref_meaning.specs.Firsts.{with_first, with_text, with_given, StepsLead, AllLead}
use Rattle.ref_meaning.proofs.Ways.{steps_same, steps_end, text_lead}
use Rattle.ref_meaning.proofs.FirstValues.{scalar_added, text_added}
use Rattle.ref_meaning.proofs.store.Store.hold_given.Goals as goal

pub returns-in-Scalar-clause-held : goal.returns-in-Scalar-clause-held
returns-in-Scalar-clause-held c = λ c_type held root all.
    let table = c.args.self.now.types.now in
    let program = program_of c.args.program.now in
    let around = around_of program in
    let structs = c.requires.unfilled.structs in
    let given = c.in-Scalar.held in
    let place = place_in table c.walked-place.result in
    let value = scalar_in table c.first_scalar-value.result in
    let at = c.walked-place.ensures.found around structs ∙ λ i. walked around (root i) (c.as_slice.ensures.value i) given.index in
    let same : (offset : ℕ) → with_first around place value held offset ≡ with_given program c_type (first_of c.args.first.now) held offset = λ offset.
    scalar_added program c_type place value (held_of given) held offset at c.first_scalar-value.ensures.means
    ∙ ap (λ first. with_given program c_type (first_of first) held offset) (sym c.in-Scalar.is) in
    subst (λ after. OnOk c.hold_first.result (AllHeld table c.hold_first.new.elements.held after)) (λ i offset. same offset i) (c.hold_first.ensures.held around held structs all)

pub returns-else-is_empty-clause-held : goal.returns-else-is_empty-clause-held
returns-else-is_empty-clause-held c = λ c_type held root all.
    let table = c.args.self.now.types.now in
    let program = program_of c.args.program.now in
    let around = around_of program in
    let structs = c.requires.unfilled.structs in
    let place = place_in table c.walked-place-in-Text.result in
    let int_type = c.in-Text.int_type in
    let at = c.walked-place-in-Text.ensures.found around structs ∙ λ i. walked around (root i) (c.as_slice-in-Text.ensures.value i) 0 in
    let same : (offset : ℕ) → with_text around place int_type 0 c.as_slice-bytes.result.now held offset ≡ with_given program c_type (first_of c.args.first.now) held offset = λ offset.
    ap (λ bytes. with_text around place int_type 0 bytes held offset) c.as_slice-bytes.ensures
    ∙ (text_added program c_type place c.in-Text.parts.items int_type c.in-Text.bytes held offset at
    ∙ ap (λ first. with_given program c_type (first_of first) held offset) (sym c.in-Text.is)) in
    subst (λ after. OnOk c.hold_text.result (AllHeld table c.hold_text.new.elements.held after)) (λ i offset. same offset i) (c.hold_text.ensures.held around held structs all)

pub walked-place-requires-clause-leads : goal.walked-place-requires-clause-leads
walked-place-requires-clause-leads c = λ around same.
    let program = program_of c.args.program.now in
    let given = c.in-Scalar.held in
    let leads = c.requires.leads in
    let all = subst (λ first. AllLead program leads.0 (first_of first)) c.in-Scalar.is leads.2 in
    subst (λ p. StepsLead around p c.as_slice.result.now given.index) (sym leads.1)
    (subst (λ l. StepsLead around (object_place (Heap 0) leads.0) l given.index) (sym c.as_slice.ensures.value)
    (steps_same (around_of program) around (c.requires.unfilled.structs ∙ sym same) _ given.parts.items given.index all.0.0))

not_empty : (bytes : List ℕ) → false ≡ (length bytes == 0) → 0 < length bytes
not_empty [] e = absurd (false≢true e)
not_empty (byte ∷ bytes) e = omega arith

pub walked-place-requires-in-Text-clause-leads : goal.walked-place-requires-in-Text-clause-leads
walked-place-requires-in-Text-clause-leads c = λ around same.
    let program = program_of c.args.program.now in
    let given = c.in-Text in
    let leads = c.requires.leads in
    let all = subst (λ first. AllLead program leads.0 (first_of first)) c.in-Text.is leads.2 in
    let some = not_empty given.bytes (c.if-is_empty.ensures ∙ ap (λ l. length l == 0) c.as_slice-bytes.ensures) in
    subst (λ p. StepsLead around p c.as_slice-in-Text.result.now 0) (sym leads.1)
    (subst (λ l. StepsLead around (object_place (Heap 0) leads.0) l 0) (sym c.as_slice-in-Text.ensures.value)
    (steps_same (around_of program) around (c.requires.unfilled.structs ∙ sym same) _ given.parts.items 0 (text_lead program leads.0 given.parts.items given.int_type 0 given.bytes all 0 some)))

pub hold_text-requires-clause-room : goal.hold_text-requires-clause-room
hold_text-requires-clause-room c = λ index lt.
    let program = program_of c.args.program.now in
    let around = around_of program in
    let given = c.in-Text in
    let leads = c.requires.leads in
    let steps = c.as_slice-in-Text.result.now in
    let all = subst (λ first. AllLead program leads.0 (first_of first)) c.in-Text.is leads.2 in
    let there = subst (λ l. StepsLead around (object_place (Heap 0) leads.0) l index) (sym c.as_slice-in-Text.ensures.value)
    (subst (StepsLead around (object_place (Heap 0) leads.0) given.parts.items) (zero-add index)
    (text_lead program leads.0 given.parts.items given.int_type 0 given.bytes all index (subst (λ l. index < length l) c.as_slice-bytes.ensures lt))) in
    let found = c.walked-place-in-Text.ensures.found around c.requires.unfilled.structs ∙ ap (λ p. walked around p steps 0) leads.1 in
    subst (λ n. index ≤ n) (sym (ap (λ (p : Place). p.row.count) found)) (steps_end around (object_place (Heap 0) leads.0) steps index there)
