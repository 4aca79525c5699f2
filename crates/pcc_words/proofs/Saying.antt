-- What a caller learns from the line of an answer.
use Rattle.std.proofs.Common.{◌≡◌, ℕ, ◌⊎◌, inl, inr, List, [], length, Option, Some, None, refl, ap, sym, ◌∙◌, length-append, arith}
use Rattle.std.proofs.lemmas.List.{append-nil}
use Rattle.pcc_outside.specs.Outside.{Rose, Adds, AddsPart}
use Rattle.pcc_words.specs.declared.status.Status.{Status}
use Rattle.pcc_words.specs.declared.status.Status.TheVariants as S
use Rattle.pcc_words.specs.Texts.{error_text}
use Rattle.pcc_words.specs.Said.{after_failed_line, Said}

after_failed_line-cases : (status : Status) → (after_failed_line status ≡ status) ⊎ (after_failed_line status ≡ S.WriteFault)
after_failed_line-cases S.ReadFault = inl refl
after_failed_line-cases status = inr refl

Adds-none : (old new : Option (List ℕ)) → Adds old [] new → new ≡ old
Adds-none None new h = h
Adds-none (Some xs) new h = h ∙ ap Some (append-nil xs)

no_part_of_none : (old new : Option (List ℕ)) (text : List ℕ) → text ≡ [] → AddsPart old text new → ⊥
no_part_of_none old new text empty h = omega (arith, ap length (sym empty ∙ h.2), length-append h.0 h.1, h.3)

-- an answer without a line stays, and nothing is written
pub Said-quiet : (status answer : Status) (old new : Option (List ℕ)) (before after : ℕ) → error_text status ≡ [] → Said status answer old new before after → (answer ≡ status) × (new ≡ old)
Said-quiet status answer old new before after empty (inl said) = (said.stays, Adds-none old new (rw empty at said.line))
Said-quiet status answer old new before after empty (inr cut) = absurd (no_part_of_none old new (error_text status) empty cut.front)

-- every answer but a write fault is what it was
pub Said-stays : (status answer : Status) (old new : Option (List ℕ)) (before after : ℕ) → (answer ≡ S.WriteFault → ⊥) → Said status answer old new before after → answer ≡ status
Said-stays status answer old new before after other (inl said) = said.stays
Said-stays status answer old new before after other (inr cut) =
    elim (after_failed_line-cases status) [ inl same ↦ cut.becomes ∙ same | inr fault ↦ absurd (other (cut.becomes ∙ fault)) ]

-- a write fault was one before, or a write of its line failed
pub Said-fault : (status answer : Status) (old new : Option (List ℕ)) (before after : ℕ) → answer ≡ S.WriteFault → Said status answer old new before after → (status ≡ S.WriteFault) ⊎ Rose before after
Said-fault status answer old new before after is (inl said) = inl (sym said.stays ∙ is)
Said-fault status answer old new before after is (inr cut) = inr cut.fault
