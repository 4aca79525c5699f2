-- What follows from the answer of `ref` where nothing outside fails.
use Rattle.std.proofs.Common.{◌≡◌, ℕ, ◌≤◌, ◌⊎◌, inl, inr, ◌++◌, List, Option, Some, length, sym, ap, ◌∙◌, refl, subst, arith}
use Rattle.run_theory.specs.Runs.{Trace, Final, Ended, DepthReached, Undefined, Over, output_of, trace_of}
use Rattle.c_syntax.specs.Trees
use Rattle.c_rules.specs.Elaborated.{typed_of}
use Rattle.pcc_words.specs.declared.status.Refusal.{Refusal}
use Rattle.pcc_words.specs.declared.status.Status.{Status}
use Rattle.pcc_words.specs.declared.status.Status.TheVariants as S
use Rattle.ref_meaning.specs.declared.run.RefEnd.{RefEnd}
use Rattle.ref_meaning.specs.declared.run.RefEnd.TheVariants as E
use Rattle.ref_meaning.specs.Running.{Reached, behaviour_of}
use Rattle.poolcc.specs.Compiled.{IsAccepted}
use Rattle.poolcc.specs.Complete.{told, IsReachedAs, IsReachedUnlessMemory}
use Rattle.poolcc.specs.Exec.{source_limit}
use Rattle.poolcc.specs.Ref.{Ends, IsSpent, ProgramGives, RunsMeaning, RefGives}
use Rattle.poolcc.specs.Refused.{IsRefused}
use Rattle.poolcc.proofs.Refusals.{one_refusal, not_refused}

over : (final : Final) (base : List ℕ) (left' written' : Option (List ℕ)) (there : Reached) (status : Status) → ((trace : Trace) → status ≡ told (Over final trace)) → Ends final base left' written' there → IsReachedAs there base status left' written'
over final base left' written' there status is ends = record {
  told_of = record {
    ends = is ends.trace ∙ ap (λ (r : Reached). told r.answer) (sym ends.is);
    output = ends.out ∙ ap (λ (r : Reached). Some (base ++ output_of (trace_of r.answer))) (sym ends.is);
  };
  unread = ends.told ∙ ap (λ (r : Reached). Some r.unread) (sym ends.is);
}

spent : (base : List ℕ) (left' written' : Option (List ℕ)) (there : Reached) → IsSpent base left' written' there → IsReachedAs there base S.StepsSpent left' written'
spent base left' written' there all = record {
  told_of = record {
    ends = ap (λ (r : Reached). told r.answer) (sym all.is);
    output = all.out ∙ ap (λ (r : Reached). Some (base ++ output_of (trace_of r.answer))) (sym all.is);
  };
  unread = all.told ∙ ap (λ (r : Reached). Some r.unread) (sym all.is);
}

module _ (text : List ℕ) (steps : ℕ) (left base : List ℕ) (left' written' : Option (List ℕ)) (short : length text ≤ source_limit) where
  module _ (program : Trees.ProgramTree) (accepted : IsAccepted text program) where
    abbrev there : Reached
    there = behaviour_of (typed_of program) left steps

    -- what it did is what this program does, since the text reads as no other
    given : (end : RefEnd) → RunsMeaning text steps left base end left' written' → ProgramGives there base end left' written'
    given end does = subst (λ other. ProgramGives (behaviour_of (typed_of other) left steps) base end left' written') (accepted.reads.only does.program does.accepted.reads.reads) does.gives

    -- an answer of ref that is no fault is the program's, or memory ran out
    pub ref_completed : (status : Status) → RefGives text steps left base status left' written' → (status ≡ S.ReadFault → ⊥) → (status ≡ S.WriteFault → ⊥) → IsReachedUnlessMemory there base status left' written'
    ref_completed (S.Program status) gives read write = inr (over (Ended status) base left' written' there (S.Program status) (λ trace. refl) (given (E.Ended status) gives))
    ref_completed S.Depth gives read write = inr (over DepthReached base left' written' there S.Depth (λ trace. refl) (given E.Depth gives))
    ref_completed (S.Undefined kind place) gives read write = inr (over (Undefined kind place) base left' written' there (S.Undefined kind place) (λ trace. refl) (given (E.Undefined kind place) gives))
    ref_completed S.StepsSpent gives read write = inr (spent base left' written' there (given E.StepsSpent gives))
    ref_completed (S.Refused refusal) gives read write = absurd (not_refused text program refusal accepted gives.1)
    ref_completed S.SourceTooLong gives read write = let long = gives.0 in absurd (omega arith)
    ref_completed S.ReadFault gives read write = absurd (read refl)
    ref_completed S.WriteFault gives read write = absurd (write refl)
    ref_completed S.OutOfMemory gives read write = inl refl
    ref_completed S.HeapExhausted gives read write = absurd gives
    ref_completed S.IndexExhausted gives read write = absurd gives
    ref_completed (S.Trapped kind) gives read write = absurd gives
    ref_completed S.Done gives read write = absurd gives
    ref_completed (S.BadImage at) gives read write = absurd gives
    ref_completed S.ImageTooLong gives read write = absurd gives
    ref_completed (S.Usage kind) gives read write = absurd gives

  module _ (refusal : Refusal) (refused : IsRefused text refusal) where
    not_run : {end : RefEnd} → RunsMeaning text steps left base end left' written' → ⊥
    not_run does = not_refused text does.program refusal does.accepted refused

    -- a text that is refused gets that answer, or memory ran out
    pub ref_refuses : (status : Status) → RefGives text steps left base status left' written' → (status ≡ S.ReadFault → ⊥) → (status ≡ S.WriteFault → ⊥) → (status ≡ S.OutOfMemory) ⊎ (status ≡ S.Refused refusal)
    ref_refuses (S.Refused other) gives read write = inr (ap S.Refused (one_refusal text other refusal gives.1 refused))
    ref_refuses S.OutOfMemory gives read write = inl refl
    ref_refuses S.ReadFault gives read write = absurd (read refl)
    ref_refuses S.WriteFault gives read write = absurd (write refl)
    ref_refuses S.SourceTooLong gives read write = let long = gives.0 in absurd (omega arith)
    ref_refuses (S.Program status) gives read write = absurd (not_run gives)
    ref_refuses S.Depth gives read write = absurd (not_run gives)
    ref_refuses (S.Undefined kind place) gives read write = absurd (not_run gives)
    ref_refuses S.StepsSpent gives read write = absurd (not_run gives)
    ref_refuses S.HeapExhausted gives read write = absurd gives
    ref_refuses S.IndexExhausted gives read write = absurd gives
    ref_refuses (S.Trapped kind) gives read write = absurd gives
    ref_refuses S.Done gives read write = absurd gives
    ref_refuses (S.BadImage at) gives read write = absurd gives
    ref_refuses S.ImageTooLong gives read write = absurd gives
    ref_refuses (S.Usage kind) gives read write = absurd gives
