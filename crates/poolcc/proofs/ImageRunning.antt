-- From the answer of an image's run to the answer of `run`, and what follows from this where nothing outside fails.
use Rattle.std.proofs.Common.{◌≡◌, ℕ, ◌≤◌, inl, inr, List, [], ◌++◌, Option, Some, length, sym, ap, ◌∙◌, refl, subst, arith}
use Rattle.run_theory.specs.Runs.{Trace, Final, Ended, DepthReached, HeapExhausted, IndexExhausted, Trapped, Over, output_of, trace_of}
use Rattle.pool_isa.specs.Machine.{Activation, Heap}
use Rattle.image_form.specs.Form.{Form, code_of, ImageOf, IsImageBytes}
use Rattle.image_form.proofs.ImageFields.{unique_image}
use Rattle.machine.specs.declared.ends.RunEnd.{RunEnd}
use Rattle.machine.specs.declared.ends.RunEnd.TheVariants as E
use Rattle.machine.specs.Run.{HaltsAt, ComesTo}
use Rattle.machine.proofs.Mach.{mach_over, mach_going}
use Rattle.pcc_words.specs.declared.status.Status.{Status}
use Rattle.pcc_words.specs.declared.status.Status.TheVariants as S
use Rattle.poolcc.specs.Compiled.{RunsImageTo, image_run, first_of_run}
use Rattle.poolcc.specs.Complete.{told, IsToldOf, IsToldUnlessMemory, IsBadUnlessMemory}
use Rattle.poolcc.specs.ImageRun.{image_limit, RunsImage, ImageGives}
use Rattle.poolcc.specs.Seen.{status_seen}

module _ (bytes : List ℕ) (steps : ℕ) (left base : List ℕ) (left' written' : Option (List ℕ)) (short : length bytes ≤ image_limit) where
  module _ (form : Form) (decoded : ImageOf bytes form) where
    runs : (answer : RunEnd) → RunsImageTo form left base steps answer left' written' → RunsImage bytes steps left base answer left' written'
    runs answer ran = record { short = short; form = form; decoded = decoded; ran = ran }

    pub image_gives : (answer : RunEnd) → RunsImageTo form left base steps answer left' written' → ImageGives bytes steps left base (status_seen answer) left' written'
    image_gives (E.Ended status) ran = runs (E.Ended status) ran
    image_gives E.Depth ran = runs E.Depth ran
    image_gives E.HeapExhausted ran = runs E.HeapExhausted ran
    image_gives E.IndexExhausted ran = runs E.IndexExhausted ran
    image_gives E.StepsSpent ran = runs E.StepsSpent ran
    image_gives (E.Trapped kind) ran = runs (E.Trapped kind) ran
    image_gives E.ReadFault ran = inr (runs E.ReadFault ran)
    image_gives E.WriteFault ran = runs E.WriteFault ran
    image_gives E.OutOfMemory ran = inr (runs E.OutOfMemory ran)

    -- bytes are those of one image
    same_form : (other : Form) → ImageOf bytes other → other ≡ form
    same_form other of = (unique_image other form [] [] of.ranges decoded.ranges (ap (λ those. those ++ []) (sym of.spelled ∙ decoded.spelled))).0

    given : (answer : RunEnd) → RunsImage bytes steps left base answer left' written' → RunsImageTo form left base steps answer left' written'
    given answer runs = subst (λ (other : Form). RunsImageTo other left base steps answer left' written') (same_form runs.form runs.decoded) runs.ran

    over : (final : Final) (made : ℕ) (heap : Heap) → HaltsAt (code_of form) (first_of_run form left) base steps final made heap left' written' → (status : Status) → ((trace : Trace) → status ≡ told (Over final trace)) → IsToldOf (image_run form left steps) base status written'
    over final made heap halts status is =
        let there = mach_over (code_of form) form.limits.slabs form.limits.index left base steps heap left' written' final made halts in
        record {
          ends = is there.0 ∙ ap told (sym there.1);
          output = there.2 ∙ ap (λ answer. Some (base ++ output_of (trace_of answer))) (sym there.1);
        }

    spent : (activations : List Activation) (heap : Heap) → ComesTo (code_of form) (first_of_run form left) base steps activations heap left' written' → IsToldOf (image_run form left steps) base S.StepsSpent written'
    spent activations heap comes =
        let there = mach_going (code_of form) form.limits.slabs form.limits.index left base steps heap left' written' activations comes in
        record {
          ends = ap told (sym there.1);
          output = there.2 ∙ ap (λ answer. Some (base ++ output_of (trace_of answer))) (sym there.1);
        }

    -- an answer of run that is no fault is the machine's, or memory ran out
    pub image_completed : (status : Status) → ImageGives bytes steps left base status left' written' → (status ≡ S.ReadFault → ⊥) → (status ≡ S.WriteFault → ⊥) → IsToldUnlessMemory (image_run form left steps) base status written'
    image_completed (S.Program status) gives read write = inr (let run = given (E.Ended status) gives in over (Ended status) run.made run.heap run.gives (S.Program status) (λ trace. refl))
    image_completed S.Depth gives read write = inr (let run = given E.Depth gives in over DepthReached run.made run.heap run.gives S.Depth (λ trace. refl))
    image_completed S.HeapExhausted gives read write = inr (let run = given E.HeapExhausted gives in over HeapExhausted run.made run.heap run.gives S.HeapExhausted (λ trace. refl))
    image_completed S.IndexExhausted gives read write = inr (let run = given E.IndexExhausted gives in over IndexExhausted run.made run.heap run.gives S.IndexExhausted (λ trace. refl))
    image_completed (S.Trapped kind) gives read write = inr (let run = given (E.Trapped kind) gives in over (Trapped kind) run.made run.heap run.gives (S.Trapped kind) (λ trace. refl))
    image_completed S.StepsSpent gives read write = inr (let run = given E.StepsSpent gives in spent run.activations run.heap run.gives.1)
    image_completed (S.BadImage place) gives read write = absurd (gives.0.none (form, decoded))
    image_completed S.ImageTooLong gives read write = let long = gives.0 in absurd (omega arith)
    image_completed S.ReadFault gives read write = absurd (read refl)
    image_completed S.WriteFault gives read write = absurd (write refl)
    image_completed S.OutOfMemory gives read write = inl refl
    image_completed S.Done gives read write = absurd gives
    image_completed (S.Refused refusal) gives read write = absurd gives
    image_completed S.SourceTooLong gives read write = absurd gives
    image_completed (S.Undefined kind place) gives read write = absurd gives
    image_completed (S.Usage kind) gives read write = absurd gives

  module _ (none : IsImageBytes bytes → ⊥) where
    not_run : {answer : RunEnd} → RunsImage bytes steps left base answer left' written' → ⊥
    not_run runs = none (runs.form, runs.decoded)

    -- bytes that are no image get the place of the first fault, or memory ran out
    pub image_bad : (status : Status) → ImageGives bytes steps left base status left' written' → (status ≡ S.ReadFault → ⊥) → (status ≡ S.WriteFault → ⊥) → IsBadUnlessMemory bytes status
    image_bad (S.BadImage place) gives read write = inr (place, gives.0.bad, refl)
    image_bad S.OutOfMemory gives read write = inl refl
    image_bad S.ReadFault gives read write = absurd (read refl)
    image_bad S.WriteFault gives read write = absurd (write refl)
    image_bad S.ImageTooLong gives read write = let long = gives.0 in absurd (omega arith)
    image_bad (S.Program status) gives read write = absurd (not_run gives)
    image_bad S.Depth gives read write = absurd (not_run gives)
    image_bad S.HeapExhausted gives read write = absurd (not_run gives)
    image_bad S.IndexExhausted gives read write = absurd (not_run gives)
    image_bad S.StepsSpent gives read write = absurd (not_run gives)
    image_bad (S.Trapped kind) gives read write = absurd (not_run gives)
    image_bad S.Done gives read write = absurd gives
    image_bad (S.Refused refusal) gives read write = absurd gives
    image_bad S.SourceTooLong gives read write = absurd gives
    image_bad (S.Undefined kind place) gives read write = absurd gives
    image_bad (S.Usage kind) gives read write = absurd gives
