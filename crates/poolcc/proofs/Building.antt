-- From the bytes that were written to the answer of `build`, and what follows from this where nothing outside fails.
use Rattle.std.proofs.Common.{◌≡◌, ℕ, ◌≤◌, ◌⊎◌, inl, inr, List, ◌++◌, Option, Some, length, sym, ap, ◌∙◌, refl, subst, arith}
use Rattle.pcc_outside.specs.Outside.{Adds, AddsPart}
use Rattle.c_syntax.specs.Trees.{ProgramTree}
use Rattle.image_form.specs.declared.image.MachineLimits.{MachineLimits}
use Rattle.image_form.specs.Form.{Form, image_bytes}
use Rattle.pcc_words.specs.declared.status.Refusal.{Refusal}
use Rattle.pcc_words.specs.declared.status.Status.{Status}
use Rattle.pcc_words.specs.declared.status.Status.TheVariants as S
use Rattle.poolcc.specs.Build.{Builds, BuildsPart, BuildGives}
use Rattle.poolcc.specs.Compiled.{IsBuildable, Compiles}
use Rattle.poolcc.specs.Complete.{IsBuiltUnlessMemory}
use Rattle.poolcc.specs.Exec.{source_limit}
use Rattle.poolcc.specs.Refused.{IsUncompiled}
use Rattle.poolcc.proofs.Refusals.{one_refusal_of_all, not_buildable, not_graphed}

module _ (text : List ℕ) (limits : MachineLimits) (base bytes : List ℕ) (written written' : Option (List ℕ)) (form : Form) (short : length text ≤ source_limit) (compiles : Compiles text limits form) (same : bytes ≡ image_bytes form) (told : written ≡ Some base) where
  pub all_written : Adds written bytes written' → Builds text limits base written'
  all_written adds = record {
    short = short;
    form = form;
    compiles = compiles;
    output = subst (λ old. Adds old bytes written') told adds ∙ ap (λ those. Some (base ++ those)) (same ∙ sym compiles.decoded.spelled);
  }

  pub part_written : AddsPart written bytes written' → BuildsPart text limits base written'
  part_written adds = record {
    short = short;
    form = form;
    compiles = compiles;
    output = subst (λ those. AddsPart (Some base) those written') (same ∙ sym compiles.decoded.spelled) (subst (λ old. AddsPart old bytes written') told adds);
  }

module _ (text : List ℕ) (limits : MachineLimits) (base : List ℕ) (written' : Option (List ℕ)) (short : length text ≤ source_limit) where
  module _ (program : ProgramTree) (buildable : IsBuildable text program) where
    -- an answer of build that is no fault is that it is done, or memory ran out
    pub built : (status : Status) → BuildGives text limits base status written' → (status ≡ S.ReadFault → ⊥) → (status ≡ S.WriteFault → ⊥) → IsBuiltUnlessMemory text limits base status written'
    built S.Done gives read write = inr (record { form = gives.form; compiles = gives.compiles; ends = refl; output = gives.output })
    built S.OutOfMemory gives read write = inl refl
    built S.ReadFault gives read write = absurd (read refl)
    built S.WriteFault gives read write = absurd (write refl)
    built (S.Refused refusal) gives read write = absurd (not_buildable text program refusal buildable gives.1)
    built S.SourceTooLong gives read write = let long = gives.0 in absurd (omega arith)
    built (S.Program status) gives read write = absurd gives
    built S.Depth gives read write = absurd gives
    built S.HeapExhausted gives read write = absurd gives
    built S.IndexExhausted gives read write = absurd gives
    built S.StepsSpent gives read write = absurd gives
    built (S.Trapped kind) gives read write = absurd gives
    built (S.Undefined kind place) gives read write = absurd gives
    built (S.BadImage at) gives read write = absurd gives
    built S.ImageTooLong gives read write = absurd gives
    built (S.Usage kind) gives read write = absurd gives

  module _ (refusal : Refusal) (refused : IsUncompiled text refusal) where
    not_built : {form : Form} → Compiles text limits form → ⊥
    not_built compiles = let graphed = compiles.graphed in not_graphed text compiles.program refusal compiles.accepted graphed.tac graphed.groups graphed.graphs graphed.has refused

    -- a text that is refused gets that answer, or memory ran out
    pub build_refuses : (status : Status) → BuildGives text limits base status written' → (status ≡ S.ReadFault → ⊥) → (status ≡ S.WriteFault → ⊥) → (status ≡ S.OutOfMemory) ⊎ (status ≡ S.Refused refusal)
    build_refuses (S.Refused other) gives read write = inr (ap S.Refused (one_refusal_of_all text other refusal gives.1 refused))
    build_refuses S.OutOfMemory gives read write = inl refl
    build_refuses S.ReadFault gives read write = absurd (read refl)
    build_refuses S.WriteFault gives read write = absurd (write refl)
    build_refuses S.SourceTooLong gives read write = let long = gives.0 in absurd (omega arith)
    build_refuses S.Done gives read write = absurd (not_built gives.compiles)
    build_refuses (S.Program status) gives read write = absurd gives
    build_refuses S.Depth gives read write = absurd gives
    build_refuses S.HeapExhausted gives read write = absurd gives
    build_refuses S.IndexExhausted gives read write = absurd gives
    build_refuses S.StepsSpent gives read write = absurd gives
    build_refuses (S.Trapped kind) gives read write = absurd gives
    build_refuses (S.Undefined kind place) gives read write = absurd gives
    build_refuses (S.BadImage at) gives read write = absurd gives
    build_refuses S.ImageTooLong gives read write = absurd gives
    build_refuses (S.Usage kind) gives read write = absurd gives
