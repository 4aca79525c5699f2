-- What follows from a command's answer: that it is the machine's where nothing outside fails, and that a trap shows that
-- the program goes wrong.
use Rattle.std.proofs.Common.{◌≡◌, ℕ, ◌≤◌, ◌⊎◌, inl, inr, List, ◌++◌, Option, Some, length, sym, ap, ◌∙◌, refl, subst, arith}
use Rattle.run_theory.specs.Runs.{Trace, output_of, Final, Ended, DepthReached, HeapExhausted, IndexExhausted, Trapped, Over, trace_of, IsUndefined}
use Rattle.run_theory.specs.declared.ends.TrapKind.{TrapKind}
use Rattle.pcc_outside.specs.Outside.{Rose}
use Rattle.c_syntax.specs.Trees.{ProgramTree}
use Rattle.c_rules.specs.Elaborated.{typed_of}
use Rattle.ref_semantics.specs.First.{reference}
use Rattle.pool_isa.specs.Machine.{Activation, Heap}
use Rattle.image_form.specs.declared.image.MachineLimits.{MachineLimits}
use Rattle.image_form.specs.Form.{Form, code_of}
use Rattle.machine.specs.Run.{HaltsAt, ComesTo}
use Rattle.machine.proofs.Mach.{mach_over, mach_going}
use Rattle.pcc_words.specs.declared.status.Status.{Status}
use Rattle.pcc_words.specs.declared.status.Status.TheVariants as S
use Rattle.pcc_words.specs.Said.{Said, after_failed_line}
use Rattle.poolcc.specs.Compiled.{IsAccepted, IsBuildable, Compiles, image_run, first_of_run}
use Rattle.pcc_words.specs.Line.{Line, NoCommand, NoLine, Build, Exec, Run, Ref, Graph}
use Rattle.poolcc.specs.Command.{Names}
use Rattle.poolcc.specs.Complete.{told, RunsAs, RunsUnlessMemory}
use Rattle.poolcc.specs.Exec.{source_limit, ExecGives}
use Rattle.backend_correct.proofs.Seen.{trapped_is_undefined}
use Rattle.poolcc.proofs.Refusals.{not_buildable}

-- a line that was written leaves the answer as it was
pub said_as_it_is : (status answer : Status) (old new : Option (List ℕ)) (before after : ℕ) → Said status answer old new before after → (Rose before after → ⊥) → answer ≡ status
said_as_it_is status answer old new before after (inl said) quiet = said.stays
said_as_it_is status answer old new before after (inr cut) quiet = absurd (quiet cut.fault)

-- a line that failed never tells of a trap
no_trap : (status : Status) (kind : TrapKind) → S.Trapped kind ≡ after_failed_line status → ⊥
no_trap S.ReadFault kind e = cc
no_trap S.Done kind e = cc
no_trap (S.Program status) kind e = cc
no_trap S.Depth kind e = cc
no_trap S.HeapExhausted kind e = cc
no_trap S.IndexExhausted kind e = cc
no_trap S.StepsSpent kind e = cc
no_trap (S.Trapped kind') kind e = cc
no_trap (S.Undefined ub place) kind e = cc
no_trap (S.Refused refusal) kind e = cc
no_trap (S.BadImage at) kind e = cc
no_trap S.SourceTooLong kind e = cc
no_trap S.ImageTooLong kind e = cc
no_trap (S.Usage usage) kind e = cc
no_trap S.WriteFault kind e = cc
no_trap S.OutOfMemory kind e = cc

pub said_trap : (status answer : Status) (kind : TrapKind) (old new : Option (List ℕ)) (before after : ℕ) → Said status answer old new before after → answer ≡ S.Trapped kind → status ≡ S.Trapped kind
said_trap status answer kind old new before after (inl said) e = sym said.stays ∙ e
said_trap status answer kind old new before after (inr cut) e = absurd (no_trap status kind (sym e ∙ cut.becomes))

failed_line-cases : (status : Status) → (after_failed_line status ≡ S.ReadFault) ⊎ (after_failed_line status ≡ S.WriteFault)
failed_line-cases S.ReadFault = inl refl
failed_line-cases status = inr refl

-- a line that failed never tells of want of memory
no_memory : (answer : Status) → answer ≡ S.OutOfMemory → (answer ≡ S.ReadFault) ⊎ (answer ≡ S.WriteFault) → ⊥
no_memory answer e (inl read) = absurd cc
no_memory answer e (inr written) = absurd cc

-- where want of memory is told of, its line was written, and no write of it failed
pub said_memory : (status answer : Status) (old new : Option (List ℕ)) (before after : ℕ) → Said status answer old new before after → answer ≡ S.OutOfMemory → (status ≡ S.OutOfMemory) × (after ≡ before)
said_memory status answer old new before after (inl said) e = (sym said.stays ∙ e, said.faultless)
said_memory status answer old new before after (inr cut) e = absurd (no_memory (after_failed_line status) (sym cut.becomes ∙ e) (failed_line-cases status))

module _ (text : List ℕ) (limits : MachineLimits) (steps : ℕ) (left base : List ℕ) (left' written' : Option (List ℕ)) where
  over : (form : Form) (final : Final) (made : ℕ) (heap : Heap) → Compiles text limits form → HaltsAt (code_of form) (first_of_run form left) base steps final made heap left' written' → (status : Status) → ((trace : Trace) → status ≡ told (Over final trace)) → RunsAs text limits steps left base status written'
  over form final made heap compiles halts status is =
      let there = mach_over (code_of form) form.limits.slabs form.limits.index left base steps heap left' written' final made halts in
      record {
        form = form;
        compiles = compiles;
        ends = is there.0 ∙ ap told (sym there.1);
        output = there.2 ∙ ap (λ answer. Some (base ++ output_of (trace_of answer))) (sym there.1);
      }

  spent : (form : Form) (activations : List Activation) (heap : Heap) → Compiles text limits form → ComesTo (code_of form) (first_of_run form left) base steps activations heap left' written' → RunsAs text limits steps left base S.StepsSpent written'
  spent form activations heap compiles comes =
      let there = mach_going (code_of form) form.limits.slabs form.limits.index left base steps heap left' written' activations comes in
      record {
        form = form;
        compiles = compiles;
        ends = ap told (sym there.1);
        output = there.2 ∙ ap (λ answer. Some (base ++ output_of (trace_of answer))) (sym there.1);
      }

  module _ (program : ProgramTree) (buildable : IsBuildable text program) (short : length text ≤ source_limit) where
    -- an answer of exec that is no fault is the machine's, or memory ran out
    pub completed : (answer : Status) → ExecGives text limits steps left base answer left' written' → (answer ≡ S.ReadFault → ⊥) → (answer ≡ S.WriteFault → ⊥) → RunsUnlessMemory text limits steps left base answer written'
    completed (S.Program status) gives read write = inr (over gives.form (Ended status) gives.ran.made gives.ran.heap gives.compiles gives.ran.gives (S.Program status) (λ trace. refl))
    completed S.Depth gives read write = inr (over gives.form DepthReached gives.ran.made gives.ran.heap gives.compiles gives.ran.gives S.Depth (λ trace. refl))
    completed S.HeapExhausted gives read write = inr (over gives.form HeapExhausted gives.ran.made gives.ran.heap gives.compiles gives.ran.gives S.HeapExhausted (λ trace. refl))
    completed S.IndexExhausted gives read write = inr (over gives.form IndexExhausted gives.ran.made gives.ran.heap gives.compiles gives.ran.gives S.IndexExhausted (λ trace. refl))
    completed (S.Trapped kind) gives read write = inr (over gives.form (Trapped kind) gives.ran.made gives.ran.heap gives.compiles gives.ran.gives (S.Trapped kind) (λ trace. refl))
    completed S.StepsSpent gives read write = inr (spent gives.form gives.ran.activations gives.ran.heap gives.compiles gives.ran.gives.1)
    completed (S.Refused refusal) gives read write = absurd (not_buildable text program refusal buildable gives.1)
    completed S.SourceTooLong gives read write = let long = gives.0 in absurd (omega arith)
    completed S.ReadFault gives read write = absurd (read refl)
    completed S.WriteFault gives read write = absurd (write refl)
    completed S.OutOfMemory gives read write = inl refl
    completed S.Done gives read write = absurd gives
    completed (S.Undefined kind place) gives read write = absurd gives
    completed (S.BadImage at) gives read write = absurd gives
    completed S.ImageTooLong gives read write = absurd gives
    completed (S.Usage kind) gives read write = absurd gives

  -- a run that trapped shows that the program goes wrong
  pub trapped : (kind : TrapKind) → ExecGives text limits steps left base (S.Trapped kind) left' written' → (program : ProgramTree) × IsAccepted text program × (n : ℕ) × IsUndefined (reference (typed_of program) left n)
  trapped kind gives =
      let own = gives.form.limits in
      let there = mach_over (code_of gives.form) own.slabs own.index left base steps gives.ran.heap left' written' (Trapped kind) gives.ran.made gives.ran.gives in
      let compiles = gives.compiles in
      let wrong = trapped_is_undefined own.slabs (reference (typed_of compiles.program) left) (image_run gives.form left) (compiles.image.follows left own (compiles.decoded.ranges.slabs, compiles.decoded.ranges.index)) steps kind there.0 there.1 in
      (compiles.program, compiles.accepted, wrong.0, wrong.1)

-- a line has one file
same_file : (file other : List ℕ) (line : Line) → Names line file → Names line other → file ≡ other
same_file file other (Build named limits one_pool) one two = sym one ∙ two
same_file file other (Exec named limits one_pool steps) one two = sym one ∙ two
same_file file other (Run named steps) one two = sym one ∙ two
same_file file other (Ref named steps) one two = sym one ∙ two
same_file file other (Graph named) one two = sym one ∙ two
same_file file other NoCommand one two = absurd one
same_file file other NoLine one two = absurd one

neither : {P Q : Type 0} → (P → ⊥) → (Q → ⊥) → P ⊎ Q → ⊥
neither no_p no_q (inl p) = no_p p
neither no_p no_q (inr q) = no_q q

-- no read failed where neither the file nor the input did
pub no_read_fault : (line : Line) (file : List ℕ) (before after : List ℕ → ℕ) (reads reads' : ℕ) → Names line file → (Rose (before file) (after file) → ⊥) → (Rose reads reads' → ⊥) → (named : List ℕ) × Names line named × (Rose (before named) (after named) ⊎ Rose reads reads') → ⊥
no_read_fault line file before after reads reads' names quiet_file quiet_input cause =
    neither (λ rose. quiet_file (subst (λ name. Rose (before name) (after name)) (sym (same_file file cause.0 line names cause.1)) rose)) quiet_input cause.2
