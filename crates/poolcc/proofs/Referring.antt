-- From the answer of a program's run to the answer of the command.
use Rattle.std.proofs.Common.{◌≡◌, ℕ, ◌+◌, ◌-◌, ◌≤◌, ◌++◌, List, length, Option, inr, sym, ap, ◌∙◌, arith}
use Rattle.run_theory.specs.Runs.{output_of, trace_of}
use Rattle.run_theory.proofs.Traces.{output_of-append}
use Rattle.c_syntax.specs.Trees
use Rattle.c_rules.specs.Elaborated.{typed_of}
use Rattle.ref_semantics.proofs.Spans.{kept}
use Rattle.ref_meaning.specs.RefStore.Holding.{left}
use Rattle.ref_meaning.specs.declared.run.RefRun.{RefRun}
use Rattle.ref_meaning.specs.declared.run.RefEnd.{RefEnd}
use Rattle.ref_meaning.specs.declared.run.RefEnd.TheVariants as E
use Rattle.ref_meaning.specs.Views.{config_in, around_run, functions_of}
use Rattle.ref_meaning.specs.Running.{Reached, Behaviour, behaviour_of, GoesOn, RunAnswers}
use Rattle.poolcc.specs.Compiled.{IsAccepted}
use Rattle.poolcc.specs.Exec.{source_limit}
use Rattle.poolcc.specs.Ref.{BreaksOff, ProgramGives, RunsMeaning, RefGives}
use Rattle.poolcc.specs.Seen.{end_seen}

-- what was written before a run broke off is a front of the program's output
broken : (new : RefRun) (behaviour : Behaviour) (base input : List ℕ) (done steps : ℕ) (left' written' : Option (List ℕ)) → done ≤ steps → GoesOn new behaviour base input done left' written' → BreaksOff base written' (behaviour input steps).answer
broken new behaviour base input done steps left' written' within goes =
    let more : ℕ = steps - done in
    let stands = goes.stands in
    let grown = kept (around_run new) (functions_of new) (config_in new) (left more goes.rest stands.state) in
    let all : done + more ≡ steps = omega (arith, within) in
    let same : behaviour input steps ≡ goes.later goes.rest more = sym (ap (behaviour input) all) ∙ goes.follows more in
    record {
      front = goes.front;
      rest = output_of grown.0;
      out = goes.out;
      begins = ap (λ (there : Reached). output_of (trace_of there.answer)) (same ∙ stands.behaves goes.rest more) ∙ (ap output_of grown.1 ∙ (output_of-append stands.state.trace grown.0 ∙ ap (λ front. front ++ output_of grown.0) stands.front));
    }

-- what a run answers is what its program does
pub does : (old new : RefRun) (behaviour : Behaviour) (base input : List ℕ) (steps : ℕ) (end : RefEnd) (left' written' : Option (List ℕ)) → RunAnswers old new behaviour base input steps end left' written' → ProgramGives (behaviour input steps) base end left' written'
does old new behaviour base input steps (E.Ended status) left' written' a = record { trace = a.trace; rest = a.rest; is = a.is; told = a.told; out = a.out }
does old new behaviour base input steps E.Depth left' written' a = record { trace = a.trace; rest = a.rest; is = a.is; told = a.told; out = a.out }
does old new behaviour base input steps (E.Undefined kind place) left' written' a = record { trace = a.trace; rest = a.rest; is = a.is; told = a.told; out = a.out }
does old new behaviour base input steps E.StepsSpent left' written' a = record { trace = a.0.trace; rest = a.0.rest; is = a.0.is; told = a.0.told; out = a.0.out }
does old new behaviour base input steps E.ReadFault left' written' a = broken new behaviour base input a.done steps left' written' a.within a.goes_on
does old new behaviour base input steps E.WriteFault left' written' a = broken new behaviour base input a.done steps left' written' a.within a.goes_on
does old new behaviour base input steps E.OutOfMemory left' written' a = broken new behaviour base input a.done steps left' written' a.within a.goes_on

module _ (text : List ℕ) (steps : ℕ) (left base : List ℕ) (left' written' : Option (List ℕ)) (program : Trees.ProgramTree) (accepted : IsAccepted text program) (short : length text ≤ source_limit) where
  done : (end : RefEnd) → ProgramGives (behaviour_of (typed_of program) left steps) base end left' written' → RunsMeaning text steps left base end left' written'
  done end gives = record { short = short; program = program; accepted = accepted; gives = gives }

  pub ref_gives : (end : RefEnd) → ProgramGives (behaviour_of (typed_of program) left steps) base end left' written' → RefGives text steps left base (end_seen end) left' written'
  ref_gives (E.Ended status) gives = done (E.Ended status) gives
  ref_gives E.Depth gives = done E.Depth gives
  ref_gives (E.Undefined kind place) gives = done (E.Undefined kind place) gives
  ref_gives E.StepsSpent gives = done E.StepsSpent gives
  ref_gives E.ReadFault gives = inr (done E.ReadFault gives)
  ref_gives E.WriteFault gives = done E.WriteFault gives
  ref_gives E.OutOfMemory gives = inr (done E.OutOfMemory gives)
