-- What a run answers.
use Rattle.std.specs.Prelude.{◌≡◌, ℕ, ◌+◌, ◌≤◌, ◌<◌, List, ◌++◌, Option, Some, None}
use Rattle.run_theory.specs.Runs as Runs
use Rattle.run_theory.specs.Runs.{Answer, Final, Going, Over, IsGoing, Trace, output_of}
use Rattle.c_typed.specs.Typed.{Program}
use Rattle.ref_semantics.specs.Values.{Scalar}
use Rattle.ref_semantics.specs.Store.{State, Outcome, Then, Stopped}
use Rattle.ref_semantics.specs.First.{status_of, run_main, first_state}
use Rattle.ref_semantics.specs.Steps.{goes_on}
use Rattle.ref_meaning.specs.RefStore.Holding.{At, left}
use Rattle.ref_meaning.specs.declared.run.RefRun.{RefRun}
use Rattle.ref_meaning.specs.declared.run.RefEnd.{RefEnd}
use Rattle.ref_meaning.specs.declared.run.RefEnd.TheVariants as E
use Rattle.ref_meaning.specs.declared.run.Halt.{Halt}
use Rattle.ref_meaning.specs.declared.run.Halt.TheVariants as H
use Rattle.ref_meaning.specs.declared.control.Final as memory_final
use Rattle.ref_meaning.specs.declared.control.Final.TheVariants as F
use Rattle.ref_meaning.specs.declared.control.Task as memory_task
use Rattle.ref_meaning.specs.declared.control.Task.TheVariants as K
use Rattle.ref_meaning.specs.Views.{config_in, around_run, functions_of}
use Rattle.ref_meaning.specs.Holding.{IsConsistent}

-- where a program stands after so many units, or at its end: its answer, and what it leaves of the input
pub record Reached : Type 0 where
  pub answer : Answer
  pub unread : List ℕ

abbrev pub input_in : Outcome Scalar → List ℕ
input_in (Then value state) = state.input
input_in (Stopped answer state) = state.input

abbrev pub reached : Outcome Scalar → Reached
reached outcome = record { answer = status_of outcome; unread = input_in outcome }

-- where each input and each number of units lead
abbrev pub Behaviour : Type 0
Behaviour = List ℕ → ℕ → Reached

-- the behaviour of a program: its answers are those of `reference`
abbrev pub behaviour_of : Program → Behaviour
behaviour_of program input units = reached (run_main program (first_state program input units))

-- where a run leads from a state, with this input and so many units left
abbrev pub answers : RefRun → State → Behaviour
answers run state input units = reached (goes_on (around_run run) (functions_of run) (config_in run) (left units input state))

-- A run stands for what it will do: with each input and each number of further units it comes to this. So much is written before it.
pub record StandsFor (run : RefRun) (written : List ℕ) (behaviour : Behaviour) : Type 0 where
  pub holds : IsConsistent run
  pub state : State
  pub at : At (around_run run) run.store run.base state
  pub front : output_of state.trace ≡ written
  pub behaves : (input : List ℕ) (units : ℕ) → behaviour input units ≡ answers run state input units

-- it is over, what it writes is written, and what it doesn't read is left
pub record Ends (behaviour : Behaviour) (base input : List ℕ) (steps : ℕ) (final : Final) (is_left written : Option (List ℕ)) : Type 0 where
  pub trace : Trace
  pub rest : List ℕ
  pub is : behaviour input steps ≡ record { answer = Over final trace; unread = rest }
  pub told : is_left ≡ Some rest
  pub out : written ≡ Some (base ++ output_of trace)

-- So many units are done, what they write is written, and the run stands for what is left to do.
pub record GoesOn (new : RefRun) (behaviour : Behaviour) (base input : List ℕ) (done : ℕ) (is_left written : Option (List ℕ)) : Type 0 where
  pub later : Behaviour
  pub front : List ℕ
  pub rest : List ℕ
  pub stands : StandsFor new front later
  pub follows : (units : ℕ) → behaviour input (done + units) ≡ later rest units
  pub told : is_left ≡ Some rest
  pub out : written ≡ Some (base ++ front)

-- it has spent all units
pub record IsSpent (new : RefRun) (behaviour : Behaviour) (base input : List ℕ) (steps : ℕ) (is_left written : Option (List ℕ)) : Type 0 where
  pub trace : Trace
  pub rest : List ℕ
  pub is : behaviour input steps ≡ record { answer = Going trace; unread = rest }
  pub told : is_left ≡ Some rest
  pub out : written ≡ Some (base ++ output_of trace)
  pub goes_on : GoesOn new behaviour base input steps is_left written

-- it broke off before a step, with some of the units done
pub record BreaksOff (old new : RefRun) (behaviour : Behaviour) (base input : List ℕ) (steps : ℕ) (is_left written : Option (List ℕ)) : Type 0 where
  pub done : ℕ
  pub within : done ≤ steps
  pub counted : new.spent ≡ old.spent + done
  pub goes_on : GoesOn new behaviour base input done is_left written

-- What a run answers to so many units, where it stood for a behaviour.
abbrev pub RunAnswers : RefRun → RefRun → Behaviour → List ℕ → List ℕ → ℕ → RefEnd → Option (List ℕ) → Option (List ℕ) → Type 0
RunAnswers old new behaviour base input steps (E.Ended status) is_left written = Ends behaviour base input steps (Runs.Ended status) is_left written
RunAnswers old new behaviour base input steps E.Depth is_left written = Ends behaviour base input steps Runs.DepthReached is_left written
RunAnswers old new behaviour base input steps (E.Undefined kind place) is_left written = Ends behaviour base input steps (Runs.Undefined kind place) is_left written
RunAnswers old new behaviour base input steps E.StepsSpent is_left written = IsSpent new behaviour base input steps is_left written × (new.spent ≡ old.spent + steps)
RunAnswers old new behaviour base input steps E.ReadFault is_left written = BreaksOff old new behaviour base input steps is_left written
RunAnswers old new behaviour base input steps E.WriteFault is_left written = BreaksOff old new behaviour base input steps is_left written
RunAnswers old new behaviour base input steps E.OutOfMemory is_left written = BreaksOff old new behaviour base input steps is_left written

-- It is over, and has spent the units that it needed for that and no more: with fewer it was going.
pub record SpendsNeeded (old new : RefRun) (behaviour : Behaviour) (input : List ℕ) (steps : ℕ) (final : Final) : Type 0 where
  pub needed : ℕ
  pub within : needed ≤ steps
  pub counted : new.spent ≡ old.spent + needed
  pub trace : Trace
  pub rest : List ℕ
  pub over : (more : ℕ) → behaviour input (needed + more) ≡ record { answer = Over final trace; unread = rest }
  pub going : (fewer : ℕ) → fewer < needed → IsGoing (behaviour input fewer).answer

-- ---- runs that are over

abbrev pub end_in : memory_task.Task → Option memory_final.Final
end_in (K.Over final) = Some final
end_in _ = None

-- It holds, or it is over: of what is done once something is undefined, nothing is known.
abbrev pub IsConsistentUnlessOver : RefRun → Type 0
IsConsistentUnlessOver run = end_in run.control.task ≡ None → IsConsistent run

abbrev pub answer_of : memory_final.Final → RefEnd
answer_of (F.Ended status) = E.Ended status
answer_of F.Depth = E.Depth
answer_of (F.Undefined kind place) = E.Undefined kind place

-- what a run answers where a step isn't done
abbrev pub halted : Halt → RefEnd
halted (H.Final final) = answer_of final
halted H.ReadFault = E.ReadFault
halted H.WriteFault = E.WriteFault
halted H.OutOfMemory = E.OutOfMemory

-- the unit for what ends it is spent
abbrev pub spent_at : Halt → ℕ → ℕ
spent_at (H.Final final) unit = unit
spent_at _ unit = 0

-- what becomes of it: it is over, or it stays
abbrev pub IsHalted : RefRun → Halt → RefRun → Type 0
IsHalted old (H.Final final) new = end_in new.control.task ≡ Some final
IsHalted old _ new = new ≡ old
