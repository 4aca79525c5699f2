-- What `ref` answers.
use Rattle.std.specs.Prelude.{◌≡◌, ℕ, ◌<◌, ◌≤◌, ◌⊎◌, List, ◌++◌, Option, Some, length}
use Rattle.run_theory.specs.Runs.{Answer, Final, Trace, Ended, DepthReached, Undefined, Going, Over, output_of, trace_of}
use Rattle.c_syntax.specs.Trees
use Rattle.c_rules.specs.Elaborated.{typed_of}
use Rattle.pcc_words.specs.declared.status.Status.{Status}
use Rattle.pcc_words.specs.declared.status.Status.TheVariants as S
use Rattle.ref_meaning.specs.declared.run.RefEnd.{RefEnd}
use Rattle.ref_meaning.specs.declared.run.RefEnd.TheVariants as E
use Rattle.ref_meaning.specs.Running.{Reached, behaviour_of}
use Rattle.poolcc.specs.Compiled.{IsAccepted}
use Rattle.poolcc.specs.Exec.{source_limit, IsUntouched}
use Rattle.poolcc.specs.Refused.{IsRefused}

-- it ends so, all that it writes is written, behind the base, and what it doesn't read is left
pub record Ends (final : Final) (base : List ℕ) (left written : Option (List ℕ)) (there : Reached) : Type 0 where
  pub trace : Trace
  pub rest : List ℕ
  pub is : there ≡ record { answer = Over final trace; unread = rest }
  pub told : left ≡ Some rest
  pub out : written ≡ Some (base ++ output_of trace)

-- it has spent all units, all that it writes with these is written, and what it doesn't read with these is left
pub record IsSpent (base : List ℕ) (left written : Option (List ℕ)) (there : Reached) : Type 0 where
  pub trace : Trace
  pub rest : List ℕ
  pub is : there ≡ record { answer = Going trace; unread = rest }
  pub told : left ≡ Some rest
  pub out : written ≡ Some (base ++ output_of trace)

-- it broke off: what was written is a front of the program's output
pub record BreaksOff (base : List ℕ) (written : Option (List ℕ)) (answer : Answer) : Type 0 where
  pub front : List ℕ
  pub rest : List ℕ
  pub out : written ≡ Some (base ++ front)
  pub begins : output_of (trace_of answer) ≡ front ++ rest

-- what a run gives of where its program comes to with the units
abbrev pub ProgramGives : Reached → List ℕ → RefEnd → Option (List ℕ) → Option (List ℕ) → Type 0
ProgramGives there base (E.Ended status) left written = Ends (Ended status) base left written there
ProgramGives there base E.Depth left written = Ends DepthReached base left written there
ProgramGives there base (E.Undefined kind place) left written = Ends (Undefined kind place) base left written there
ProgramGives there base E.StepsSpent left written = IsSpent base left written there
ProgramGives there base E.ReadFault left written = BreaksOff base written there.answer
ProgramGives there base E.WriteFault left written = BreaksOff base written there.answer
ProgramGives there base E.OutOfMemory left written = BreaksOff base written there.answer

-- The text, which is within the limit, is accepted, and its program was run: this is its answer, this is what is left of the input, and
-- this is what was written.
pub record RunsMeaning (text : List ℕ) (steps : ℕ) (left base : List ℕ) (end : RefEnd) (left' written' : Option (List ℕ)) : Type 0 where
  pub short : length text ≤ source_limit
  pub program : Trees.ProgramTree
  pub accepted : IsAccepted text program
  pub gives : ProgramGives (behaviour_of (typed_of program) left steps) base end left' written'

-- What ref answers for a file's text, before its line on the error output: what its program does with the input and so many
-- units; a refusal of the text; that it is too long; or a fault or want of memory, before the run
-- or in it.
abbrev pub RefGives : List ℕ → ℕ → List ℕ → List ℕ → Status → Option (List ℕ) → Option (List ℕ) → Type 0
RefGives text steps left base (S.Program status) left' written' = RunsMeaning text steps left base (E.Ended status) left' written'
RefGives text steps left base S.Depth left' written' = RunsMeaning text steps left base E.Depth left' written'
RefGives text steps left base (S.Undefined kind place) left' written' = RunsMeaning text steps left base (E.Undefined kind place) left' written'
RefGives text steps left base S.StepsSpent left' written' = RunsMeaning text steps left base E.StepsSpent left' written'
RefGives text steps left base S.WriteFault left' written' = RunsMeaning text steps left base E.WriteFault left' written'
RefGives text steps left base S.ReadFault left' written' = IsUntouched left base left' written' ⊎ RunsMeaning text steps left base E.ReadFault left' written'
RefGives text steps left base S.OutOfMemory left' written' = IsUntouched left base left' written' ⊎ RunsMeaning text steps left base E.OutOfMemory left' written'
RefGives text steps left base (S.Refused refusal) left' written' = (length text ≤ source_limit) × IsRefused text refusal × IsUntouched left base left' written'
RefGives text steps left base S.SourceTooLong left' written' = (source_limit < length text) × IsUntouched left base left' written'
RefGives text steps left base S.HeapExhausted left' written' = ⊥
RefGives text steps left base S.IndexExhausted left' written' = ⊥
RefGives text steps left base (S.Trapped kind) left' written' = ⊥
RefGives text steps left base S.Done left' written' = ⊥
RefGives text steps left base (S.BadImage at) left' written' = ⊥
RefGives text steps left base S.ImageTooLong left' written' = ⊥
RefGives text steps left base (S.Usage kind) left' written' = ⊥
