-- What `exec` answers.
use Rattle.std.specs.Prelude.{◌≡◌, ℕ, ◌<◌, ◌≤◌, ◌⊎◌, List, Option, Some, length}
use Rattle.image_form.specs.declared.image.MachineLimits.{MachineLimits}
use Rattle.image_form.specs.Form.{Form}
use Rattle.machine.specs.declared.ends.RunEnd.{RunEnd}
use Rattle.machine.specs.declared.ends.RunEnd.TheVariants as E
use Rattle.pcc_words.specs.declared.status.Status.{Status}
use Rattle.pcc_words.specs.declared.status.Status.TheVariants as S
use Rattle.poolcc.specs.Compiled.{RunsImageTo, Compiles}
use Rattle.poolcc.specs.Refused.{IsUncompiled}

-- a source has at most so many bytes
abbrev pub source_limit : ℕ
source_limit = 1048576

-- The text, which is within the limit, was compiled, and the machine has run its image from the first step: this is its
-- answer, this is what is left of the input, and this is what was written, the new output behind the base.
pub record Executes (text : List ℕ) (limits : MachineLimits) (steps : ℕ) (left base : List ℕ) (answer : RunEnd) (left' written' : Option (List ℕ)) : Type 0 where
  pub short : length text ≤ source_limit
  pub form : Form
  pub compiles : Compiles text limits form
  pub ran : RunsImageTo form left base steps answer left' written'

-- nothing was read from the input or written
pub record IsUntouched (left base : List ℕ) (left' written' : Option (List ℕ)) : Type 0 where
  pub input : left' ≡ Some left
  pub output : written' ≡ Some base

-- What exec answers for a file's text, before its line on the error output: what the image's run gives; a refusal of
-- the text; that it is too long; or a fault or want of memory, before the run or in it.
abbrev pub ExecGives : List ℕ → MachineLimits → ℕ → List ℕ → List ℕ → Status → Option (List ℕ) → Option (List ℕ) → Type 0
ExecGives text limits steps left base (S.Program status) left' written' = Executes text limits steps left base (E.Ended status) left' written'
ExecGives text limits steps left base S.Depth left' written' = Executes text limits steps left base E.Depth left' written'
ExecGives text limits steps left base S.HeapExhausted left' written' = Executes text limits steps left base E.HeapExhausted left' written'
ExecGives text limits steps left base S.IndexExhausted left' written' = Executes text limits steps left base E.IndexExhausted left' written'
ExecGives text limits steps left base S.StepsSpent left' written' = Executes text limits steps left base E.StepsSpent left' written'
ExecGives text limits steps left base (S.Trapped kind) left' written' = Executes text limits steps left base (E.Trapped kind) left' written'
ExecGives text limits steps left base (S.Refused refusal) left' written' = (length text ≤ source_limit) × IsUncompiled text refusal × IsUntouched left base left' written'
ExecGives text limits steps left base S.SourceTooLong left' written' = (source_limit < length text) × IsUntouched left base left' written'
ExecGives text limits steps left base S.ReadFault left' written' = IsUntouched left base left' written' ⊎ Executes text limits steps left base E.ReadFault left' written'
ExecGives text limits steps left base S.WriteFault left' written' = Executes text limits steps left base E.WriteFault left' written'
ExecGives text limits steps left base S.OutOfMemory left' written' = IsUntouched left base left' written' ⊎ Executes text limits steps left base E.OutOfMemory left' written'
ExecGives text limits steps left base S.Done left' written' = ⊥
ExecGives text limits steps left base (S.Undefined kind place) left' written' = ⊥
ExecGives text limits steps left base (S.BadImage at) left' written' = ⊥
ExecGives text limits steps left base S.ImageTooLong left' written' = ⊥
ExecGives text limits steps left base (S.Usage kind) left' written' = ⊥

-- the words are faulty
abbrev pub IsUsage : Status → Type 0
IsUsage (S.Usage kind) = Unit {0}
IsUsage status = ⊥
