-- What `run` answers.
use Rattle.std.specs.Prelude.{ℕ, ◌^◌, ◌<◌, ◌≤◌, ◌⊎◌, List, Option, length}
use Rattle.image_form.specs.Form.{Form, ImageOf, IsImageBytes}
use Rattle.image_form.specs.Faults.{IsBadAt}
use Rattle.machine.specs.declared.ends.RunEnd.{RunEnd}
use Rattle.machine.specs.declared.ends.RunEnd.TheVariants as E
use Rattle.pcc_words.specs.declared.status.Status.{Status}
use Rattle.pcc_words.specs.declared.status.Status.TheVariants as S
use Rattle.poolcc.specs.Compiled.{RunsImageTo}
use Rattle.poolcc.specs.Exec.{IsUntouched}

-- an image has at most so many bytes
abbrev pub image_limit : ℕ
image_limit = 2 ^ 40

-- The bytes, which are within the limit, are the image's, and the machine has run it from the first step: this is its
-- answer, this is what is left of the input, and this is what was written, the new output behind the base.
pub record RunsImage (bytes : List ℕ) (steps : ℕ) (left base : List ℕ) (answer : RunEnd) (left' written' : Option (List ℕ)) : Type 0 where
  pub short : length bytes ≤ image_limit
  pub form : Form
  pub decoded : ImageOf bytes form
  pub ran : RunsImageTo form left base steps answer left' written'

-- The bytes, which are within the limit, are no image's: this is the place of the first with which none goes on.
pub record IsNoImage (bytes : List ℕ) (place : ℕ) : Type 0 where
  pub short : length bytes ≤ image_limit
  pub none : IsImageBytes bytes → ⊥
  pub bad : IsBadAt bytes place

-- What run answers for a file's bytes, before its line on the error output: what the image's run gives; that they are no
-- image; that they are too many; or a fault or want of memory, before the run or in it.
abbrev pub ImageGives : List ℕ → ℕ → List ℕ → List ℕ → Status → Option (List ℕ) → Option (List ℕ) → Type 0
ImageGives bytes steps left base (S.Program status) left' written' = RunsImage bytes steps left base (E.Ended status) left' written'
ImageGives bytes steps left base S.Depth left' written' = RunsImage bytes steps left base E.Depth left' written'
ImageGives bytes steps left base S.HeapExhausted left' written' = RunsImage bytes steps left base E.HeapExhausted left' written'
ImageGives bytes steps left base S.IndexExhausted left' written' = RunsImage bytes steps left base E.IndexExhausted left' written'
ImageGives bytes steps left base S.StepsSpent left' written' = RunsImage bytes steps left base E.StepsSpent left' written'
ImageGives bytes steps left base (S.Trapped kind) left' written' = RunsImage bytes steps left base (E.Trapped kind) left' written'
ImageGives bytes steps left base S.WriteFault left' written' = RunsImage bytes steps left base E.WriteFault left' written'
ImageGives bytes steps left base S.ReadFault left' written' = IsUntouched left base left' written' ⊎ RunsImage bytes steps left base E.ReadFault left' written'
ImageGives bytes steps left base S.OutOfMemory left' written' = IsUntouched left base left' written' ⊎ RunsImage bytes steps left base E.OutOfMemory left' written'
ImageGives bytes steps left base (S.BadImage place) left' written' = IsNoImage bytes place × IsUntouched left base left' written'
ImageGives bytes steps left base S.ImageTooLong left' written' = (image_limit < length bytes) × IsUntouched left base left' written'
ImageGives bytes steps left base S.Done left' written' = ⊥
ImageGives bytes steps left base (S.Refused refusal) left' written' = ⊥
ImageGives bytes steps left base S.SourceTooLong left' written' = ⊥
ImageGives bytes steps left base (S.Undefined kind place) left' written' = ⊥
ImageGives bytes steps left base (S.Usage kind) left' written' = ⊥
