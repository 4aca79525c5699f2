-- What an accepted program's run comes to, where nothing outside fails.
use Rattle.std.specs.Prelude.{◌≡◌, ℕ, ◌⊎◌, List, ◌++◌, Option, Some}
use Rattle.run_theory.specs.Runs.{output_of, Ended, DepthReached, Undefined, HeapExhausted, IndexExhausted, Trapped, Answer, Going, Over, trace_of}
use Rattle.image_form.specs.declared.image.MachineLimits.{MachineLimits}
use Rattle.image_form.specs.Form.{Form}
use Rattle.image_form.specs.Faults.{IsBadAt}
use Rattle.pcc_words.specs.declared.status.Status.{Status}
use Rattle.pcc_words.specs.declared.status.Status.TheVariants as S
use Rattle.ref_meaning.specs.Running.{Reached}
use Rattle.poolcc.specs.Compiled.{image_run, Compiles}
use Rattle.poolcc.specs.Printed.{IsPrinted}

-- the answer of a run as a command tells it: a run that is going has spent its steps
abbrev pub told : Answer → Status
told (Going trace) = S.StepsSpent
told (Over (Ended status) trace) = S.Program status
told (Over DepthReached trace) = S.Depth
told (Over (Undefined kind place) trace) = S.Undefined kind place
told (Over HeapExhausted trace) = S.HeapExhausted
told (Over IndexExhausted trace) = S.IndexExhausted
told (Over (Trapped kind) trace) = S.Trapped kind

-- The text was compiled, and this is what the machine gives on the input within the steps: the status, and the output
-- behind the base.
pub record RunsAs (text : List ℕ) (limits : MachineLimits) (steps : ℕ) (input base : List ℕ) (status : Status) (written : Option (List ℕ)) : Type 0 where
  pub form : Form
  pub compiles : Compiles text limits form
  pub ends : status ≡ told (image_run form input steps)
  pub output : written ≡ Some (base ++ output_of (trace_of (image_run form input steps)))

-- The status and the output, behind the base, are those of this answer of the program itself.
pub record IsToldOf (answer : Answer) (base : List ℕ) (status : Status) (written : Option (List ℕ)) : Type 0 where
  pub ends : status ≡ told answer
  pub output : written ≡ Some (base ++ output_of (trace_of answer))

-- that, or memory ran out
abbrev pub IsToldUnlessMemory : Answer → List ℕ → Status → Option (List ℕ) → Type 0
IsToldUnlessMemory answer base status written = (status ≡ S.OutOfMemory) ⊎ IsToldOf answer base status written

-- The status, the output behind the base, and what is left of the input are those of where the program comes to.
pub record IsReachedAs (there : Reached) (base : List ℕ) (status : Status) (left written : Option (List ℕ)) : Type 0 where
  pub told_of : IsToldOf there.answer base status written
  pub unread : left ≡ Some there.unread

-- that, or memory ran out
abbrev pub IsReachedUnlessMemory : Reached → List ℕ → Status → Option (List ℕ) → Option (List ℕ) → Type 0
IsReachedUnlessMemory there base status left written = (status ≡ S.OutOfMemory) ⊎ IsReachedAs there base status left written

-- so it is answered, or memory ran out
abbrev pub RunsUnlessMemory : List ℕ → MachineLimits → ℕ → List ℕ → List ℕ → Status → Option (List ℕ) → Type 0
RunsUnlessMemory text limits steps input base status written = (status ≡ S.OutOfMemory) ⊎ RunsAs text limits steps input base status written

-- The text was compiled, and this is done: the output is the bytes of its image, behind the base.
pub record IsBuilt (text : List ℕ) (limits : MachineLimits) (base : List ℕ) (status : Status) (written : Option (List ℕ)) : Type 0 where
  pub form : Form
  pub compiles : Compiles text limits form
  pub ends : status ≡ S.Done
  pub output : written ≡ Some (base ++ compiles.encoded)

-- that, or memory ran out
abbrev pub IsBuiltUnlessMemory : List ℕ → MachineLimits → List ℕ → Status → Option (List ℕ) → Type 0
IsBuiltUnlessMemory text limits base status written = (status ≡ S.OutOfMemory) ⊎ IsBuilt text limits base status written

-- The text has graphs, and this is done: the output is their lines, behind the base.
pub record AreShown (text base : List ℕ) (status : Status) (written : Option (List ℕ)) : Type 0 where
  pub lines : List ℕ
  pub printed : IsPrinted text lines
  pub ends : status ≡ S.Done
  pub output : written ≡ Some (base ++ lines)

-- that, or memory ran out
abbrev pub AreShownUnlessMemory : List ℕ → List ℕ → Status → Option (List ℕ) → Type 0
AreShownUnlessMemory text base status written = (status ≡ S.OutOfMemory) ⊎ AreShown text base status written

-- the status names the first byte with which no image goes on, or memory ran out
abbrev pub IsBadUnlessMemory : List ℕ → Status → Type 0
IsBadUnlessMemory bytes status = (status ≡ S.OutOfMemory) ⊎ ((place : ℕ) × IsBadAt bytes place × (status ≡ S.BadImage place))
