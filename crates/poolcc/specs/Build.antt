-- What `build` answers.
use Rattle.std.specs.Prelude.{◌≡◌, ℕ, ◌<◌, ◌≤◌, List, ◌++◌, Option, Some, length}
use Rattle.pcc_outside.specs.Outside.{AddsPart}
use Rattle.image_form.specs.declared.image.MachineLimits.{MachineLimits}
use Rattle.image_form.specs.Form.{Form}
use Rattle.pcc_words.specs.declared.status.Status.{Status}
use Rattle.pcc_words.specs.declared.status.Status.TheVariants as S
use Rattle.poolcc.specs.Compiled.{Compiles}
use Rattle.poolcc.specs.Exec.{source_limit}
use Rattle.poolcc.specs.Refused.{IsUncompiled}

-- The text, which is within the limit, was compiled, and all bytes of its image were written behind the base.
pub record Builds (text : List ℕ) (limits : MachineLimits) (base : List ℕ) (written' : Option (List ℕ)) : Type 0 where
  pub short : length text ≤ source_limit
  pub form : Form
  pub compiles : Compiles text limits form
  pub output : written' ≡ Some (base ++ compiles.encoded)

-- The same, but the writing broke off: a front of those bytes was written, and not all of them.
pub record BuildsPart (text : List ℕ) (limits : MachineLimits) (base : List ℕ) (written' : Option (List ℕ)) : Type 0 where
  pub short : length text ≤ source_limit
  pub form : Form
  pub compiles : Compiles text limits form
  pub output : AddsPart (Some base) compiles.encoded written'

-- What build answers for a file's text, before its line on the error output: that the bytes of its image are written; a
-- refusal of the text; that it is too long; or a fault or want of memory. It reads nothing of the input.
abbrev pub BuildGives : List ℕ → MachineLimits → List ℕ → Status → Option (List ℕ) → Type 0
BuildGives text limits base S.Done written' = Builds text limits base written'
BuildGives text limits base S.WriteFault written' = BuildsPart text limits base written'
BuildGives text limits base (S.Refused refusal) written' = (length text ≤ source_limit) × IsUncompiled text refusal × (written' ≡ Some base)
BuildGives text limits base S.SourceTooLong written' = (source_limit < length text) × (written' ≡ Some base)
BuildGives text limits base S.ReadFault written' = written' ≡ Some base
BuildGives text limits base S.OutOfMemory written' = written' ≡ Some base
BuildGives text limits base (S.Program status) written' = ⊥
BuildGives text limits base S.Depth written' = ⊥
BuildGives text limits base S.HeapExhausted written' = ⊥
BuildGives text limits base S.IndexExhausted written' = ⊥
BuildGives text limits base S.StepsSpent written' = ⊥
BuildGives text limits base (S.Trapped kind) written' = ⊥
BuildGives text limits base (S.Undefined kind place) written' = ⊥
BuildGives text limits base (S.BadImage at) written' = ⊥
BuildGives text limits base S.ImageTooLong written' = ⊥
BuildGives text limits base (S.Usage kind) written' = ⊥
