-- What writing the line of an answer comes to.
use Rattle.std.specs.Prelude.{◌≡◌, ℕ, ◌⊎◌, List, [], ◌∷◌, ◌++◌, Option, Result, Ok, Err}
use Rattle.std.specs.Borrow.{Bor}
use Rattle.pcc_outside.specs.Outside.{Rose, Adds, AddsPart}
use Rattle.pcc_words.specs.declared.status.Status.{Status}
use Rattle.pcc_words.specs.declared.status.Status.TheVariants as S
use Rattle.pcc_words.specs.Texts.{error_text}

-- what an answer becomes where its line can't be written
abbrev pub after_failed_line : Status → Status
after_failed_line S.ReadFault = S.ReadFault
after_failed_line status = S.WriteFault

-- The answer stays, its line was added, and no write failed.
pub record IsSaid (status answer : Status) (old new : Option (List ℕ)) (before after : ℕ) : Type 0 where
  pub stays : answer ≡ status
  pub line : Adds old (error_text status) new
  pub faultless : after ≡ before

-- A write failed, which the answer tells unless it tells of a fault already, and only a front of the line was added.
pub record IsCutOff (status answer : Status) (old new : Option (List ℕ)) (before after : ℕ) : Type 0 where
  pub becomes : answer ≡ after_failed_line status
  pub front : AddsPart old (error_text status) new
  pub fault : Rose before after

-- The line of an answer was written, or a write failed: what was written before and after, and how many faults there were.
abbrev pub Said : Status → Status → Option (List ℕ) → Option (List ℕ) → ℕ → ℕ → Type 0
Said status answer old new before after = IsSaid status answer old new before after ⊎ IsCutOff status answer old new before after

-- A call that was to write a text added all of it and no write failed, or it failed and added only a front of it.
abbrev pub Puts : {T E : Type 0} → Result T E → List ℕ → Option (List ℕ) → Option (List ℕ) → ℕ → ℕ → Type 0
Puts (Ok done) text old new before after = Adds old text new × (after ≡ before)
Puts (Err failed) text old new before after = AddsPart old text new × Rose before after

-- pieces one after another, and the end of their line
abbrev pub line_of : List (Bor (List ℕ)) → List ℕ
line_of [] = 10 ∷ []
line_of (piece ∷ pieces) = piece.now ++ line_of pieces
