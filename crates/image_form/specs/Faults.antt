-- Where bytes are no image's.
use Rattle.std.specs.Prelude.{◌≡◌, ℕ, suc, ◌<◌, ◌≤◌, List, length, take}
use Rattle.pool_isa.specs.Spelling.{Begins, IsCutShort}
use Rattle.image_form.specs.declared.image.ImageErr.{ImageErr}
use Rattle.image_form.specs.declared.image.ImageErr.TheVariants.{Bad, OutOfMemory}
use Rattle.image_form.specs.Form.{IsImageBytes}

-- The least place such that no image's bytes begin with the bytes through it; or the length, where the bytes are the
-- front of an image's that go on.
pub record IsBadAt (bytes : List ℕ) (place : ℕ) : Type 0 where
  pub within : place ≤ length bytes
  -- an image's bytes begin with those before the place, so that no lesser place is bad
  pub begun : Begins IsImageBytes (take place bytes)
  pub wrong : place < length bytes → Begins IsImageBytes (take (suc place) bytes) → ⊥
  pub cut_short : place ≡ length bytes → IsCutShort IsImageBytes bytes

-- the place of an error, unless memory ran out
abbrev pub IsBad : List ℕ → ImageErr → Type 0
IsBad bytes (Bad place) = IsBadAt bytes place
IsBad bytes OutOfMemory = Unit {0}
