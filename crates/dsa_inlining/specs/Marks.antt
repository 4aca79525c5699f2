-- Marks of numbers.
use Rattle.std.specs.Prelude.{◌≡◌, ℕ, ◌<◌, ◌||◌, Bool, false, List, length, get_or}

abbrev pub is_marked : List Bool → ℕ → Bool
is_marked marks number = get_or marks number false

-- the numbers that pass a test are marked beside those that were
pub record AddsMarks (test : ℕ → Bool) (old new : List Bool) : Type 0 where
  pub size : length new ≡ length old
  pub is : (number : ℕ) → number < length old → is_marked new number ≡ (is_marked old number || test number)

-- none of so many is marked
pub record AreUnmarked (count : ℕ) (marks : List Bool) : Type 0 where
  pub size : length marks ≡ count
  pub is : (number : ℕ) → is_marked marks number ≡ false
