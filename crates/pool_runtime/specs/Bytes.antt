-- Ranges of the bytes of a space.
use Rattle.std.specs.Prelude.{◌≡◌, ℕ, ◌+◌, ◌<◌, ◌≤◌, ◌⊎◌, List, take, drop, slice_index}

-- so many bytes from a place on
abbrev pub range : List ℕ → ℕ → ℕ → List ℕ
range bytes place count = take count (drop place bytes)

-- in this range there are the same bytes
abbrev pub SameAt : List ℕ → List ℕ → ℕ → ℕ → Type 0
SameAt old new place count = (at : ℕ) → place ≤ at → at < place + count → slice_index new at ≡ slice_index old at

-- two runs of slabs, or two ranges, have nothing in common
abbrev pub Apart : ℕ → ℕ → ℕ → ℕ → Type 0
Apart first count other others = (first + count ≤ other) ⊎ (other + others ≤ first)
