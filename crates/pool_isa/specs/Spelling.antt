-- What readers answer, for any set of spellings: where one stands, and where the first fault is.
use Rattle.std.specs.Prelude.{◌≡◌, ℕ, suc, ◌+◌, ◌-◌, ◌<◌, ◌≤◌, List, ◌∷◌, ◌++◌, length, take, drop}

-- these bytes stand at a place, and what follows them begins at the end
pub record StandsAt (bytes : List ℕ) (at end : ℕ) (spelled : List ℕ) : Type 0 where
  pub parts : drop at bytes ≡ spelled ++ drop end bytes
  pub end_is : end ≡ at + length spelled
  pub within : end ≤ length bytes

-- some spelling begins with these bytes, or is these bytes
abbrev pub Begins : (List ℕ → Type 0) → List ℕ → Type 0
Begins IsSpelling front = (rest : List ℕ) × IsSpelling (front ++ rest)

-- some spelling begins with these bytes, and goes on behind them
abbrev pub IsCutShort : (List ℕ → Type 0) → List ℕ → Type 0
IsCutShort IsSpelling front = (next : ℕ) × (rest : List ℕ) × IsSpelling (front ++ next ∷ rest)

-- The first fault is behind so many good bytes: a spelling begins with those and goes on, and none begins with one
-- byte more. Where there is no byte more, the bytes are cut short.
pub record IsFault (IsSpelling : List ℕ → Type 0) (bytes : List ℕ) (good : ℕ) : Type 0 where
  pub within : good ≤ length bytes
  pub begun : IsCutShort IsSpelling (take good bytes)
  pub wrong : good < length bytes → Begins IsSpelling (take (suc good) bytes) → ⊥

-- the same, from a place on
pub record IsFaultAt (IsSpelling : List ℕ → Type 0) (bytes : List ℕ) (at place : ℕ) : Type 0 where
  pub from : at ≤ place
  pub fault : IsFault IsSpelling (drop at bytes) (place - at)
