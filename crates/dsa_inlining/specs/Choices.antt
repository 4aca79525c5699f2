-- Groups that are chosen among others.
use Rattle.std.specs.Prelude.{ℕ, List, Contains}

-- they are among these groups
abbrev pub AreAmong : List ℕ → List ℕ → Type 0
AreAmong chosen groups = (group : ℕ) → Contains chosen group → Contains groups group
