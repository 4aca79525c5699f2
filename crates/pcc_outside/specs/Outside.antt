-- What a call on the outside gives and takes. A source or sink that tells nothing has None for its bytes.
use Rattle.std.specs.Prelude.{◌≡◌, ℕ, ◌+◌, ◌-◌, ◌^◌, ◌<◌, max, ◌⊎◌, List, [], ◌∷◌, ◌++◌, drop, length, Option, Some, None, ⊤}

-- A count of faults rose, or stands at the last value of its 64 bits.
abbrev pub Rose : ℕ → ℕ → Type 0
Rose old new = (old < new) ⊎ (new ≡ 2 ^ 64 - 1)

-- These bytes were taken from the front of what was left; none only where nothing was left.
abbrev pub Takes : Option (List ℕ) → List ℕ → Option (List ℕ) → Type 0
Takes None got new = new ≡ None
Takes (Some left) got new = (rest : List ℕ) × (left ≡ got ++ rest) × (new ≡ Some rest) × (got ≡ [] → left ≡ [])

-- The first byte was taken from what was left; none only where nothing was left.
abbrev pub TakesByte : Option (List ℕ) → Option ℕ → Option (List ℕ) → Type 0
TakesByte None byte new = new ≡ None
TakesByte (Some left) (Some byte) new = (rest : List ℕ) × (left ≡ byte ∷ rest) × (new ≡ Some rest)
TakesByte (Some left) None new = (left ≡ []) × (new ≡ Some [])

-- These bytes were added to what is written.
abbrev pub Adds : Option (List ℕ) → List ℕ → Option (List ℕ) → Type 0
Adds None piece new = new ≡ None
Adds (Some old) piece new = new ≡ Some (old ++ piece)

-- Only a front part of these bytes was added, and not all of them.
abbrev pub AddsPart : Option (List ℕ) → List ℕ → Option (List ℕ) → Type 0
AddsPart old bytes new = (done rest : List ℕ) × (bytes ≡ done ++ rest) × (0 < length rest) × Adds old done new

-- What is told of a name: nothing, that no file has it, or the bytes of its file.
pub data Told : Type 0 where
  Untold : Told
  Missing : Told
  Holds : (bytes : List ℕ) → Told

-- These bytes stand in the file from a place on; none only at or past its end. A file that is missing gives no answer.
abbrev pub Gives : Told → ℕ → List ℕ → Type 0
Gives Untold at got = ⊤
Gives Missing at got = ⊥
Gives (Holds bytes) at got = (rest : List ℕ) × (drop at bytes ≡ got ++ rest) × (got ≡ [] → drop at bytes ≡ [])

-- After n bytes from a place on, the reach of a name is at least the place behind them; with no bytes it stays.
abbrev pub Reaches : ℕ → ℕ → ℕ → ℕ → Type 0
Reaches at n old new = (n ≡ 0 → new ≡ old) × (0 < n → new ≡ max old (at + n))

-- These are all the bytes of a file, where they are told.
abbrev pub IsWhole : Told → List ℕ → Type 0
IsWhole Untold got = ⊤
IsWhole Missing got = ⊥
IsWhole (Holds bytes) got = got ≡ bytes

-- A file has more bytes than a limit, where they are told.
abbrev pub IsLonger : Told → ℕ → Type 0
IsLonger Untold limit = ⊤
IsLonger Missing limit = ⊥
IsLonger (Holds bytes) limit = limit < length bytes
