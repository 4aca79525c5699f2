-- Sources, sinks and files in memory, as their contracts see them.
use Rattle.std.specs.Prelude.{◌≡◌, ℕ, ◌+◌, ◌-◌, ◌^◌, min, List, [], ◌∷◌, map, Contains, if◌then◌else◌, String, string_bytes, Vec, bytes_eq}
use Rattle.std.specs.BTreeMap.{BTreeMap}
use Rattle.pcc_outside.specs.Outside.{Told, Missing, Holds}

-- The calls on a thing in memory: the numbers, from 1, of those that are to fail, how many came, and how many failed.
pub record CallCounts : Type 0 where
  pub failing : List ℕ
  pub made : ℕ
  pub failed : ℕ

-- No call came yet.
abbrev pub uncalled : List ℕ → CallCounts
uncalled failing = record { failing = failing; made = 0; failed = 0 }

-- One more, in a count of 64 bits that stays at its last value.
abbrev pub one_more : ℕ → ℕ
one_more count = min (count + 1) (2 ^ 64 - 1)

-- The next call is one of those that are to fail.
abbrev pub IsNextDue : CallCounts → Type 0
IsNextDue calls = Contains calls.failing (one_more calls.made)

-- One more call came, and the same ones are to fail.
abbrev pub OneCall : CallCounts → CallCounts → Type 0
OneCall old new = (new.failing ≡ old.failing) × (new.made ≡ one_more old.made)

-- A source in memory: what is left, and the most bytes that a call gives.
pub record SourceState : Type 0 where
  pub left : List ℕ
  pub piece : ℕ
  pub calls : CallCounts

-- A sink in memory: what is written, how many bytes it has room for, and the most bytes that a call takes.
pub record SinkState : Type 0 where
  pub written : List ℕ
  pub room : ℕ
  pub piece : ℕ
  pub calls : CallCounts

-- Files in memory: the name and the bytes of each, and how far calls have read in any of them.
pub record FilesState : Type 0 where
  pub files : List (List ℕ × List ℕ)
  pub reach : ℕ
  pub calls : CallCounts

-- The names and bytes of the files in a map.
abbrev pub files_of : {A B : Type 0} → BTreeMap (String A) (Vec ℕ B) → List (List ℕ × List ℕ)
files_of files = map (λ file. (string_bytes file.0, file.1.items)) files.entries

-- What files in memory tell of a name: the bytes of the file of that name, or that there is none.
abbrev pub file_of : List (List ℕ × List ℕ) → List ℕ → Told
file_of [] name = Missing
file_of (file ∷ files) name = if bytes_eq name file.0 then Holds file.1 else file_of files name
