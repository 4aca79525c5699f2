-- Places in a source: which follows which, and how one is printed.
use Rattle.std.specs.Prelude.{◌≡◌, ℕ, ◌+◌, ◌==◌, if◌then◌else◌, List, [], ◌∷◌, ◌++◌, length}
use Rattle.std.specs.Fmt.{decimal}
use Rattle.run_theory.specs.declared.place.Pos.{Pos}

abbrev pub newline : ℕ
newline = 10

-- the place of a source's first byte
abbrev pub first_place : Pos
first_place = record { line = 1; column = 1 }

-- the place behind a byte at a place
abbrev pub place_after : Pos → ℕ → Pos
place_after place byte =
    (if byte == newline then record { line = place.line + 1; column = 1 } else record { line = place.line; column = place.column + 1 })

-- the place behind bytes that begin at a place
abbrev pub place_behind : Pos → List ℕ → Pos
place_behind place [] = place
place_behind place (byte ∷ bytes) = place_behind (place_after place byte) bytes

-- the place of what stands behind a source's front
abbrev pub place_in : List ℕ → Pos
place_in front = place_behind first_place front

-- how many lines end in these bytes
abbrev pub newlines : List ℕ → ℕ
newlines [] = 0
newlines (byte ∷ bytes) = (if byte == newline then 1 else 0) + newlines bytes

-- as it is printed: `12:5`
abbrev pub place_text : Pos → List ℕ
place_text place = decimal place.line ++ (58 ∷ decimal place.column)

-- What stands behind a front is on the line that the newlines in front count, and in the column that the bytes of its
-- line count.
abbrev pub PlacesCount : Type 0
PlacesCount =
    (before line : List ℕ) → newlines line ≡ 0 →
    (place_in line ≡ record { line = 1; column = 1 + length line }) ×
    (place_in (before ++ newline ∷ line) ≡ record { line = 2 + newlines before; column = 1 + length line })
