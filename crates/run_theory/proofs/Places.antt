-- The place of what stands behind a front, byte by byte.
use Rattle.std.proofs.Common.{◌≡◌, ℕ, ◌+◌, ◌<◌, ◌≤◌, Bool, true, false, cond, List, [], ◌∷◌, ◌++◌, length, get_or, take, refl, ap, ◌∙◌, arith}
use Rattle.std.specs.Prelude.{◌==◌}
use Rattle.std.proofs.lemmas.List.{take_more}
use Rattle.run_theory.specs.declared.place.Pos.{Pos}
use Rattle.run_theory.specs.Places.{newline, newlines, first_place, place_after, place_behind, place_in, PlacesCount}

pub place_behind-append : (place : Pos) (s t : List ℕ) → place_behind place (s ++ t) ≡ place_behind (place_behind place s) t
place_behind-append place [] t = refl
place_behind-append place (byte ∷ s) t = place_behind-append (place_after place byte) s t

-- one byte more
pub place_in_push : (front : List ℕ) (byte : ℕ) → place_in (front ++ byte ∷ []) ≡ place_after (place_in front) byte
place_in_push front byte = place_behind-append first_place front (byte ∷ [])

-- the step of a loop over a text
pub place_in_more : (text : List ℕ) (i : ℕ) → i < length text → place_in (take (i + 1) text) ≡ place_after (place_in (take i text)) (get_or text i 0)
place_in_more text i within = ap place_in (take_more text i 0 within) ∙ place_in_push (take i text) (get_or text i 0)

-- a place, written out
abbrev place_at : ℕ → ℕ → Pos
place_at line column = record { line = line; column = column }

-- what stands behind is as many lines on as newlines are passed
pub line_behind : (place : Pos) (bytes : List ℕ) → (place_behind place bytes).line ≡ place.line + newlines bytes
line_behind place [] = omega arith
line_behind place (byte ∷ bytes) = go (byte == newline) (line_behind (place_at (place.line + 1) 1) bytes) (line_behind (place_at place.line (place.column + 1)) bytes)
  where
    go : (ends : Bool) → (place_behind (place_at (place.line + 1) 1) bytes).line ≡ place.line + 1 + newlines bytes → (place_behind (place_at place.line (place.column + 1)) bytes).line ≡ place.line + newlines bytes → (place_behind (cond ends (place_at (place.line + 1) 1) (place_at place.line (place.column + 1))) bytes).line ≡ place.line + (cond ends 1 0 + newlines bytes)
    go true below along = omega arith
    go false below along = omega arith

-- and its column is at most the bytes that are passed further on
pub column_behind : (place : Pos) (bytes : List ℕ) → 1 ≤ place.column → (place_behind place bytes).column ≤ place.column + length bytes
column_behind place [] low = omega arith
column_behind place (byte ∷ bytes) low = go (byte == newline) (column_behind (place_at (place.line + 1) 1) bytes (omega arith)) (column_behind (place_at place.line (place.column + 1)) bytes (omega arith))
  where
    go : (ends : Bool) → (place_behind (place_at (place.line + 1) 1) bytes).column ≤ 1 + length bytes → (place_behind (place_at place.line (place.column + 1)) bytes).column ≤ place.column + 1 + length bytes → (place_behind (cond ends (place_at (place.line + 1) 1) (place_at place.line (place.column + 1))) bytes).column ≤ place.column + length (byte ∷ bytes)
    go true below along = omega arith
    go false below along = omega arith

newlines-le : (bytes : List ℕ) → newlines bytes ≤ length bytes
newlines-le [] = omega arith
newlines-le (byte ∷ bytes) = go (byte == newline) (newlines-le bytes)
  where
    go : (ends : Bool) → newlines bytes ≤ length bytes → cond ends 1 0 + newlines bytes ≤ length (byte ∷ bytes)
    go true le = omega arith
    go false le = omega arith

-- lines and columns are no more than bytes
pub place_in_room : (front : List ℕ) → ((place_in front).line ≤ length front + 1) × ((place_in front).column ≤ length front + 1)
place_in_room front = (omega (arith, line_behind first_place front, newlines-le front), omega (arith, column_behind first_place front (omega arith)))

-- along one line
pub along_line : (place : Pos) (line : List ℕ) → newlines line ≡ 0 → place_behind place line ≡ place_at place.line (place.column + length line)
along_line place [] none = ap (place_at place.line) (let e : place.column ≡ place.column + 0 = omega arith in e)
along_line place (byte ∷ line) none = go (byte == newline) none (along_line (place_at place.line (place.column + 1)) line)
  where
    go : (ends : Bool) → cond ends 1 0 + newlines line ≡ 0 → (newlines line ≡ 0 → place_behind (place_at place.line (place.column + 1)) line ≡ place_at place.line (place.column + 1 + length line)) → place_behind (cond ends (place_at (place.line + 1) 1) (place_at place.line (place.column + 1))) line ≡ place_at place.line (place.column + length (byte ∷ line))
    go true none rest = absurd (omega arith)
    go false none rest = rest (omega arith) ∙ ap (place_at place.line) (let e : place.column + 1 + length line ≡ place.column + length (byte ∷ line) = omega arith in e)

pub places_count : PlacesCount
places_count before line none = (along_line first_place line none, behind)
  where
    behind : place_in (before ++ newline ∷ line) ≡ place_at (2 + newlines before) (1 + length line)
    behind =
        place_behind-append first_place before (newline ∷ line)
        ∙ along_line (place_at ((place_in before).line + 1) 1) line none
        ∙ ap (λ n. place_at n (1 + length line)) (let e : (place_in before).line + 1 ≡ 2 + newlines before = omega (arith, line_behind first_place before) in e)
