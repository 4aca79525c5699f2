-- The leaves of a text stand one behind another.
use Rattle.std.proofs.Common.{inl, inr, ℕ, zero, suc, ◌+◌, ◌≤◌, ◌==◌, List, [], ◌∷◌, Bool, true, false, cond, take, refl, ◌∙◌, arith}
use Rattle.run_theory.specs.declared.place.Pos.{Pos}
use Rattle.run_theory.specs.Places.{newline, first_place, place_after, place_behind}
use Rattle.c_lexer.specs.declared.front.Front.TheVariants as F
use Rattle.c_grammar.specs.Leaves.{Leaf}
use Rattle.c_lexer.specs.Tokens.{DividesFrom, at_end, blank, token, Divides}
use Rattle.c_lexer.proofs.Widths.{front_within}
use Rattle.accepted_programs.specs.Places.{NotBefore, next_to, LeavesRise}

pub not_before_itself : (place : Pos) → NotBefore place place
not_before_itself place = inr (refl, omega arith)

pub not_before_next : (place : Pos) → NotBefore place (next_to place)
not_before_next place = inr (refl, omega arith)

pub not_before_through : (a b c : Pos) → NotBefore a b → NotBefore b c → NotBefore a c
not_before_through a b c (inl h) (inl k) = inl (omega arith)
not_before_through a b c (inl h) (inr k) = inl (omega (arith, k.0))
not_before_through a b c (inr h) (inl k) = inl (omega (arith, h.0))
not_before_through a b c (inr h) (inr k) = inr (h.0 ∙ k.0, omega (arith, h.1, k.1))

-- what is behind a byte is behind its place
byte_behind : (place : Pos) (byte : ℕ) → NotBefore (next_to place) (place_after place byte)
byte_behind place byte = by (byte == newline)
  where
    by : (ends : Bool) → NotBefore (next_to place) (cond ends (record { line = place.line + 1; column = 1 }) (record { line = place.line; column = place.column + 1 }))
    by true = inl (omega arith)
    by false = inr (refl, omega arith)

bytes_behind : (place : Pos) (bytes : List ℕ) → NotBefore place (place_behind place bytes)
bytes_behind place [] = not_before_itself place
bytes_behind place (byte ∷ bytes) =
    not_before_through place (place_after place byte) (place_behind (place_after place byte) bytes)
    (not_before_through place (next_to place) (place_after place byte) (not_before_next place) (byte_behind place byte)) (bytes_behind (place_after place byte) bytes)

-- one byte or more further on
some_behind : (place : Pos) (byte : ℕ) (bytes : List ℕ) (count : ℕ) → 1 ≤ count → NotBefore (next_to place) (place_behind place (take count (byte ∷ bytes)))
some_behind place byte bytes zero some = absurd (omega (arith, some))
some_behind place byte bytes (suc count) some =
    not_before_through (next_to place) (place_after place byte) (place_behind (place_after place byte) (take count bytes)) (byte_behind place byte) (bytes_behind (place_after place byte) (take count bytes))

pub leaves_rise_before : (a b : Pos) (leaves : List Leaf) → NotBefore a b → LeavesRise b leaves → LeavesRise a leaves
leaves_rise_before a b [] before rise = tt
leaves_rise_before a b (leaf ∷ leaves) before rise = (not_before_through a b leaf.place before rise.0, rise.1)

divided_rise : (line : Bool) (place : Pos) (text : List ℕ) (leaves : List Leaf) → DividesFrom line place text leaves → LeavesRise place leaves
divided_rise line place text leaves (at_end _ _) = (not_before_itself place, tt)
divided_rise line place text leaves (blank _ _ byte bytes count _ is divides) =
    leaves_rise_before place (place_behind place (take count (byte ∷ bytes))) leaves (bytes_behind place (take count (byte ∷ bytes))) (divided_rise _ _ _ leaves divides)
divided_rise line place text leaves (token _ _ byte bytes lexeme count others is divides) =
    let within = front_within line place (byte ∷ bytes) (F.Token lexeme count) (omega arith) is in
    (not_before_itself place, leaves_rise_before (next_to place) (place_behind place (take count (byte ∷ bytes))) others (some_behind place byte bytes count within.0) (divided_rise _ _ _ others divides))

pub leaves_rise : (text : List ℕ) (leaves : List Leaf) → Divides first_place text leaves → LeavesRise first_place leaves
leaves_rise text leaves divides = divided_rise true first_place text leaves divides
