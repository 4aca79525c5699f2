-- A text has no more tokens than bytes, and its end.
use Rattle.std.proofs.Common.{ℕ, ◌+◌, ◌≤◌, List, ◌∷◌, Bool, true, length, arith, length-drop}
use Rattle.run_theory.specs.declared.place.Pos.{Pos}
use Rattle.c_lexer.specs.declared.front.Front.TheVariants as F
use Rattle.c_grammar.specs.Leaves.{Leaf}
use Rattle.c_lexer.specs.Tokens.{DividesFrom, at_end, blank, token, Divides}
use Rattle.c_lexer.proofs.Widths.{front_within}

leaves_length_from : (line : Bool) (place : Pos) (text : List ℕ) (leaves : List Leaf) → DividesFrom line place text leaves → length leaves ≤ length text + 1
leaves_length_from line place text leaves (at_end _ _) = omega arith
leaves_length_from line place text leaves (blank _ _ byte bytes count _ is divides) =
    let within = front_within line place (byte ∷ bytes) (F.Blank count) (omega arith) is in
    omega (arith, within.0, within.1, length-drop count (byte ∷ bytes), leaves_length_from _ _ _ leaves divides)
leaves_length_from line place text leaves (token _ _ byte bytes lexeme count others is divides) =
    let within = front_within line place (byte ∷ bytes) (F.Token lexeme count) (omega arith) is in
    omega (arith, within.0, within.1, length-drop count (byte ∷ bytes), leaves_length_from _ _ _ others divides)

pub leaves_length : (place : Pos) (text : List ℕ) (leaves : List Leaf) → Divides place text leaves → length leaves ≤ length text + 1
leaves_length place text leaves divides = leaves_length_from true place text leaves divides
