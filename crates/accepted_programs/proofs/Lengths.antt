-- Each leaf of a text but the last has a byte of its own.
use Rattle.std.proofs.Common.{ℕ, suc, ◌≤◌, List, ◌∷◌, Bool, length, drop, arith, length-drop}
use Rattle.run_theory.specs.declared.place.Pos.{Pos}
use Rattle.c_grammar.specs.Leaves.{Leaf}
use Rattle.c_lexer.specs.declared.front.Front.TheVariants as F
use Rattle.c_lexer.specs.Tokens.{DividesFrom, at_end, blank, token}
use Rattle.c_lexer.proofs.Widths.{front_within}

pub leaves_within : (line : Bool) (place : Pos) (text : List ℕ) (leaves : List Leaf) → DividesFrom line place text leaves → length leaves ≤ suc (length text)
leaves_within line place text leaves (at_end _ _) = omega arith
leaves_within line place text leaves (blank _ _ byte bytes count _ is divides) =
    omega (arith, leaves_within _ _ (drop count (byte ∷ bytes)) leaves divides, length-drop count (byte ∷ bytes))
leaves_within line place text leaves (token _ _ byte bytes lexeme count others is divides) =
    let within = front_within line place (byte ∷ bytes) (F.Token lexeme count) (omega arith) is in
    omega (arith, leaves_within _ _ (drop count (byte ∷ bytes)) others divides, length-drop count (byte ∷ bytes), within.0)
