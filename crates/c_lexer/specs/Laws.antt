-- The laws of divisions and faults.
use Rattle.std.specs.Prelude.{◌≡◌, ℕ, ◌⊎◌, List}
use Rattle.run_theory.specs.Places.{first_place}
use Rattle.c_lexer.specs.declared.lex_err.LexErr.{LexErr}
use Rattle.c_grammar.specs.Leaves.{Leaf}
use Rattle.c_lexer.specs.Tokens.{Divides, Faults}

-- a text divides in one way at most
abbrev pub OneDivision : Type 0
OneDivision = (text : List ℕ) (leaves leaves' : List Leaf) → Divides first_place text leaves → Divides first_place text leaves' → leaves ≡ leaves'

-- a text has one first fault at most
abbrev pub OneFault : Type 0
OneFault = (text : List ℕ) (error error' : LexErr) → Faults first_place text error → Faults first_place text error' → error ≡ error'

-- a text with a fault doesn't divide
abbrev pub NoBoth : Type 0
NoBoth = (text : List ℕ) (error : LexErr) (leaves : List Leaf) → Faults first_place text error → Divides first_place text leaves → ⊥

-- a text divides or has a fault
abbrev pub Decided : Type 0
Decided = (text : List ℕ) → ((leaves : List Leaf) × Divides first_place text leaves) ⊎ ((error : LexErr) × Faults first_place text error)
