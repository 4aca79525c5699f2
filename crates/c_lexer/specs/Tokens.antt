-- How a text divides into tokens, and where it is refused (C17 6.4).
--
-- A text is cut from the left: what stands at its front is white space, a comment or an accepted directive, which is
-- passed, or a token, or a fault, which refuses the text.
use Rattle.std.specs.Prelude.{◌≡◌, ℕ, ◌+◌, ◌-◌, ◌≤◌, List, [], ◌∷◌, Bool, true, ◌&&◌, ◌||◌, ◌==◌, length, take, drop, Vec, Result, Ok, Err}
use Rattle.std.specs.declared.alloc.Global.{Global}
use Rattle.run_theory.specs.declared.place.Pos.{Pos}
use Rattle.run_theory.specs.Places.{place_behind}
use Rattle.c_grammar.specs.declared.token.Lexeme.{Lexeme}
use Rattle.c_grammar.specs.declared.token.Lexeme.TheVariants as L
use Rattle.c_grammar.specs.declared.token.Token.{Token}
use Rattle.c_lexer.specs.declared.lex_err.LexErr.{LexErr}
use Rattle.c_lexer.specs.declared.lex_err.LexErr.TheVariants.{BadByte, BadLiteral, Unclosed, BadDirective, NameTooLong, OutOfMemory}
use Rattle.c_lexer.specs.declared.front.Front.{Front}
use Rattle.c_lexer.specs.declared.front.Front.TheVariants as F
use Rattle.c_lexer.specs.Classes.{is_blank}
use Rattle.c_grammar.specs.Leaves.{Leaf, leaves_of}
use Rattle.c_lexer.specs.Fronts.{front_of}

-- Do nothing but spaces and tabs stand on the line behind these bytes, where this was so before them or not?
abbrev pub line_behind : Bool → List ℕ → Bool
line_behind line [] = line
line_behind line (byte ∷ bytes) = line_behind (byte == 10 || (line && is_blank byte)) bytes

-- From a place on, with nothing but spaces and tabs before it on its line or not, the text divides into these leaves, and
-- white space, comments and directives; the end of the text is the last.
pub data DividesFrom : Bool → Pos → List ℕ → List Leaf → Type 0 where
  at_end : (line : Bool) (place : Pos) → DividesFrom line place [] (record { lexeme = L.EndOfText; place = place } ∷ [])
  blank : (line : Bool) (place : Pos) (byte : ℕ) (bytes : List ℕ) (count : ℕ) (leaves : List Leaf) → front_of line place (byte ∷ bytes) ≡ Ok (F.Blank count) → DividesFrom (line_behind line (take count (byte ∷ bytes))) (place_behind place (take count (byte ∷ bytes))) (drop count (byte ∷ bytes)) leaves → DividesFrom line place (byte ∷ bytes) leaves
  token : (line : Bool) (place : Pos) (byte : ℕ) (bytes : List ℕ) (lexeme : Lexeme) (count : ℕ) (leaves : List Leaf) → front_of line place (byte ∷ bytes) ≡ Ok (F.Token lexeme count) → DividesFrom (line_behind line (take count (byte ∷ bytes))) (place_behind place (take count (byte ∷ bytes))) (drop count (byte ∷ bytes)) leaves → DividesFrom line place (byte ∷ bytes) (record { lexeme = lexeme; place = place } ∷ leaves)

-- The text, whose first line begins at the place, divides into these leaves.
abbrev pub Divides : Pos → List ℕ → List Leaf → Type 0
Divides place text leaves = DividesFrom true place text leaves

-- how many bytes of the text stand at its front together
abbrev pub width_of : Front → ℕ
width_of (F.Blank count) = count
width_of (F.Token lexeme count) = count

-- From a place on, the text divides up to a fault: the error tells its kind and place.
pub data FaultsFrom : Bool → Pos → List ℕ → LexErr → Type 0 where
  here : (line : Bool) (place : Pos) (byte : ℕ) (bytes : List ℕ) (error : LexErr) → front_of line place (byte ∷ bytes) ≡ Err error → FaultsFrom line place (byte ∷ bytes) error
  behind : (line : Bool) (place : Pos) (byte : ℕ) (bytes : List ℕ) (front : Front) (error : LexErr) → front_of line place (byte ∷ bytes) ≡ Ok front → FaultsFrom (line_behind line (take (width_of front) (byte ∷ bytes))) (place_behind place (take (width_of front) (byte ∷ bytes))) (drop (width_of front) (byte ∷ bytes)) error → FaultsFrom line place (byte ∷ bytes) error

-- The text, whose first line begins at the place, is refused so.
abbrev pub Faults : Pos → List ℕ → LexErr → Type 0
Faults place text error = FaultsFrom true place text error

-- the token that stands at the front of a text at an index and place, if one does
abbrev pub token_at : Front → ℕ → Pos → List Token
token_at (F.Blank count) start place = []
token_at (F.Token lexeme count) start place = record { lexeme = lexeme; start = start; end = start + count; place = place } ∷ []

-- A refusal says this, unless it is for want of memory.
abbrev pub UnlessMemory : LexErr → Type 0 → Type 0
UnlessMemory OutOfMemory Fact = Unit {0}
UnlessMemory (BadByte place) Fact = Fact
UnlessMemory (BadLiteral place) Fact = Fact
UnlessMemory (Unclosed place) Fact = Fact
UnlessMemory (BadDirective place) Fact = Fact
UnlessMemory (NameTooLong place) Fact = Fact

-- So many bytes at the front of the text spell this token; none spell its end.
abbrev pub Spells : Pos → List ℕ → ℕ → Lexeme → Type 0
Spells place [] count lexeme = (lexeme ≡ L.EndOfText) × (count ≡ 0)
Spells place (byte ∷ bytes) count lexeme = (line : Bool) × (front_of line place (byte ∷ bytes) ≡ Ok (F.Token lexeme count))

-- From a place of the text on, each token stands within the text and behind the one before it, and is spelled by its
-- bytes.
abbrev pub StandFrom : List ℕ → ℕ → List Token → Type 0
StandFrom text from [] = Unit {0}
StandFrom text from (first ∷ tokens) =
    (from ≤ first.start) × (first.start ≤ first.end) × (first.end ≤ length text) × Spells first.place (drop first.start text) (first.end - first.start) first.lexeme × StandFrom text first.end tokens

-- What was found is these, unless memory ran out.
abbrev pub IsFoundUnlessMemory : Result (Vec Token Global) LexErr → List Leaf → Type 0
IsFoundUnlessMemory (Ok tokens) leaves = leaves_of tokens.items ≡ leaves
IsFoundUnlessMemory (Err OutOfMemory) leaves = Unit {0}
IsFoundUnlessMemory (Err (BadByte place)) leaves = ⊥
IsFoundUnlessMemory (Err (BadLiteral place)) leaves = ⊥
IsFoundUnlessMemory (Err (Unclosed place)) leaves = ⊥
IsFoundUnlessMemory (Err (BadDirective place)) leaves = ⊥
IsFoundUnlessMemory (Err (NameTooLong place)) leaves = ⊥
