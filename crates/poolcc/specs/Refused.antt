-- When a text is refused, and of which kind and place.
use Rattle.std.specs.Prelude.{◌≡◌, ℕ, List, [], Some}
use Rattle.run_theory.specs.declared.place.Pos.{Pos}
use Rattle.run_theory.specs.Places.{first_place}
use Rattle.c_grammar.specs.Leaves.{Leaf}
use Rattle.c_lexer.specs.declared.lex_err.LexErr.{LexErr}
use Rattle.c_lexer.specs.declared.lex_err.LexErr.TheVariants as X
use Rattle.c_lexer.specs.Tokens.{Divides, Faults}
use Rattle.c_syntax.specs.Trees
use Rattle.c_reader.specs.ProgramReadings.{MisfitAt, TooDeepAt}
use Rattle.c_rules.specs.declared.rule.TypeRule.{TypeRule}
use Rattle.c_rules.specs.Programs as rules
use Rattle.c_rules.specs.Elaborated as elaborated
use Rattle.c_rules.specs.NamedItems.{named_types}
use Rattle.c_types.specs.declared.limits.Limit.{Limit}
use Rattle.c_types.specs.declared.limits.Limit.TheVariants as L
use Rattle.c_types.specs.Limits.{exceeded}
use Rattle.dsa_bottom_up.specs.Graphed.{IsOvergrown}
use Rattle.pcc_words.specs.declared.status.LexKind.{LexKind}
use Rattle.pcc_words.specs.declared.status.LexKind.TheVariants as K
use Rattle.pcc_words.specs.declared.status.SyntaxKind.{SyntaxKind}
use Rattle.pcc_words.specs.declared.status.SyntaxKind.TheVariants as Y
use Rattle.pcc_words.specs.declared.status.LimitKind.{LimitKind}
use Rattle.pcc_words.specs.declared.status.LimitKind.TheVariants as M
use Rattle.pcc_words.specs.declared.status.Refusal.{Refusal}
use Rattle.pcc_words.specs.declared.status.Refusal.TheVariants as R
use Rattle.poolcc.specs.Compiled.{Reads, ReadsAs, IsAccepted, initial_values}
use Rattle.poolcc.specs.declared.text.Stop as code
use Rattle.poolcc.specs.declared.text.Stop.TheVariants as stops

-- The text divides into tokens.
abbrev pub HasTokens : List ℕ → Type 0
HasTokens text = (leaves : List Leaf) × Divides first_place text leaves

-- the fault of a text that a lexical refusal names
abbrev pub fault_of : LexKind → Pos → LexErr
fault_of K.BadByte place = X.BadByte place
fault_of K.BadLiteral place = X.BadLiteral place
fault_of K.Unclosed place = X.Unclosed place
fault_of K.BadDirective place = X.BadDirective place
fault_of K.NameTooLong place = X.NameTooLong place

-- The text's first fault is of this kind and at this place, and so it doesn't divide into tokens.
pub record IsLexical (text : List ℕ) (kind : LexKind) (place : Pos) : Type 0 where
  pub faults : Faults first_place text (fault_of kind place)
  pub only : (other : LexErr) → Faults first_place text other → other ≡ fault_of kind place
  pub undivided : HasTokens text → ⊥

-- what a syntactic refusal says of the text's tokens
abbrev pub Misplaced : SyntaxKind → List Leaf → Pos → Type 0
Misplaced Y.At leaves place = MisfitAt leaves place
Misplaced Y.TooDeep leaves place = TooDeepAt leaves place

-- The text divides into tokens that are no program: this is the place of the first that doesn't fit, or that is too deep.
pub record IsSyntactic (text : List ℕ) (kind : SyntaxKind) (place : Pos) : Type 0 where
  pub leaves : List Leaf
  pub divides : Divides first_place text leaves
  pub misplaced : Misplaced kind leaves place
  pub unread : (program : Trees.ProgramTree) → Reads text program → ⊥

-- The text's program violates type rules: this one at this place is the least of them, by place and then by rule.
pub record IsIllTyped (text : List ℕ) (rule : TypeRule) (place : Pos) : Type 0 where
  pub program : Trees.ProgramTree
  pub reads : ReadsAs text program
  pub least : rules.refusal program ≡ Some (record { kind = rule; place = place })

-- the limit that a refusal names
abbrev pub limit_named : LimitKind → Limit
limit_named M.L1 = L.L1
limit_named M.L2 = L.L2
limit_named M.L3 = L.L3
limit_named M.L4 = L.L4
limit_named M.L5 = L.L5
limit_named M.L6 = L.L6

-- The text's program violates no type rule, and exceeds limits: this is the first of them, with its count.
pub record IsTooLarge (text : List ℕ) (limit : LimitKind) (count : ℕ) : Type 0 where
  pub program : Trees.ProgramTree
  pub reads : ReadsAs text program
  pub typed : rules.violations program ≡ []
  pub first : exceeded (elaborated.typed_of program) (named_types program) ≡ Some (record { which = limit_named limit; count = count })

-- The refusal is the text's. It is lexical where the text doesn't divide into tokens, with the kind and place of its
-- first fault; else syntactic where these are no program, with the kind and place of the first with which none goes on;
-- else of the least type rule that is violated; else of the first limit that is exceeded, with its count.
abbrev pub IsRefused : List ℕ → Refusal → Type 0
IsRefused text (R.Lex kind place) = IsLexical text kind place
IsRefused text (R.Syntax kind place) = IsSyntactic text kind place
IsRefused text (R.TypeRule rule place) = IsIllTyped text rule place
IsRefused text (R.Limit limit count) = IsTooLarge text limit count
IsRefused text (R.Graph count) = ⊥
IsRefused text (R.Pools function count) = ⊥

-- The text is accepted so far, and the heap graph of a group of functions, or of `start`, would begin with so many nodes: the first that
-- would begin with more than 65,536.
pub record IsOverfull (text : List ℕ) (count : ℕ) : Type 0 where
  pub program : Trees.ProgramTree
  pub accepted : IsAccepted text program
  pub overgrown : IsOvergrown (elaborated.typed_of program) (initial_values program) count

-- The text isn't compiled: it is refused, or its heap graphs are. No other refusal comes yet.
abbrev pub IsUncompiled : List ℕ → Refusal → Type 0
IsUncompiled text (R.Graph count) = IsOverfull text count
IsUncompiled text refusal = IsRefused text refusal

-- why a text has no typed tree: it is refused, or memory ran out
abbrev pub IsStop : List ℕ → code.Stop → Type 0
IsStop text (stops.Refused refusal) = IsRefused text refusal
IsStop text stops.OutOfMemory = Unit {0}

-- why a text has no image: it isn't compiled, or memory ran out
abbrev pub IsHalt : List ℕ → code.Stop → Type 0
IsHalt text (stops.Refused refusal) = IsUncompiled text refusal
IsHalt text stops.OutOfMemory = Unit {0}

-- what a text comes to for a fault, or for want of memory
abbrev pub stop_of : LexErr → code.Stop
stop_of (X.BadByte place) = stops.Refused (R.Lex K.BadByte place)
stop_of (X.BadLiteral place) = stops.Refused (R.Lex K.BadLiteral place)
stop_of (X.Unclosed place) = stops.Refused (R.Lex K.Unclosed place)
stop_of (X.BadDirective place) = stops.Refused (R.Lex K.BadDirective place)
stop_of (X.NameTooLong place) = stops.Refused (R.Lex K.NameTooLong place)
stop_of X.OutOfMemory = stops.OutOfMemory
