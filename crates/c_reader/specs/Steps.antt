-- What the smaller parts of the reader answer.
use Rattle.std.specs.Prelude.{◌≡◌, ℕ, ◌≤◌, Bool, true, false, ◌⊎◌, List, [], ◌∷◌, Some, None, Result, Ok, Err}
use Rattle.run_theory.specs.declared.place.Pos.{Pos}
use Rattle.c_grammar.specs.Table.{Take, height, leaves}
use Rattle.c_grammar.specs.Runs.{Job, Whole, Fault, Done, Failed, fits_first, Run}
use Rattle.c_grammar.specs.declared.kind.Kind.{Kind}
use Rattle.c_grammar.specs.declared.kind.Kind.TheVariants as K
use Rattle.c_grammar.specs.declared.words.Words.{Words}
use Rattle.c_grammar.specs.Forms
use Rattle.c_grammar.specs.declared.words.Words.TheVariants.{NoWord, FullType}
use Rattle.c_grammar.specs.Language.{choose_at}
use Rattle.c_grammar.specs.Leaves.{Leaf, kind_of, leaves_of, sample}
use Rattle.c_syntax.specs.Trees
use Rattle.c_syntax.specs.Views.{name_tree}
use Rattle.c_reader.specs.declared.syntax_err.SyntaxErr.{SyntaxErr}
use Rattle.c_reader.specs.declared.syntax_err.SyntaxErr.TheVariants.{At, TooDeep, OutOfMemory}
use Rattle.c_reader.specs.declared.name.PassedName.{PassedName}
use Rattle.c_reader.specs.declared.second.DirectRow.{DirectRow}
use Rattle.c_reader.specs.declared.second.DirectRow.TheVariants as D
use Rattle.c_reader.specs.declared.stars.Stars.{Stars}
use Rattle.c_reader.specs.Grammar.{grammar, Parse}
use Rattle.c_reader.specs.Shapes.{place_of, bytes_of, name_of, simple_of, words_of, base_from}
use Rattle.c_reader.specs.Readings.{Fails, IsRead, Begins}

-- ---- tokens

abbrev pub second_kind_of : List Leaf → Kind
second_kind_of [] = K.End
second_kind_of (leaf ∷ []) = K.End
second_kind_of (leaf ∷ next ∷ text) = kind_of next

abbrev pub first_bytes : List Leaf → List ℕ
first_bytes [] = []
first_bytes (leaf ∷ text) = bytes_of leaf.lexeme

-- The fault of a token that is not of the kind, or want of memory.
abbrev pub IsUnfit : Kind → List Leaf → SyntaxErr → Type 0
IsUnfit kind leaves (At place) = (fits_first grammar kind leaves ≡ false) × (place_of leaves ≡ place)
IsUnfit kind leaves (TooDeep place) = ⊥
IsUnfit kind leaves OutOfMemory = Unit {0}

-- A name stands at the front, and then these.
pub record PassesName (leaves : List Leaf) (name : Trees.NameTree) (behind : List Leaf) : Type 0 where
  pub leaf : Leaf
  pub parts : leaves ≡ leaf ∷ behind
  pub is_kind : kind_of leaf ≡ K.Name
  pub is_name : name_of leaf ≡ name

abbrev pub GivesName : List Leaf → Result PassedName SyntaxErr → Type 0
GivesName leaves (Ok passed) = PassesName leaves (name_tree passed.name) (leaves_of passed.rest.now)
GivesName leaves (Err fault) = IsUnfit K.Name leaves fault

-- ---- expressions

-- This row is chosen, and there is room for it.
pub record BeginsRow (sort : Forms.Sort) (level room : ℕ) (text : List Leaf) (form : Forms.Production) : Type 0 where
  pub first : ℕ
  pub second : ℕ
  pub chosen : choose_at kind_of sample sort level text ≡ Take form first second
  pub first_fits : first ≤ room
  pub second_fits : second ≤ room

-- the token with which a row of a declarator that lacks its name begins
abbrev pub direct_starts : DirectRow → List Leaf → Type 0
direct_starts D.Function text = Begins K.OpenParenthesis text
direct_starts D.Array text = Begins K.OpenBracket text
direct_starts row text = Unit {0}

-- ---- lists

-- What one job comes to, another one comes to, with what was read in front.
pub record Onto (job job' : Job Leaf Kind Forms.Sort Forms.Production) (room : ℕ) (text middle : List Leaf) (build : Parse → Parse) : Type 0 where
  pub done : {tree : Parse} {behind : List Leaf} → Run grammar job' room middle (Done tree behind) → Run grammar job room text (Done (build tree) behind)
  pub failed : {fault : Fault} {behind : List Leaf} → Run grammar job' room middle (Failed fault behind) → Run grammar job room text (Failed fault behind)

-- ---- words

-- One word stands in front that may stand behind the words.
pub record PassesWord (words : Words) (text : List Leaf) (next : Words) (rest : List Leaf) : Type 0 where
  pub leaf : Leaf
  pub parts : text ≡ leaf ∷ rest
  pub told : Forms.with_word (kind_of leaf) words ≡ Some next

-- No word stands in front that may stand behind the words, unless it is `struct`.
abbrev pub EndsWords : Words → List Leaf → Type 0
EndsWords words [] = Unit {0}
EndsWords words (leaf ∷ text) = Forms.with_word (kind_of leaf) words ≡ None

-- Words were passed, and what follows belongs to the words that stand then.
pub record PassesWords (own : Bool) (room : ℕ) (text : List Leaf) (words : Words) (rest : List Leaf) (next : Words) : Type 0 where
  pub build : Parse → Parse
  pub onto : Onto (Whole (Forms.Base own words) 0) (Whole (Forms.Base own next) 0) room text rest build
  pub high : (tree : Parse) → height grammar (build tree) ≡ height grammar tree
  pub simple : (tree : Parse) → simple_of (build tree) ≡ simple_of tree
  pub base : (place : Pos) (tree : Parse) → base_from place (build tree) ≡ base_from place tree
  pub stays : words ≡ FullType → next ≡ FullType
  pub place : Forms.is_type words ≡ false → (tree : Parse) → (Forms.is_type next ≡ true) ⊎ (place_of (leaves tree) ≡ place_of rest) → place_of (leaves (build tree)) ≡ place_of text

-- `struct` with its name, and the words behind these
abbrev pub GivesTag : ℕ → List Leaf → Result PassedName SyntaxErr → Type 0
GivesTag room text (Ok tag) = IsRead (Whole (Forms.Base false NoWord) 0) room text words_of (record { place = place_of text; words = Trees.StructTag (name_tree tag.name) }) 0 (leaves_of tag.rest.now)
GivesTag room text (Err fault) = Fails (Whole (Forms.Base false NoWord) 0) room text fault

-- ---- declarators

abbrev pub GivesStars : Forms.Sort → (Parse → ℕ) → ℕ → List Leaf → Result Stars SyntaxErr → Type 0
GivesStars sort count_of room leaves (Ok stars) = IsRead (Whole sort 0) room leaves count_of stars.count 0 (leaves_of stars.rest.now)
GivesStars sort count_of room leaves (Err fault) = Fails (Whole sort 0) room leaves fault
