-- What the parts of the reader answer: what a reader by the table of the grammar comes to, and the syntax tree of what it
-- read.
use Rattle.std.specs.Prelude.{◌≡◌, ℕ, List, ◌∷◌, Result, Ok, Err}
use Rattle.run_theory.specs.declared.place.Pos.{Pos}
use Rattle.c_grammar.specs.Table.{height}
use Rattle.c_grammar.specs.Runs.{Job, Fault, Bad, Deep, Done, Failed, Run}
use Rattle.c_grammar.specs.declared.kind.Kind.{Kind}
use Rattle.c_grammar.specs.Forms.{Sort, Production}
use Rattle.c_grammar.specs.Leaves.{Leaf, kind_of, leaves_of}
use Rattle.c_reader.specs.declared.token.Read.{Read}
use Rattle.c_reader.specs.declared.syntax_err.SyntaxErr.{SyntaxErr}
use Rattle.c_reader.specs.declared.syntax_err.SyntaxErr.TheVariants.{At, TooDeep, OutOfMemory}
use Rattle.c_reader.specs.Grammar.{grammar, Parse}
use Rattle.c_reader.specs.Shapes.{place_of}

-- ---- parts

-- A reader with a job and so much room comes to a fault at a token that stands at the place.
pub record FailsAt (fault : Fault) (job : Job Leaf Kind Sort Production) (room : ℕ) (text : List Leaf) (place : Pos) : Type 0 where
  pub behind : List Leaf
  pub run : Run grammar job room text (Failed fault behind)
  pub stands : place_of behind ≡ place

abbrev pub Fails : Job Leaf Kind Sort Production → ℕ → List Leaf → SyntaxErr → Type 0
Fails job room text (At place) = FailsAt Bad job room text place
Fails job room text (TooDeep place) = FailsAt Deep job room text place
Fails job room text OutOfMemory = Unit {0}

-- It comes to a tree of that height, which stands for this syntax tree, and to what is behind it.
pub record IsRead {A : Type 0} (job : Job Leaf Kind Sort Production) (room : ℕ) (text : List Leaf) (shape_of : Parse → A) (tree : A) (high : ℕ) (behind : List Leaf) : Type 0 where
  pub parse : Parse
  pub run : Run grammar job room text (Done parse behind)
  pub shape : shape_of parse ≡ tree
  pub measured : height grammar parse ≡ high

-- ---- tokens

-- A token of this kind stands at the front.
pub record Begins (kind : Kind) (leaves : List Leaf) : Type 0 where
  pub leaf : Leaf
  pub behind : List Leaf
  pub parts : leaves ≡ leaf ∷ behind
  pub is_kind : kind_of leaf ≡ kind

-- A token of this kind at this place stands at the front, and then these.
pub record Passes (kind : Kind) (leaves : List Leaf) (place : Pos) (behind : List Leaf) : Type 0 where
  pub leaf : Leaf
  pub parts : leaves ≡ leaf ∷ behind
  pub is_kind : kind_of leaf ≡ kind
  pub stands : leaf.place ≡ place

-- What a part of the reader with a job and so much room answers.
abbrev pub IsReading : {V A : Type 0} → Job Leaf Kind Sort Production → ℕ → List Leaf → (Parse → A) → (V → A) → Result (Read V) SyntaxErr → Type 0
IsReading job room text shape_of tree_of (Ok read) = IsRead job room text shape_of (tree_of read.value) read.height (leaves_of read.rest.now)
IsReading job room text shape_of tree_of (Err fault) = Fails job room text fault
