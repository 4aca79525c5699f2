-- What the parts of the reader answer, where the height of a tree is of no account.
use Rattle.std.specs.Prelude.{◌≡◌, ℕ, List, Option, Some, None, Result, Ok, Err}
use Rattle.c_grammar.specs.Table.{Never, Node}
use Rattle.c_grammar.specs.Runs.{Job, Whole, Parts, Fault, Done, Failed, Run}
use Rattle.c_grammar.specs.declared.kind.Kind.{Kind}
use Rattle.c_grammar.specs.Forms.{Sort, Production, symbols_of}
use Rattle.c_grammar.specs.Chooses.{take, choose_by}
use Rattle.c_grammar.specs.Leaves.{Leaf, leaves_of}
use Rattle.c_reader.specs.declared.part.Part.{Part}
use Rattle.c_reader.specs.declared.syntax_err.SyntaxErr.{SyntaxErr}
use Rattle.c_reader.specs.Grammar.{grammar, Parse}
use Rattle.c_reader.specs.Readings.{Fails}

-- A token of this kind begins a tree of the sort by this row.
pub record Tells (sort : Sort) (kind : Kind) (form : Production) : Type 0 where
  pub told : (next : Kind) → choose_by sort 0 kind next ≡ take form

-- It begins none.
pub record TellsNone (sort : Sort) (kind : Kind) : Type 0 where
  pub told : (next : Kind) → choose_by sort 0 kind next ≡ Never

abbrev pub TellsRow : {R : Type 0} → Sort → (R → Production) → Kind → Option R → Type 0
TellsRow sort form_of kind (Some row) = Tells sort kind (form_of row)
TellsRow sort form_of kind None = TellsNone sort kind

-- A reader comes to a tree that stands for this syntax tree, and to what is behind it.
pub record Found {A : Type 0} (job : Job Leaf Kind Sort Production) (room : ℕ) (text : List Leaf) (shape_of : Parse → A) (tree : A) (behind : List Leaf) : Type 0 where
  pub parse : Parse
  pub run : Run grammar job room text (Done parse behind)
  pub shape : shape_of parse ≡ tree

abbrev pub GivesPart : {V A : Type 0} → Job Leaf Kind Sort Production → ℕ → List Leaf → (Parse → A) → (V → A) → Result (Part V) SyntaxErr → Type 0
GivesPart job room text shape_of tree_of (Ok part) = Found job room text shape_of (tree_of part.value) (leaves_of part.rest.now)
GivesPart job room text shape_of tree_of (Err fault) = Fails job room text fault

-- What a job comes to from some leaves, another comes to from others, with more in its syntax tree.
pub record ReadsThrough {A : Type 0} (job : Job Leaf Kind Sort Production) (room : ℕ) (text : List Leaf) (shape_of : Parse → A) (extend : A → A) (job' : Job Leaf Kind Sort Production) (shape_of' : Parse → A) (rest : List Leaf) : Type 0 where
  pub done : (tree : A) (behind : List Leaf) → Found job' room rest shape_of' tree behind → Found job room text shape_of (extend tree) behind
  pub failed : (fault : Fault) (behind : List Leaf) → Run grammar job' room rest (Failed fault behind) → Run grammar job room text (Failed fault behind)

-- An element of a list, where the list goes on with another job, or the list's end.
abbrev pub GivesNext : {V A : Type 0} → Job Leaf Kind Sort Production → ℕ → List Leaf → (Parse → A) → (V → A → A) → A → Job Leaf Kind Sort Production → (Parse → A) → Option V → List Leaf → Type 0
GivesNext job room text shape_of before ended job' shape_of' (Some value) rest = ReadsThrough job room text shape_of (before value) job' shape_of' rest
GivesNext job room text shape_of before ended job' shape_of' None rest = Found job room text shape_of ended rest

abbrev pub GivesElement : {V A : Type 0} → Job Leaf Kind Sort Production → ℕ → List Leaf → (Parse → A) → (V → A → A) → A → Job Leaf Kind Sort Production → (Parse → A) → Result (Part (Option V)) SyntaxErr → Type 0
GivesElement job room text shape_of before ended job' shape_of' (Ok part) = GivesNext job room text shape_of before ended job' shape_of' part.value (leaves_of part.rest.now)
GivesElement job room text shape_of before ended job' shape_of' (Err fault) = Fails job room text fault

-- a tree of this form is read
abbrev pub GivesForm : {V A : Type 0} → Production → ℕ → List Leaf → (Parse → A) → (V → A) → Result (Part V) SyntaxErr → Type 0
GivesForm form room text shape_of tree_of result = GivesPart (Parts (symbols_of form)) room text (λ parts. shape_of (Node form parts)) tree_of result

-- an element of a list of this sort is read, or its end
abbrev pub GivesMore : {V A : Type 0} → Sort → ℕ → List Leaf → (Parse → A) → (V → A → A) → A → Result (Part (Option V)) SyntaxErr → Type 0
GivesMore sort room text shape_of before ended result = GivesElement (Whole sort 0) room text shape_of before ended (Whole sort 0) shape_of result

-- an element of this form is read, behind which a list of this sort goes on
abbrev pub GivesRow : {V A : Type 0} → Production → Sort → ℕ → List Leaf → (Parse → A) → (V → A → A) → A → Result (Part (Option V)) SyntaxErr → Type 0
GivesRow form sort room text shape_of before ended result =
    GivesElement (Parts (symbols_of form)) room text (λ parts. shape_of (Node form parts)) before ended (Whole sort 0) shape_of result
