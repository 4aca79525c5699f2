-- What the parts of the reader answer: what a reader by the table of the grammar comes to, and the syntax tree of what it
-- read.
use Rattle.std.specs.Prelude.{◌≡◌, ℕ, List, [], ◌∷◌, Result, Ok, Err}
use Rattle.run_theory.specs.declared.place.Pos.{Pos}
use Rattle.c_grammar.specs.Prefixes.{Accepted, IsMisfit, IsTooDeep}
use Rattle.c_grammar.specs.declared.kind.Kind.TheVariants.{End}
use Rattle.c_grammar.specs.Forms.{Program}
use Rattle.c_grammar.specs.Leaves.{Leaf, kind_of}
use Rattle.c_syntax.specs.Trees.{ProgramTree}
use Rattle.c_syntax.specs.declared.declaration.Program as memory_program
use Rattle.c_syntax.specs.Views.{program_tree}
use Rattle.c_reader.specs.declared.syntax_err.SyntaxErr.{SyntaxErr}
use Rattle.c_reader.specs.declared.syntax_err.SyntaxErr.TheVariants.{At, TooDeep, OutOfMemory}
use Rattle.c_reader.specs.Grammar.{grammar}
use Rattle.c_reader.specs.Shapes.{place_of, program_of}

-- ---- programs

-- how many nodes may lie on one path
abbrev pub nesting_limit : ℕ
nesting_limit = 200

-- The tokens are those of this program.
pub record IsProgram (leaves : List Leaf) (program : ProgramTree) : Type 0 where
  pub accepted : Accepted grammar Program 0 nesting_limit leaves
  pub shape : program_of accepted.tree ≡ program

-- The last of the tokens is the end of the text.
abbrev pub EndsText : List Leaf → Type 0
EndsText [] = ⊥
EndsText (leaf ∷ []) = kind_of leaf ≡ End
EndsText (leaf ∷ next ∷ leaves) = EndsText (next ∷ leaves)

-- There is a token.
abbrev pub IsThere : List Leaf → Type 0
IsThere [] = ⊥
IsThere (leaf ∷ leaves) = Unit {0}

-- The tokens before the one at the place begin a program, and those through it begin none, however deep it may nest.
-- Where the last of the tokens is the end of the text, one stands at the place.
pub record MisfitAt (leaves : List Leaf) (place : Pos) : Type 0 where
  pub behind : List Leaf
  pub stands : place_of behind ≡ place
  pub misfit : IsMisfit grammar Program 0 nesting_limit leaves behind
  pub there : EndsText leaves → IsThere behind

-- The tokens before the one at the place begin a program, and those through it do only where more nodes may nest.
pub record TooDeepAt (leaves : List Leaf) (place : Pos) : Type 0 where
  pub behind : List Leaf
  pub stands : place_of behind ≡ place
  pub too_deep : IsTooDeep grammar Program 0 nesting_limit leaves behind

-- The error is the one that the tokens have, or memory ran out.
abbrev pub Refuses : List Leaf → SyntaxErr → Type 0
Refuses leaves (At place) = MisfitAt leaves place
Refuses leaves (TooDeep place) = TooDeepAt leaves place
Refuses leaves OutOfMemory = Unit {0}

abbrev pub IsReadUnlessMemory : Result memory_program.Program SyntaxErr → ProgramTree → Type 0
IsReadUnlessMemory (Ok program) tree = program_tree program ≡ tree
IsReadUnlessMemory (Err (At place)) tree = ⊥
IsReadUnlessMemory (Err (TooDeep place)) tree = ⊥
IsReadUnlessMemory (Err OutOfMemory) tree = Unit {0}
