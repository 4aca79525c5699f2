-- How many leaves a tree of the grammar's rows has, and what stands in it where each row has its symbols.
use Rattle.std.specs.Prelude.{◌≡◌, ℕ, suc, ◌+◌, List, [], ◌∷◌, Option, Some, None}
use Rattle.c_grammar.specs.Table.{Symbol, Terminal, Nonterminal, Alone, Nothing, Then, Node}
use Rattle.c_grammar.specs.declared.kind.Kind.{Kind}
use Rattle.c_grammar.specs.Forms
use Rattle.c_grammar.specs.Forms.{Sort, Production}
use Rattle.c_reader.specs.Grammar.{Parse}

abbrev pub size : Parse → ℕ
size (Alone leaf) = 1
size Nothing = 0
size (Then first others) = size first + size others
size (Node form parts) = size parts

-- the symbols of a row, with the tree that it begins with
abbrev pub row_from : Production → Option ℕ → List (Symbol Kind Sort)
row_from form None = Forms.symbols_of form
row_from form (Some level) = Nonterminal (Forms.sort_of form) level ∷ Forms.symbols_of form

abbrev pub row_of : Production → List (Symbol Kind Sort)
row_of form = row_from form (Forms.left_of form)

abbrev pub IsToken : Parse → Type 0
IsToken (Alone leaf) = Unit {0}
IsToken _ = ⊥

abbrev mutual
  -- The tree is of this sort, and the rows in it have their symbols.
  pub IsOf : Sort → Parse → Type 0
  IsOf sort (Node form parts) = (Forms.sort_of form ≡ sort) × Filled (row_of form) parts
  IsOf sort _ = ⊥

  -- The trees are those of these symbols.
  pub Filled : List (Symbol Kind Sort) → Parse → Type 0
  Filled [] Nothing = Unit {0}
  Filled (Terminal kind ∷ symbols) (Then first others) = IsToken first × Filled symbols others
  Filled (Nonterminal sort level ∷ symbols) (Then first others) = IsOf sort first × Filled symbols others
  Filled _ _ = ⊥

-- how many tokens stand in a row itself
abbrev pub tokens_in : List (Symbol Kind Sort) → ℕ
tokens_in [] = 0
tokens_in (Terminal kind ∷ symbols) = suc (tokens_in symbols)
tokens_in (Nonterminal sort level ∷ symbols) = tokens_in symbols

-- so many at the least stand in each row of the sort
abbrev pub least_tokens : Sort → ℕ
least_tokens Forms.Expr = 1
least_tokens Forms.Stmt = 1
least_tokens Forms.DeclaratorsMore = 1
least_tokens _ = 0
