-- The rows in a tree of the grammar have their symbols, and a tree has the tokens of its row.
use Rattle.std.proofs.Common.{◌≡◌, ℕ, ◌≤◌, List, [], ◌∷◌, length, refl, sym, subst, arith, length-append}
use Rattle.c_grammar.specs.Table.{Symbol, Terminal, Nonterminal, Alone, Nothing, Then, Node, leaves, Is, nothing, token, part, IsPart, first, after}
use Rattle.c_grammar.specs.declared.kind.Kind.{Kind}
use Rattle.c_grammar.specs.Forms
use Rattle.c_grammar.specs.Forms.{Sort, Production}
use Rattle.c_reader.specs.Grammar.{grammar, Parse}
use Rattle.accepted_programs.specs.Rows.{size, row_from, row_of, IsToken, IsOf, Filled, tokens_in, least_tokens}

pub size_leaves : (parse : Parse) → length (leaves parse) ≡ size parse
size_leaves (Alone leaf) = refl
size_leaves Nothing = refl
size_leaves (Then front others) = omega (arith, length-append (leaves front) (leaves others), size_leaves front, size_leaves others)
size_leaves (Node form parts) = size_leaves parts

mutual
  pub is_of : {sort : Sort} {level : ℕ} {parse : Parse} → IsPart grammar sort level parse → IsOf sort parse
  is_of (first {parts = parts} form own_sort row left fits is) =
      (own_sort, subst (λ found. Filled (row_from form found) parts) (sym left) (filled is))
  is_of (after {left = behind} {parts = parts} form left_level own_sort row left fits left_is is) =
      (own_sort, subst (λ found. Filled (row_from form found) (Then behind parts)) (sym left) (subst (λ sort. IsOf sort behind) (sym own_sort) (is_of left_is), filled is))

  filled : {symbols : List (Symbol Kind Sort)} {parts : Parse} → Is grammar symbols parts → Filled symbols parts
  filled nothing = tt
  filled (token leaf fits is) = (tt, filled is)
  filled (part is others follows) = (is_of is, filled others)

pub token_size : (parse : Parse) → IsToken parse → size parse ≡ 1
token_size (Alone leaf) is = refl
token_size Nothing is = absurd is
token_size (Then a b) is = absurd is
token_size (Node a b) is = absurd is

pub filled_size : (symbols : List (Symbol Kind Sort)) (parts : Parse) → Filled symbols parts → tokens_in symbols ≤ size parts
filled_size [] parts is = omega arith
filled_size (Terminal kind ∷ symbols) (Then front others) is = omega (arith, token_size front is.0, filled_size symbols others is.1)
filled_size (Nonterminal sort level ∷ symbols) (Then front others) is = omega (arith, filled_size symbols others is.1)
filled_size (Terminal kind ∷ symbols) (Alone leaf) is = absurd is
filled_size (Terminal kind ∷ symbols) Nothing is = absurd is
filled_size (Terminal kind ∷ symbols) (Node form parts) is = absurd is
filled_size (Nonterminal sort level ∷ symbols) (Alone leaf) is = absurd is
filled_size (Nonterminal sort level ∷ symbols) Nothing is = absurd is
filled_size (Nonterminal sort level ∷ symbols) (Node form parts) is = absurd is

row_tokens : (form : Production) → least_tokens (Forms.sort_of form) ≤ tokens_in (row_of form)
row_tokens Forms.Text = omega arith
row_tokens _ = omega arith

-- a tree of a sort has the tokens that each row of the sort has
pub least_size : (sort : Sort) (parse : Parse) → IsOf sort parse → least_tokens sort ≤ size parse
least_size sort (Node form parts) is =
    subst (λ own. least_tokens own ≤ size parts) is.0 (omega (arith, row_tokens form, filled_size (row_of form) parts is.1))
least_size sort (Alone leaf) is = absurd is
least_size sort Nothing is = absurd is
least_size sort (Then front others) is = absurd is
