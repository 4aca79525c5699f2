-- What stands in a row are the edges from its node.
use Rattle.std.proofs.Common.{◌≡◌, ℕ, ◌⊎◌, ◌==◌, Bool, true, false, if◌then◌else◌, List, [], ◌∷◌, inl, inr, refl, sym, ap, eqb-true, eq-eqb}
use Rattle.std.proofs.lemmas.Bool.{false≢true}
use Rattle.call_graph.specs.RowLists.{Has}
use Rattle.call_graph.specs.Rows.{row_of}

pub row_edge : (from to : ℕ) (edges : List (ℕ × ℕ)) → Has (row_of from edges) to → Has edges (from, to)
row_edge from to [] is = absurd is
row_edge from to (edge ∷ edges) is = by (λ rest. row_edge from to edges rest) (edge.0 == from) refl is
  where
    by : (Has (row_of from edges) to → Has edges (from, to)) → (b : Bool) → (edge.0 == from) ≡ b → Has (if b then edge.1 ∷ row_of from edges else row_of from edges) to → ((from, to) ≡ edge) ⊎ Has edges (from, to)
    by later true e (inl same) = let start = eqb-true edge.0 from e in inl (λ i. (sym start i, same i))
    by later true e (inr rest) = inr (later rest)
    by later false e rest = inr (later rest)

pub edge_row : (from to : ℕ) (edges : List (ℕ × ℕ)) → Has edges (from, to) → Has (row_of from edges) to
edge_row from to [] is = absurd is
edge_row from to (edge ∷ edges) (inl same) = by (edge.0 == from) (eq-eqb edge.0 from (ap (λ e. e.0) (sym same)))
  where
    by : (b : Bool) → b ≡ true → Has (if b then edge.1 ∷ row_of from edges else row_of from edges) to
    by true t = inl (ap (λ e. e.1) same)
    by false t = absurd (false≢true t)
edge_row from to (edge ∷ edges) (inr is) = by (edge.0 == from) (edge_row from to edges is)
  where
    by : (b : Bool) → Has (row_of from edges) to → Has (if b then edge.1 ∷ row_of from edges else row_of from edges) to
    by true rest = inr rest
    by false rest = rest
