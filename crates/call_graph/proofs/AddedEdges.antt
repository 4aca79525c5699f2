-- Rows to which edges are added.
use Rattle.std.proofs.Common.{◌≡◌, ℕ, ◌+◌, ◌==◌, Bool, true, false, if◌then◌else◌, List, [], ◌∷◌, ◌++◌, Vec, Some, length, inl, inr, refl, sym, ap, ◌∙◌, arith, length-append}
use Rattle.std.specs.Prelude.{option_map, slice_get, vec_items}
use Rattle.std.proofs.lemmas.Bool.{cases_lt}
use Rattle.call_graph.proofs.RowPlaces.{append_before, append_at}
use Rattle.call_graph.specs.Rows.{row_of, with_edge, AreRows, AreEmpty, AddsEdge}

behind : (edge : ℕ × ℕ) (node first : ℕ) (row : List ℕ) → first ∷ with_edge edge node row ≡ with_edge edge node (first ∷ row)
behind edge node first row = by (edge.0 == node)
  where
    by : (b : Bool) → first ∷ (if b then row ++ edge.1 ∷ [] else row) ≡ (if b then first ∷ row ++ edge.1 ∷ [] else first ∷ row)
    by true = refl
    by false = refl

one_more : (node : ℕ) (done : List (ℕ × ℕ)) (edge : ℕ × ℕ) → row_of node (done ++ edge ∷ []) ≡ with_edge edge node (row_of node done)
one_more node [] edge = refl
one_more node (first ∷ done) edge = by (first.0 == node) (one_more node done edge)
  where
    by : (b : Bool) → row_of node (done ++ edge ∷ []) ≡ with_edge edge node (row_of node done)
        → (if b then first.1 ∷ row_of node (done ++ edge ∷ []) else row_of node (done ++ edge ∷ [])) ≡ with_edge edge node (if b then first.1 ∷ row_of node done else row_of node done)
    by true e = ap (λ row. first.1 ∷ row) e ∙ behind edge node first.1 (row_of node done)
    by false e = e

module _ {A B : Type 0} where
  pub no_edges : (nodes : ℕ) (rows : Vec (Vec ℕ A) B) → AreEmpty nodes rows → AreRows nodes [] rows
  no_edges nodes rows empty = record { each = empty.each; row = empty.row }

  pub edge_more : (nodes : ℕ) (done more : List (ℕ × ℕ)) (edge : ℕ × ℕ) (old new : Vec (Vec ℕ A) B) → AreRows nodes done old → AddsEdge edge old new → more ≡ done ++ edge ∷ [] → AreRows nodes more new
  edge_more nodes done more edge old new rows adds e = record {
    each = adds.each ∙ rows.each;
    row = λ node lt. adds.row node ∙ (ap (option_map (with_edge edge node)) (rows.row node lt) ∙ (ap Some (sym (one_more node done edge)) ∙ ap (λ list. Some (row_of node list)) (sym e)));
  }

-- ---- rows without edges

module _ {A B : Type 0} where
  pub no_rows : (rows : Vec (Vec ℕ A) B) → rows.items ≡ [] → AreEmpty 0 rows
  no_rows rows none = record { each = ap length none; row = λ node lt. absurd (omega (arith, lt)) }

  pub one_row : (count : ℕ) (old new : Vec (Vec ℕ A) B) (row : Vec ℕ A) → AreEmpty count old → new.items ≡ old.items ++ row ∷ [] → row.items ≡ [] → (next : ℕ) → next ≡ count + 1 → AreEmpty next new
  one_row count old new row empty is none next e = record {
    each = ap length is ∙ (length-append old.items (row ∷ []) ∙ omega (arith, empty.each, e));
    row = λ node lt. elim (cases_lt node count) [
      | inl before ↦ ap (λ l. option_map vec_items (slice_get l node)) is
          ∙ (ap (option_map vec_items) (append_before old.items (row ∷ []) node (omega (arith, before, empty.each))) ∙ empty.row node before)
      | inr le ↦ ap (λ l. option_map vec_items (slice_get l node)) is
          ∙ (ap (option_map vec_items) (append_at old.items row node (omega (arith, lt, le, e, empty.each))) ∙ ap Some none)
    ];
  }
