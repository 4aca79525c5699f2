-- An edge that is placed among others.
use Rattle.std.proofs.Common.{◌≡◌, ℕ, zero, suc, ◌<◌, ◌≤◌, Bool, true, false, cond, eqb, List, [], ◌∷◌, ◌++◌, take, drop, Option, Some, None, refl, sym, ap, ◌∙◌, arith}
use Rattle.std.specs.Prelude.{nat_lt, slice_get}
use Rattle.std.proofs.lemmas.Bool.{true≢false, cond-true, cond-false, eqb-true, eq-eqb, ltb-true, ltb-false, lt-ltb, le-ltb}
use Rattle.std.proofs.lemmas.Option.{none-some, same_Some}
use Rattle.heap_graph.specs.Graphs.{Target, edge_in}
use Rattle.heap_graph.specs.Memory.{target_of}
use Rattle.graph_unification.proofs.HeldNodes.{one_free}
use Rattle.heap_graph.specs.declared.frozen.Edge as memory_edge
use Rattle.heap_graph.specs.Frozen.{edges_of}
use Rattle.graph_unification.specs.Freezing.{Precedes, EdgesAscend}
use Rattle.graph_unification.specs.Placing.{placed}
use Rattle.graph_unification.proofs.ToldLists.{drop_some}

module _ (edge : memory_edge.Edge) where
  placed_here : (x : memory_edge.Edge) (xs : List memory_edge.Edge) → edge.slot < x.slot → placed edge (x ∷ xs) ≡ edge ∷ x ∷ xs
  placed_here x xs h = cond-true (nat_lt edge.slot x.slot) (edge ∷ x ∷ xs) (x ∷ placed edge xs) (lt-ltb edge.slot x.slot h)

  placed_behind : (x : memory_edge.Edge) (xs : List memory_edge.Edge) → x.slot ≤ edge.slot → placed edge (x ∷ xs) ≡ x ∷ placed edge xs
  placed_behind x xs h = cond-false (nat_lt edge.slot x.slot) (edge ∷ x ∷ xs) (x ∷ placed edge xs) (le-ltb edge.slot x.slot h)

  pub one_passed : (xs : List memory_edge.Edge) (i : ℕ) (x : memory_edge.Edge) → slice_get xs i ≡ Some x → x.slot ≤ edge.slot
      → take (suc i) xs ++ placed edge (drop (suc i) xs) ≡ take i xs ++ placed edge (drop i xs)
  one_passed [] i x h le = absurd (none-some x h)
  one_passed (y ∷ xs) zero x h le = ap (λ z. z ∷ placed edge xs) (same_Some y x h) ∙ sym (placed_behind x xs le) ∙ ap (λ z. placed edge (z ∷ xs)) (sym (same_Some y x h))
  one_passed (y ∷ xs) (suc i) x h le = ap (λ zs. y ∷ zs) (one_passed xs i x h le)

  pub stopped : (xs : List memory_edge.Edge) (i : ℕ) (x : memory_edge.Edge) → slice_get xs i ≡ Some x → edge.slot < x.slot → take i xs ++ edge ∷ drop i xs ≡ take i xs ++ placed edge (drop i xs)
  stopped xs i x h less =
      let e = drop_some xs i x h in
      ap (λ zs. take i xs ++ edge ∷ zs) e ∙ ap (λ zs. take i xs ++ zs) (sym (placed_here x (drop (suc i) xs) less) ∙ ap (placed edge) (sym e))

  -- ---- what is found, and the order

  swapped : (a b : Bool) (x y : Target) (o : Option Target) → (a ≡ true → b ≡ true → ⊥) → cond a (Some x) (cond b (Some y) o) ≡ cond b (Some y) (cond a (Some x) o)
  swapped true true x y o h = absurd (h refl refl)
  swapped true false x y o h = refl
  swapped false b x y o h = refl

  pub placed_found : (xs : List memory_edge.Edge) → edge_in (edges_of xs) edge.slot ≡ None → (slot : ℕ)
      → edge_in (edges_of (placed edge xs)) slot ≡ cond (eqb edge.slot slot) (Some (target_of edge.to)) (edge_in (edges_of xs) slot)
  placed_found [] free slot = refl
  placed_found (x ∷ xs) free slot = by (placed_found xs apart.1 slot) (nat_lt edge.slot x.slot)
    where
      apart : (eqb x.slot edge.slot ≡ false) × (edge_in (edges_of xs) edge.slot ≡ None)
      apart = one_free (eqb x.slot edge.slot) (target_of x.to) (edge_in (edges_of xs) edge.slot) free

      differ : eqb x.slot slot ≡ true → eqb edge.slot slot ≡ true → ⊥
      differ a b = true≢false (sym (eq-eqb x.slot edge.slot (eqb-true x.slot slot a ∙ sym (eqb-true edge.slot slot b))) ∙ apart.0)

      by : edge_in (edges_of (placed edge xs)) slot ≡ cond (eqb edge.slot slot) (Some (target_of edge.to)) (edge_in (edges_of xs) slot)
          → (b : Bool) → edge_in (edges_of (cond b (edge ∷ x ∷ xs) (x ∷ placed edge xs))) slot
          ≡ cond (eqb edge.slot slot) (Some (target_of edge.to)) (cond (eqb x.slot slot) (Some (target_of x.to)) (edge_in (edges_of xs) slot))
      by rest true = refl
      by rest false = ap (cond (eqb x.slot slot) (Some (target_of x.to))) rest
          ∙ swapped (eqb x.slot slot) (eqb edge.slot slot) (target_of x.to) (target_of edge.to) (edge_in (edges_of xs) slot) differ

  still_precedes : (slot : ℕ) (xs : List memory_edge.Edge) → slot < edge.slot → Precedes slot (edges_of xs) → Precedes slot (edges_of (placed edge xs))
  still_precedes slot [] less h = less
  still_precedes slot (x ∷ xs) less h = by (nat_lt edge.slot x.slot)
    where
      by : (b : Bool) → Precedes slot (edges_of (cond b (edge ∷ x ∷ xs) (x ∷ placed edge xs)))
      by true = less
      by false = h

  pub placed_ascends : (xs : List memory_edge.Edge) → edge_in (edges_of xs) edge.slot ≡ None → EdgesAscend (edges_of xs) → EdgesAscend (edges_of (placed edge xs))
  placed_ascends [] free h = (tt, tt)
  placed_ascends (x ∷ xs) free h = by (placed_ascends xs apart.1 h.1) (nat_lt edge.slot x.slot) refl
    where
      apart : (eqb x.slot edge.slot ≡ false) × (edge_in (edges_of xs) edge.slot ≡ None)
      apart = one_free (eqb x.slot edge.slot) (target_of x.to) (edge_in (edges_of xs) edge.slot) free

      differ : x.slot ≡ edge.slot → ⊥
      differ e = true≢false (sym (eq-eqb x.slot edge.slot e) ∙ apart.0)

      by : EdgesAscend (edges_of (placed edge xs)) → (b : Bool) → nat_lt edge.slot x.slot ≡ b → EdgesAscend (edges_of (cond b (edge ∷ x ∷ xs) (x ∷ placed edge xs)))
      by rest true e = (ltb-true edge.slot x.slot e, h)
      by rest false e = let le : x.slot ≤ edge.slot = ltb-false edge.slot x.slot e in (still_precedes x.slot xs (omega (arith, le, differ)) h.0, rest)
