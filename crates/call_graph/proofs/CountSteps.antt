-- Edges are counted and turned, and components that are ready are found, one after another.
use Rattle.std.proofs.Common.{◌≡◌, ℕ, zero, suc, ◌+◌, ◌<◌, ◌≤◌, ◌⊎◌, ◌==◌, ◌&&◌, Bool, true, false, cond, if◌then◌else◌, nat_cmp, List, [], ◌∷◌, ◌++◌, length, set, get_or, Some, inl, inr, refl, sym, ap, subst, ◌∙◌, arith, length-set, eqb-true, eq-eqb}
use Rattle.std.specs.Prelude.{slice_get}
use Rattle.std.specs.List.{list_any}
use Rattle.std.specs.BTreeMap.{is_at}
use Rattle.std.specs.BTreeSet.{BTreeSet, contains}
use Rattle.std.proofs.Math.ListN.{replicate}
use Rattle.std.proofs.lemmas.Bool.{false≢true, cases_lt}
use Rattle.std.proofs.lemmas.List.{length-replicate, get_or-set_same, get_or-set_other}
use Rattle.call_graph.specs.Heads.{turned_edge}
use Rattle.call_graph.specs.Orders.{open_edges, AreCounts, AreReadySoFar}
use Rattle.call_graph.proofs.Ready.{at_number}

-- ---- counts

one_more : (done : List (ℕ × ℕ)) (edge : ℕ × ℕ) (node : ℕ) → open_edges [] (done ++ edge ∷ []) node ≡ (if edge.1 == node then suc (open_edges [] done node) else open_edges [] done node)
one_more [] edge node = by (edge.1 == node)
  where
    by : (t : Bool) → ◌≡◌ {A = ℕ} (if t && true then 1 else 0) (if t then 1 else 0)
    by true = refl
    by false = refl
one_more (first ∷ done) edge node = by (first.1 == node) (edge.1 == node) (one_more done edge node)
  where
    by : (t s : Bool) → open_edges [] (done ++ edge ∷ []) node ≡ (if s then suc (open_edges [] done node) else open_edges [] done node)
        → (if t && true then suc (open_edges [] (done ++ edge ∷ []) node) else open_edges [] (done ++ edge ∷ []) node)
        ≡ (if s then suc (if t && true then suc (open_edges [] done node) else open_edges [] done node) else (if t && true then suc (open_edges [] done node) else open_edges [] done node))
    by true true e = ap suc e
    by true false e = ap suc e
    by false true e = e
    by false false e = e

pub open_bound : (edges : List (ℕ × ℕ)) (node : ℕ) → open_edges [] edges node ≤ length edges
open_bound [] node = omega arith
open_bound (edge ∷ edges) node = by (edge.1 == node) (open_bound edges node)
  where
    by : (t : Bool) → open_edges [] edges node ≤ length edges → (if t && true then suc (open_edges [] edges node) else open_edges [] edges node) ≤ suc (length edges)
    by true le = omega (arith, le)
    by false le = omega (arith, le)

pub no_counts : (nodes : ℕ) (counts : List ℕ) → counts ≡ replicate nodes 0 → AreCounts nodes [] counts
no_counts nodes counts is = record {
  each = ap length is ∙ length-replicate nodes 0;
  count = λ node lt. ap (λ l. get_or l node 0) is ∙ there nodes node lt;
}
  where
    there : (n at : ℕ) → at < n → ◌≡◌ {A = ℕ} (get_or (replicate n 0) at 0) 0
    there zero at lt = absurd (omega (arith, lt))
    there (suc n) zero lt = refl
    there (suc n) (suc at) lt = there n at (omega (arith, lt))

module _ (nodes : ℕ) (done more : List (ℕ × ℕ)) (edge : ℕ × ℕ) (counts counts' : List ℕ) (known : AreCounts nodes done counts) (e : more ≡ done ++ edge ∷ []) where
  now : (node : ℕ) → open_edges [] more node ≡ (if edge.1 == node then suc (open_edges [] done node) else open_edges [] done node)
  now node = ap (λ l. open_edges [] l node) e ∙ one_more done edge node

  pub count_one : edge.1 < nodes → counts' ≡ set counts edge.1 (get_or counts edge.1 0 + 1) → AreCounts nodes more counts'
  count_one lt is = record {
    each = ap length is ∙ (length-set counts edge.1 (get_or counts edge.1 0 + 1) ∙ known.each);
    count = λ node below. ap (λ l. get_or l node 0) is ∙ (by node (edge.1 == node) refl below ∙ sym (now node));
  }
    where
      by : (node : ℕ) (t : Bool) → (edge.1 == node) ≡ t → node < nodes
          → get_or (set counts edge.1 (get_or counts edge.1 0 + 1)) node 0 ≡ (if edge.1 == node then suc (open_edges [] done node) else open_edges [] done node)
      by node true same below =
          let equal = eqb-true edge.1 node same in
          let was : get_or counts edge.1 0 ≡ open_edges [] done node = ap (λ n. get_or counts n 0) equal ∙ known.count node below in
          let written : get_or (set counts edge.1 (get_or counts edge.1 0 + 1)) node 0 ≡ get_or counts edge.1 0 + 1 =
          ap (λ n. get_or (set counts edge.1 (get_or counts edge.1 0 + 1)) n 0) (sym equal) ∙ get_or-set_same counts edge.1 (get_or counts edge.1 0 + 1) 0 (omega (arith, lt, known.each)) in
          let next : get_or (set counts edge.1 (get_or counts edge.1 0 + 1)) node 0 ≡ suc (open_edges [] done node) = omega (arith, written, was) in
          next ∙ sym (ap (λ (t : Bool). if t then suc (open_edges [] done node) else open_edges [] done node) same)
      by node false differs below =
          get_or-set_other counts edge.1 node (get_or counts edge.1 0 + 1) 0 (λ same. false≢true (sym differs ∙ eq-eqb edge.1 node (sym same)))
          ∙ (known.count node below ∙ sym (ap (λ (t : Bool). if t then suc (open_edges [] done node) else open_edges [] done node) differs))

  pub count_none : nodes ≤ edge.1 → counts' ≡ counts → AreCounts nodes more counts'
  count_none le is = record {
    each = ap length is ∙ known.each;
    count = λ node below. ap (λ l. get_or l node 0) is ∙ (known.count node below ∙ (by node (edge.1 == node) refl below ∙ sym (now node)));
  }
    where
      by : (node : ℕ) (t : Bool) → (edge.1 == node) ≡ t → node < nodes → open_edges [] done node ≡ (if edge.1 == node then suc (open_edges [] done node) else open_edges [] done node)
      by node true same below = absurd (omega (arith, eqb-true edge.1 node same, below, le))
      by node false differs below = sym (ap (λ (t : Bool). if t then suc (open_edges [] done node) else open_edges [] done node) differs)

  -- a count that fits
  pub count_low : edge.1 < nodes → get_or counts edge.1 0 ≤ length done
  count_low lt = omega (arith, known.count edge.1 lt, open_bound done edge.1)

-- ---- edges that are turned

pub turned_some : (heads : List ℕ) (edge : ℕ × ℕ) (caller callee : ℕ) → caller ≡ get_or heads edge.0 0 → callee ≡ get_or heads edge.1 0 → (caller ≡ callee → ⊥) → ◌≡◌ {A = List (ℕ × ℕ)} ((callee, caller) ∷ []) (turned_edge heads edge)
turned_some heads edge caller callee a b differ = by (get_or heads edge.0 0 == get_or heads edge.1 0) refl
  where
    by : (t : Bool) → (get_or heads edge.0 0 == get_or heads edge.1 0) ≡ t → ◌≡◌ {A = List (ℕ × ℕ)} ((callee, caller) ∷ []) (if t then [] else (get_or heads edge.1 0, get_or heads edge.0 0) ∷ [])
    by true same = absurd (differ (a ∙ (eqb-true (get_or heads edge.0 0) (get_or heads edge.1 0) same ∙ sym b)))
    by false other = λ i. (b i, a i) ∷ []

pub turned_none : (heads : List ℕ) (edge : ℕ × ℕ) (caller callee : ℕ) → caller ≡ get_or heads edge.0 0 → callee ≡ get_or heads edge.1 0 → caller ≡ callee → [] ≡ turned_edge heads edge
turned_none heads edge caller callee a b same =
    sym (ap (λ (t : Bool). if t then [] else (get_or heads edge.1 0, get_or heads edge.0 0) ∷ []) (eq-eqb (get_or heads edge.0 0) (get_or heads edge.1 0) (sym a ∙ (same ∙ b))))

-- ---- components that are ready at first

pub nothing_in : (ready : BTreeSet ℕ) → (0 < length ready.keys → ⊥) → (node : ℕ) → contains nat_cmp ready node ≡ false
nothing_in ready none node = by ready.keys none
  where
    by : (keys : List ℕ) → (0 < length keys → ⊥) → list_any (is_at (nat_cmp node)) keys ≡ false
    by [] none' = refl
    by (key ∷ keys) none' = absurd (none' (omega arith))

pub none_ready : (heads counts : List ℕ) (ready : BTreeSet ℕ) → ready.keys ≡ [] → AreReadySoFar 0 heads counts ready
none_ready heads counts ready empty = record {
  ready' = λ node is. absurd (false≢true (sym (nothing_in ready (λ lt. omega (arith, lt, ap length empty)) node) ∙ is));
  waits = λ node lt here zero'. absurd (omega (arith, lt));
}

module _ (heads counts : List ℕ) where
  module _ (at next : ℕ) (old new : BTreeSet ℕ) (known : AreReadySoFar at heads counts old) (e : next ≡ at + 1) where
    split : (node : ℕ) → node < next → (node < at) ⊎ (node ≡ at)
    split node lt = elim (cases_lt node at) [ inl less ↦ inl less | inr le ↦ inr (omega (arith, lt, le, e)) ]

    pub ready_one : slice_get heads at ≡ Some at → get_or counts at 0 ≡ 0 → ((node : ℕ) → contains nat_cmp new node ≡ cond (is_at (nat_cmp at) node) true (contains nat_cmp old node)) → AreReadySoFar next heads counts new
    ready_one head none inserted = record { ready' = λ node is. from node (at == node) refl (sym (moved node) ∙ is); waits = λ node lt here zero'. moved node ∙ to node (at == node) refl (split node lt) here zero' }
      where
        moved : (node : ℕ) → contains nat_cmp new node ≡ cond (at == node) true (contains nat_cmp old node)
        moved node = inserted node ∙ ap (λ b. cond b true (contains nat_cmp old node)) (at_number at node)

        from : (node : ℕ) (b : Bool) → (at == node) ≡ b → cond (at == node) true (contains nat_cmp old node) ≡ true → (node < next) × (slice_get heads node ≡ Some node) × (get_or counts node 0 ≡ 0)
        from node true same is =
            let equal = eqb-true at node same in
            (omega (arith, equal, e), subst (λ (n : ℕ). slice_get heads n ≡ Some n) equal head, subst (λ (n : ℕ). get_or counts n 0 ≡ 0) equal none)
        from node false differs is =
            let was = known.ready' node (sym (ap (λ b. cond b true (contains nat_cmp old node)) differs) ∙ is) in
            (omega (arith, was.0, e), was.1, was.2)

        to : (node : ℕ) (b : Bool) → (at == node) ≡ b → (node < at) ⊎ (node ≡ at) → slice_get heads node ≡ Some node → get_or counts node 0 ≡ 0 → cond (at == node) true (contains nat_cmp old node) ≡ true
        to node true same which here zero' = ap (λ b. cond b true (contains nat_cmp old node)) same
        to node false differs (inl before) here zero' = ap (λ b. cond b true (contains nat_cmp old node)) differs ∙ known.waits node before here zero'
        to node false differs (inr equal) here zero' = absurd (false≢true (sym differs ∙ eq-eqb at node (sym equal)))

    pub ready_none : (slice_get heads at ≡ Some at → get_or counts at 0 ≡ 0 → ⊥) → new ≡ old → AreReadySoFar next heads counts new
    ready_none none same = subst (AreReadySoFar next heads counts) (sym same) (record {
      ready' = λ node is. let was = known.ready' node is in (omega (arith, was.0, e), was.1, was.2);
      waits = λ node lt here zero'. elim (split node lt) [
        | inl before ↦ known.waits node before here zero'
        | inr equal ↦ absurd (none (subst (λ (n : ℕ). slice_get heads n ≡ Some n) equal here) (subst (λ (n : ℕ). get_or counts n 0 ≡ 0) equal zero'))
      ];
    })
