-- How many edges lead to a node from nodes that aren't placed.
use Rattle.std.proofs.Common.{◌≡◌, ℕ, suc, ◌+◌, ◌<◌, ◌⊎◌, ◌==◌, ◌&&◌, ◌||◌, not, Bool, true, false, if◌then◌else◌, List, [], ◌∷◌, ◌++◌, inl, inr, refl, sym, ap, ◌∙◌, arith, eqb-true, eq-eqb}
use Rattle.std.proofs.lemmas.Bool.{false≢true}
use Rattle.call_graph.specs.RowLists.{Has, is_among}
use Rattle.call_graph.specs.Rows.{row_of}
use Rattle.call_graph.proofs.RowLists.{among_append}
use Rattle.call_graph.specs.Orders.{open_edges, occurrences}

-- ---- how often a node stands in a list

pub occurs_append : (node : ℕ) (a b : List ℕ) → occurrences node (a ++ b) ≡ occurrences node a + occurrences node b
occurs_append node [] b = omega arith
occurs_append node (first ∷ a) b = by (first == node) (occurs_append node a b)
  where
    by : (t : Bool) → occurrences node (a ++ b) ≡ occurrences node a + occurrences node b
        → (if t then suc (occurrences node (a ++ b)) else occurrences node (a ++ b)) ≡ (if t then suc (occurrences node a) else occurrences node a) + occurrences node b
    by true e = omega (arith, e)
    by false e = e

pub occurs_has : (node : ℕ) (list : List ℕ) → 0 < occurrences node list → Has list node
occurs_has node [] lt = absurd (omega (arith, lt))
occurs_has node (first ∷ list) lt = by (λ more. occurs_has node list more) (first == node) refl lt
  where
    by : (0 < occurrences node list → Has list node) → (t : Bool) → (first == node) ≡ t → 0 < (if t then suc (occurrences node list) else occurrences node list) → (node ≡ first) ⊎ Has list node
    by rest true e lt' = inl (sym (eqb-true first node e))
    by rest false e lt' = inr (rest lt')

pub has_occurs : (node : ℕ) (list : List ℕ) → Has list node → 0 < occurrences node list
has_occurs node [] is = absurd is
has_occurs node (first ∷ list) (inl same) = by (first == node) (eq-eqb first node (sym same))
  where
    by : (t : Bool) → t ≡ true → 0 < (if t then suc (occurrences node list) else occurrences node list)
    by true e = omega arith
    by false e = absurd (false≢true e)
has_occurs node (first ∷ list) (inr is) = by (first == node) (has_occurs node list is)
  where
    by : (t : Bool) → 0 < occurrences node list → 0 < (if t then suc (occurrences node list) else occurrences node list)
    by true lt = omega arith
    by false lt = lt

pub occurs_once : (node : ℕ) → occurrences node (node ∷ []) ≡ 1
occurs_once node = by (node == node) (eq-eqb node node refl)
  where
    by : (t : Bool) → t ≡ true → ◌≡◌ {A = ℕ} (if t then 1 else 0) 1
    by true e = refl
    by false e = absurd (false≢true e)

pub occurs_not : (node other : ℕ) → (other == node) ≡ false → occurrences node (other ∷ []) ≡ 0
occurs_not node other ne = ap (λ (t : Bool). if t then 1 else 0) ne

-- ---- edges from nodes that aren't placed

pub all_closed : (placed : List ℕ) (edges : List (ℕ × ℕ)) (node : ℕ) → ((from : ℕ) → Has edges (from, node) → is_among from placed ≡ true) → open_edges placed edges node ≡ 0
all_closed placed [] node closed = refl
all_closed placed (edge ∷ edges) node closed =
    by (edge.1 == node) (is_among edge.0 placed) (λ e. closed edge.0 (inl (λ i. (edge.0, sym (eqb-true edge.1 node e) i)))) (all_closed placed edges node (λ from is. closed from (inr is)))
  where
    by : (t p : Bool) → (t ≡ true → p ≡ true) → open_edges placed edges node ≡ 0 → (if t && not p then suc (open_edges placed edges node) else open_edges placed edges node) ≡ 0
    by true true h e = e
    by true false h e = absurd (false≢true (h refl))
    by false p h e = e

-- there is one, or there is none
pub some_open : (placed : List ℕ) (edges : List (ℕ × ℕ)) (node : ℕ) → (open_edges placed edges node ≡ 0) ⊎ ((from : ℕ) × Has edges (from, node) × (is_among from placed ≡ false))
some_open placed [] node = inl refl
some_open placed (edge ∷ edges) node = by (edge.1 == node) (is_among edge.0 placed) refl refl (some_open placed edges node)
  where
    by : (t p : Bool) → (edge.1 == node) ≡ t → is_among edge.0 placed ≡ p → (open_edges placed edges node ≡ 0) ⊎ ((from : ℕ) × Has edges (from, node) × (is_among from placed ≡ false))
        → ((if t && not p then suc (open_edges placed edges node) else open_edges placed edges node) ≡ 0) ⊎ ((from : ℕ) × Has (edge ∷ edges) (from, node) × (is_among from placed ≡ false))
    by true false e f rest = inr (edge.0, inl (λ i. (edge.0, sym (eqb-true edge.1 node e) i)), f)
    by true true e f (inl none) = inl none
    by true true e f (inr some) = inr (some.0, inr some.1, some.2)
    by false p e f (inl none) = inl none
    by false p e f (inr some) = inr (some.0, inr some.1, some.2)

pub closed_edge : (placed : List ℕ) (edges : List (ℕ × ℕ)) (from node : ℕ) → open_edges placed edges node ≡ 0 → Has edges (from, node) → is_among from placed ≡ true
closed_edge placed [] from node none is = absurd is
closed_edge placed (edge ∷ edges) from node none is = by (λ none' is'. closed_edge placed edges from node none' is') (edge.1 == node) (is_among edge.0 placed) refl refl none is
  where
    by : (open_edges placed edges node ≡ 0 → Has edges (from, node) → is_among from placed ≡ true) → (t p : Bool) → (edge.1 == node) ≡ t → is_among edge.0 placed ≡ p
        → (if t && not p then suc (open_edges placed edges node) else open_edges placed edges node) ≡ 0 → ((from, node) ≡ edge) ⊎ Has edges (from, node) → is_among from placed ≡ true
    by further true true e f none' (inl same) = ap (λ (one : ℕ × ℕ). is_among one.0 placed) same ∙ f
    by further false p e f none' (inl same) = absurd (false≢true (sym e ∙ eq-eqb edge.1 node (ap (λ (one : ℕ × ℕ). one.1) (sym same))))
    by further true false e f none' there = absurd (omega (arith, none'))
    by further true true e f none' (inr rest) = further none' rest
    by further false p e f none' (inr rest) = further none' rest

-- ---- a node is placed

among_more : (node head : ℕ) (placed : List ℕ) → is_among node (placed ++ head ∷ []) ≡ (is_among node placed || (head == node))
among_more node head placed = among_append node placed (head ∷ []) ∙ by (is_among node placed) (head == node)
  where
    by : (a b : Bool) → (a || (b || false)) ≡ (a || b)
    by true b = refl
    by false true = refl
    by false false = refl

pub still_among : (node head : ℕ) (placed : List ℕ) → is_among node placed ≡ true → is_among node (placed ++ head ∷ []) ≡ true
still_among node head placed is = among_more node head placed ∙ ap (λ b. b || (head == node)) is

pub own_among : (head : ℕ) (placed : List ℕ) → is_among head (placed ++ head ∷ []) ≡ true
own_among head placed = among_more head head placed ∙ by (is_among head placed) (head == head) (eq-eqb head head refl)
  where
    by : (a b : Bool) → b ≡ true → (a || b) ≡ true
    by true b e = refl
    by false b e = e

pub among_either : (node head : ℕ) (placed : List ℕ) → is_among node (placed ++ head ∷ []) ≡ true → (is_among node placed ≡ true) ⊎ (node ≡ head)
among_either node head placed is = by (is_among node placed) (head == node) refl refl (sym (among_more node head placed) ∙ is)
  where
    by : (a b : Bool) → is_among node placed ≡ a → (head == node) ≡ b → (a || b) ≡ true → (is_among node placed ≡ true) ⊎ (node ≡ head)
    by true b e f t = inl e
    by false true e f t = inr (sym (eqb-true head node f))
    by false false e f t = absurd (false≢true t)

-- those that lead to it from the head are fewer
pub open_split : (placed : List ℕ) (head : ℕ) (edges : List (ℕ × ℕ)) (node : ℕ) → is_among head placed ≡ false
    → open_edges placed edges node ≡ open_edges (placed ++ head ∷ []) edges node + occurrences node (row_of head edges)
open_split placed head [] node new = refl
open_split placed head (edge ∷ edges) node new =
    by (edge.1 == node) (is_among edge.0 placed) (edge.0 == head) (is_among edge.0 (placed ++ head ∷ [])) refl
    (among_more edge.0 head placed ∙ ap (λ b. is_among edge.0 placed || b) (turned (edge.0 == head) (head == edge.0) refl refl))
    (λ e. ap (λ n. is_among n placed) (eqb-true edge.0 head e) ∙ new) (open_split placed head edges node new)
  where
    turned : (s t : Bool) → (edge.0 == head) ≡ s → (head == edge.0) ≡ t → (head == edge.0) ≡ (edge.0 == head)
    turned true t e f = eq-eqb head edge.0 (sym (eqb-true edge.0 head e)) ∙ sym e
    turned false true e f = absurd (false≢true (sym e ∙ eq-eqb edge.0 head (sym (eqb-true head edge.0 f))))
    turned false false e f = f ∙ sym e

    by : (t p h q : Bool) → (edge.1 == node) ≡ t → q ≡ (p || h) → (h ≡ true → p ≡ false) → open_edges placed edges node ≡ open_edges (placed ++ head ∷ []) edges node + occurrences node (row_of head edges)
        → (if t && not p then suc (open_edges placed edges node) else open_edges placed edges node) ≡ (if t && not q then suc (open_edges (placed ++ head ∷ []) edges node) else open_edges (placed ++ head ∷ []) edges node) + occurrences node (if h then edge.1 ∷ row_of head edges else row_of head edges)
    by false p false q is e c f = f
    by false p true q is e c f = f ∙ ap (λ n. open_edges (placed ++ head ∷ []) edges node + n) (sym (ap (λ (t : Bool). if t then suc (occurrences node (row_of head edges)) else occurrences node (row_of head edges)) is))
    by true true true q is e c f = absurd (false≢true (sym (c refl)))
    by true true false true is e c f = f
    by true true false false is e c f = absurd (false≢true e)
    by true false true true is e c f = let own : occurrences node (edge.1 ∷ row_of head edges) ≡ suc (occurrences node (row_of head edges)) = ap (λ (t : Bool). if t then suc (occurrences node (row_of head edges)) else occurrences node (row_of head edges)) is in omega (arith, f, own)
    by true false true false is e c f = absurd (false≢true e)
    by true false false true is e c f = absurd (false≢true (sym e))
    by true false false false is e c f = omega (arith, f)
