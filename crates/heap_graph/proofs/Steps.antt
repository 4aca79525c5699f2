-- Steps of a search.
use Rattle.std.proofs.Common.{◌≡◌, ℕ, zero, suc, ◌+◌, ◌*◌, ◌<◌, ◌≤◌, ◌⊎◌, inl, inr, Bool, cond, List, [], ◌∷◌, ◌++◌, map, reverse, length, get_or, set, count_by, Option, Some, None, refl, sym, ap, subst, ◌∙◌, arith, length-append}
use Rattle.std.specs.Prelude.{◌==◌}
use Rattle.std.proofs.lemmas.Bool.Decides.{eqb_tells}
use Rattle.std.proofs.lemmas.Option.{none-some}
use Rattle.std.proofs.lemmas.List.{reverse-append, reverse-reverse, length-reverse, length-set, length-map, length_push}
use Rattle.std.proofs.lemmas.List.Sums.{sum_by-set}
use Rattle.heap_graph.specs.Frozen.{node_there}
use Rattle.heap_graph.specs.declared.frozen.Edge.{Edge}
use Rattle.heap_graph.specs.declared.frozen.Node.{Node}
use Rattle.heap_graph.specs.declared.order.NodeOrder.{NodeOrder}
use Rattle.heap_graph.specs.Orders.{EdgesAscend, leads_to, number_in, number_of, Visited, passed, added}
use Rattle.heap_graph.specs.Searches.{IsNumbered, edges_at, edge_count, left, GoesOn}
use Rattle.heap_graph.proofs.Slots.{by_slot_same}
use Rattle.heap_graph.proofs.NodesInOrder.Numbers.{numbers_more}

edges_below : (nodes : List (Option Node)) (number : ℕ) (node : Node) → node_there nodes number ≡ Some node → length node.edges.items ≤ edge_count nodes
edges_below [] number node is = absurd (none-some node is)
edges_below (first ∷ nodes) zero node is = omega (arith, ap edges_at is)
edges_below (first ∷ nodes) (suc number) node is = omega (arith, edges_below nodes number node is)

pub within_nodes : (nodes : List (Option Node)) (number : ℕ) (node : Node) → node_there nodes number ≡ Some node → number < length nodes
within_nodes [] number node is = absurd (none-some node is)
within_nodes (first ∷ nodes) zero node is = omega arith
within_nodes (first ∷ nodes) (suc number) node is = omega (arith, within_nodes nodes number node is)

map_push : (edges : List Edge) (edge : Edge) → map (λ (e : Edge). e.to.node) (edges ++ edge ∷ []) ≡ map (λ (e : Edge). e.to.node) edges ++ edge.to.node ∷ []
map_push [] edge = refl
map_push (first ∷ edges) edge = ap (λ l. first.to.node ∷ l) (map_push edges edge)

map_reversed : (edges : List Edge) → map (λ (e : Edge). e.to.node) (reverse edges) ≡ reverse (map (λ (e : Edge). e.to.node) edges)
map_reversed [] = refl
map_reversed (edge ∷ edges) = ap (map (λ (e : Edge). e.to.node)) (reverse-append (edge ∷ []) edges)
    ∙ (map_push (reverse edges) edge ∙ (ap (λ l. l ++ edge.to.node ∷ []) (map_reversed edges) ∙ sym (reverse-append (edge.to.node ∷ []) (map (λ (e : Edge). e.to.node) edges))))

-- what is pending next where what edges lead to was added at the end
pub pending_next : (edges : List Edge) (before after : List ℕ) → after ≡ before ++ map (λ (e : Edge). e.to.node) (reverse edges) → reverse after ≡ map (λ (e : Edge). e.to.node) edges ++ reverse before
pending_next edges before after is =
    ap reverse (is ∙ ap (λ l. before ++ l) (map_reversed edges))
    ∙ (reverse-append before (reverse (map (λ (e : Edge). e.to.node) edges)) ∙ ap (λ l. l ++ reverse before) (reverse-reverse (map (λ (e : Edge). e.to.node) edges)))

no_weight : (place : ℕ) → 0 < place → ◌≡◌ {A = ℕ} (cond (place == 0) 1 0) 0
no_weight place some = elim (eqb_tells place 0) [
  | inl none ↦ absurd (omega (arith, some, none.1))
  | inr other ↦ ap (λ (b : Bool). cond {A = ℕ} b 1 0) other.0
]

module _ (nodes : List (Option Node)) (number : ℕ) (old : NodeOrder) (numbered : IsNumbered old) where
  -- a node is passed over
  pub goes_past : (pending : List ℕ) → (0 < number_of old number) ⊎ (node_there nodes number ≡ None) → GoesOn nodes number old old pending pending
  goes_past pending reason = record {
    size = refl;
    numbered = numbered;
    visits = λ order visited. passed old.order.items (reverse pending) order number (by reason) visited;
    fewer = omega arith;
  }
    where
      by : (0 < number_of old number) ⊎ (node_there nodes number ≡ None) → (0 < number_in old.order.items number) ⊎ (node_there nodes number ≡ None)
      by (inl met) = inl (subst (λ n. 0 < n) (numbered number) met)
      by (inr gone) = inr gone

  -- a node is added
  pub goes_on : (node : Node) (new : NodeOrder) (before after : List ℕ) → length old.numbers.items ≡ length nodes → EdgesAscend nodes → number_of old number ≡ 0 → node_there nodes number ≡ Some node
      → new.order.items ≡ old.order.items ++ number ∷ [] → new.numbers.items ≡ set old.numbers.items number (length new.order.items)
      → after ≡ before ++ map (λ (e : Edge). e.to.node) (reverse node.edges.items) → GoesOn nodes number old new before after
  goes_on node new before after size ascend unset there order numbers pending = record {
    size = ap length numbers ∙ length-set old.numbers.items number (length new.order.items);
    numbered = λ n. ap (λ l. get_or l n 0) same_numbers ∙ (numbers_more old.order.items old.numbers.items number within numbered unset n ∙ ap (λ l. number_in l n) (sym order));
    visits = λ result visited. added old.order.items (reverse before) result number node (sym (numbered number) ∙ unset) there
        (subst (λ l. Visited nodes l (leads_to node ++ reverse before) result) order (subst (λ l. Visited nodes new.order.items l result) next visited));
    fewer = fewer;
  }
    where
      within : number < length old.numbers.items
      within = omega (arith, size, within_nodes nodes number node there)

      same_numbers : new.numbers.items ≡ set old.numbers.items number (length (old.order.items ++ number ∷ []))
      same_numbers = numbers ∙ ap (λ l. set old.numbers.items number (length l)) order

      next : reverse after ≡ leads_to node ++ reverse before
      next = pending_next node.edges.items before after pending ∙ ap (λ l. map (λ (e : Edge). e.to.node) l ++ reverse before) (sym (by_slot_same node.edges.items (ascend number node there)))

      longer : length after ≡ length before + length node.edges.items
      longer = ap length pending ∙ (length-append before (map (λ (e : Edge). e.to.node) (reverse node.edges.items)) ∙ omega (arith, length-map {A = Edge} {B = ℕ}, length-reverse node.edges.items))

      one_less : suc (count_by (λ n. n == 0) new.numbers.items) ≡ count_by (λ n. n == 0) old.numbers.items
      one_less =
          let place : ℕ = length (old.order.items ++ number ∷ []) in
          let weights = sum_by-set (λ n. cond (n == 0) 1 0) old.numbers.items number place 0 within in
          let own : ◌≡◌ {A = ℕ} (cond (get_or old.numbers.items number 0 == 0) 1 0) 1 = ap (λ n. cond (n == 0) 1 0) unset in
          let set_there : ◌≡◌ {A = ℕ} (cond (place == 0) 1 0) 0 = no_weight place (omega (arith, length_push old.order.items number)) in
          omega (arith, weights, own, set_there, ap (count_by (λ n. n == 0)) same_numbers)

      fewer : left nodes new after < suc (left nodes old before)
      fewer = omega (arith, longer, edges_below nodes number node there, ap (λ n. n * suc (edge_count nodes)) one_less)
