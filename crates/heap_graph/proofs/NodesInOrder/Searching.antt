-- A whole search.
use Rattle.std.proofs.Common.{◌≡◌, ℕ, zero, suc, ◌<◌, List, [], ◌∷◌, ◌++◌, reverse, length, get_or, Option, refl, sym, ap, subst, ◌∙◌, arith}
use Rattle.std.specs.Prelude.{replicate}
use Rattle.std.proofs.lemmas.List.{reverse-append, reverse-reverse, length-replicate, length_push}
use Rattle.heap_graph.specs.declared.frozen.Node.{Node}
use Rattle.heap_graph.specs.declared.order.NodeOrder.{NodeOrder}
use Rattle.heap_graph.specs.Orders.{number_in, Visited, nothing_left, IsOrderOf}
use Rattle.heap_graph.specs.Searches.{left, GoesOn, IsSearch}

no_numbers : (count node : ℕ) → ◌≡◌ {A = ℕ} (get_or (replicate count 0) node 0) 0
no_numbers zero node = refl
no_numbers (suc count) zero = refl
no_numbers (suc count) (suc node) = no_numbers count node

pub search_begins : (nodes : List (Option Node)) (starts : List ℕ) (made : NodeOrder) (pending : List ℕ) → made.order.items ≡ [] → made.numbers.items ≡ replicate (length nodes) 0 → pending ≡ reverse starts
    → IsSearch nodes starts made pending
search_begins nodes starts made pending order numbers is = record {
  size = ap length numbers ∙ length-replicate (length nodes) 0;
  numbered = λ node. ap (λ l. get_or l node 0) numbers ∙ (no_numbers (length nodes) node ∙ ap (λ l. number_in l node) (sym order));
  visits = λ result visited. subst (λ l. Visited nodes l starts result) order (subst (λ l. Visited nodes made.order.items l result) (ap reverse is ∙ reverse-reverse starts) visited);
}

module _ (nodes : List (Option Node)) (starts : List ℕ) (number : ℕ) (old new : NodeOrder) (pending popped after : List ℕ) (search : IsSearch nodes starts old pending) (is : pending ≡ popped ++ number ∷ []) (goes : GoesOn nodes number old new popped after) where
  pub search_goes_on : IsSearch nodes starts new after
  search_goes_on = record {
    size = goes.size ∙ search.size;
    numbered = goes.numbered;
    visits = λ order visited. search.visits order (subst (λ l. Visited nodes old.order.items l order) (sym (ap reverse is ∙ reverse-append popped (number ∷ []))) (goes.visits order visited));
  }

  pub search_shrinks : left nodes new after < left nodes old pending
  search_shrinks = omega (arith, goes.fewer, ap length is, length_push popped number)

pub search_ends : (nodes : List (Option Node)) (starts : List ℕ) (made : NodeOrder) (pending : List ℕ) → IsSearch nodes starts made pending → length pending ≡ 0 → IsOrderOf nodes starts made
search_ends nodes starts made [] search none = record { visited = search.visits made.order.items (nothing_left made.order.items); numbers = search.numbered }
search_ends nodes starts made (number ∷ pending) search none = absurd (omega arith)
