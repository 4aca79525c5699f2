-- A search on its way.
use Rattle.std.specs.Prelude.{◌≡◌, ℕ, suc, ◌+◌, ◌*◌, ◌==◌, ◌<◌, List, [], ◌∷◌, length, reverse, count_by, Option, Some, None}
use Rattle.heap_graph.specs.declared.frozen.Node.{Node}
use Rattle.heap_graph.specs.declared.order.NodeOrder.{NodeOrder}
use Rattle.heap_graph.specs.Orders.{number_of, number_in, Visited}

abbrev pub IsNumbered : NodeOrder → Type 0
IsNumbered made = (node : ℕ) → number_of made node ≡ number_in made.order.items node

abbrev pub edges_at : Option Node → ℕ
edges_at None = 0
edges_at (Some node) = length node.edges.items

-- all edges of a graph
abbrev pub edge_count : List (Option Node) → ℕ
edge_count [] = 0
edge_count (node ∷ nodes) = edges_at node + edge_count nodes

-- more than what can still be gone on with
abbrev pub left : List (Option Node) → NodeOrder → List ℕ → ℕ
left nodes made pending = count_by (λ number. number == 0) made.numbers.items * suc (edge_count nodes) + length pending

-- what a step of the search comes to; the next that are pending stand at the end
pub record GoesOn (nodes : List (Option Node)) (number : ℕ) (old new : NodeOrder) (before after : List ℕ) : Type 0 where
  pub size : length new.numbers.items ≡ length old.numbers.items
  pub numbered : IsNumbered new
  pub visits : (order : List ℕ) → Visited nodes new.order.items (reverse after) order → Visited nodes old.order.items (number ∷ reverse before) order
  pub fewer : left nodes new after < suc (left nodes old before)

-- the search from these nodes, as far as it has come
pub record IsSearch (nodes : List (Option Node)) (starts : List ℕ) (made : NodeOrder) (pending : List ℕ) : Type 0 where
  pub size : length made.numbers.items ≡ length nodes
  pub numbered : IsNumbered made
  pub visits : (order : List ℕ) → Visited nodes made.order.items (reverse pending) order → Visited nodes [] starts order
