-- The order of nodes in a text: each where it is met for the first time, and at once what it leads to.
use Rattle.std.specs.Prelude.{◌≡◌, ℕ, suc, ◌<◌, ◌==◌, ◌⊎◌, nat_lt, if◌then◌else◌, List, [], ◌∷◌, ◌++◌, map, get_or, Option, Some, None}
use Rattle.heap_graph.specs.Frozen.{node_there}
use Rattle.heap_graph.specs.declared.frozen.Edge.{Edge}
use Rattle.heap_graph.specs.declared.frozen.Node.{Node}
use Rattle.heap_graph.specs.declared.order.NodeOrder.{NodeOrder}

-- ---- edges by their slots

abbrev pub insert_edge : Edge → List Edge → List Edge
insert_edge edge [] = edge ∷ []
insert_edge edge (first ∷ others) = if nat_lt first.slot edge.slot then first ∷ insert_edge edge others else edge ∷ first ∷ others

abbrev pub by_slot : List Edge → List Edge
by_slot [] = []
by_slot (edge ∷ others) = insert_edge edge (by_slot others)

-- each edge's slot is below that of the next
abbrev pub SlotsAscend : List Edge → Type 0
SlotsAscend [] = Unit {0}
SlotsAscend (edge ∷ []) = Unit {0}
SlotsAscend (edge ∷ next ∷ others) = (edge.slot < next.slot) × SlotsAscend (next ∷ others)

-- the edges of each node stand in the order of their slots
abbrev pub EdgesAscend : List (Option Node) → Type 0
EdgesAscend nodes = (number : ℕ) (node : Node) → node_there nodes number ≡ Some node → SlotsAscend node.edges.items

-- the nodes to which a node leads
abbrev pub leads_to : Node → List ℕ
leads_to node = map (λ edge. edge.to.node) (by_slot node.edges.items)

-- ---- numbers

abbrev pub number_from : ℕ → List ℕ → ℕ → ℕ
number_from count [] node = 0
number_from count (first ∷ others) node = if first == node then count else number_from (suc count) others node

-- where a node stands in an order, from 1; 0 where it doesn't
abbrev pub number_in : List ℕ → ℕ → ℕ
number_in order node = number_from 1 order node

-- ---- the search

-- A node that is in the order already is passed over, and so is one that isn't in the graph. One that is met for the first time is added to
-- the order, and the search goes on with the nodes to which it leads.
pub data Visited (nodes : List (Option Node)) : (seen pending order : List ℕ) → Type 0 where
  nothing_left : (seen : List ℕ) → Visited nodes seen [] seen
  passed : (seen pending order : List ℕ) (number : ℕ) → (0 < number_in seen number) ⊎ (node_there nodes number ≡ None) → Visited nodes seen pending order → Visited nodes seen (number ∷ pending) order
  added : (seen pending order : List ℕ) (number : ℕ) (node : Node) → number_in seen number ≡ 0 → node_there nodes number ≡ Some node → Visited nodes (seen ++ number ∷ []) (leads_to node ++ pending) order
      → Visited nodes seen (number ∷ pending) order

-- ---- orders in memory

abbrev pub number_of : NodeOrder → ℕ → ℕ
number_of made node = get_or made.numbers.items node 0

-- the order that a search from these nodes gives, and the numbers in it
pub record IsOrderOf (nodes : List (Option Node)) (starts : List ℕ) (made : NodeOrder) : Type 0 where
  pub visited : Visited nodes [] starts made.order.items
  pub numbers : (node : ℕ) → number_of made node ≡ number_in made.order.items node
