-- Which nodes can be come to along the edges of a graph in memory.
use Rattle.std.specs.Prelude.{◌≡◌, ℕ, ◌+◌, ◌<◌, ◌↔◌, ◌⊎◌, true, List, length, not, count_by, Contains, Option, Some}
use Rattle.heap_graph.specs.Graphs.{edge_in}
use Rattle.heap_graph.specs.Memory.{target_of}
use Rattle.heap_graph.specs.Frozen.{edges_of, node_there}
use Rattle.heap_graph.specs.declared.frozen.Edge.{Edge}
use Rattle.heap_graph.specs.declared.frozen.Node.{Node}
use Rattle.heap_graph.specs.declared.frozen.FrozenGraph.{FrozenGraph}
use Rattle.heap_graph.specs.Marks.{is_marked, Adds}
use Rattle.heap_graph.specs.declared.marks.NodeMarks.{NodeMarks}
use Rattle.heap_graph.specs.declared.search.Search.{Search}

-- each edge of a node is the one that is found at its slot
abbrev pub EdgesAreFound : FrozenGraph → Type 0
EdgesAreFound graph = (number : ℕ) (node : Node) (edge : Edge) → node_there graph.nodes.items number ≡ Some node → Contains node.edges.items edge
    → edge_in (edges_of node.edges.items) edge.slot ≡ Some (target_of edge.to)

-- an edge leads from a node to another
pub record LeadsTo (nodes : List (Option Node)) (from to : ℕ) : Type 0 where
  pub node : Node
  pub there : node_there nodes from ≡ Some node
  pub edge : Edge
  pub has : Contains node.edges.items edge
  pub leads : edge.to.node ≡ to

-- edges lead from a node to another, in any number of steps
pub data Comes (nodes : List (Option Node)) : ℕ → ℕ → Type 0 where
  stays : (node : ℕ) → Comes nodes node node
  goes : (from next last : ℕ) → LeadsTo nodes from next → Comes nodes next last → Comes nodes from last

-- of the graph's numbers, exactly those are marked to which edges lead from a start
pub record AreReached (nodes : List (Option Node)) (starts found : NodeMarks) : Type 0 where
  pub size : length found.marks.items ≡ length nodes
  pub exactly : (number : ℕ) → number < length nodes → (is_marked found number ≡ true) ↔ ((start : ℕ) × (is_marked starts start ≡ true) × Comes nodes start number)

-- ---- a search on its way

-- so many of the graph's numbers aren't marked
abbrev pub unmarked : NodeMarks → ℕ
unmarked marks = count_by not marks.marks.items

-- The search marks these too. What it newly marks waits, and what waits is marked.
pub record Grows (old new : Search) (added : ℕ → Type 0) : Type 0 where
  pub marks : Adds old.found new.found added
  pub waits : (number : ℕ) → is_marked new.found number ≡ true → is_marked old.found number ≡ true ⊎ Contains new.pending.items number
  pub kept : (number : ℕ) → Contains old.pending.items number → Contains new.pending.items number
  pub known : (number : ℕ) → Contains new.pending.items number → Contains old.pending.items number ⊎ (is_marked new.found number ≡ true)
  pub left : unmarked new.found + length new.pending.items ≡ unmarked old.found + length old.pending.items

-- all that the edges of a node lead to is marked
abbrev pub IsFollowed : List (Option Node) → NodeMarks → ℕ → Type 0
IsFollowed nodes marks from = (to : ℕ) → to < length nodes → LeadsTo nodes from to → is_marked marks to ≡ true

pub record IsSearch (nodes : List (Option Node)) (starts : NodeMarks) (search : Search) : Type 0 where
  pub size : length search.found.marks.items ≡ length nodes
  pub begun : (number : ℕ) → is_marked starts number ≡ true → is_marked search.found number ≡ true
  pub only : (number : ℕ) → is_marked search.found number ≡ true → (start : ℕ) × (is_marked starts start ≡ true) × Comes nodes start number
  pub known : (number : ℕ) → Contains search.pending.items number → is_marked search.found number ≡ true
  pub followed : (number : ℕ) → is_marked search.found number ≡ true → Contains search.pending.items number ⊎ IsFollowed nodes search.found number
