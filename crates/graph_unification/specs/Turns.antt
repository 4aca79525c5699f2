-- How turns of merging change a graph in memory, and what is asked of it.
use Rattle.std.specs.Prelude.{◌≡◌, ℕ, ◌+◌, ◌-◌, ◌^◌, min, Bool, true, false, ◌++◌, List, [], ◌∷◌, map, length, slice_get, Option, Some, None, option_map}
use Rattle.c_typed.specs.Table.{Interned, structs_in}
use Rattle.heap_graph.specs.declared.graph.Target as memory_target
use Rattle.heap_graph.specs.declared.graph.Element as memory_element
use Rattle.heap_graph.specs.declared.graph.Element.TheVariants as E
use Rattle.heap_graph.specs.declared.graph.Flags as memory_flags
use Rattle.heap_graph.specs.Memory.{flags_of}
use Rattle.heap_graph.specs.Steps.{Ask, One, Collapse, Points, both_flags, Step}
use Rattle.graph_unification.specs.declared.ask.Ask as memory_ask
use Rattle.graph_unification.specs.declared.ask.Ask.TheVariants as A
use Rattle.graph_unification.specs.declared.node.SlotEdge.{SlotEdge}
use Rattle.graph_unification.specs.declared.node.Node as memory_node
use Rattle.graph_unification.specs.declared.nodes.Nodes.{Nodes}
use Rattle.graph_unification.specs.declared.graph.Graph as memory_graph
use Rattle.graph_unification.specs.Cells.{moved_cell, flat_cell, changed_all}
use Rattle.graph_unification.specs.Memory.{node_in, content, graph_in, IsGraph}

-- ---- what is asked

abbrev pub ask_in : Nodes → memory_ask.Ask → Ask
ask_in nodes (A.One a b) = One (content nodes a) (content nodes b)
ask_in nodes (A.Collapse cell) = Collapse (content nodes cell).node
ask_in nodes (A.Points at to) = Points (content nodes at).node (content nodes at).shift (content nodes to)

abbrev pub asks_in : Nodes → List memory_ask.Ask → List Ask
asks_in nodes asks = map (ask_in nodes) asks

-- an edge that a node had, asked again at a slot
abbrev pub asked_again : ℕ → SlotEdge → memory_ask.Ask
asked_again at edge = A.Points at edge.to

-- two nodes that don't agree are collapsed, and their targets one
abbrev pub asked_of_clash : ℕ → ℕ → List memory_ask.Ask
asked_of_clash a b = A.Collapse a ∷ A.Collapse b ∷ A.One a b ∷ []

-- ---- what is read of nodes

abbrev pub IsThere : List (Option memory_node.Node) → ℕ → Type 0
IsThere list number = (node : memory_node.Node) × (slice_get list number ≡ Some (Some node))

abbrev pub element_of : memory_node.Node → memory_element.Element
element_of node = node.element

abbrev pub element_at : List (Option memory_node.Node) → ℕ → Option memory_element.Element
element_at list number = option_map element_of (node_in list number)

abbrev pub is_flat_element : memory_element.Element → Bool
is_flat_element E.Collapsed = true
is_flat_element element = false

abbrev pub is_flat : Option memory_element.Element → Bool
is_flat None = false
is_flat (Some element) = is_flat_element element

abbrev pub edges_of_held : Option memory_node.Node → List SlotEdge
edges_of_held None = []
edges_of_held (Some node) = node.edges.items

abbrev pub edges_in : List (Option memory_node.Node) → ℕ → List SlotEdge
edges_in list number = edges_of_held (node_in list number)

-- ---- changes of nodes

-- one node is another, or none
pub record ChangesAt (old new : List (Option memory_node.Node)) (number : ℕ) (before after : Option memory_node.Node) : Type 0 where
  pub was : slice_get old number ≡ Some before
  pub now : slice_get new number ≡ Some after
  pub others : (other : ℕ) → (other ≡ number → ⊥) → slice_get new other ≡ slice_get old other
  pub length : length new ≡ length old

-- a node got cells
pub record WithCells (old new : List (Option memory_node.Node)) (number : ℕ) (added : List ℕ) (before : memory_node.Node) : Type 0 where
  pub after : memory_node.Node
  pub change : ChangesAt old new number (Some before) (Some after)
  pub element : after.element ≡ before.element
  pub flags : after.flags ≡ before.flags
  pub edges : after.edges.items ≡ before.edges.items
  pub cells : after.cells.items ≡ before.cells.items ++ added

-- where it is there
abbrev pub HoldsCells : List (Option memory_node.Node) → List (Option memory_node.Node) → ℕ → List ℕ → Type 0
HoldsCells old new number cells = (before : memory_node.Node) → slice_get old number ≡ Some (Some before) → WithCells old new number cells before

-- a cell was added
pub record AddsCell (old new : Nodes) (number : ℕ) (to : memory_target.Target) : Type 0 where
  pub last : number ≡ length old.cells.items
  pub cells : new.cells.items ≡ old.cells.items ++ to ∷ []
  pub list : HoldsCells old.list.items new.list.items to.node (number ∷ [])

-- a node got flags and cells
pub record WithGain (old new : List (Option memory_node.Node)) (number : ℕ) (flags : memory_flags.Flags) (added : List ℕ) (before : memory_node.Node) : Type 0 where
  pub after : memory_node.Node
  pub change : ChangesAt old new number (Some before) (Some after)
  pub element : after.element ≡ before.element
  pub both : flags_of after.flags ≡ both_flags (flags_of before.flags) (flags_of flags)
  pub edges : after.edges.items ≡ before.edges.items
  pub cells : after.cells.items ≡ before.cells.items ++ added

abbrev pub Gains : List (Option memory_node.Node) → List (Option memory_node.Node) → ℕ → memory_flags.Flags → List ℕ → Type 0
Gains old new number flags cells = (before : memory_node.Node) → slice_get old number ≡ Some (Some before) → WithGain old new number flags cells before

-- a node became part of another: the cells that pointed to it point there
pub record Joins (old new : Nodes) (part whole distance : ℕ) : Type 0 where
  pub inner : memory_node.Node
  pub outer : memory_node.Node
  pub whole_is : slice_get old.list.items whole ≡ Some (Some outer)
  pub middle : List (Option memory_node.Node)
  pub goes : ChangesAt old.list.items middle part (Some inner) None
  pub gains : WithGain middle new.list.items whole inner.flags inner.cells.items outer
  pub cells : new.cells.items ≡ changed_all (moved_cell part whole distance) inner.cells.items old.cells.items

-- a node was collapsed
pub record WithOneSlot (old new : Nodes) (number : ℕ) (before : memory_node.Node) : Type 0 where
  pub after : memory_node.Node
  pub change : ChangesAt old.list.items new.list.items number (Some before) (Some after)
  pub element : after.element ≡ E.Collapsed
  pub flags : after.flags ≡ before.flags
  pub edges : after.edges.items ≡ []
  pub list : after.cells.items ≡ before.cells.items
  pub cells : new.cells.items ≡ changed_all (flat_cell number) before.cells.items old.cells.items

abbrev pub Flattens : Nodes → Nodes → ℕ → Type 0
Flattens old new number = (before : memory_node.Node) → slice_get old.list.items number ≡ Some (Some before) → WithOneSlot old new number before

-- a node got an edge
pub record WithEdge (old new : Nodes) (number slot to : ℕ) (before : memory_node.Node) : Type 0 where
  pub after : memory_node.Node
  pub change : ChangesAt old.list.items new.list.items number (Some before) (Some after)
  pub element : after.element ≡ before.element
  pub flags : after.flags ≡ before.flags
  pub edges : after.edges.items ≡ before.edges.items ++ record { slot = slot; to = to } ∷ []
  pub list : after.cells.items ≡ before.cells.items
  pub cells : new.cells.items ≡ old.cells.items

abbrev pub AddsEdge : Nodes → Nodes → ℕ → ℕ → ℕ → Type 0
AddsEdge old new number slot to = (before : memory_node.Node) → slice_get old.list.items number ≡ Some (Some before) → WithEdge old new number slot to before

-- a node got another element
pub record WithElement (old new : Nodes) (number : ℕ) (element : memory_element.Element) (before : memory_node.Node) : Type 0 where
  pub after : memory_node.Node
  pub change : ChangesAt old.list.items new.list.items number (Some before) (Some after)
  pub is : after.element ≡ element
  pub flags : after.flags ≡ before.flags
  pub edges : after.edges.items ≡ before.edges.items
  pub list : after.cells.items ≡ before.cells.items
  pub cells : new.cells.items ≡ old.cells.items

abbrev pub Retypes : Nodes → Nodes → ℕ → memory_element.Element → Type 0
Retypes old new number element = (before : memory_node.Node) → slice_get old.list.items number ≡ Some (Some before) → WithElement old new number element before

-- a node got other flags
pub record WithFlags (old new : Nodes) (number : ℕ) (flags : memory_flags.Flags) (before : memory_node.Node) : Type 0 where
  pub after : memory_node.Node
  pub change : ChangesAt old.list.items new.list.items number (Some before) (Some after)
  pub element : after.element ≡ before.element
  pub is : after.flags ≡ flags
  pub edges : after.edges.items ≡ before.edges.items
  pub list : after.cells.items ≡ before.cells.items
  pub cells : new.cells.items ≡ old.cells.items

abbrev pub ChangesFlags : Nodes → Nodes → ℕ → memory_flags.Flags → Type 0
ChangesFlags old new number flags = (before : memory_node.Node) → slice_get old.list.items number ≡ Some (Some before) → WithFlags old new number flags before

-- edges were asked of a node, each behind so many of its slots and at a new cell, before other things
pub data AsksEdges (node distance : ℕ) (old : Nodes) (before : List memory_ask.Ask) : List SlotEdge → Nodes → List memory_ask.Ask → Type 0 where
  Nothing : AsksEdges node distance old before [] old before
  More : (edge : SlotEdge) (edges : List SlotEdge) (middle new : Nodes) (asks : List memory_ask.Ask) (at : ℕ) → AsksEdges node distance old before edges middle asks
      → AddsCell middle new at (record { node = node; shift = min (edge.slot + distance) (2 ^ 64 - 1) }) → AsksEdges node distance old before (edge ∷ edges) new (A.Points at edge.to ∷ asks)

-- a node became part of another, and its edges are asked of that one
pub record Links (old new : Nodes) (part whole distance : ℕ) (before after : List memory_ask.Ask) : Type 0 where
  pub middle : Nodes
  pub joins : Joins old middle part whole distance
  pub asks : AsksEdges whole distance middle before (edges_in old.list.items part) new after

-- a node became part of another in which it lies; or, where both begin at the same slot, it got the element of that one, which became part of it
pub data Lays (old new : Nodes) (part whole distance : ℕ) (before after : List memory_ask.Ask) : Type 0 where
  Itself : Links old new part whole distance before after → Lays old new part whole distance before after
  Turned : (middle : Nodes) (element : memory_element.Element) → distance ≡ 0 → element_at old.list.items whole ≡ Some element → Retypes old middle part element
      → Links middle new whole part 0 before after → Lays old new part whole distance before after

-- ---- turns

-- from a graph of which some things are asked to one of which others are
pub record Goes (table : Interned) (old new : memory_graph.Graph) (before after : List Ask) : Type 0 where
  pub graph : IsGraph table new
  pub step : Step (structs_in table) (graph_in table old) (graph_in table new) before after
