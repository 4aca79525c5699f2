-- Merging step by step. What is still asked of a graph is a list; each step settles the first thing that is asked, or asks for others in its
-- place, and changes the graph where it has to.
use Rattle.std.specs.Prelude.{◌≡◌, ℕ, ◌+◌, ◌≤◌, ◌==◌, true, ◌&&◌, ◌||◌, if◌then◌else◌, List, [], ◌∷◌, map, Option, Some, None, option_map}
use Rattle.c_typed.specs.Layouts.{StructDef}
use Rattle.heap_graph.specs.Graphs.{Target, Collapsed, Flags, Edge, Node, Name, Graph, edge_in, node_at}
use Rattle.heap_graph.specs.Targets.{shifted, element_kept}
use Rattle.heap_graph.specs.Merging.{slots, IsSlot, IsSound, count, GraphMap, mapped, Maps, Asked, AreOne, IsCollapsed, HasEdge}

-- ---- what is asked

pub data Ask : Type 0 where
  One : (a b : Target) → Ask
  Collapse : (number : ℕ) → Ask
  Points : (number slot : ℕ) (to : Target) → Ask

abbrev pub Holds : Ask → Asked
Holds (One a b) other map = AreOne a b other map
Holds (Collapse number) other map = IsCollapsed number other map
Holds (Points number slot to) other map = HasEdge number slot to other map

abbrev pub AllHold : List Ask → Asked
AllHold [] other map = Unit {0}
AllHold (ask ∷ asks) other map = Holds ask other map × AllHold asks other map

abbrev pub IsNode : Graph → ℕ → Type 0
IsNode graph number = (node : Node) × (node_at graph number ≡ Some node)

-- it asks something of slots that are there
abbrev pub IsOf : List StructDef → Graph → Ask → Type 0
IsOf structs graph (One a b) = IsSlot structs graph a × IsSlot structs graph b
IsOf structs graph (Collapse number) = IsNode graph number
IsOf structs graph (Points number slot to) = IsSlot structs graph (record { node = number; shift = slot }) × IsSlot structs graph to

abbrev pub AllAreOf : List StructDef → Graph → List Ask → Type 0
AllAreOf structs graph [] = Unit {0}
AllAreOf structs graph (ask ∷ asks) = IsOf structs graph ask × AllAreOf structs graph asks

-- ---- maps one after the other

abbrev pub or_first : Option Target → Target
or_first None = record { node = 0; shift = 0 }
or_first (Some target) = target

-- first by the one map, then by the other
abbrev pub via : Graph → GraphMap → GraphMap → GraphMap
via other rest map number = or_first (mapped other rest (map number))

abbrev pub unmoved : GraphMap
unmoved number = record { node = number; shift = 0 }

-- ---- steps

-- From a graph of which some things are asked to one of which others are. The same graphs are reached from both where that holds: what isn't
-- in the new graph yet, such as edges that were taken away, is asked of it. No nodes are added, and one that isn't taken away stays.
pub record Step (structs : List StructDef) (old new : Graph) (before after : List Ask) : Type 0 where
  pub map : GraphMap
  pub there : (number : ℕ) → IsNode old number → IsNode new (map number).node
  pub stays : (number : ℕ) → IsNode new number → IsNode old number × ((map number).node ≡ number)
  pub sound : IsSound structs new
  pub asks : AllAreOf structs new after
  pub fewer : count new.nodes ≤ count old.nodes
  pub forward : (other : Graph) (into : GraphMap) → Maps structs old other into → AllHold before other into
      → Maps structs new other into × (AllHold after other into × ((number : ℕ) → IsNode old number → mapped other into (map number) ≡ shifted other 0 (Some (into number))))
  pub backward : (other : Graph) (rest : GraphMap) → Maps structs new other rest → AllHold after other rest
      → Maps structs old other (via other rest map) × AllHold before other (via other rest map)

-- ---- a node that becomes part of another

-- where a target is once a node lies in another, behind so many of its slots
abbrev pub moved : ℕ → ℕ → ℕ → Target → Target
moved part whole distance target = if target.node == part then record { node = whole; shift = target.shift + distance } else target

abbrev pub moved_edge : ℕ → ℕ → ℕ → Edge → Edge
moved_edge part whole distance edge = record edge { to = moved part whole distance edge.to }

abbrev pub moved_edges : ℕ → ℕ → ℕ → List Edge → List Edge
moved_edges part whole distance edges = map (moved_edge part whole distance) edges

abbrev pub both_flags : Flags → Flags → Flags
both_flags a b =
    record {
      heap = a.heap || b.heap;
      stack = a.stack || b.stack;
      global = a.global || b.global;
      array = a.array || b.array;
      modified = a.modified || b.modified;
      read = a.read || b.read;
      complete = a.complete && b.complete;
      certain = a.certain || b.certain;
    }

abbrev pub moved_node : ℕ → ℕ → ℕ → Node → Node
moved_node part whole distance node = record node { edges = moved_edges part whole distance node.edges }

abbrev pub moved_ask : ℕ → ℕ → ℕ → Ask → Ask
moved_ask part whole distance (One a b) = One (moved part whole distance a) (moved part whole distance b)
moved_ask part whole distance (Collapse number) = Collapse (moved part whole distance (record { node = number; shift = 0 })).node
moved_ask part whole distance (Points number slot to) =
    let at = moved part whole distance (record { node = number; shift = slot }) in
    Points at.node at.shift (moved part whole distance to)

abbrev pub moved_asks : ℕ → ℕ → ℕ → List Ask → List Ask
moved_asks part whole distance [] = []
moved_asks part whole distance (ask ∷ asks) = moved_ask part whole distance ask ∷ moved_asks part whole distance asks

-- the edges of a node, asked of the one that it lies in, before other things
abbrev pub asked_edges : ℕ → ℕ → ℕ → List Edge → List Ask → List Ask
asked_edges part whole distance [] asks = asks
asked_edges part whole distance (edge ∷ edges) asks = Points whole (edge.slot + distance) (moved part whole distance edge.to) ∷ asked_edges part whole distance edges asks

-- each of these edges is the one that is found at its slot
abbrev pub AreFound : List Edge → List Edge → Type 0
AreFound all [] = Unit {0}
AreFound all (edge ∷ edges) = (edge_in all edge.slot ≡ Some edge.to) × AreFound all edges

pub record BecomesPart (structs : List StructDef) (old new : Graph) (part whole distance : ℕ) (inner outer : Node) : Type 0 where
  pub differ : part ≡ whole → ⊥
  pub part_is : node_at old part ≡ Some inner
  pub whole_is : node_at old whole ≡ Some outer
  pub found : AreFound inner.edges inner.edges
  pub kept : element_kept structs inner.element outer distance ≡ true
  pub fits : distance + slots structs inner.element ≤ slots structs outer.element
  pub names : (name : Name) → new.targets name ≡ option_map (moved part whole distance) (old.targets name)
  pub gone : node_at new part ≡ None
  pub at_whole : node_at new whole ≡ Some (record { element = outer.element; flags = both_flags outer.flags inner.flags; edges = moved_edges part whole distance outer.edges })
  pub others : (number : ℕ) → (number ≡ part → ⊥) → (number ≡ whole → ⊥) → node_at new number ≡ option_map (moved_node part whole distance) (node_at old number)
  pub fewer : count new.nodes ≤ count old.nodes

-- ---- a node that is collapsed

-- where a target is once a node has one slot
abbrev pub flattened : ℕ → Target → Target
flattened number target = if target.node == number then record { node = number; shift = 0 } else target

abbrev pub flattened_edge : ℕ → Edge → Edge
flattened_edge number edge = record edge { to = flattened number edge.to }

abbrev pub flattened_node : ℕ → Node → Node
flattened_node number node = record node { edges = map (flattened_edge number) node.edges }

abbrev pub flattened_ask : ℕ → Ask → Ask
flattened_ask number (One a b) = One (flattened number a) (flattened number b)
flattened_ask number (Collapse other) = Collapse other
flattened_ask number (Points other slot to) = let at = flattened number (record { node = other; shift = slot }) in Points at.node at.shift (flattened number to)

abbrev pub flattened_asks : ℕ → List Ask → List Ask
flattened_asks number [] = []
flattened_asks number (ask ∷ asks) = flattened_ask number ask ∷ flattened_asks number asks

-- its edges, asked of its one slot, before other things
abbrev pub asked_once : ℕ → List Edge → List Ask → List Ask
asked_once number [] asks = asks
asked_once number (edge ∷ edges) asks = Points number 0 (flattened number edge.to) ∷ asked_once number edges asks

pub record IsFlattened (structs : List StructDef) (old new : Graph) (number : ℕ) (node : Node) : Type 0 where
  pub is : node_at old number ≡ Some node
  pub found : AreFound node.edges node.edges
  pub names : (name : Name) → new.targets name ≡ option_map (flattened number) (old.targets name)
  pub at : node_at new number ≡ Some (record node { element = Collapsed; edges = [] })
  pub others : (other : ℕ) → (other ≡ number → ⊥) → node_at new other ≡ option_map (flattened_node number) (node_at old other)
  pub fewer : count new.nodes ≤ count old.nodes

-- ---- an edge that a node gets

pub record GetsEdge (old new : Graph) (number slot : ℕ) (to : Target) (node : Node) : Type 0 where
  pub is : node_at old number ≡ Some node
  pub free : edge_in node.edges slot ≡ None
  pub names : (name : Name) → new.targets name ≡ old.targets name
  pub edges : List Edge
  pub at : node_at new number ≡ Some (record node { edges = edges })
  pub here : edge_in edges slot ≡ Some to
  pub there : (other : ℕ) → (other ≡ slot → ⊥) → edge_in edges other ≡ edge_in node.edges other
  pub others : (other : ℕ) → (other ≡ number → ⊥) → node_at new other ≡ node_at old other
  pub fewer : count new.nodes ≤ count old.nodes

-- ---- a node that gets the element of another, of which its own element is a part

pub record GetsElement (structs : List StructDef) (old new : Graph) (number other : ℕ) (node whole : Node) : Type 0 where
  pub is : node_at old number ≡ Some node
  pub other_is : node_at old other ≡ Some whole
  pub kept : (flags : Flags) (edges : List Edge) → element_kept structs node.element (record { element = whole.element; flags = flags; edges = edges }) 0 ≡ true
  pub fits : slots structs node.element ≤ slots structs whole.element
  pub names : (name : Name) → new.targets name ≡ old.targets name
  pub at : node_at new number ≡ Some (record node { element = whole.element })
  pub others : (at : ℕ) → (at ≡ number → ⊥) → node_at new at ≡ node_at old at
  pub fewer : count new.nodes ≤ count old.nodes
