-- How calls change a graph.
use Rattle.std.specs.Prelude.{◌≡◌, ℕ, suc, [], Option, Some, None, length, slice_get}
use Rattle.c_typed.specs.Table.{Interned}
use Rattle.heap_graph.specs.declared.graph.Target as memory_target
use Rattle.heap_graph.specs.declared.graph.Element as memory_element
use Rattle.heap_graph.specs.declared.graph.Flags as memory_flags
use Rattle.heap_graph.specs.Memory.{target_of, element_in, ElementStands, flags_of}
use Rattle.heap_graph.specs.Graphs.{Target, Flags, Edge, Node, Name, Graph, edge_in, node_at}

-- a graph without nodes and names
pub record IsBlank (graph : Graph) : Type 0 where
  pub nodes : graph.nodes ≡ []
  pub names : (name : Name) → graph.targets name ≡ None

-- a node was added
pub record AddsNode (old new : Graph) (number : ℕ) (node : Node) : Type 0 where
  pub last : number ≡ length old.nodes
  pub length : length new.nodes ≡ suc number
  pub fresh : node_at old number ≡ None
  pub at : node_at new number ≡ Some node
  pub others : (other : ℕ) → (other ≡ number → ⊥) → node_at new other ≡ node_at old other
  pub names : (name : Name) → new.targets name ≡ old.targets name

-- a name was given a target
pub record SetsTarget (old new : Graph) (name : Name) (to : Target) : Type 0 where
  pub nodes : new.nodes ≡ old.nodes
  pub at : new.targets name ≡ Some to
  pub others : (other : Name) → (other ≡ name → ⊥) → new.targets other ≡ old.targets other

-- a node was given flags
pub record SetsFlags (old new : Graph) (number : ℕ) (flags : Flags) : Type 0 where
  pub length : length new.nodes ≡ length old.nodes
  pub at : (node : Node) → node_at old number ≡ Some node → node_at new number ≡ Some (record node { flags = flags })
  pub others : (other : ℕ) → (other ≡ number → ⊥) → node_at new other ≡ node_at old other
  pub names : (name : Name) → new.targets name ≡ old.targets name

abbrev pub edge_of_node : ℕ → Option Node → Option Target
edge_of_node slot None = None
edge_of_node slot (Some node) = edge_in node.edges slot

-- what an edge of a node is
abbrev pub edge_found : Graph → ℕ → ℕ → Option Target
edge_found graph number slot = edge_of_node slot (node_at graph number)

abbrev pub numbered_edge : ℕ → Option Node → Option Edge
numbered_edge index None = None
numbered_edge index (Some node) = slice_get node.edges index

-- the edge of a node before which so many stand
abbrev pub edge_numbered : Graph → ℕ → ℕ → Option Edge
edge_numbered graph number index = numbered_edge index (node_at graph number)

-- a slot with the target of its edge
abbrev pub told_edge : ℕ × memory_target.Target → Edge
told_edge edge = record { slot = edge.0; to = target_of edge.1 }

-- what is told of a node: its element and its flags, where it is there
abbrev pub TellsNode : Interned → Option Node → Option (memory_element.Element × memory_flags.Flags) → Type 0
TellsNode table (Some node) (Some told) = (element_in table told.0 ≡ node.element) × (flags_of told.1 ≡ node.flags)
TellsNode table None None = Unit {0}
TellsNode table _ _ = ⊥

-- where it has a type, its number stands for that
abbrev pub TellsStanding : Interned → Option (memory_element.Element × memory_flags.Flags) → Type 0
TellsStanding table (Some told) = ElementStands table told.0
TellsStanding table None = Unit {0}
