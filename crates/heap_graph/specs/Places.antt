-- Graphs and maps apart from flags of objects.
use Rattle.std.specs.Prelude.{◌≡◌, ℕ, true, List, Some}
use Rattle.c_typed.specs.Layouts.{StructDef}
use Rattle.heap_graph.specs.Graphs.{Target, Flags, Node, Name, Graph, edge_in, node_at}
use Rattle.heap_graph.specs.Targets.{at_target, shifted, edge_at, implies, flags_kept, element_kept}
use Rattle.heap_graph.specs.Merging.{GraphMap, mapped}

-- names, elements and edges are kept, and that nodes are certain
pub record MapsPlaces (structs : List StructDef) (graph other : Graph) (map : GraphMap) : Type 0 where
  pub names : (name : Name) (target : Target) → graph.targets name ≡ Some target → other.targets name ≡ mapped other map target
  pub elements : (number : ℕ) (node : Node) → node_at graph number ≡ Some node → at_target other (Some (map number)) (element_kept structs node.element) ≡ true
  pub certain : (number : ℕ) (node : Node) → node_at graph number ≡ Some node → at_target other (Some (map number)) (λ image shift. implies node.flags.certain image.flags.certain) ≡ true
  pub edges : (number slot : ℕ) (node : Node) (to : Target) → node_at graph number ≡ Some node → edge_in node.edges slot ≡ Some to
      → edge_at other (shifted other slot (Some (map number))) ≡ mapped other map to

-- all is told of the objects of its nodes
abbrev pub IsFull : Graph → Type 0
IsFull graph = (number : ℕ) (node : Node) → node_at graph number ≡ Some node → (few : Flags) → flags_kept few node.flags ≡ true

-- the node was there, and of objects something else may have been told
pub record SamePlace (old : Graph) (number : ℕ) (node : Node) : Type 0 where
  pub was : Node
  pub is : node_at old number ≡ Some was
  pub element : node.element ≡ was.element
  pub edges : node.edges ≡ was.edges
  pub certain : node.flags.certain ≡ was.flags.certain

-- names and nodes are those of the old graph, apart from what is told of objects
pub record SamePlaces (old new : Graph) : Type 0 where
  pub names : (name : Name) → new.targets name ≡ old.targets name
  pub nodes : (number : ℕ) (node : Node) → node_at new number ≡ Some node → SamePlace old number node
