-- How a graph goes on while it is made.
use Rattle.std.specs.Prelude.{◌≡◌, ℕ, List, Some}
use Rattle.c_typed.specs.Layouts.{StructDef}
use Rattle.heap_graph.specs.Graphs.{Target, Node, Name, Graph, node_at}
use Rattle.heap_graph.specs.Merging.{GraphMap, Maps}

-- each node of a graph is that of a name's target
abbrev pub AllNamed : Graph → Type 0
AllNamed graph = (number : ℕ) (node : Node) → node_at graph number ≡ Some node → (name : Name) × (target : Target) × (graph.targets name ≡ Some target) × (target.node ≡ number)

-- what was told of names, elements, flags and edges is told still, and no node stands that isn't a name's where none did
pub record GoesOn (structs : List StructDef) (old new : Graph) : Type 0 where
  pub map : GraphMap
  pub maps : Maps structs old new map
  pub named : AllNamed old → AllNamed new

-- what is kept where a graph goes on
abbrev pub IsKept : List StructDef → (Graph → Type 0) → Type 0
IsKept structs told = (old new : Graph) → GoesOn structs old new → told old → told new
