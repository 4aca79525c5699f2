-- Maps between the graphs of two families, group after group.
use Rattle.std.specs.Prelude.{◌≡◌, ℕ, ◌<◌, true, List, Some}
use Rattle.c_typed.specs.Layouts.{StructDef}
use Rattle.tac_ir.specs.States.{Owner, InFunction}
use Rattle.heap_graph.specs.Graphs.{Target, Node, Name, Graph, edge_in, node_at}
use Rattle.heap_graph.specs.Targets.{at_target, shifted, edge_at, flags_kept, element_kept}
use Rattle.heap_graph.specs.Merging.{GraphMap, mapped}
use Rattle.heap_graph.specs.Closed.{Family, graph_of, group_of, crossing}
use Rattle.heap_graph.specs.Least.{embedded}

-- ---- one graph

-- names, elements and edges are kept; of flags nothing is said
pub record MapsShape (structs : List StructDef) (graph other : Graph) (map : GraphMap) : Type 0 where
  pub names : (name : Name) (target : Target) → graph.targets name ≡ Some target → other.targets name ≡ mapped other map target
  pub elements : (number : ℕ) (node : Node) → node_at graph number ≡ Some node → at_target other (Some (map number)) (element_kept structs node.element) ≡ true
  pub edges : (number slot : ℕ) (node : Node) (to : Target) → node_at graph number ≡ Some node → edge_in node.edges slot ≡ Some to → edge_at other (shifted other slot (Some (map number))) ≡ mapped other map to

-- ---- groups

-- the map of the graph of each group, by its number
abbrev pub GroupMaps : Type 0
GroupMaps = ℕ → GraphMap

-- calls of an owner go to functions of groups below a number, and what is told of where their nodes are is kept
abbrev pub EmbeddingsKept : Family → Family → ℕ → GroupMaps → Owner → GraphMap → Type 0
EmbeddingsKept family other number maps owner map =
    (site called node : ℕ) (target : Target) → family.graphs.embedding (crossing family owner site called) node ≡ Some target
    → (group_of family called < number) × (embedded other (crossing other owner site called) (Some (maps (group_of family called) node)) ≡ mapped (graph_of other owner) map target)

pub record MapsOwner (family other : Family) (number : ℕ) (maps : GroupMaps) (owner : Owner) (map : GraphMap) : Type 0 where
  pub shape : MapsShape other.tac.structs (graph_of family owner) (graph_of other owner) map
  pub embeddings : EmbeddingsKept family other number maps owner map

-- so it is of each function of a group below the number
abbrev pub MapsBelow : Family → Family → ℕ → GroupMaps → Type 0
MapsBelow family other number maps = (function : ℕ) → group_of family function < number → MapsOwner family other number maps (InFunction function) (maps (group_of family function))

-- ---- flags

-- what is told of objects is told where the map leads
abbrev pub KeepsFlags : Graph → Graph → GraphMap → Type 0
KeepsFlags graph other map = (number : ℕ) (node : Node) → node_at graph number ≡ Some node → at_target other (Some (map number)) (λ image shift. flags_kept node.flags image.flags) ≡ true

-- what is told of objects of certain nodes is
abbrev pub KeepsCertain : Graph → Graph → GraphMap → Type 0
KeepsCertain graph other map =
    (number : ℕ) (node : Node) → node_at graph number ≡ Some node → node.flags.certain ≡ true → at_target other (Some (map number)) (λ image shift. flags_kept node.flags image.flags) ≡ true

-- what is told of objects is kept for each function of a group below the number
abbrev pub FlagsBelow : Family → Family → ℕ → GroupMaps → Type 0
FlagsBelow family other number maps = (function : ℕ) → group_of family function < number → KeepsFlags (graph_of family (InFunction function)) (graph_of other (InFunction function)) (maps (group_of family function))
