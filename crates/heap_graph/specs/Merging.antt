-- What merging makes of a graph: the least graph in which what is asked holds. There is a map to it, and one from it to each other graph that
-- the old one can be mapped to so that what is asked holds there.
use Rattle.std.specs.Prelude.{◌≡◌, ℕ, suc, ◌≤◌, ◌<◌, true, List, [], ◌∷◌, Option, Some, None}
use Rattle.c_typed.specs.Layouts.{StructDef}
use Rattle.heap_graph.specs.Parts.{slots_of}
use Rattle.heap_graph.specs.Graphs.{Target, Element, OfType, Node, Name, Graph, edge_in, node_at}
use Rattle.heap_graph.specs.Targets.{at_target, is_collapsed, shifted, edge_at, marks_kept, element_kept}

-- ---- graphs

-- how many slots a node has
abbrev pub slots : List StructDef → Element → ℕ
slots structs (OfType c_type) = slots_of structs c_type
slots structs element = 1

-- a target is a slot of a node
pub record IsSlot (structs : List StructDef) (graph : Graph) (target : Target) : Type 0 where
  pub node : Node
  pub is : node_at graph target.node ≡ Some node
  pub inside : target.shift < slots structs node.element

-- all targets and edges are slots of nodes
pub record IsSound (structs : List StructDef) (graph : Graph) : Type 0 where
  pub names : (name : Name) (target : Target) → graph.targets name ≡ Some target → IsSlot structs graph target
  pub from : (number slot : ℕ) (node : Node) (to : Target) → node_at graph number ≡ Some node → edge_in node.edges slot ≡ Some to → slot < slots structs node.element
  pub to : (number slot : ℕ) (node : Node) (to : Target) → node_at graph number ≡ Some node → edge_in node.edges slot ≡ Some to → IsSlot structs graph to

abbrev pub count : List (Option Node) → ℕ
count [] = 0
count (None ∷ nodes) = count nodes
count (Some node ∷ nodes) = suc (count nodes)

-- ---- maps

-- where each node of a graph is in another
abbrev pub GraphMap : Type 0
GraphMap = ℕ → Target

abbrev pub mapped : Graph → GraphMap → Target → Option Target
mapped other map target = shifted other target.shift (Some (map target.node))

pub record Maps (structs : List StructDef) (graph other : Graph) (map : GraphMap) : Type 0 where
  pub names : (name : Name) (target : Target) → graph.targets name ≡ Some target → other.targets name ≡ mapped other map target
  pub elements : (number : ℕ) (node : Node) → node_at graph number ≡ Some node → at_target other (Some (map number)) (element_kept structs node.element) ≡ true
  pub flags : (number : ℕ) (node : Node) → node_at graph number ≡ Some node → at_target other (Some (map number)) (λ image shift. marks_kept node.flags image.flags) ≡ true
  pub edges : (number slot : ℕ) (node : Node) (to : Target) → node_at graph number ≡ Some node → edge_in node.edges slot ≡ Some to
      → edge_at other (shifted other slot (Some (map number))) ≡ mapped other map to

-- each node is one to which a node of the old graph came
abbrev pub IsOnto : Graph → Graph → GraphMap → Type 0
IsOnto old new map = (number : ℕ) (node : Node) → node_at new number ≡ Some node → (from : ℕ) × (its : Node) × (node_at old from ≡ Some its) × ((map from).node ≡ number)

-- ---- the least graph

-- what is asked of a graph to which there is a map
abbrev pub Asked : Type 1
Asked = Graph → GraphMap → Type 0

pub record LeastWith (structs : List StructDef) (old new : Graph) (asked : Asked) : Type 0 where
  pub map : GraphMap
  pub maps : Maps structs old new map
  pub onto : IsOnto old new map
  pub holds : asked new map
  pub least : (other : Graph) (into : GraphMap) → Maps structs old other into → asked other into
      → (rest : GraphMap) × Maps structs new other rest × ((number : ℕ) (node : Node) → node_at old number ≡ Some node → mapped other rest (map number) ≡ shifted other 0 (Some (into number)))
  pub fewer : count new.nodes ≤ count old.nodes

-- two targets are one
abbrev pub AreOne : Target → Target → Asked
AreOne a b other map = mapped other map a ≡ mapped other map b

-- a node is collapsed
abbrev pub IsCollapsed : ℕ → Asked
IsCollapsed number other map = at_target other (Some (map number)) (λ node shift. is_collapsed node.element) ≡ true

-- a slot of a node has an edge to a target
abbrev pub HasEdge : ℕ → ℕ → Target → Asked
HasEdge number slot to other map = edge_at other (shifted other slot (Some (map number))) ≡ mapped other map to
