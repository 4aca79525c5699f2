-- The plain graph that a graph in memory stands for.
use Rattle.std.specs.Prelude.{◌≡◌, ℕ, ◌==◌, Bool, true, false, ◌&&◌, if◌then◌else◌, List, [], ◌∷◌, map, length, slice_get, Option, Some, None, option_map}
use Rattle.indexmap.specs.IndexMap.{get_by}
use Rattle.c_typed.specs.Table.{Interned, structs_in}
use Rattle.tac_ir.specs.declared.register.Local.{Local}
use Rattle.tac_ir.specs.declared.register.Local.TheVariants as L
use Rattle.tac_ir.specs.declared.register.Register.{Register}
use Rattle.tac_ir.specs.declared.register.Register.TheVariants as R
use Rattle.tac_ir.specs.declared.register.FunctionId.{FunctionId}
use Rattle.tac_ir.specs.States.{Owner, InStart, InFunction}
use Rattle.heap_graph.specs.declared.graph.Target as memory_target
use Rattle.heap_graph.specs.Memory.{target_of, element_in, ElementStands, flags_of}
use Rattle.heap_graph.specs.Graphs.{Target, Edge, Node, Name, OfRegister, OfResult, OfObject, OfGlobal, OfLiteral, OfCopy, Graph}
use Rattle.heap_graph.specs.Merging.{IsSlot, IsSound}
use Rattle.graph_unification.specs.declared.name.Name as memory_name
use Rattle.graph_unification.specs.declared.name.Name.TheVariants as N
use Rattle.graph_unification.specs.declared.name.Place.{Place}
use Rattle.graph_unification.specs.declared.name.Place.TheVariants as P
use Rattle.graph_unification.specs.declared.name.NameKey.{NameKey}
use Rattle.graph_unification.specs.declared.name.NameKey.TheVariants as K
use Rattle.graph_unification.specs.declared.node.SlotEdge.{SlotEdge}
use Rattle.graph_unification.specs.declared.node.Node as memory_node
use Rattle.graph_unification.specs.declared.nodes.Nodes.{Nodes}
use Rattle.graph_unification.specs.declared.graph.Graph as memory_graph
use Rattle.graph_unification.specs.Cells.{has_number}

-- ---- nodes and cells

abbrev pub held : Option (Option memory_node.Node) → Option memory_node.Node
held None = None
held (Some node) = node

-- the node of a number, where it is there
abbrev pub node_in : List (Option memory_node.Node) → ℕ → Option memory_node.Node
node_in list number = held (slice_get list number)

abbrev pub or_nowhere : ℕ → Option memory_target.Target → Target
or_nowhere count None = record { node = count; shift = 0 }
or_nowhere count (Some target) = target_of target

-- what a cell holds; one that isn't there points to no node
abbrev pub content : Nodes → ℕ → Target
content nodes cell = or_nowhere (length nodes.list.items) (slice_get nodes.cells.items cell)

abbrev pub edge_of : (ℕ → Target) → SlotEdge → Edge
edge_of holds edge = record { slot = edge.slot; to = holds edge.to }

abbrev pub node_there : Interned → (ℕ → Target) → memory_node.Node → Node
node_there table holds node = record { element = element_in table node.element; flags = flags_of node.flags; edges = map (edge_of holds) node.edges.items }

-- ---- names

abbrev pub owner_of : Option FunctionId → Owner
owner_of None = InStart
owner_of (Some function) = InFunction function.0

abbrev pub name_of : memory_name.Name → Name
name_of (N.Register function register) = OfRegister (owner_of function) register
name_of (N.Returned function) = OfResult (owner_of function)
name_of (N.Object function local) = OfObject (owner_of function) local
name_of (N.Global global) = OfGlobal global.0
name_of (N.Literal literal) = OfLiteral literal.0
name_of (N.Copy number) = OfCopy number

abbrev pub function_of : Owner → Option ℕ
function_of InStart = None
function_of (InFunction function) = Some function

abbrev pub register_place : Register → Place
register_place (R.Local (L.Parameter number)) = P.Parameter number
register_place (R.Local (L.Variable number)) = P.Variable number
register_place (R.Call number) = P.Call number
register_place (R.Argument number) = P.Argument number
register_place (R.Expression number) = P.Expression number
register_place (R.Temporary number) = P.Temporary number

abbrev pub object_place : Local → Place
object_place (L.Parameter number) = P.ParameterObject number
object_place (L.Variable number) = P.VariableObject number

-- the key of a name
abbrev pub key_of : Name → NameKey
key_of (OfRegister owner register) = K.Local (function_of owner) (register_place register)
key_of (OfResult owner) = K.Local (function_of owner) P.Returned
key_of (OfObject owner local) = K.Local (function_of owner) (object_place local)
key_of (OfGlobal number) = K.Global number
key_of (OfLiteral number) = K.Literal number
key_of (OfCopy number) = K.Copy number

abbrev pub same_function : Option ℕ → Option ℕ → Bool
same_function None None = true
same_function (Some a) (Some b) = a == b
same_function _ _ = false

abbrev pub same_place : Place → Place → Bool
same_place (P.Parameter a) (P.Parameter b) = a == b
same_place (P.Variable a) (P.Variable b) = a == b
same_place (P.Call a) (P.Call b) = a == b
same_place (P.Argument a) (P.Argument b) = a == b
same_place (P.Expression a) (P.Expression b) = a == b
same_place (P.Temporary a) (P.Temporary b) = a == b
same_place P.Returned P.Returned = true
same_place (P.ParameterObject a) (P.ParameterObject b) = a == b
same_place (P.VariableObject a) (P.VariableObject b) = a == b
same_place _ _ = false

abbrev pub same_key : NameKey → NameKey → Bool
same_key (K.Local f p) (K.Local g q) = same_function f g && same_place p q
same_key (K.Global a) (K.Global b) = a == b
same_key (K.Literal a) (K.Literal b) = a == b
same_key (K.Copy a) (K.Copy b) = a == b
same_key _ _ = false

-- the cell of a name
abbrev pub set_for : memory_graph.Graph → Name → Option ℕ
set_for graph name = get_by (same_key (key_of name)) graph.names

-- ---- graphs

-- the graph with the types of a table
abbrev pub graph_in : Interned → memory_graph.Graph → Graph
graph_in table graph =
    record {
      nodes = map (option_map (node_there table (content graph.nodes))) graph.nodes.list.items;
      targets = λ name. option_map (content graph.nodes) (set_for graph name);
    }

-- the cell of the edge of a slot
abbrev pub made_edge : List SlotEdge → ℕ → Option ℕ
made_edge [] slot = None
made_edge (edge ∷ edges) slot = if edge.slot == slot then Some edge.to else made_edge edges slot

-- no slot has two edges
abbrev pub AreApart : List SlotEdge → Type 0
AreApart [] = Unit {0}
AreApart (edge ∷ edges) = (made_edge edges edge.slot ≡ None) × AreApart edges

-- the node to which a cell points is there, and has the cell's number in its list
pub record IsHeld (list : List (Option memory_node.Node)) (cell : ℕ) (target : memory_target.Target) : Type 0 where
  pub node : memory_node.Node
  pub is : node_in list target.node ≡ Some node
  pub among : has_number node.cells.items cell ≡ true

abbrev pub AreHeld : Nodes → Type 0
AreHeld nodes = (cell : ℕ) (target : memory_target.Target) → slice_get nodes.cells.items cell ≡ Some target → IsHeld nodes.list.items cell target

-- all that a graph in memory keeps
pub record IsGraph (table : Interned) (graph : memory_graph.Graph) : Type 0 where
  pub held : AreHeld graph.nodes
  pub apart : (number : ℕ) (node : memory_node.Node) → node_in graph.nodes.list.items number ≡ Some node → AreApart node.edges.items
  pub stand : (number : ℕ) (node : memory_node.Node) → node_in graph.nodes.list.items number ≡ Some node → ElementStands table node.element
  pub slots : (cell : ℕ) (target : memory_target.Target) → slice_get graph.nodes.cells.items cell ≡ Some target → IsSlot (structs_in table) (graph_in table graph) (target_of target)
  pub sound : IsSound (structs_in table) (graph_in table graph)
