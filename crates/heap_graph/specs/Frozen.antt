-- The plain graphs for which graphs in memory stand.
use Rattle.std.specs.Prelude.{◌≡◌, ℕ, ◌==◌, List, map, slice_get, Option, Some, None}
use Rattle.std.specs.Borrow.{Bor}
use Rattle.indexmap.specs.IndexMap.{IndexMap, get_by}
use Rattle.c_typed.specs.Table.{Interned}
use Rattle.tac_ir.specs.declared.register.Local.{Local}
use Rattle.tac_ir.specs.declared.register.Local.TheVariants as L
use Rattle.tac_ir.specs.declared.register.Register.{Register}
use Rattle.tac_ir.specs.declared.register.Register.TheVariants as R
use Rattle.tac_ir.specs.States.{Owner}
use Rattle.heap_graph.specs.declared.graph.Target as memory_target
use Rattle.heap_graph.specs.Graphs.{Target, Edge, Node, Name, OfRegister, OfResult, OfObject, OfGlobal, OfLiteral, OfCopy, Graph}
use Rattle.heap_graph.specs.Memory.{target_of, element_in, flags_of}
use Rattle.heap_graph.specs.declared.frozen.Edge as memory_edge
use Rattle.heap_graph.specs.declared.frozen.Node as memory_node
use Rattle.heap_graph.specs.declared.frozen.FunctionNames.{FunctionNames}
use Rattle.heap_graph.specs.declared.frozen.FrozenGraph.{FrozenGraph}

-- ---- targets

abbrev pub optional_target : Option memory_target.Target → Option Target
optional_target None = None
optional_target (Some target) = Some (target_of target)

abbrev pub flat : Option (Option memory_target.Target) → Option Target
flat None = None
flat (Some target) = optional_target target

-- the target of the name with this number
abbrev pub target_in : List (Option memory_target.Target) → ℕ → Option Target
target_in targets number = flat (slice_get targets number)

-- the target of the variable outside functions or the literal with this number
abbrev pub static_in : {S : Type 0} → IndexMap ℕ memory_target.Target S → ℕ → Option Target
static_in targets number = optional_target (get_by (λ key. number == key) targets)

abbrev pub register_target : FunctionNames → Register → Option Target
register_target names (R.Local (L.Parameter number)) = target_in names.parameters.items number
register_target names (R.Local (L.Variable number)) = target_in names.variables.items number
register_target names (R.Call number) = target_in names.calls.items number
register_target names (R.Argument number) = target_in names.arguments.items number
register_target names (R.Expression number) = target_in names.expressions.items number
register_target names (R.Temporary number) = None

abbrev pub object_target : FunctionNames → Local → Option Target
object_target names (L.Parameter number) = target_in names.parameter_objects.items number
object_target names (L.Variable number) = target_in names.variable_objects.items number

-- ---- nodes

abbrev pub edge_of : memory_edge.Edge → Edge
edge_of edge = record { slot = edge.slot; to = target_of edge.to }

abbrev pub edges_of : List memory_edge.Edge → List Edge
edges_of edges = map edge_of edges

abbrev pub node_in : Interned → memory_node.Node → Node
node_in table node = record { element = element_in table node.element; flags = flags_of node.flags; edges = edges_of node.edges.items }

abbrev pub optional_node : Interned → Option memory_node.Node → Option Node
optional_node table None = None
optional_node table (Some node) = Some (node_in table node)

abbrev pub inner : Option (Option memory_node.Node) → Option memory_node.Node
inner None = None
inner (Some node) = node

abbrev pub node_there : List (Option memory_node.Node) → ℕ → Option memory_node.Node
node_there nodes number = inner (slice_get nodes number)

-- what is found of a number
abbrev pub NodeIs : List (Option memory_node.Node) → ℕ → Option (Bor memory_node.Node) → Type 0
NodeIs nodes number None = node_there nodes number ≡ None
NodeIs nodes number (Some found) = node_there nodes number ≡ Some found.now

-- ---- graphs

abbrev pub named : (FunctionNames → Option Target) → Option FunctionNames → Option Target
named target None = None
named target (Some names) = target names

-- the graph in which functions have these names
abbrev pub graph_with : Interned → FrozenGraph → (Owner → Option FunctionNames) → Graph
graph_with table graph names_of = record { nodes = map (optional_node table) graph.nodes.items; targets = targets }
  where
    targets : Name → Option Target
    targets (OfRegister owner register) = named (λ names. register_target names register) (names_of owner)
    targets (OfResult owner) = named (λ names. optional_target names.returned) (names_of owner)
    targets (OfObject owner local) = named (λ names. object_target names local) (names_of owner)
    targets (OfGlobal number) = static_in graph.globals number
    targets (OfLiteral number) = static_in graph.literals number
    targets (OfCopy number) = None

-- the graph without names of functions
abbrev pub bare : Interned → FrozenGraph → Graph
bare table graph = graph_with table graph (λ owner. None)

-- the graph in which each function has these names
abbrev pub own_graph : Interned → FrozenGraph → FunctionNames → Graph
own_graph table graph names = graph_with table graph (λ owner. Some names)
