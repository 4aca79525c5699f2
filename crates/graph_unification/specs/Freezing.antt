-- What is told of a graph that was made by one that is only read: its certain nodes, the edges between them, and the names that point there.
use Rattle.std.specs.Prelude.{◌≡◌, ℕ, ◌<◌, nat_lt, ◌==◌, Bool, true, false, if◌then◌else◌, List, [], ◌∷◌, Option, Some, None}
use Rattle.indexmap.specs.IndexMap.{IndexMap}
use Rattle.c_typed.specs.Table.{Interned}
use Rattle.tac_ir.specs.declared.register.Local.{Local}
use Rattle.tac_ir.specs.declared.register.Local.TheVariants as L
use Rattle.tac_ir.specs.declared.register.Register.{Register}
use Rattle.tac_ir.specs.declared.register.Register.TheVariants as R
use Rattle.tac_ir.specs.declared.program.Counts.{Counts}
use Rattle.tac_ir.specs.declared.program.LocalObject.{LocalObject}
use Rattle.tac_ir.specs.declared.program.Function.{Function}
use Rattle.tac_ir.specs.States.{Owner}
use Rattle.heap_graph.specs.declared.graph.Target as memory_target
use Rattle.heap_graph.specs.Graphs.{Target, Edge, Node, Name, OfRegister, OfResult, OfObject, OfGlobal, OfLiteral, Graph, edge_in, node_at}
use Rattle.graph_unification.specs.Cells.{has_number}
use Rattle.graph_unification.specs.Changes.{edge_found}
use Rattle.heap_graph.specs.declared.frozen.Node as memory_node
use Rattle.heap_graph.specs.declared.frozen.FunctionNames.{FunctionNames}
use Rattle.heap_graph.specs.declared.frozen.FrozenGraph.{FrozenGraph}
use Rattle.heap_graph.specs.Frozen.{optional_target, target_in, static_in, register_target, object_target, optional_node, node_there, bare}
use Rattle.heap_graph.specs.Restricted.{if_certain}
use Rattle.graph_unification.specs.declared.name_targets.RegisterKind.{RegisterKind}
use Rattle.graph_unification.specs.declared.name_targets.RegisterKind.TheVariants as K
use Rattle.graph_unification.specs.declared.static_targets.StaticKind.{StaticKind}
use Rattle.graph_unification.specs.declared.static_targets.StaticKind.TheVariants as S

-- the target of a name, unless its node isn't certain
abbrev pub certain_name : Graph → Name → Option Target
certain_name graph name = if_certain graph (graph.targets name)

-- ---- edges and nodes

-- the first slot of a list is behind this one
abbrev pub Precedes : ℕ → List Edge → Type 0
Precedes slot [] = Unit {0}
Precedes slot (edge ∷ edges) = slot < edge.slot

-- each slot is before the next
abbrev pub EdgesAscend : List Edge → Type 0
EdgesAscend [] = Unit {0}
EdgesAscend (edge ∷ edges) = Precedes edge.slot edges × EdgesAscend edges

-- the edges of a node to certain nodes
pub record TellsEdges (graph : Graph) (number : ℕ) (edges : List Edge) : Type 0 where
  pub found : (slot : ℕ) → edge_in edges slot ≡ if_certain graph (edge_found graph number slot)
  pub ascend : EdgesAscend edges

-- a certain node with its edges to certain nodes
pub record IsKept (graph : Graph) (node kept : Node) : Type 0 where
  pub certain : node.flags.certain ≡ true
  pub element : kept.element ≡ node.element
  pub flags : kept.flags ≡ node.flags
  pub edges : (slot : ℕ) → edge_in kept.edges slot ≡ if_certain graph (edge_in node.edges slot)
  pub ascend : EdgesAscend kept.edges

-- what becomes of a node: it is left out where it isn't certain
abbrev pub Freezes : Graph → Option Node → Option Node → Type 0
Freezes graph (Some node) (Some kept) = IsKept graph node kept
Freezes graph (Some node) None = node.flags.certain ≡ false
Freezes graph None (Some kept) = ⊥
Freezes graph None None = Unit {0}

abbrev pub FreezesAll : Interned → Graph → List (Option memory_node.Node) → Type 0
FreezesAll table graph nodes = (number : ℕ) → Freezes graph (node_at graph number) (optional_node table (node_there nodes number))

-- ---- variables outside functions and literals

abbrev pub static_name : StaticKind → ℕ → Name
static_name S.Global number = OfGlobal number
static_name S.Literal number = OfLiteral number

-- those with these numbers are told, and no others
abbrev pub TellsStatics : {S : Type 0} → Graph → (ℕ → Name) → List ℕ → IndexMap ℕ memory_target.Target S → Type 0
TellsStatics graph name numbers targets = (number : ℕ) → static_in targets number ≡ (if has_number numbers number then certain_name graph (name number) else None)

pub record TellsGraph (table : Interned) (graph : Graph) (variables literals : List ℕ) (frozen : FrozenGraph) : Type 0 where
  pub nodes : (number : ℕ) → Freezes graph (node_at graph number) (node_at (bare table frozen) number)
  pub of_globals : (number : ℕ) → static_in frozen.globals number ≡ (if has_number variables number then certain_name graph (OfGlobal number) else None)
  pub of_literals : (number : ℕ) → static_in frozen.literals number ≡ (if has_number literals number then certain_name graph (OfLiteral number) else None)

-- ---- names of functions

abbrev pub numbered : RegisterKind → ℕ → Register
numbered K.Parameter number = R.Local (L.Parameter number)
numbered K.Variable number = R.Local (L.Variable number)
numbered K.Call number = R.Call number
numbered K.Argument number = R.Argument number
numbered K.Expression number = R.Expression number

-- names with numbers below a bound are told, and no others
abbrev pub TellsBelow : Graph → (ℕ → Name) → ℕ → List (Option memory_target.Target) → Type 0
TellsBelow graph name count targets = (number : ℕ) → target_in targets number ≡ (if nat_lt number count then certain_name graph (name number) else None)

-- a register that a function has and that may hold a pointer
abbrev pub has_register : ℕ → Counts → Register → Bool
has_register parameters counts (R.Local (L.Parameter number)) = nat_lt number parameters
has_register parameters counts (R.Local (L.Variable number)) = nat_lt number counts.variables
has_register parameters counts (R.Call number) = nat_lt number counts.calls
has_register parameters counts (R.Argument number) = nat_lt number counts.arguments
has_register parameters counts (R.Expression number) = nat_lt number counts.expressions
has_register parameters counts (R.Temporary number) = false

abbrev pub same_local : Local → Local → Bool
same_local (L.Parameter a) (L.Parameter b) = a == b
same_local (L.Variable a) (L.Variable b) = a == b
same_local _ _ = false

-- a local lies in memory
abbrev pub has_object : List LocalObject → Local → Bool
has_object [] local = false
has_object (object ∷ objects) local = if same_local object.local local then true else has_object objects local

-- the target of a local
abbrev pub local_in : List (Option memory_target.Target) → List (Option memory_target.Target) → Local → Option Target
local_in parameters variables (L.Parameter number) = target_in parameters number
local_in parameters variables (L.Variable number) = target_in variables number

abbrev pub TellsObjects : Graph → Owner → List LocalObject → List (Option memory_target.Target) → List (Option memory_target.Target) → Type 0
TellsObjects graph owner objects parameters variables = (local : Local) → local_in parameters variables local ≡ (if has_object objects local then certain_name graph (OfObject owner local) else None)

-- the names of a function
pub record TellsNames (graph : Graph) (owner : Owner) (function : Function) (names : FunctionNames) : Type 0 where
  pub of_registers : (register : Register) → register_target names register ≡ (if has_register function.parameters function.counts register then certain_name graph (OfRegister owner register) else None)
  pub of_result : optional_target names.returned ≡ certain_name graph (OfResult owner)
  pub of_objects : (local : Local) → object_target names local ≡ (if has_object function.objects.items local then certain_name graph (OfObject owner local) else None)
