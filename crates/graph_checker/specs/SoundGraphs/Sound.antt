-- When the targets of names and of edges are slots of nodes, and when the names that have targets are the program's.
use Rattle.std.specs.Prelude.{◌≡◌, ℕ, nat_lt, true, length, Some}
use Rattle.c_typed.specs.Table.{Interned}
use Rattle.tac_ir.specs.declared.register.Local.{Local}
use Rattle.tac_ir.specs.declared.register.Register.{Register}
use Rattle.tac_ir.specs.Code as O
use Rattle.tac_ir.specs.Code.{Tac}
use Rattle.heap_graph.specs.Graphs.{Node, Graph, node_at}
use Rattle.heap_graph.specs.Targets.{has_target}
use Rattle.heap_graph.specs.Closed.{is_slot, edges_sound, has_register, has_object}
use Rattle.heap_graph.specs.Frozen.{optional_target, static_in, register_target, object_target, bare}
use Rattle.heap_graph.specs.declared.frozen.FunctionNames.{FunctionNames}
use Rattle.heap_graph.specs.declared.frozen.FrozenGraph.{FrozenGraph}

-- the targets of a function's names are slots of the graph's nodes
pub record NamesAreSlots (graph : Graph) (names : FunctionNames) : Type 0 where
  pub registers : (register : Register) → is_slot graph (register_target names register) ≡ true
  pub returned : is_slot graph (optional_target names.returned) ≡ true
  pub objects : (local : Local) → is_slot graph (object_target names local) ≡ true

-- so are those of variables outside functions and of literals
pub record StaticsAreSlots (table : Interned) (graph : FrozenGraph) : Type 0 where
  pub globals : (number : ℕ) → is_slot (bare table graph) (static_in graph.globals number) ≡ true
  pub literals : (number : ℕ) → is_slot (bare table graph) (static_in graph.literals number) ≡ true

-- the function has the registers that have targets
abbrev pub RegistersAreOwn : O.Function → FunctionNames → Type 0
RegistersAreOwn function names = (register : Register) → has_target (register_target names register) ≡ true → has_register function register ≡ true

-- and the locals in memory
abbrev pub ObjectsAreOwn : O.Function → FunctionNames → Type 0
ObjectsAreOwn function names = (local : Local) → has_target (object_target names local) ≡ true → has_object function local ≡ true

-- the names that have targets are the function's own
pub record NamesAreOwn (function : O.Function) (names : FunctionNames) : Type 0 where
  pub registers : RegistersAreOwn function names
  pub objects : ObjectsAreOwn function names

-- the program has the variables outside functions and the literals that have targets
pub record StaticsAreOwn (tac : Tac) (graph : FrozenGraph) : Type 0 where
  pub globals : (number : ℕ) → has_target (static_in graph.globals number) ≡ true → nat_lt number (length tac.globals) ≡ true
  pub literals : (number : ℕ) → has_target (static_in graph.literals number) ≡ true → nat_lt number (length tac.literals) ≡ true

-- each edge leads to a slot of a node, all from one slot to one target, and those of a collapsed node from its first slot
abbrev pub EdgesAreSound : Interned → FrozenGraph → Type 0
EdgesAreSound table graph = (number : ℕ) (node : Node) → node_at (bare table graph) number ≡ Some node → edges_sound (bare table graph) node node.edges ≡ true
