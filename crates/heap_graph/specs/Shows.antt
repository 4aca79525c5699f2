-- The graph and the names of one function, in memory, of a program's graphs.
use Rattle.std.specs.Prelude.{◌≡◌, ℕ, ◌<◌, true, false, List, length, map, slice_get, Some, None}
use Rattle.c_typed.specs.Table.{Interned, structs_in}
use Rattle.tac_ir.specs.declared.register.Local.{Local}
use Rattle.tac_ir.specs.declared.register.Register.{Register}
use Rattle.tac_ir.specs.States.{Owner, InFunction}
use Rattle.heap_graph.specs.Graphs.{Graph, OfRegister, OfResult, OfObject, OfGlobal, OfLiteral, OfCopy}
use Rattle.heap_graph.specs.Closed.{Family, graph_of, is_in, of_group}
use Rattle.heap_graph.specs.Frozen.{optional_target, static_in, register_target, object_target, optional_node}
use Rattle.heap_graph.specs.declared.frozen.FunctionNames.{FunctionNames}
use Rattle.heap_graph.specs.declared.frozen.FrozenGraph.{FrozenGraph}
use Rattle.heap_graph.specs.declared.program.FunctionGraph.{FunctionGraph}

-- the graph of the function's group has these nodes, these targets of variables outside functions and of literals, and none of copies
pub record ShowsGraph (table : Interned) (family : Family) (owner : Owner) (graph : FrozenGraph) : Type 0 where
  pub structs : family.tac.structs ≡ structs_in table
  pub nodes : (graph_of family owner).nodes ≡ map (optional_node table) graph.nodes.items
  pub globals : (number : ℕ) → (graph_of family owner).targets (OfGlobal number) ≡ static_in graph.globals number
  pub literals : (number : ℕ) → (graph_of family owner).targets (OfLiteral number) ≡ static_in graph.literals number
  pub copies : (number : ℕ) → (graph_of family owner).targets (OfCopy number) ≡ None

-- the function has these targets in its group's graph
pub record ShowsNames (family : Family) (owner : Owner) (names : FunctionNames) : Type 0 where
  pub registers : (register : Register) → (graph_of family owner).targets (OfRegister owner register) ≡ register_target names register
  pub returned : (graph_of family owner).targets (OfResult owner) ≡ optional_target names.returned
  pub objects : (local : Local) → (graph_of family owner).targets (OfObject owner local) ≡ object_target names local

-- nothing of this function has a target
pub record HasNoNames (graph : Graph) (owner : Owner) : Type 0 where
  pub registers : (register : Register) → graph.targets (OfRegister owner register) ≡ None
  pub returned : graph.targets (OfResult owner) ≡ None
  pub objects : (local : Local) → graph.targets (OfObject owner local) ≡ None

-- the functions of a group have one graph, and no other function has names in it
pub record ShowsGroup (table : Interned) (family : Family) (group : List ℕ) (graph : FrozenGraph) (functions : List FunctionGraph) : Type 0 where
  pub one : (function : ℕ) → is_in function group ≡ true → ShowsGraph table family (InFunction function) graph
  pub there : (function : ℕ) → is_in function group ≡ true → function < length functions
  pub names : (function : ℕ) (own : FunctionGraph) → is_in function group ≡ true → slice_get functions function ≡ Some own → ShowsNames family (InFunction function) own.names
  pub same : (a b : ℕ) → is_in a group ≡ true → is_in b group ≡ true → graph_of family (InFunction a) ≡ graph_of family (InFunction b)
  pub others : (function : ℕ) (owner : Owner) → is_in function group ≡ true → of_group group owner ≡ false → HasNoNames (graph_of family (InFunction function)) owner
