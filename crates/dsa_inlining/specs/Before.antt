-- What is known of the groups before one, while its graph is made.
use Rattle.std.specs.Prelude.{◌≡◌, ◌↔◌, ℕ, ◌<◌, Bool, true, false, not, List, [], ◌∷◌, length, slice_get, Contains, Option, Some, None}
use Rattle.c_typed.specs.Types.{CType}
use Rattle.c_typed.specs.Table.{structs_in}
use Rattle.tac_ir.specs.declared.program.Tac as memory_tac
use Rattle.tac_ir.specs.States.{InFunction}
use Rattle.tac_ir.specs.Views.{tac_of}
use Rattle.heap_graph.specs.Graphs.{Target, Name, Graph}
use Rattle.heap_graph.specs.Targets.{has_target}
use Rattle.heap_graph.specs.Merging.{IsSound}
use Rattle.heap_graph.specs.Points.{is_data_pointer}
use Rattle.heap_graph.specs.Escaping.{is_outside, Escapes}
use Rattle.heap_graph.specs.Closed.{Family, graph_of, parameters_of, function_type, formal}
use Rattle.heap_graph.specs.Frozen.{static_in, bare, own_graph}
use Rattle.heap_graph.specs.declared.frozen.FunctionNames.{FunctionNames}
use Rattle.heap_graph.specs.declared.frozen.FrozenGraph.{FrozenGraph}
use Rattle.heap_graph.specs.declared.program.FunctionGraph.{FunctionGraph}
use Rattle.heap_graph.specs.Shows.{ShowsGraph, ShowsNames}
use Rattle.heap_graph.specs.declared.marks.NodeMarks.{NodeMarks}
use Rattle.heap_graph.specs.Marks.{is_marked, AreMarked}
use Rattle.heap_graph.specs.Edges.{EdgesAreFound}
use Rattle.call_graph.specs.Lists.{rows_in}
use Rattle.call_graph.specs.declared.group_lists.Groups.{Groups}
use Rattle.dsa_inlining.specs.Adding.{HaveSlots, AreClosed}
use Rattle.dsa_inlining.specs.declared.told_statics.GroupStatics.{GroupStatics}
use Rattle.dsa_local.specs.Members.{is_numbered}
use Rattle.dsa_inlining.specs.declared.before.Before.{Before}
use Rattle.dsa_inlining.specs.declared.live.LiveTargets.{LiveTargets}

-- ---- what was made of the groups before

pub record GraphsBefore : Type 0 where
  pub tac : memory_tac.Tac
  pub groups : Groups
  pub graphs : List FrozenGraph
  pub functions : List FunctionGraph
  pub escaping : List (List ℕ)
  pub live : LiveTargets
  pub statics : List GroupStatics

abbrev pub graphs_before : Before → GraphsBefore
graphs_before before = record {
  tac = before.tac.now;
  groups = before.groups.now;
  graphs = before.graphs.now;
  functions = before.functions.now;
  escaping = rows_in before.escaping.now;
  live = before.live.now;
  statics = before.statics.now;
}

-- a list has a number
abbrev pub has_numbers : List ℕ → Bool
has_numbers [] = false
has_numbers (first ∷ numbers) = true

abbrev pub is_some_list : Option (List ℕ) → Bool
is_some_list None = false
is_some_list (Some numbers) = has_numbers numbers

-- the list of this number has one
abbrev pub is_listed : List (List ℕ) → ℕ → Bool
is_listed lists number = is_some_list (slice_get lists number)

-- something escapes the function, as far as it is one of a group before
abbrev pub is_live : GraphsBefore → ℕ → Bool
is_live before called = is_listed before.escaping called

-- ---- one function

-- each number is greater than the one before
abbrev pub Rises : List ℕ → Type 0
Rises [] = Unit {0}
Rises (last ∷ []) = Unit {0}
Rises (first ∷ next ∷ others) = (first < next) × Rises (next ∷ others)

-- All targets of a function's graph are slots of nodes that have slots, and edges are those that are found at their slots. Its formals that
-- are pointers to objects or to void have targets, and variables outside functions and literals that have one are the program's. The
-- list has exactly the nodes that escape it, rising, and so is closed under edges and has all nodes that callers see.
pub record IsReady (tac : memory_tac.Tac) (called : ℕ) (graph : FrozenGraph) (names : FunctionNames) (numbers : List ℕ) : Type 0 where
  pub sound : IsSound (structs_in tac.types) (own_graph tac.types graph names)
  pub slots : HaveSlots (structs_in tac.types) (bare tac.types graph)
  pub found : EdgesAreFound graph
  pub formals : (number : ℕ) (c_type : CType) → slice_get (parameters_of (function_type (tac_of tac) called)) number ≡ Some c_type → is_data_pointer c_type ≡ true
      → has_target ((own_graph tac.types graph names).targets (formal called number)) ≡ true
  pub globals : (number : ℕ) (target : Target) → static_in graph.globals number ≡ Some target → number < length (tac_of tac).globals
  pub literals : (number : ℕ) (target : Target) → static_in graph.literals number ≡ Some target → number < length (tac_of tac).literals
  pub marks : NodeMarks
  pub listed : AreMarked marks numbers
  pub rises : Rises numbers
  pub within : (number : ℕ) → Contains numbers number → number < length graph.nodes.items
  pub escapes : (family : Family) → ShowsGraph tac.types family (InFunction called) graph → ShowsNames family (InFunction called) names → (number : ℕ) → number < length graph.nodes.items
      → (is_marked marks number ≡ true) ↔ Escapes (graph_of family (InFunction called)) (InFunction called) number
  pub closed : AreClosed graph.nodes.items numbers
  pub outside : (name : Name) (target : Target) → is_outside (InFunction called) name ≡ true → (own_graph tac.types graph names).targets name ≡ Some target → Contains numbers target.node

-- the function is one of a group before
pub record IsReached (before : GraphsBefore) (called : ℕ) : Type 0 where
  pub group : ℕ
  pub of : slice_get before.groups.group_of.items called ≡ Some group
  pub graph : FrozenGraph
  pub graph_is : slice_get before.graphs group ≡ Some graph
  pub own : FunctionGraph
  pub own_is : slice_get before.functions called ≡ Some own
  pub numbers : List ℕ
  pub numbers_are : slice_get before.escaping called ≡ Some numbers
  pub ready : IsReady before.tac called graph own.names numbers

-- its graph, in which it alone has names, and without any names of functions
abbrev pub graph_reached : (before : GraphsBefore) (called : ℕ) → IsReached before called → Graph
graph_reached before called reached = own_graph before.tac.types reached.graph reached.own.names

abbrev pub nodes_reached : (before : GraphsBefore) (called : ℕ) → IsReached before called → Graph
nodes_reached before called reached = bare before.tac.types reached.graph

-- ---- groups

-- the function is of this group; `start` is in none
abbrev pub is_inside : Groups → Option ℕ → ℕ → Bool
is_inside groups None called = false
is_inside groups (Some own) called = is_numbered own (slice_get groups.group_of.items called)

-- it isn't
abbrev pub is_out : Groups → Option ℕ → ℕ → Bool
is_out groups group called = not (is_inside groups group called)
