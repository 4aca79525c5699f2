-- What is asked of a graph, and of the names of each of its functions.
use Rattle.std.specs.Prelude.{◌≡◌, ℕ, true, List, slice_get, Some}
use Rattle.std.specs.List.{AllByRecursion}
use Rattle.c_typed.specs.Table.{Interned}
use Rattle.tac_ir.specs.Code as O
use Rattle.tac_ir.specs.States.{Owner}
use Rattle.heap_graph.specs.Closed.{Family, globals_closed, literals_closed}
use Rattle.heap_graph.specs.declared.frozen.FunctionNames.{FunctionNames}
use Rattle.heap_graph.specs.declared.frozen.FrozenGraph.{FrozenGraph}
use Rattle.heap_graph.specs.Frozen.{bare}
use Rattle.heap_graph.specs.declared.program.FunctionGraph.{FunctionGraph}
use Rattle.graph_checker.specs.SoundGraphs.Sound.{NamesAreSlots, StaticsAreSlots, NamesAreOwn, StaticsAreOwn, EdgesAreSound}

-- of the graph without the names of functions
pub record IsSoundGraph (table : Interned) (family : Family) (owner : Owner) (graph : FrozenGraph) : Type 0 where
  pub slots : StaticsAreSlots table graph
  pub own : StaticsAreOwn family.tac graph
  pub edges : EdgesAreSound table graph
  pub globals : globals_closed family owner 0 family.tac.globals ≡ true
  pub literals : literals_closed family owner 0 family.tac.literals ≡ true

-- of one function's names
pub record AreSoundNames (table : Interned) (graph : FrozenGraph) (function : O.Function) (names : FunctionNames) : Type 0 where
  pub slots : NamesAreSlots (bare table graph) names
  pub own : NamesAreOwn function names

abbrev pub IsSoundMember : Interned → Family → FrozenGraph → List FunctionGraph → ℕ → Type 0
IsSoundMember table family graph functions number =
    (own : FunctionGraph) (function : O.Function) → slice_get functions number ≡ Some own → slice_get family.tac.functions number ≡ Some function
    → AreSoundNames table graph function own.names

abbrev pub AreSoundMembers : Interned → Family → FrozenGraph → List FunctionGraph → List ℕ → Type 0
AreSoundMembers table family graph functions members = AllByRecursion (IsSoundMember table family graph functions) members
