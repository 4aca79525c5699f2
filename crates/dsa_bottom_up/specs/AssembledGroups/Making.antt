-- The graphs of a program while they are made, group after group, callees first.
use Rattle.std.specs.Prelude.{◌≡◌, ◌↔◌, ℕ, ◌<◌, nat_lt, Bool, true, false, List, [], ◌∷◌, ◌++◌, length, slice_get, Contains, Option, Some, None}
use Rattle.c_typed.specs.DefinitionViews.{LiteralsStand}
use Rattle.tac_ir.specs.declared.program.Tac as memory_tac
use Rattle.tac_ir.specs.declared.register.FunctionId.{FunctionId}
use Rattle.tac_ir.specs.declared.register.Register.{Register}
use Rattle.tac_ir.specs.Code as O
use Rattle.tac_ir.specs.Code.{Known}
use Rattle.tac_ir.specs.States.{InFunction}
use Rattle.tac_ir.specs.Views.{tac_of}
use Rattle.tac_ir.specs.Groups.{AreGroups}
use Rattle.heap_graph.specs.Escaping.{Escapes}
use Rattle.heap_graph.specs.Closed.{Family, graph_of}
use Rattle.heap_graph.specs.declared.frozen.FunctionNames.{FunctionNames}
use Rattle.heap_graph.specs.declared.frozen.FrozenGraph.{FrozenGraph}
use Rattle.call_graph.specs.declared.group_lists.Groups.{Groups}
use Rattle.call_graph.specs.GroupViews.{groups_of, IsOf}
use Rattle.heap_graph.specs.declared.program.FunctionGraph.{FunctionGraph}
use Rattle.heap_graph.specs.declared.program.ProgramGraphs.{ProgramGraphs}
use Rattle.heap_graph.specs.Programs.{family_in}
use Rattle.heap_graph.specs.Shows.{ShowsGraph, ShowsNames}
use Rattle.heap_graph.specs.Orders.{EdgesAscend}
use Rattle.heap_graph.specs.declared.marks.NodeMarks.{NodeMarks}
use Rattle.heap_graph.specs.Marks.{is_marked, AreMarked}
use Rattle.heap_graph.specs.Faults.{GroupClosed}
use Rattle.graph_unification.specs.GraphPremises.First.{ProgramStands}
use Rattle.dsa_bottom_up.specs.MadeGroups.Made.{AreClassesOne}
use Rattle.dsa_inlining.specs.Before.{GraphsBefore, Rises, IsReached}

-- ---- programs

-- what is known of a program and its groups
pub record IsGrouped (tac : memory_tac.Tac) (made : Groups) : Type 0 where
  pub stands : ProgramStands (tac_of tac)
  pub literals : LiteralsStand tac.types tac.literals.items
  pub groups : AreGroups (tac_of tac) (groups_of made)
  pub of : IsOf tac made
  pub known_first : (at site function : ℕ) (arguments : List Register) → slice_get (tac_of tac).start.points at ≡ Some (O.Call site (Known function) arguments) → function < length tac.functions.items

-- graphs of the program with its groups
abbrev pub family_at : GraphsBefore → ProgramGraphs → Family
family_at before all = family_in before.tac (groups_of before.groups) all

-- ---- graphs that were made

-- the graphs of the groups below this number are those that were made, and so is what they tell of functions
pub record BeginsWith (before : GraphsBefore) (number : ℕ) (all : ProgramGraphs) : Type 0 where
  pub functions : length all.functions.items ≡ length before.tac.functions.items
  pub graphs : (at : ℕ) → at < number → slice_get all.graphs.items at ≡ slice_get before.graphs at
  pub own : (called group : ℕ) → slice_get before.groups.group_of.items called ≡ Some group → group < number → slice_get all.functions.items called ≡ slice_get before.functions called

abbrev pub is_below : ℕ → Option ℕ → Bool
is_below number None = false
is_below number (Some group) = nat_lt group number

-- a function of a group below this number
abbrev pub is_before : Groups → ℕ → ℕ → Bool
is_before groups number called = is_below number (slice_get groups.group_of.items called)

-- So many groups have their graphs. Each of their functions is known, and in all graphs of the program that begin with these the groups are
-- closed, and functions to which one call may come through a pointer are one. Edges stand in the order of their slots.
pub record IsMaking (before : GraphsBefore) (number : ℕ) : Type 0 where
  pub graphs : length before.graphs ≡ number
  pub functions : length before.functions ≡ length before.tac.functions.items
  pub escaping : length before.escaping ≡ length before.tac.functions.items
  pub reached : (called group : ℕ) → slice_get before.groups.group_of.items called ≡ Some group → group < number → IsReached before called
  pub closed : (all : ProgramGraphs) → BeginsWith before number all → (at : ℕ) → at < number → GroupClosed (family_at before all) at
  pub classes : (all : ProgramGraphs) → BeginsWith before number all → AreClassesOne (family_at before all) (is_before before.groups number)
  pub ascend : (at : ℕ) (graph : FrozenGraph) → at < number → slice_get before.graphs at ≡ Some graph → EdgesAscend graph.nodes.items

-- ---- one group more

-- what is told of the members stands at their numbers
abbrev pub AreAt : List FunctionGraph → List FunctionId → List FunctionGraph → Type 0
AreAt all members functions = (place : ℕ) (member : FunctionId) → slice_get members place ≡ Some member → slice_get all member.0 ≡ slice_get functions place

-- the numbers are those of the nodes that escape the function, in each family that has its graph
pub record ListsEscaping (tac : memory_tac.Tac) (called : ℕ) (graph : FrozenGraph) (names : FunctionNames) (numbers : List ℕ) : Type 0 where
  pub marks : NodeMarks
  pub listed : AreMarked marks numbers
  pub rises : Rises numbers
  pub within : (number : ℕ) → Contains numbers number → number < length graph.nodes.items
  pub escapes : (family : Family) → ShowsGraph tac.types family (InFunction called) graph → ShowsNames family (InFunction called) names → (number : ℕ) → number < length graph.nodes.items
      → (is_marked marks number ≡ true) ↔ Escapes (graph_of family (InFunction called)) (InFunction called) number

-- a list with others for some functions
abbrev pub SameOthers : {X : Type 0} → List X → List X → List FunctionId → Type 0
SameOthers old new members = (number : ℕ) → ((place : ℕ) (member : FunctionId) → slice_get members place ≡ Some member → member.0 ≡ number → ⊥) → slice_get new number ≡ slice_get old number

-- a group has its graph now, and its functions are known
pub record AddsGroup (before after : GraphsBefore) (members : List FunctionId) (graph : FrozenGraph) (functions : List FunctionGraph) : Type 0 where
  pub tac : after.tac ≡ before.tac
  pub groups : after.groups ≡ before.groups
  pub graphs : after.graphs ≡ before.graphs ++ graph ∷ []
  pub size : length after.functions ≡ length before.functions
  pub own : AreAt after.functions members functions
  pub others : SameOthers before.functions after.functions members
  pub lists : length after.escaping ≡ length before.escaping
  pub same_lists : SameOthers before.escaping after.escaping members
  pub listed : (place : ℕ) (member : FunctionId) (own : FunctionGraph) → slice_get members place ≡ Some member → slice_get functions place ≡ Some own
      → (numbers : List ℕ) × (slice_get after.escaping member.0 ≡ Some numbers) × ListsEscaping before.tac member.0 graph own.names numbers
