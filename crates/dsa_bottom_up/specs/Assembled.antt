-- The graph of a group, or of `start`, that is closed: what is told of the one that was made, and what is kept of that.
use Rattle.std.specs.Prelude.{◌≡◌, ◌⊎◌, ℕ, true, List, length, map, slice_get, Option, Some}
use Rattle.c_typed.specs.Table.{structs_in}
use Rattle.tac_ir.specs.declared.register.FunctionId.{FunctionId}
use Rattle.tac_ir.specs.Views.{tac_of}
use Rattle.heap_graph.specs.Graphs.{Element, Graph}
use Rattle.heap_graph.specs.Merging.{IsSound, GraphMap, Maps}
use Rattle.heap_graph.specs.Frozen.{graph_with}
use Rattle.heap_graph.specs.declared.frozen.FrozenGraph.{FrozenGraph}
use Rattle.heap_graph.specs.declared.program.FunctionGraph.{FunctionGraph}
use Rattle.heap_graph.specs.Edges.{EdgesAreFound}
use Rattle.graph_unification.specs.Going.{AllNamed, GoesOn}
use Rattle.dsa_local.specs.Told.{NamesTold}
use Rattle.dsa_local.specs.Joined.{CallsJoined, ClassesJoined}
use Rattle.dsa_local.specs.Rounds.{Settled}
use Rattle.dsa_local.specs.Growing.{OnlyFlagsGrow, OnlyArrays}
use Rattle.dsa_local.specs.Sizes.{SizesTold, AsksOwner}
use Rattle.dsa_inlining.specs.Kept.{IsFrozen}
use Rattle.dsa_inlining.specs.Owners.{is_owner, names_in}
use Rattle.dsa_inlining.specs.declared.before.Crossings.{Crossings}
use Rattle.dsa_inlining.specs.Before.{GraphsBefore, is_inside}
use Rattle.dsa_inlining.specs.Crossings.{owners_in, AllReached, NumbersApart, AreCrossed, AllCopiesTold, TellsCrossings}
use Rattle.dsa_inlining.specs.Asking.{AsksCall}
use Rattle.dsa_inlining.specs.CallSteps.{AllFit, OwnersCross}

-- the graph that is only read, in which the owners have their names
abbrev pub kept_graph : GraphsBefore → List (Option FunctionId) → FrozenGraph → List FunctionGraph → Graph
kept_graph before owners graph functions = graph_with before.tac.types graph (names_in owners (map (λ (function : FunctionGraph). function.names) functions))

-- another graph, in which the owners' calls out of the group use these copies, and what their points ask holds
pub record IsWanted (before : GraphsBefore) (group : Option ℕ) (owners : List (Option FunctionId)) (crossings : List Crossings) (other : Graph) : Type 0 where
  pub fits : AllFit before group owners other
  pub crosses : OwnersCross before group owners crossings other
  pub settled : Settled (tac_of before.tac) (owners_in owners) other

-- once types are final, the size of an allocation, or the copy of one, asks that what it comes to is of an array
abbrev pub AsksArray : GraphsBefore → List (Option FunctionId) → List Crossings → Graph → ℕ → Element → Type 0
AsksArray before owners crossings graph number element = AsksOwner (tac_of before.tac) (owners_in owners) graph number element ⊎ AsksCall before crossings graph number element

-- The functions outside the group to which calls come are known. The graph goes on from the one that was begun. All is told of it that the
-- owners' names, points and calls ask; its certain nodes are kept, with what the owners' names and the copies lead to. Once types were final,
-- it was on the way to each such other graph, and after that nothing else was told than what allocations and copies of them ask.
pub record IsAssembled (before : GraphsBefore) (group : Option ℕ) (owners : List (Option FunctionId)) (begun : Graph) (graph : FrozenGraph) (functions : List FunctionGraph) : Type 0 where
  pub made : Graph
  pub crossings : List Crossings
  pub reached : AllReached before group owners
  pub goes : GoesOn (structs_in before.tac.types) begun made
  pub sound : IsSound (structs_in before.tac.types) made
  pub told : NamesTold (tac_of before.tac) (owners_in owners) made
  pub named : AllNamed made
  pub classes : ClassesJoined (tac_of before.tac) (is_inside before.groups group) made
  pub calls : (caller : ℕ) → is_inside before.groups group caller ≡ true → CallsJoined (tac_of before.tac) (is_inside before.groups group) caller made
  pub settled : Settled (tac_of before.tac) (owners_in owners) made
  pub sizes : SizesTold (tac_of before.tac) (owners_in owners) made
  pub crossed : AreCrossed before group owners crossings made
  pub apart : NumbersApart crossings
  pub copies : AllCopiesTold before crossings made
  pub size : length functions ≡ length owners
  pub frozen : IsFrozen (tac_of before.tac) (is_owner owners) made (kept_graph before owners graph functions)
  pub found : EdgesAreFound graph
  pub embeddings : (place : ℕ) (own : Crossings) (function : FunctionGraph) → slice_get crossings place ≡ Some own → slice_get functions place ≡ Some function → TellsCrossings made own function.embeddings
  pub typed : Graph
  pub leads : (other : Graph) (into : GraphMap) → Maps (structs_in before.tac.types) begun other into → IsWanted before group owners crossings other
      → (rest : GraphMap) × Maps (structs_in before.tac.types) typed other rest
  pub grows : OnlyFlagsGrow typed made
  pub only : OnlyArrays (AsksArray before owners crossings made) typed made
