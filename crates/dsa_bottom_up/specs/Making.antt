-- The graphs of groups so far, in memory.
use Rattle.std.specs.Prelude.{◌≡◌, ℕ, ◌≤◌, false, List, [], length, slice_get, Some}
use Rattle.tac_ir.specs.declared.program.Tac as memory_tac
use Rattle.tac_ir.specs.declared.register.FunctionId.{FunctionId}
use Rattle.heap_graph.specs.declared.frozen.FrozenGraph.{FrozenGraph}
use Rattle.heap_graph.specs.declared.program.FunctionGraph.{FunctionGraph}
use Rattle.call_graph.specs.declared.group_lists.Groups.{Groups}
use Rattle.call_graph.specs.ClassLists.{numbers_of}
use Rattle.call_graph.specs.Lists.{rows_in}
use Rattle.dsa_inlining.specs.GroupStatics.Groups.{HaveStatics}
use Rattle.dsa_inlining.specs.Before.{GraphsBefore, is_listed, is_live}
use Rattle.dsa_inlining.specs.Live.{AreNoneLive, AddsMembers, AreLive}
use Rattle.dsa_bottom_up.specs.AssembledGroups.Making.{AreAt, ListsEscaping, SameOthers}
use Rattle.dsa_bottom_up.specs.declared.making.Making.{Making}

abbrev pub made_in : memory_tac.Tac → Groups → Making → GraphsBefore
made_in tac groups making = record {
  tac = tac;
  groups = groups;
  graphs = making.graphs.items;
  functions = making.functions.items;
  escaping = rows_in making.escaping;
  live = making.live;
  statics = making.statics.items;
}

-- no group has a graph yet
pub record IsEmpty (tac : memory_tac.Tac) (making : Making) : Type 0 where
  pub graphs : making.graphs.items ≡ []
  pub functions : length making.functions.items ≡ length tac.functions.items
  pub escaping : length (rows_in making.escaping) ≡ length tac.functions.items
  pub none : (called : ℕ) → is_listed (rows_in making.escaping) called ≡ false
  pub live : AreNoneLive tac making.live
  pub statics : making.statics.items ≡ []

-- Those functions from which something escapes are known by their classes; they are of groups below a number. Of each group is known what its
-- graph tells of variables and literals.
pub record AreKeptBelow (before : GraphsBefore) (number : ℕ) : Type 0 where
  pub live : AreLive before.tac before.escaping before.live
  pub below : (called group : ℕ) → slice_get before.groups.group_of.items called ≡ Some group → number ≤ group → is_live before called ≡ false
  pub many : length before.statics ≡ length before.graphs
  pub statics : HaveStatics before.tac.types before.graphs before.statics

-- each function stands once
abbrev pub AreApart : List FunctionId → Type 0
AreApart members = (a b : ℕ) (one other : FunctionId) → slice_get members a ≡ Some one → slice_get members b ≡ Some other → one.0 ≡ other.0 → a ≡ b

-- what is told of a function is kept at its number, and which nodes escape it
pub record KeepsOne (old new : Making) (member : ℕ) (graph : FrozenGraph) (own : FunctionGraph) : Type 0 where
  pub graphs : new.graphs ≡ old.graphs
  pub statics : new.statics ≡ old.statics
  pub live : new.live ≡ old.live
  pub size : length new.functions.items ≡ length old.functions.items
  pub own' : slice_get new.functions.items member ≡ Some own
  pub others : (number : ℕ) → (number ≡ member → ⊥) → slice_get new.functions.items number ≡ slice_get old.functions.items number
  pub lists : length (rows_in new.escaping) ≡ length (rows_in old.escaping)
  pub same_lists : (number : ℕ) → (number ≡ member → ⊥) → slice_get (rows_in new.escaping) number ≡ slice_get (rows_in old.escaping) number
  pub listed : (tac : memory_tac.Tac) → (numbers : List ℕ) × (slice_get (rows_in new.escaping) member ≡ Some numbers) × ListsEscaping tac member graph own.names numbers

-- so it is for each function of a group, and those from which something escapes are added to their classes
pub record KeepsMembers (old new : Making) (members : List FunctionId) (graph : FrozenGraph) (functions : List FunctionGraph) : Type 0 where
  pub graphs : new.graphs ≡ old.graphs
  pub statics : new.statics ≡ old.statics
  pub live : AddsMembers (rows_in new.escaping) (numbers_of members) old.live new.live
  pub size : length new.functions.items ≡ length old.functions.items
  pub own : AreAt new.functions.items members functions
  pub others : SameOthers old.functions.items new.functions.items members
  pub lists : length (rows_in new.escaping) ≡ length (rows_in old.escaping)
  pub same_lists : SameOthers (rows_in old.escaping) (rows_in new.escaping) members
  pub listed : (tac : memory_tac.Tac) (place : ℕ) (member : FunctionId) (own : FunctionGraph) → slice_get members place ≡ Some member → slice_get functions place ≡ Some own
      → (numbers : List ℕ) × (slice_get (rows_in new.escaping) member.0 ≡ Some numbers) × ListsEscaping tac member.0 graph own.names numbers
