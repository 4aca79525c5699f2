-- The steps by which the calls of one function are joined with copies.
use Rattle.std.specs.Prelude.{◌≡◌, ℕ, ◌≤◌, ◌<◌, ◌⊎◌, true, List, slice_get, Option, Some, None}
use Rattle.c_typed.specs.Table.{structs_in}
use Rattle.tac_ir.specs.declared.register.FunctionId.{FunctionId}
use Rattle.tac_ir.specs.declared.register.Register.{Register}
use Rattle.tac_ir.specs.Code.{Function, Op, Tac}
use Rattle.tac_ir.specs.States.{Owner, function_of}
use Rattle.tac_ir.specs.Views.{tac_of}
use Rattle.heap_graph.specs.Graphs.{Graph, OfCopy}
use Rattle.heap_graph.specs.Merging.{GraphMap, Maps}
use Rattle.graph_unification.specs.declared.graph.Graph as memory_graph
use Rattle.graph_unification.specs.Memory.{owner_of, graph_in}
use Rattle.call_graph.specs.RowLists.{Has}
use Rattle.graph_unification.specs.Going.{GoesOn}
use Rattle.graph_unification.specs.Named.{HasNames}
use Rattle.dsa_local.specs.Told.{NamesTold}
use Rattle.dsa_inlining.specs.declared.copies.Copies.{Copies}
use Rattle.dsa_inlining.specs.Adding.{AreFree}
use Rattle.dsa_inlining.specs.Copied.{numbers_in}
use Rattle.dsa_inlining.specs.Crossed.{StaticsFit}
use Rattle.dsa_inlining.specs.declared.before.Before.{Before}
use Rattle.dsa_inlining.specs.declared.before.Crossings.{Crossings}
use Rattle.dsa_inlining.specs.Before.{GraphsBefore, IsReached, graph_reached, is_out}
use Rattle.dsa_inlining.specs.Crossings.{CopiesStand, IsCalledFrom, copies_at, UsesCopies, EntriesStand, OpCrosses, CallsCross}

-- the graph that is made
abbrev pub shown : Before → memory_graph.Graph → Graph
shown before graph = graph_in before.tac.now.types graph

-- ---- premises

-- a point of the owner's function
pub record IsPoint (tac : Tac) (owner : Owner) (op : Op) : Type 0 where
  pub function : Function
  pub is : function_of tac owner ≡ Some function
  pub at : ℕ
  pub point : slice_get function.points at ≡ Some op

-- the owner's names have targets
abbrev pub OwnerNamed : Tac → Owner → Graph → Type 0
OwnerNamed tac owner graph = (function : Function) → function_of tac owner ≡ Some function → HasNames tac graph owner function

-- where the function is outside the group, a point calls it, and it is one of a group before
abbrev pub CallOut : GraphsBefore → Option ℕ → Owner → ℕ → ℕ → Type 0
CallOut before group owner site called = is_out before.groups group called ≡ true → IsCalledFrom before group owner site called × IsReached before called

-- what is known of the copies so far
pub record OwnStands (before : GraphsBefore) (group : Option ℕ) (owner : Owner) (own : Crossings) (graph : Graph) : Type 0 where
  pub entries : EntriesStand before group owner own graph
  pub free : AreFree graph own.next

-- ---- what is wanted

-- the call has copies
pub record HasEntry (before : GraphsBefore) (site called : ℕ) (own : Crossings) (graph : Graph) : Type 0 where
  pub copies : Copies
  pub is : copies_at own site called ≡ Some copies
  pub stand : CopiesStand before called copies graph

-- where the function is outside the group, the call has copies and uses them
abbrev pub TargetCrosses : GraphsBefore → Option ℕ → Owner → ℕ → List Register → ℕ → Crossings → Graph → Type 0
TargetCrosses before group owner site arguments called own graph = is_out before.groups group called ≡ true → UsesCopies before owner site arguments called own graph

-- so it is of each of these functions
abbrev pub TargetsCross : GraphsBefore → Option ℕ → Owner → ℕ → List Register → List ℕ → Crossings → Graph → Type 0
TargetsCross before group owner site arguments targets own graph = (called : ℕ) → Has targets called → TargetCrosses before group owner site arguments called own graph

abbrev pub PointCrosses : GraphsBefore → Option ℕ → Owner → Op → Crossings → Graph → Type 0
PointCrosses before group owner op own graph = OpCrosses before group owner own graph op

-- ---- other graphs

-- variables outside functions and literals of which the functions tell that the owner calls fit another graph
abbrev pub CallsFit : GraphsBefore → Option ℕ → Owner → Graph → Type 0
CallsFit before group owner other =
    (site called : ℕ) → IsCalledFrom before group owner site called → (reached : IsReached before called) → StaticsFit (tac_of before.tac) (graph_reached before called reached) other

-- ---- steps

-- a number of a copy's name is one of a call of the owner
pub record IsOfEntry (own : Crossings) (number : ℕ) : Type 0 where
  pub site : ℕ
  pub called : ℕ
  pub copies : Copies
  pub at : copies_at own site called ≡ Some copies
  pub node : ℕ
  pub is : numbers_in copies node ≡ Some number

-- the numbers from this one on were given to copies
abbrev pub AreGiven : ℕ → Crossings → Type 0
AreGiven first own = (number : ℕ) → first ≤ number → number < own.next → IsOfEntry own number

-- each is of one node at one call
pub record IsOneEntry (own : Crossings) (number : ℕ) (a b : IsOfEntry own number) : Type 0 where
  pub site : a.site ≡ b.site
  pub called : a.called ≡ b.called
  pub node : a.node ≡ b.node

abbrev pub EntriesApart : Crossings → Type 0
EntriesApart own = (number : ℕ) (a b : IsOfEntry own number) → IsOneEntry own number a b

-- a number that wasn't of a call before was that of no copy in the graph
abbrev pub AreNew : Crossings → Crossings → Graph → Type 0
AreNew own after old = (number : ℕ) → IsOfEntry after number → IsOfEntry own number ⊎ (old.targets (OfCopy number) ≡ None)

-- calls keep the copies that they have
abbrev pub EntriesStay : Crossings → Crossings → Type 0
EntriesStay own after = (site called : ℕ) (copies : Copies) → copies_at own site called ≡ Some copies → copies_at after site called ≡ Some copies

-- The graph goes on to one in which something holds with further copies, on the way to each in which it does and the variables and literals
-- fit. What is told of all names of the group's is told still.
pub record Crosses (before : GraphsBefore) (group : Option ℕ) (owner : Owner) (wanted : Crossings → Graph → Type 0) (own after : Crossings) (old new : Graph) : Type 0 where
  pub goes : GoesOn (structs_in before.tac.types) old new
  pub told : (owners : List Owner) → NamesTold (tac_of before.tac) owners old → NamesTold (tac_of before.tac) owners new
  pub stay : EntriesStay own after
  pub given : AreGiven own.next after
  pub apart : EntriesApart own → EntriesApart after
  pub added : AreNew own after old
  pub stands : OwnStands before group owner after new
  pub crossed : wanted after new
  pub leads : (other : Graph) (into : GraphMap) → Maps (structs_in before.tac.types) old other into → CallsFit before group owner other → wanted after other
      → (rest : GraphMap) × Maps (structs_in before.tac.types) new other rest

-- so it does with the copies of all calls of an owner
pub record OwnerCrosses (before : GraphsBefore) (group : Option ℕ) (owner : Owner) (first : ℕ) (own : Crossings) (old new : Graph) : Type 0 where
  pub goes : GoesOn (structs_in before.tac.types) old new
  pub told : (owners : List Owner) → NamesTold (tac_of before.tac) owners old → NamesTold (tac_of before.tac) owners new
  pub given : AreGiven first own
  pub apart : EntriesApart own
  pub added : (number : ℕ) → IsOfEntry own number → old.targets (OfCopy number) ≡ None
  pub stands : OwnStands before group owner own new
  pub crossed : CallsCross before group owner own new
  pub leads : (other : Graph) (into : GraphMap) → Maps (structs_in before.tac.types) old other into → CallsFit before group owner other → CallsCross before group owner own other
      → (rest : GraphMap) × Maps (structs_in before.tac.types) new other rest

-- ---- all owners

abbrev pub AllFit : GraphsBefore → Option ℕ → List (Option FunctionId) → Graph → Type 0
AllFit before group owners other = (place : ℕ) (owner : Option FunctionId) → slice_get owners place ≡ Some owner → CallsFit before group (owner_of owner) other

abbrev pub OwnersCross : GraphsBefore → Option ℕ → List (Option FunctionId) → List Crossings → Graph → Type 0
OwnersCross before group owners all graph =
    (place : ℕ) (owner : Option FunctionId) (own : Crossings) → slice_get owners place ≡ Some owner → slice_get all place ≡ Some own → CallsCross before group (owner_of owner) own graph

-- a map of the old graph to another one, in which these calls use copies and the variables and literals fit, gives one of the new graph
abbrev pub AllLead : GraphsBefore → Option ℕ → List (Option FunctionId) → List Crossings → Graph → Graph → Type 0
AllLead before group owners all old new =
    (other : Graph) (into : GraphMap) → Maps (structs_in before.tac.types) old other into → AllFit before group owners other → OwnersCross before group owners all other
    → (rest : GraphMap) × Maps (structs_in before.tac.types) new other rest
