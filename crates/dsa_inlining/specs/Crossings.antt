-- All calls out of a group in the group's graph: each has copies of the nodes that escape the function that is called, and uses them.
use Rattle.std.specs.Prelude.{◌≡◌, ℕ, true, List, length, map, slice_get, Option, Some, None}
use Rattle.indexmap.specs.IndexMap.{IndexMap, get_by}
use Rattle.c_typed.specs.DefinitionViews.{LiteralsStand}
use Rattle.c_typed.specs.Table.{structs_in}
use Rattle.tac_ir.specs.declared.register.FunctionId.{FunctionId}
use Rattle.tac_ir.specs.declared.register.Register.{Register}
use Rattle.tac_ir.specs.Code as O
use Rattle.tac_ir.specs.Code.{Callee, Function, Op}
use Rattle.tac_ir.specs.States.{Owner, function_of}
use Rattle.tac_ir.specs.Views.{tac_of}
use Rattle.tac_ir.specs.Targets.{is_target}
use Rattle.heap_graph.specs.Graphs.{Target, Graph, OfCopy}
use Rattle.graph_unification.specs.Memory.{owner_of}
use Rattle.heap_graph.specs.declared.graph.Target as memory_target
use Rattle.heap_graph.specs.declared.program.Crossing as memory_crossing
use Rattle.heap_graph.specs.Programs.{is_crossing}
use Rattle.dsa_inlining.specs.declared.copies.Copies.{Copies}
use Rattle.dsa_inlining.specs.Adding.{AreNumbered}
use Rattle.dsa_inlining.specs.Copied.{numbers_in, AreCopied}
use Rattle.dsa_inlining.specs.CallCopies.Telling.{CopiesTold}
use Rattle.call_graph.specs.Lists.{rows_in}
use Rattle.call_graph.specs.GroupViews.{IsOf}
use Rattle.graph_unification.specs.Standing.{CodeStands}
use Rattle.dsa_inlining.specs.GroupStatics.Groups.{HaveStatics}
use Rattle.dsa_inlining.specs.Copies.{TellsCopies}
use Rattle.dsa_inlining.specs.Crossed.{IsCrossed}
use Rattle.dsa_inlining.specs.declared.before.Before.{Before}
use Rattle.dsa_inlining.specs.declared.before.Crossings.{Crossings}
use Rattle.dsa_inlining.specs.Before.{GraphsBefore, IsReached, graph_reached, nodes_reached, is_live, is_out}
use Rattle.dsa_inlining.specs.Live.{AreLive}

-- the functions of which the owners are numbers; none is `start`
abbrev pub owners_in : List (Option FunctionId) → List Owner
owners_in = map owner_of

-- ---- what is known

-- each function outside the group to which calls of an owner may come is one of a group before
abbrev pub AreReached : GraphsBefore → Option ℕ → Owner → Type 0
AreReached before group owner =
    (function : Function) (at site : ℕ) (callee : Callee) (arguments : List Register) (called : ℕ) → function_of (tac_of before.tac) owner ≡ Some function
    → slice_get function.points at ≡ Some (O.Call site callee arguments) → is_target (tac_of before.tac) callee called ≡ true → is_out before.groups group called ≡ true
    → IsReached before called

abbrev pub AllReached : GraphsBefore → Option ℕ → List (Option FunctionId) → Type 0
AllReached before group owners = (place : ℕ) (owner : Option FunctionId) → slice_get owners place ≡ Some owner → AreReached before group (owner_of owner)

pub record IsKnown (before : Before) : Type 0 where
  pub code : CodeStands (tac_of before.tac.now)
  pub literals : LiteralsStand before.tac.now.types before.tac.now.literals.items
  pub groups : IsOf before.tac.now before.groups.now
  pub live : AreLive before.tac.now (rows_in before.escaping.now) before.live.now
  pub statics : HaveStatics before.tac.now.types before.graphs.now before.statics.now

-- ---- one call, to one function

-- the nodes that escape the function have copies
pub record CopiesStand (before : GraphsBefore) (called : ℕ) (copies : Copies) (graph : Graph) : Type 0 where
  pub reached : IsReached before called
  pub first : ℕ
  pub next : ℕ
  pub numbered : AreNumbered (nodes_reached before called reached) reached.numbers (numbers_in copies) first next
  pub copied : AreCopied (structs_in before.tac.types) graph (nodes_reached before called reached) (numbers_in copies)

-- a point of the owner calls it, it is outside the group, and something escapes it
pub record IsCalledFrom (before : GraphsBefore) (group : Option ℕ) (owner : Owner) (site called : ℕ) : Type 0 where
  pub function : Function
  pub is : function_of (tac_of before.tac) owner ≡ Some function
  pub at : ℕ
  pub callee : Callee
  pub arguments : List Register
  pub call : slice_get function.points at ≡ Some (O.Call site callee arguments)
  pub target : is_target (tac_of before.tac) callee called ≡ true
  pub out : is_out before.groups group called ≡ true
  pub live : is_live before called ≡ true

-- the copies at a call
abbrev pub copies_at : Crossings → ℕ → ℕ → Option Copies
copies_at own site called = get_by (is_crossing site called) own.copies

-- the call has copies, and uses them
pub record UsesCopies (before : GraphsBefore) (owner : Owner) (site : ℕ) (arguments : List Register) (called : ℕ) (own : Crossings) (graph : Graph) : Type 0 where
  pub copies : Copies
  pub is : copies_at own site called ≡ Some copies
  pub stand : CopiesStand before called copies graph
  pub crossed : IsCrossed (tac_of before.tac) owner site arguments called (graph_reached before called stand.reached) (numbers_in copies) graph

-- ---- the calls of one function

abbrev pub EntriesStand : GraphsBefore → Option ℕ → Owner → Crossings → Graph → Type 0
EntriesStand before group owner own graph =
    (site called : ℕ) (copies : Copies) → copies_at own site called ≡ Some copies → CopiesStand before called copies graph × IsCalledFrom before group owner site called

-- so does each call of an op to a function outside the group from which something escapes
abbrev pub OpCrosses : GraphsBefore → Option ℕ → Owner → Crossings → Graph → Op → Type 0
OpCrosses before group owner own graph op =
    (site : ℕ) (callee : Callee) (arguments : List Register) (called : ℕ) → op ≡ O.Call site callee arguments → is_target (tac_of before.tac) callee called ≡ true
    → is_out before.groups group called ≡ true → is_live before called ≡ true → UsesCopies before owner site arguments called own graph

abbrev pub CallsCross : GraphsBefore → Option ℕ → Owner → Crossings → Graph → Type 0
CallsCross before group owner own graph =
    (function : Function) (at : ℕ) (op : Op) → function_of (tac_of before.tac) owner ≡ Some function → slice_get function.points at ≡ Some op → OpCrosses before group owner own graph op

-- ---- the calls of a group

-- a number of a copy's name is one of a call's copies
pub record IsOfCall (all : List Crossings) (number : ℕ) : Type 0 where
  pub place : ℕ
  pub own : Crossings
  pub there : slice_get all place ≡ Some own
  pub site : ℕ
  pub called : ℕ
  pub copies : Copies
  pub at : copies_at own site called ≡ Some copies
  pub node : ℕ
  pub is : numbers_in copies node ≡ Some number

-- two numbers of copies' names are of one node at one call
pub record IsOneCall (all : List Crossings) (number : ℕ) (a b : IsOfCall all number) : Type 0 where
  pub place : a.place ≡ b.place
  pub site : a.site ≡ b.site
  pub called : a.called ≡ b.called
  pub node : a.node ≡ b.node

-- no number is of two nodes, or of two calls
abbrev pub NumbersApart : List Crossings → Type 0
NumbersApart all = (number : ℕ) (a b : IsOfCall all number) → IsOneCall all number a b

-- The owners' calls out of the group have copies, by the places of the owners, and use them, where something escapes what is called. All
-- copies are those of such calls.
pub record AreCrossed (before : GraphsBefore) (group : Option ℕ) (owners : List (Option FunctionId)) (all : List Crossings) (graph : Graph) : Type 0 where
  pub size : length all ≡ length owners
  pub entries : (place : ℕ) (owner : Option FunctionId) (own : Crossings) → slice_get owners place ≡ Some owner → slice_get all place ≡ Some own → EntriesStand before group (owner_of owner) own graph
  pub calls : (place : ℕ) (owner : Option FunctionId) (own : Crossings) → slice_get owners place ≡ Some owner → slice_get all place ≡ Some own → CallsCross before group (owner_of owner) own graph
  pub names : (number : ℕ) (target : Target) → graph.targets (OfCopy number) ≡ Some target → IsOfCall all number

-- ---- what is told in the end

-- the nodes that escape have copies, at each call of which it is known
abbrev pub EachStands : GraphsBefore → List Crossings → Graph → Type 0
EachStands before all graph = (place : ℕ) (own : Crossings) (site called : ℕ) (copies : Copies) → slice_get all place ≡ Some own → copies_at own site called ≡ Some copies → CopiesStand before called copies graph

-- what types tell of copies in the end is told of all
abbrev pub AllCopiesTold : GraphsBefore → List Crossings → Graph → Type 0
AllCopiesTold before all graph =
    (place : ℕ) (own : Crossings) (site called : ℕ) (copies : Copies) → slice_get all place ≡ Some own → copies_at own site called ≡ Some copies → (reached : IsReached before called)
    → CopiesTold graph (nodes_reached before called reached) (numbers_in copies)

-- ---- graphs that are only read

abbrev pub TellsEntry : {S : Type 0} → Graph → Option Copies → Option (IndexMap ℕ memory_target.Target S) → Type 0
TellsEntry graph (Some copies) (Some targets) = TellsCopies graph copies.names targets
TellsEntry graph (Some copies) None = ⊥
TellsEntry graph None (Some targets) = ⊥
TellsEntry graph None None = Unit {0}

-- at each call the targets of the copies of exactly the nodes that have one
abbrev pub TellsCrossings : {S T : Type 0} → Graph → Crossings → IndexMap memory_crossing.Crossing (IndexMap ℕ memory_target.Target S) T → Type 0
TellsCrossings graph own embeddings = (site called : ℕ) → TellsEntry graph (copies_at own site called) (get_by (is_crossing site called) embeddings)
