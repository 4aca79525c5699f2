-- The graph of a group of functions, or of `start`, while it is made: without the group's calls out of it.
use Rattle.std.specs.Prelude.{◌≡◌, ℕ, Bool, true, List, [], map, get_or, slice_get}
use Rattle.std.specs.List.{AllByRecursion}
use Rattle.c_typed.specs.Table.{type_in}
use Rattle.tac_ir.specs.declared.program.Tac as memory_tac
use Rattle.tac_ir.specs.declared.register.Local.{Local}
use Rattle.tac_ir.specs.declared.register.Register.{Register}
use Rattle.tac_ir.specs.Code.{Tac}
use Rattle.tac_ir.specs.Objects.{own_type}
use Rattle.tac_ir.specs.States.{Owner, InFunction, function_of, objects_of}
use Rattle.tac_ir.specs.Views.{tac_of}
use Rattle.heap_graph.specs.Graphs.{Graph}
use Rattle.heap_graph.specs.Merging.{GraphMap, Maps}
use Rattle.heap_graph.specs.Points.{is_null, type_of_inner}
use Rattle.call_graph.specs.declared.group_lists.Groups.{Groups}
use Rattle.heap_graph.specs.declared.scope.Scope.{Scope}
use Rattle.heap_graph.specs.Known.{is_marked, local_type, owner_at}
use Rattle.call_graph.specs.RowLists.{Has}
use Rattle.graph_unification.specs.Going.{AllNamed}
use Rattle.dsa_local.specs.Told.{NamesTold, NoCopies, GroupFits}
use Rattle.dsa_local.specs.Joined.{CallsJoined, ClassesJoined}
use Rattle.dsa_local.specs.Members.{is_numbered}
use Rattle.dsa_local.specs.Rounds.{Settled}

-- ---- functions of a group

abbrev pub owners_in : List ℕ → List Owner
owners_in functions = map InFunction functions

-- those of the group of a number, in its order
abbrev pub owners_at : List (List ℕ) → ℕ → List Owner
owners_at groups number = owners_in (get_or groups number [])

-- the group of a number has the function
abbrev pub is_of : Groups → ℕ → ℕ → Bool
is_of groups number function = is_numbered number (slice_get groups.group_of.items function)

-- ---- what is known of their code

pub record IsScope (tac : memory_tac.Tac) (scope : Scope) : Type 0 where
  pub nulls : (register : Register) → is_marked scope.nulls register ≡ is_null (tac_of tac) (owner_at scope.owner) register
  pub types : (local : Local) → type_in tac.types (local_type scope.locals local) ≡ type_of_inner (own_type (objects_of (function_of (tac_of tac) (owner_at scope.owner))) local)

abbrev pub AreScopes : memory_tac.Tac → List Scope → Type 0
AreScopes tac scopes = AllByRecursion (IsScope tac) scopes

-- ---- their graph

-- the calls of these functions use the nodes of the functions of the group to which they may come
abbrev pub AllCallsJoined : Tac → (ℕ → Bool) → List ℕ → Graph → Type 0
AllCallsJoined tac inside functions graph = (caller : ℕ) → Has functions caller → CallsJoined tac inside caller graph

-- What is told of the names of the functions holds, calls within the group use the same nodes, and classes share formals and results.
pub record IsJoinedGroup (tac : Tac) (owners : List Owner) (inside : ℕ → Bool) (graph : Graph) : Type 0 where
  pub told : NamesTold tac owners graph
  pub named : AllNamed graph
  pub classes : ClassesJoined tac inside graph
  pub calls : (caller : ℕ) → inside caller ≡ true → CallsJoined tac inside caller graph

-- The graph is on the way to each that has the names with which the group begins, and in which classes and calls are joined.
abbrev pub LeadsJoined : Tac → List Owner → (ℕ → Bool) → Graph → Type 0
LeadsJoined tac owners inside graph =
    (other : Graph) → GroupFits tac owners other → ClassesJoined tac inside other → ((caller : ℕ) → inside caller ≡ true → CallsJoined tac inside caller other) → (into : GraphMap) × Maps tac.structs graph other into

-- So does what the points ask, and there are no copies of other graphs' nodes.
pub record IsLocal (tac : Tac) (owners : List Owner) (inside : ℕ → Bool) (graph : Graph) : Type 0 where
  pub joined : IsJoinedGroup tac owners inside graph
  pub settled : Settled tac owners graph
  pub copies : NoCopies graph
