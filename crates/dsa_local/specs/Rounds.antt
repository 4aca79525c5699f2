-- What the points of a group's functions ask of a graph.
use Rattle.std.specs.Prelude.{◌≡◌, Bool, ◌||◌, List, map}
use Rattle.std.specs.List.{AllByRecursion}
use Rattle.c_typed.specs.DefinitionViews.{LiteralsStand}
use Rattle.c_typed.specs.Table.{structs_in, type_in}
use Rattle.tac_ir.specs.declared.program.Tac as memory_tac
use Rattle.tac_ir.specs.declared.register.Local.{Local}
use Rattle.tac_ir.specs.declared.register.Register.{Register}
use Rattle.tac_ir.specs.Code.{Op, Tac}
use Rattle.tac_ir.specs.Objects.{own_type}
use Rattle.tac_ir.specs.States.{Owner, function_of, points_of, objects_of}
use Rattle.tac_ir.specs.Views.{tac_of}
use Rattle.heap_graph.specs.Graphs.{Graph}
use Rattle.heap_graph.specs.Points.{is_null, type_of_inner}
use Rattle.heap_graph.specs.Structures.{AreMade}
use Rattle.heap_graph.specs.declared.scope.Scope.{Scope}
use Rattle.heap_graph.specs.Known.{is_marked, local_type, owner_at}
use Rattle.graph_unification.specs.Leading.{Leads}
use Rattle.graph_unification.specs.Applying.{Applies, AllAsked}
use Rattle.graph_unification.specs.Fits.{AllFit}
use Rattle.graph_unification.specs.Going.{GoesOn}

-- the points of a function, or of `start`
abbrev pub points_at : Tac → Owner → List Op
points_at tac owner = points_of (function_of tac owner)

-- the functions of which something is known
abbrev pub owners_of : List Scope → List Owner
owners_of scopes = map (λ (scope : Scope). owner_at scope.owner) scopes

-- what all points of these functions ask holds
abbrev pub Settled : Tac → List Owner → Graph → Type 0
Settled tac owners graph = AllByRecursion (λ owner. AllAsked tac owner (points_at tac owner) graph) owners

-- ---- what has to be known of functions

-- what is known of the function's code is so, and its points fit the graph
pub record IsFit (tac : memory_tac.Tac) (graph : Graph) (scope : Scope) : Type 0 where
  pub nulls : (register : Register) → is_marked scope.nulls register ≡ is_null (tac_of tac) (owner_at scope.owner) register
  pub types : (local : Local) → type_in tac.types (local_type scope.locals local) ≡ type_of_inner (own_type (objects_of (function_of (tac_of tac) (owner_at scope.owner))) local)
  pub fit : AllFit (tac_of tac) graph (owner_at scope.owner) (points_at (tac_of tac) (owner_at scope.owner))

pub record AreFit (tac : memory_tac.Tac) (graph : Graph) (scopes : List Scope) : Type 0 where
  pub made : AreMade (structs_in tac.types)
  pub literals : LiteralsStand tac.types tac.literals.items
  pub each : AllByRecursion (IsFit tac graph) scopes

-- ---- what is done on the way

-- the graph goes on, on the way to each in which what all points of these functions ask holds
pub record Advances (tac : memory_tac.Tac) (scopes : List Scope) (old new : Graph) : Type 0 where
  pub goes : GoesOn (structs_in tac.types) old new
  pub leads : Leads (structs_in tac.types) old new (Settled (tac_of tac) (owners_of scopes))

-- ---- one function after the other

-- where what is left is done after what was done, all is done
abbrev pub RoundGoesOn : Tac → Graph → List Owner → Bool → Graph → List Owner → Type 0
RoundGoesOn tac start all changed graph left =
    (b : Bool) (new : Graph) → Applies tac.structs b graph new (Settled tac left) → Applies tac.structs (changed || b) start new (Settled tac all)
