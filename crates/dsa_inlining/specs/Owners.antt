-- The functions of a group, or `start`, and their names.
use Rattle.std.specs.Prelude.{◌≡◌, ℕ, ◌<◌, Bool, false, ◌||◌, if◌then◌else◌, List, [], ◌∷◌, length, slice_get, Option, Some, None}
use Rattle.tac_ir.specs.declared.register.FunctionId.{FunctionId}
use Rattle.tac_ir.specs.declared.program.Function.{Function}
use Rattle.tac_ir.specs.declared.program.Tac.{Tac}
use Rattle.tac_ir.specs.States.{Owner, InStart, InFunction}
use Rattle.heap_graph.specs.Graphs.{Graph}
use Rattle.heap_graph.specs.Escaping.{same_owner}
use Rattle.graph_unification.specs.Memory.{owner_of}
use Rattle.heap_graph.specs.declared.frozen.FunctionNames.{FunctionNames}
use Rattle.graph_unification.specs.Freezing.{TellsNames}

-- ---- functions

abbrev pub function_at : Tac → Owner → Option Function
function_at tac InStart = Some tac.start
function_at tac (InFunction number) = slice_get tac.functions.items number

-- the program has this function; none is `start`
abbrev pub IsFunctionOf : Tac → Option FunctionId → Type 0
IsFunctionOf tac None = Unit {0}
IsFunctionOf tac (Some function) = function.0 < length tac.functions.items

abbrev pub is_owner : List (Option FunctionId) → Owner → Bool
is_owner [] owner = false
is_owner (first ∷ owners) owner = same_owner (owner_of first) owner || is_owner owners owner

-- ---- names

-- the names of an owner, where those of all owners are listed in the same order
abbrev pub names_in : List (Option FunctionId) → List FunctionNames → Owner → Option FunctionNames
names_in [] names owner = None
names_in (first ∷ owners) [] owner = None
names_in (first ∷ owners) (own ∷ names) owner = if same_owner (owner_of first) owner then Some own else names_in owners names owner

-- these are the names of the owner's function
pub record TellsOwn (graph : Graph) (tac : Tac) (owner : Owner) (own : FunctionNames) : Type 0 where
  pub function : Function
  pub is : function_at tac owner ≡ Some function
  pub tells : TellsNames graph owner function own

abbrev pub TellsAt : Graph → Tac → Option (Option FunctionId) → Option FunctionNames → Type 0
TellsAt graph tac (Some owner) (Some own) = TellsOwn graph tac (owner_of owner) own
TellsAt graph tac (Some owner) None = ⊥
TellsAt graph tac None (Some own) = ⊥
TellsAt graph tac None None = Unit {0}

-- the names of each owner stand at its place
abbrev pub TellsEach : Graph → Tac → List (Option FunctionId) → List FunctionNames → Type 0
TellsEach graph tac owners names = (place : ℕ) → TellsAt graph tac (slice_get owners place) (slice_get names place)
