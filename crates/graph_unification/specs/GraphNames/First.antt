-- The nodes with which the names of a function begin.
use Rattle.std.specs.Prelude.{◌≡◌, ℕ, ◌<◌, Bool, true, false, if◌then◌else◌, List, [], ◌∷◌, slice_get, Option, Some, None}
use Rattle.c_typed.specs.Types.{CType}
use Rattle.c_typed.specs.Layouts.{StructDef}
use Rattle.c_typed.specs.declared.c_type.Parameters as numbers
use Rattle.c_typed.specs.Table.{Interned, ListStands, types_in}
use Rattle.tac_ir.specs.declared.register.Local.{Local}
use Rattle.tac_ir.specs.declared.register.Local.TheVariants as L
use Rattle.tac_ir.specs.declared.register.Register.{Register}
use Rattle.tac_ir.specs.declared.register.Register.TheVariants as R
use Rattle.tac_ir.specs.Code.{LocalObject, Function}
use Rattle.tac_ir.specs.Layouts.{Inner}
use Rattle.tac_ir.specs.Objects.{own_type}
use Rattle.tac_ir.specs.States.{Owner}
use Rattle.heap_graph.specs.Escaping.{same_owner}
use Rattle.heap_graph.specs.Parts.{slots_of}
use Rattle.heap_graph.specs.Graphs.{Target, Missing, OfType, Flags, Node, Name, OfRegister, OfResult, OfObject, Graph, node_at}
use Rattle.heap_graph.specs.Targets.{has_target, is_array, elements_of}
use Rattle.heap_graph.specs.Points.{is_data_pointer}
use Rattle.heap_graph.specs.Closed.{parameters_in, parameters_of, has_register}
use Rattle.graph_unification.specs.Adding.{AddsSome, HasOwnNode}
use Rattle.graph_unification.specs.declared.functions.Numbered.{Numbered}
use Rattle.graph_unification.specs.declared.functions.Numbered.TheVariants as N

-- ---- nodes

-- that of a pointer, of which nothing is told, but that it is certain
abbrev pub pointer_flags : Bool → Flags
pointer_flags certain = record { heap = false; stack = false; global = false; array = false; modified = false; read = false; complete = false; certain = certain }

abbrev pub pointer_node : Bool → Node
pointer_node certain = record { element = Missing; flags = pointer_flags certain; edges = [] }

-- that of an object of a type
abbrev pub object_node : CType → Flags → Node
object_node c_type flags = record { element = OfType (elements_of c_type); flags = flags; edges = [] }

-- a local in memory
abbrev pub local_flags : CType → Flags
local_flags c_type = record { heap = false; stack = true; global = false; array = is_array c_type; modified = false; read = false; complete = false; certain = true }

-- a variable outside functions, or a literal
abbrev pub static_flags : CType → Flags
static_flags c_type = record { heap = false; stack = false; global = true; array = is_array c_type; modified = false; read = false; complete = false; certain = true }

-- ---- names of a function

abbrev pub is_pointer_there : Option CType → Bool
is_pointer_there None = false
is_pointer_there (Some c_type) = is_data_pointer c_type

-- formals that are pointers to objects or to void are certain
abbrev pub is_certain_register : Function → Register → Bool
is_certain_register function (R.Local (L.Parameter number)) = is_pointer_there (slice_get (parameters_of function.c_type) number)
is_certain_register function register = false

abbrev pub of_register : Function → Register → Option Node
of_register function register = if has_register function register then Some (pointer_node (is_certain_register function register)) else None

abbrev pub of_inner : Option Inner → Option Node
of_inner None = None
of_inner (Some inner) = Some (object_node inner.c_type (local_flags inner.c_type))

-- the node with which a name of a function begins: of a register that it has, of its result, or of a local in memory
abbrev pub first_node : Owner → Function → Name → Option Node
first_node owner function (OfRegister other register) = if same_owner other owner then of_register function register else None
first_node owner function (OfResult other) = if same_owner other owner then Some (pointer_node false) else None
first_node owner function (OfObject other local) = if same_owner other owner then of_inner (own_type function.objects local) else None
first_node owner function name = None

-- All names of a function got nodes, unless they had targets; those of others and nodes are as they were.
pub record AddsFunction (old new : Graph) (owner : Owner) (function : Function) : Type 0 where
  pub adds : AddsSome (first_node owner function) old new
  pub has : (name : Name) (node : Node) → first_node owner function name ≡ Some node → has_target (new.targets name) ≡ true
  pub own : (name : Name) (node : Node) → first_node owner function name ≡ Some node → old.targets name ≡ None → HasOwnNode old new name node
  pub others : (name : Name) → first_node owner function name ≡ None → new.targets name ≡ old.targets name
  pub targets : (name : Name) (target : Target) → old.targets name ≡ Some target → new.targets name ≡ Some target
  pub nodes : (number : ℕ) (node : Node) → node_at old number ≡ Some node → node_at new number ≡ Some node

-- each local in memory got a node, unless it had a target
pub record AddsObjects (old new : Graph) (owner : Owner) (objects : List LocalObject) : Type 0 where
  pub adds : (first : Name → Option Node) → ((local : Local) (node : Node) → of_inner (own_type objects local) ≡ Some node → first (OfObject owner local) ≡ Some node) → AddsSome first old new
  pub has : (number : ℕ) (object : LocalObject) → slice_get objects number ≡ Some object → has_target (new.targets (OfObject owner object.local)) ≡ true

-- ---- registers by numbers

abbrev pub numbered : Numbered → ℕ → Register
numbered N.Variable number = R.Local (L.Variable number)
numbered N.Call number = R.Call number
numbered N.Argument number = R.Argument number
numbered N.Expression number = R.Expression number

abbrev pub numbered_at : Owner → Numbered → ℕ → Name
numbered_at owner kind number = OfRegister owner (numbered kind number)

abbrev pub formal_at : Owner → ℕ → Name
formal_at owner number = OfRegister owner (R.Local (L.Parameter number))

-- ---- each kind of name

abbrev pub is_of : Owner → Name → Bool
is_of owner (OfRegister other register) = same_owner other owner
is_of owner (OfResult other) = same_owner other owner
is_of owner (OfObject other local) = same_owner other owner
is_of owner name = false

-- What each name of a function has where none had a target. Names of the function that it doesn't have, names of others, of variables outside
-- functions and of literals are as they were.
pub record FunctionNodes (old new : Graph) (owner : Owner) (function : Function) : Type 0 where
  pub formals : (number : ℕ) → number < function.parameters → HasOwnNode old new (formal_at owner number) (pointer_node (is_pointer_there (slice_get (parameters_of function.c_type) number)))
  pub variables : (number : ℕ) → number < function.counts.variables → HasOwnNode old new (numbered_at owner N.Variable number) (pointer_node false)
  pub calls : (number : ℕ) → number < function.counts.calls → HasOwnNode old new (numbered_at owner N.Call number) (pointer_node false)
  pub arguments : (number : ℕ) → number < function.counts.arguments → HasOwnNode old new (numbered_at owner N.Argument number) (pointer_node false)
  pub expressions : (number : ℕ) → number < function.counts.expressions → HasOwnNode old new (numbered_at owner N.Expression number) (pointer_node false)
  pub result : HasOwnNode old new (OfResult owner) (pointer_node false)
  pub objects : (local : Local) (inner : Inner) → own_type function.objects local ≡ Some inner → HasOwnNode old new (OfObject owner local) (object_node inner.c_type (local_flags inner.c_type))
  pub only_registers : (register : Register) → has_register function register ≡ false → new.targets (OfRegister owner register) ≡ old.targets (OfRegister owner register)
  pub only_objects : (local : Local) → own_type function.objects local ≡ None → new.targets (OfObject owner local) ≡ old.targets (OfObject owner local)
  pub others : (name : Name) → is_of owner name ≡ false → new.targets name ≡ old.targets name
  pub nodes : (number : ℕ) (node : Node) → node_at old number ≡ Some node → node_at new number ≡ Some node

-- ---- types

-- the elements of an object of this type have a slot
abbrev pub HasSlot : List StructDef → CType → Type 0
HasSlot structs c_type = 0 < slots_of structs (elements_of c_type)

abbrev pub ObjectsHaveSlots : List StructDef → List CType → Type 0
ObjectsHaveSlots structs types = (number : ℕ) (c_type : CType) → slice_get types number ≡ Some c_type → HasSlot structs c_type

-- ---- formals

-- those of a list, where there is one
abbrev pub formals_in : Interned → Option numbers.Parameters → List CType
formals_in table None = []
formals_in table (Some parameters) = parameters_in (types_in table parameters)

abbrev pub FormalsStand : Interned → Option numbers.Parameters → Type 0
FormalsStand table None = Unit {0}
FormalsStand table (Some parameters) = ListStands table parameters

abbrev pub first_of : List CType → Option CType
first_of [] = None
first_of (first ∷ others) = Some first

abbrev pub others_of : List CType → List CType
others_of [] = []
others_of (first ∷ others) = others
