-- What is known of a program's code before its graphs are made: each register, local in memory, variable outside functions and literal that a
-- point names is there, and members of paths are parts of the objects.
use Rattle.std.specs.Prelude.{◌≡◌, ℕ, ◌<◌, true, false, List, length, slice_get, Option, Some}
use Rattle.std.specs.List.{list_any, AllByRecursion}
use Rattle.c_typed.specs.Types.{CType, literal_type}
use Rattle.c_typed.specs.Layouts.{StructDef, is_complete}
use Rattle.c_typed.specs.Typed.{GlobalDef, LiteralDef}
use Rattle.tac_ir.specs.declared.register.Register.{Register}
use Rattle.tac_ir.specs.declared.register.Register.TheVariants as R
use Rattle.tac_ir.specs.Code as O
use Rattle.tac_ir.specs.Code.{Base, AtLocal, AtGlobal, AtLiteral, Pointed, Indexed, Path, Operand, IntegerOperand, PointerOperand, LocalObject, Function, Op, Tac}
use Rattle.tac_ir.specs.Layouts.{Inner}
use Rattle.tac_ir.specs.Objects.{own_type}
use Rattle.tac_ir.specs.States.{Owner, function_of}
use Rattle.heap_graph.specs.Parts.{slots_of}
use Rattle.heap_graph.specs.Targets.{elements_of}
use Rattle.heap_graph.specs.Structures.{AreMade}
use Rattle.heap_graph.specs.Points.{is_null, is_data_pointer, is_member, base_part}
use Rattle.heap_graph.specs.Closed.{no_graph, parameters_of, has_register}
use Rattle.graph_unification.specs.Fits.{is_object, LeadsToPart}

-- the elements of an object of this type have a slot
abbrev pub HasSlot : List StructDef → CType → Type 0
HasSlot structs c_type = 0 < slots_of structs (elements_of c_type)

-- each local in memory stands once among a function's objects
abbrev pub ObjectsApart : List LocalObject → Type 0
ObjectsApart objects = (number : ℕ) (object : LocalObject) → slice_get objects number ≡ Some object → own_type objects object.local ≡ Some (record { offset = 0; c_type = object.c_type })

module _ (tac : Tac) (owner : Owner) (function : Function) where
  -- the function has the register
  abbrev pub IsOwn : Register → Type 0
  IsOwn register = has_register function register ≡ true

  -- ---- paths

  -- what a path begins with is there
  abbrev pub BaseStands : Base → Type 0
  BaseStands (AtLocal local) = (inner : Inner) × (own_type function.objects local ≡ Some inner)
  BaseStands (AtGlobal number) = number < length tac.globals
  BaseStands (AtLiteral number) = number < length tac.literals
  BaseStands (Pointed pointer target) = IsOwn pointer
  BaseStands (Indexed pointer target number) = IsOwn pointer

  -- the type of the object with which a path begins, or of what its pointer points to; that is no matter of the graph
  abbrev pub base_type : Base → CType
  base_type base = (base_part tac no_graph owner base).c_type

  pub record PathStands (path : Path) : Type 0 where
    pub base : BaseStands path.base
    pub leads : list_any is_member path.steps ≡ true → LeadsToPart tac.structs path.base path.steps (base_type path.base)

  -- a scalar is read or written there, and so a type that a pointer tells has slots
  pub record AccessStands (path : Path) : Type 0 where
    pub stands : PathStands path
    pub slots : is_object path.base ≡ false → is_complete tac.structs (base_type path.base) ≡ true → 0 < slots_of tac.structs (base_type path.base)

  -- ---- points

  -- what takes a pointer that isn't a null constant is there, and so is the pointer
  abbrev pub TakesStand : Register → Register → Type 0
  TakesStand taker from = is_null tac owner from ≡ false → IsOwn taker × IsOwn from

  abbrev pub ValueStands : CType → Operand → Type 0
  ValueStands scalar (IntegerOperand tree) = Unit {0}
  ValueStands scalar (PointerOperand register) = is_data_pointer scalar ≡ true → is_null tac owner register ≡ false → IsOwn register

  abbrev pub ReturnStands : Option Operand → Type 0
  ReturnStands (Some (PointerOperand register)) = is_null tac owner register ≡ false → IsOwn register
  ReturnStands value = Unit {0}

  abbrev pub OpStands : Op → Type 0
  OpStands (O.Copy to from) = TakesStand to from
  OpStands (O.Move to from element is_minus number) = TakesStand to from
  OpStands (O.Repoint to target from) = TakesStand to from × (is_complete tac.structs target ≡ true → 0 < slots_of tac.structs target)
  OpStands (O.AddressOf to path) = IsOwn to × PathStands path
  OpStands (O.Load to scalar path) = (is_data_pointer scalar ≡ true → IsOwn to) × AccessStands path
  OpStands (O.Store path scalar value) = ValueStands scalar value × AccessStands path
  OpStands (O.Allocate site size) = IsOwn (R.Call site)
  OpStands (O.Call site callee arguments) = IsOwn (R.Call site) × AllByRecursion IsOwn arguments
  OpStands (O.Return value) = ReturnStands value
  OpStands op = Unit {0}

  -- ---- functions

  pub record FunctionStands : Type 0 where
    pub points : AllByRecursion OpStands function.points
    pub objects : (number : ℕ) (object : LocalObject) → slice_get function.objects number ≡ Some object → HasSlot tac.structs object.c_type
    pub apart : ObjectsApart function.objects

-- ---- programs

-- Nothing calls `start`, so that its type tells nothing.
pub record CodeStands (tac : Tac) : Type 0 where
  pub made : AreMade tac.structs
  pub functions : (owner : Owner) (function : Function) → function_of tac owner ≡ Some function → FunctionStands tac owner function
  pub parameters : (number : ℕ) (function : Function) → slice_get tac.functions number ≡ Some function → function.parameters ≡ length (parameters_of function.c_type)
  pub globals : (number : ℕ) (global : GlobalDef) → slice_get tac.globals number ≡ Some global → HasSlot tac.structs global.c_type
  pub literals : (number : ℕ) (literal : LiteralDef) → slice_get tac.literals number ≡ Some literal → HasSlot tac.structs (literal_type literal.bytes)
