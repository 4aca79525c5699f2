-- Where locals live: in registers or, where their address is taken, in memory, as arrays and structures always do. And which integer
-- expressions have no point of their own.
use Rattle.std.specs.Prelude.{ℕ, Bool, true, false, not, ◌&&◌, ◌||◌, ◌==◌, if◌then◌else◌, List, [], ◌∷◌, length, Option, Some, None}
use Rattle.c_typed.specs.Types.{CType, is_array, is_struct, is_integer}
use Rattle.c_typed.specs.Typed as T
use Rattle.c_typed.specs.Typed.{Value, Object, Designator, Values, Stmt, Block, SwitchItems, LocalDef, ForStart}
use Rattle.tac_ir.specs.declared.register.Local.{Local}

-- a local in scope: which one it is, whether it is an object in memory, and its type
pub record Home : Type 0 where
  pub local : Local
  pub is_object : Bool
  pub c_type : CType

-- the locals in scope, the newest first
abbrev pub Scope : Type 0
Scope = List Home

-- a local is numbered by how many others are in scope at its declaration
abbrev pub home_of : Scope → ℕ → Option Home
home_of [] number = None
home_of (newest ∷ others) number = if length others == number then Some newest else home_of others number

abbrev pub in_register : Option Home → Option Home
in_register None = None
in_register (Some home) = if home.is_object then None else Some home

-- the local in a register that an expression names; `*&x` is x
abbrev mutual
  pub register_home : Scope → Object → Option Home
  register_home scope (T.Local number) = in_register (home_of scope number)
  register_home scope (T.GroupedObject place inner) = register_home scope inner
  register_home scope (T.Pointed place pointer) = home_behind scope pointer
  register_home scope _ = None

  pub home_behind : Scope → Value → Option Home
  home_behind scope (T.Grouped inner) = home_behind scope inner
  home_behind scope (T.AddressOf place object) = register_home scope object
  home_behind scope _ = None

abbrev pub holds_integer : Option Home → Bool
holds_integer None = false
holds_integer (Some home) = is_integer home.c_type

-- An integer expression over constants and locals in registers: no call, load, assignment or branch stands in it.
abbrev pub is_pure : Scope → Value → Bool
is_pure scope (T.Constant int_type z) = true
is_pure scope (T.Grouped inner) = is_pure scope inner
is_pure scope (T.Read place object) = holds_integer (register_home scope object)
is_pure scope (T.Converted int_type value) = is_pure scope value
is_pure scope (T.Plus operand) = is_pure scope operand
is_pure scope (T.Minus place int_type operand) = is_pure scope operand
is_pure scope (T.Complement int_type operand) = is_pure scope operand
is_pure scope (T.Not operand) = is_pure scope operand
is_pure scope (T.Arithmetic op place int_type left right) = is_pure scope left && is_pure scope right
is_pure scope (T.Compare relation left right) = is_pure scope left && is_pure scope right
is_pure scope (T.Cast value) = is_pure scope value
is_pure scope _ = false

-- ---- locals whose address is taken

-- the expression names the local; `*&x` is x
abbrev mutual
  pub names_local : ℕ → Object → Bool
  names_local number (T.Local other) = other == number
  names_local number (T.GroupedObject place inner) = names_local number inner
  names_local number (T.Pointed place pointer) = names_behind number pointer
  names_local number _ = false

  pub names_behind : ℕ → Value → Bool
  names_behind number (T.Grouped inner) = names_behind number inner
  names_behind number (T.AddressOf place object) = names_local number object
  names_behind number _ = false

-- The address of the local with this number is taken: it is kept as a value. In `*&x` and `(&x)->m`, where what the value points to is
-- used at once, it isn't.
abbrev mutual
  pub takes : Bool → ℕ → Value → Bool
  takes behind number (T.Constant int_type z) = false
  takes behind number T.NullPointer = false
  takes behind number (T.Grouped inner) = takes behind number inner
  takes behind number (T.Read place object) = takes_in number object
  takes behind number (T.Decay place object) = takes_in number object
  takes behind number (T.FunctionValue function) = takes_called number function
  takes behind number (T.Converted int_type value) = takes false number value
  takes behind number (T.Repointed place target value) = takes false number value
  takes behind number (T.MadeNull target value) = takes false number value
  takes behind number (T.Tested place value) = takes false number value
  takes behind number (T.Plus operand) = takes false number operand
  takes behind number (T.Minus place int_type operand) = takes false number operand
  takes behind number (T.Complement int_type operand) = takes false number operand
  takes behind number (T.Not operand) = takes false number operand
  takes behind number (T.Arithmetic op place int_type left right) = takes false number left || takes false number right
  takes behind number (T.Compare relation left right) = takes false number left || takes false number right
  takes behind number (T.ComparePointers relation place left right) = takes false number left || takes false number right
  takes behind number (T.PointerPlus place pointer amount) = takes false number pointer || takes false number amount
  takes behind number (T.NumberPlus place amount pointer) = takes false number amount || takes false number pointer
  takes behind number (T.PointerMinus place pointer amount) = takes false number pointer || takes false number amount
  takes behind number (T.PointerDifference place left right) = takes false number left || takes false number right
  takes behind number (T.And left right) = takes false number left || takes false number right
  takes behind number (T.Or left right) = takes false number left || takes false number right
  takes behind number (T.Conditional condition taken otherwise) = takes false number condition || (takes false number taken || takes false number otherwise)
  takes behind number (T.AddressOf place object) = (not behind && names_local number object) || takes_in number object
  takes behind number (T.AddressOfFunction function) = takes_called number function
  takes behind number (T.Cast value) = takes false number value
  takes behind number (T.CastVoid value) = takes false number value
  takes behind number (T.Assign place object value) = takes_in number object || takes false number value
  takes behind number (T.AssignArithmetic op place object_type int_type object value) = takes_in number object || takes false number value
  takes behind number (T.AssignMoved is_minus place object amount) = takes_in number object || takes false number amount
  takes behind number (T.StepInteger stepping place int_type object) = takes_in number object
  takes behind number (T.StepPointer stepping place object) = takes_in number object
  takes behind number (T.Call is_used place function c_type arguments) = takes_called number function || takes_any number arguments
  takes behind number (T.LibraryCall function groups place arguments) = takes_any number arguments

  pub takes_any : ℕ → Values → Bool
  takes_any number T.NoValues = false
  takes_any number (T.MoreValues first others) = takes false number first || takes_any number others

  pub takes_in : ℕ → Object → Bool
  takes_in number (T.Local other) = false
  takes_in number (T.Global name) = false
  takes_in number (T.Literal place bytes) = false
  takes_in number (T.GroupedObject place inner) = takes_in number inner
  takes_in number (T.Pointed place pointer) = takes true number pointer
  takes_in number (T.Element place pointer amount) = takes false number pointer || takes false number amount
  takes_in number (T.ElementOf place amount pointer) = takes false number amount || takes false number pointer
  takes_in number (T.MemberOf place object member) = takes_in number object
  takes_in number (T.PointedMember place pointer member) = takes true number pointer

  pub takes_called : ℕ → Designator → Bool
  takes_called number (T.Function name) = false
  takes_called number (T.GroupedFunction inner) = takes_called number inner
  takes_called number (T.PointedFunction place pointer) = takes false number pointer
  takes_called number (T.ThroughPointer place pointer) = takes false number pointer

abbrev pub takes_optional : ℕ → Option Value → Bool
takes_optional number None = false
takes_optional number (Some value) = takes false number value

abbrev pub takes_first : ℕ → List LocalDef → Bool
takes_first number [] = false
takes_first number (local ∷ others) = takes_optional number local.first || takes_first number others

abbrev pub takes_start : ℕ → ForStart → Bool
takes_start number T.StartNothing = false
takes_start number (T.StartValue value) = takes false number value
takes_start number (T.StartLocals locals) = takes_first number locals

abbrev mutual
  pub takes_stmt : ℕ → Stmt → Bool
  takes_stmt number (T.BlockStmt items) = takes_block number items
  takes_stmt number T.Empty = false
  takes_stmt number (T.Expression value) = takes false number value
  takes_stmt number (T.If condition taken) = takes false number condition || takes_stmt number taken
  takes_stmt number (T.IfElse condition taken otherwise) = takes false number condition || (takes_stmt number taken || takes_stmt number otherwise)
  takes_stmt number (T.While condition body) = takes false number condition || takes_stmt number body
  takes_stmt number (T.DoWhile body condition) = takes_stmt number body || takes false number condition
  takes_stmt number (T.For start condition step body) = takes_start number start || (takes_optional number condition || (takes_optional number step || takes_stmt number body))
  takes_stmt number (T.Switch value items) = takes false number value || takes_items number items
  takes_stmt number T.Break = false
  takes_stmt number T.Continue = false
  takes_stmt number (T.Return value) = takes_optional number value

  pub takes_block : ℕ → Block → Bool
  takes_block number T.Close = false
  takes_block number (T.Declare local others) = takes_optional number local.first || takes_block number others
  takes_block number (T.Perform stmt others) = takes_stmt number stmt || takes_block number others

  pub takes_items : ℕ → SwitchItems → Bool
  takes_items number T.SwitchEnd = false
  takes_items number (T.Case label others) = takes_items number others
  takes_items number (T.Default others) = takes_items number others
  takes_items number (T.SwitchStmt stmt others) = takes_stmt number stmt || takes_items number others

-- whether a local lies in memory (C17 6.2.5 paragraphs 20, 21)
abbrev pub lies_in_memory : CType → Bool → Bool
lies_in_memory c_type is_taken = is_array c_type || (is_struct c_type || is_taken)
