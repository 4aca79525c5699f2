-- Typed trees in memory whose types stand for types, and whose objects get types that fit in 64 bits.
use Rattle.std.specs.Prelude.{◌≡◌, List, [], ◌∷◌, Option, Some, None}
use Rattle.c_typed.specs.Types.{literal_type}
use Rattle.c_typed.specs.declared.c_type.CType as number
use Rattle.c_typed.specs.declared.typed.Value as memory_value
use Rattle.c_typed.specs.declared.typed.Value.TheVariants as V
use Rattle.c_typed.specs.declared.typed.Object as memory_object
use Rattle.c_typed.specs.declared.typed.Object.TheVariants as O
use Rattle.c_typed.specs.declared.typed.Designator as memory_designator
use Rattle.c_typed.specs.declared.typed.Designator.TheVariants as D
use Rattle.c_typed.specs.declared.statement.LocalDef as memory_local
use Rattle.c_typed.specs.declared.statement.ForStart as memory_start
use Rattle.c_typed.specs.declared.statement.ForStart.TheVariants as F
use Rattle.c_typed.specs.declared.statement.Stmt as memory_stmt
use Rattle.c_typed.specs.declared.statement.Stmt.TheVariants as S
use Rattle.c_typed.specs.declared.statement.BlockItem as memory_item
use Rattle.c_typed.specs.declared.statement.BlockItem.TheVariants as B
use Rattle.c_typed.specs.declared.statement.SwitchItem as memory_switch
use Rattle.c_typed.specs.declared.statement.SwitchItem.TheVariants as W
use Rattle.c_typed.specs.declared.definition.FunctionDef as memory_function
use Rattle.c_typed.specs.declared.definition.Program as memory_program
use Rattle.c_typed.specs.Table.{Interned, Stands, type_in}
use Rattle.ref_meaning.specs.Fitting.{IsObjectType}

-- ---- expressions

abbrev mutual
  pub ValueFits : Interned → memory_value.Value → Type 0
  ValueFits table (V.Constant int_type value) = Unit {0}
  ValueFits table V.NullPointer = Unit {0}
  ValueFits table (V.Grouped' p inner) = ValueFits table inner
  ValueFits table (V.Read' place p object) = ObjectFits table object
  ValueFits table (V.Decay' place p object) = ObjectFits table object
  ValueFits table (V.FunctionValue' p function) = DesignatorFits table function
  ValueFits table (V.Converted' int_type p value) = ValueFits table value
  ValueFits table (V.Repointed' place target p value) = IsObjectType table target × ValueFits table value
  ValueFits table (V.MadeNull' target p value) = Stands table target × ValueFits table value
  ValueFits table (V.Tested' place p value) = ValueFits table value
  ValueFits table (V.Plus' p operand) = ValueFits table operand
  ValueFits table (V.Minus' place int_type p operand) = ValueFits table operand
  ValueFits table (V.Complement' int_type p operand) = ValueFits table operand
  ValueFits table (V.Not' p operand) = ValueFits table operand
  ValueFits table (V.Arithmetic' op place int_type p left q right) = ValueFits table left × ValueFits table right
  ValueFits table (V.Compare' relation p left q right) = ValueFits table left × ValueFits table right
  ValueFits table (V.ComparePointers' relation place p left q right) = ValueFits table left × ValueFits table right
  ValueFits table (V.PointerPlus' place p pointer q number) = ValueFits table pointer × ValueFits table number
  ValueFits table (V.NumberPlus' place p number q pointer) = ValueFits table number × ValueFits table pointer
  ValueFits table (V.PointerMinus' place p pointer q number) = ValueFits table pointer × ValueFits table number
  ValueFits table (V.PointerDifference' place p left q right) = ValueFits table left × ValueFits table right
  ValueFits table (V.And' p left q right) = ValueFits table left × ValueFits table right
  ValueFits table (V.Or' p left q right) = ValueFits table left × ValueFits table right
  ValueFits table (V.Conditional' p condition q taken r otherwise) = ValueFits table condition × ValueFits table taken × ValueFits table otherwise
  ValueFits table (V.AddressOf' place p object) = ObjectFits table object
  ValueFits table (V.AddressOfFunction' p function) = DesignatorFits table function
  ValueFits table (V.Cast' p value) = ValueFits table value
  ValueFits table (V.CastVoid' p value) = ValueFits table value
  ValueFits table (V.Assign' place p object q value) = ObjectFits table object × ValueFits table value
  ValueFits table (V.AssignArithmetic' op place object_type int_type p object q value) = ObjectFits table object × ValueFits table value
  ValueFits table (V.AssignMoved' is_minus place p object q number) = ObjectFits table object × ValueFits table number
  ValueFits table (V.StepInteger' stepping place int_type p object) = ObjectFits table object
  ValueFits table (V.StepPointer' stepping place p object) = ObjectFits table object
  ValueFits table (V.Call' is_used place p function c_type shape arguments) = DesignatorFits table function × Stands table c_type × RowFits table arguments
  ValueFits table (V.LibraryCall' function groups place shape arguments) = RowFits table arguments

  pub ObjectFits : Interned → memory_object.Object → Type 0
  ObjectFits table (O.Local number) = Unit {0}
  ObjectFits table (O.Global name) = Unit {0}
  ObjectFits table (O.Literal place bytes c_type) = Stands table c_type × (type_in table c_type ≡ literal_type bytes)
  ObjectFits table (O.Grouped' place p inner) = ObjectFits table inner
  ObjectFits table (O.Pointed' place p pointer) = ValueFits table pointer
  ObjectFits table (O.Element' place p pointer q number) = ValueFits table pointer × ValueFits table number
  ObjectFits table (O.ElementOf' place p number q pointer) = ValueFits table number × ValueFits table pointer
  ObjectFits table (O.MemberOf' place p object number) = ObjectFits table object
  ObjectFits table (O.PointedMember' place p pointer number) = ValueFits table pointer

  pub DesignatorFits : Interned → memory_designator.Designator → Type 0
  DesignatorFits table (D.Named name) = Unit {0}
  DesignatorFits table (D.Grouped' p inner) = DesignatorFits table inner
  DesignatorFits table (D.Pointed' place p pointer) = ValueFits table pointer
  DesignatorFits table (D.ThroughPointer' place p pointer) = ValueFits table pointer

  pub RowFits : Interned → {shape : _} → memory_value.Row_of-Value shape → Type 0
  RowFits table memory_value.end_of-Value = Unit {0}
  RowFits table (memory_value.more_of-Value first others) = ValueFits table first × RowFits table others

abbrev pub ValuesFit : Interned → List memory_value.Value → Type 0
ValuesFit table [] = Unit {0}
ValuesFit table (first ∷ others) = ValueFits table first × ValuesFit table others

abbrev pub OptionalFits : Interned → Option memory_value.Value → Type 0
OptionalFits table None = Unit {0}
OptionalFits table (Some value) = ValueFits table value

-- ---- statements

abbrev pub LocalFits : Interned → memory_local.LocalDef → Type 0
LocalFits table local = IsObjectType table local.c_type × OptionalFits table local.first

abbrev pub LocalsFit : Interned → List memory_local.LocalDef → Type 0
LocalsFit table [] = Unit {0}
LocalsFit table (first ∷ others) = LocalFits table first × LocalsFit table others

abbrev pub StartFits : Interned → memory_start.ForStart → Type 0
StartFits table F.Nothing = Unit {0}
StartFits table (F.Value value) = ValueFits table value
StartFits table (F.Locals locals) = LocalsFit table locals.items

abbrev mutual
  pub StmtFits : Interned → memory_stmt.Stmt → Type 0
  StmtFits table (S.Block' shape items) = BlockRowFits table items
  StmtFits table S.Empty = Unit {0}
  StmtFits table (S.Expression value) = ValueFits table value
  StmtFits table (S.If' condition p taken) = ValueFits table condition × StmtFits table taken
  StmtFits table (S.IfElse' condition p taken q otherwise) = ValueFits table condition × StmtFits table taken × StmtFits table otherwise
  StmtFits table (S.While' condition p body) = ValueFits table condition × StmtFits table body
  StmtFits table (S.DoWhile' p body condition) = StmtFits table body × ValueFits table condition
  StmtFits table (S.For' start condition step p body) = StartFits table start × OptionalFits table condition × OptionalFits table step × StmtFits table body
  StmtFits table (S.Switch' value shape items) = ValueFits table value × SwitchRowFits table items
  StmtFits table S.Break = Unit {0}
  StmtFits table S.Continue = Unit {0}
  StmtFits table (S.Return value) = OptionalFits table value

  pub BlockRowFits : Interned → {shape : _} → memory_stmt.Row_of-BlockItem shape → Type 0
  BlockRowFits table memory_stmt.end_of-BlockItem = Unit {0}
  BlockRowFits table (memory_stmt.more_of-BlockItem (B.Local local) others) = LocalFits table local × BlockRowFits table others
  BlockRowFits table (memory_stmt.more_of-BlockItem (B.Statement stmt) others) = StmtFits table stmt × BlockRowFits table others

  pub SwitchRowFits : Interned → {shape : _} → memory_stmt.Row_of-SwitchItem shape → Type 0
  SwitchRowFits table memory_stmt.end_of-SwitchItem = Unit {0}
  SwitchRowFits table (memory_stmt.more_of-SwitchItem (W.Case label) others) = SwitchRowFits table others
  SwitchRowFits table (memory_stmt.more_of-SwitchItem W.Default others) = SwitchRowFits table others
  SwitchRowFits table (memory_stmt.more_of-SwitchItem (W.Statement stmt) others) = StmtFits table stmt × SwitchRowFits table others

abbrev pub BlockFits : Interned → List memory_item.BlockItem → Type 0
BlockFits table [] = Unit {0}
BlockFits table (B.Local local ∷ others) = LocalFits table local × BlockFits table others
BlockFits table (B.Statement stmt ∷ others) = StmtFits table stmt × BlockFits table others

abbrev pub SwitchFits : Interned → List memory_switch.SwitchItem → Type 0
SwitchFits table [] = Unit {0}
SwitchFits table (W.Case label ∷ others) = SwitchFits table others
SwitchFits table (W.Default ∷ others) = SwitchFits table others
SwitchFits table (W.Statement stmt ∷ others) = StmtFits table stmt × SwitchFits table others

-- ---- functions

abbrev pub TypesFit : Interned → List number.CType → Type 0
TypesFit table [] = Unit {0}
TypesFit table (first ∷ others) = IsObjectType table first × TypesFit table others

abbrev pub FunctionFits : Interned → memory_function.FunctionDef → Type 0
FunctionFits table function = Stands table function.c_type × TypesFit table function.parameters.items × Stands table function.returned × BlockFits table function.body.items

abbrev pub FunctionsFit : Interned → List memory_function.FunctionDef → Type 0
FunctionsFit table [] = Unit {0}
FunctionsFit table (first ∷ others) = FunctionFits table first × FunctionsFit table others

pub record ProgramFits (program : memory_program.Program) : Type 0 where
  pub functions : FunctionsFit program.types program.functions.items
