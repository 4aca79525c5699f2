-- When each call of a program's typed tree has few arguments: an accepted text names no function type of more than 64 parameters.
use Rattle.std.specs.Prelude.{⊤, ℕ, suc, ◌≤◌, List, [], ◌∷◌, Option, Some, None}
use Rattle.c_typed.specs.Typed as T
use Rattle.c_typed.specs.Typed.{Value, Object, Designator, Values, Stmt, Block, SwitchItems, LocalDef, ForStart, FunctionDef, Program}

-- more than any call has
abbrev pub greatest_arguments : ℕ
greatest_arguments = 65000

abbrev pub count_values : Values → ℕ
count_values T.NoValues = 0
count_values (T.MoreValues first others) = suc (count_values others)

abbrev mutual
  pub ValueFew : Value → Type 0
  ValueFew (T.Constant int_type z) = ⊤
  ValueFew T.NullPointer = ⊤
  ValueFew (T.Grouped inner) = ValueFew inner
  ValueFew (T.Read place object) = ObjectFew object
  ValueFew (T.Decay place object) = ObjectFew object
  ValueFew (T.FunctionValue function) = DesignatorFew function
  ValueFew (T.Converted int_type value) = ValueFew value
  ValueFew (T.Repointed place target value) = ValueFew value
  ValueFew (T.MadeNull target value) = ValueFew value
  ValueFew (T.Tested place value) = ValueFew value
  ValueFew (T.Plus operand) = ValueFew operand
  ValueFew (T.Minus place int_type operand) = ValueFew operand
  ValueFew (T.Complement int_type operand) = ValueFew operand
  ValueFew (T.Not operand) = ValueFew operand
  ValueFew (T.Arithmetic op place int_type left right) = ValueFew left × ValueFew right
  ValueFew (T.Compare relation left right) = ValueFew left × ValueFew right
  ValueFew (T.ComparePointers relation place left right) = ValueFew left × ValueFew right
  ValueFew (T.PointerPlus place pointer number) = ValueFew pointer × ValueFew number
  ValueFew (T.NumberPlus place number pointer) = ValueFew number × ValueFew pointer
  ValueFew (T.PointerMinus place pointer number) = ValueFew pointer × ValueFew number
  ValueFew (T.PointerDifference place left right) = ValueFew left × ValueFew right
  ValueFew (T.And left right) = ValueFew left × ValueFew right
  ValueFew (T.Or left right) = ValueFew left × ValueFew right
  ValueFew (T.Conditional condition taken otherwise) = (ValueFew condition × ValueFew taken) × ValueFew otherwise
  ValueFew (T.AddressOf place object) = ObjectFew object
  ValueFew (T.AddressOfFunction function) = DesignatorFew function
  ValueFew (T.Cast value) = ValueFew value
  ValueFew (T.CastVoid value) = ValueFew value
  ValueFew (T.Assign place object value) = ObjectFew object × ValueFew value
  ValueFew (T.AssignArithmetic op place object_type int_type object value) = ObjectFew object × ValueFew value
  ValueFew (T.AssignMoved is_minus place object number) = ObjectFew object × ValueFew number
  ValueFew (T.StepInteger stepping place int_type object) = ObjectFew object
  ValueFew (T.StepPointer stepping place object) = ObjectFew object
  ValueFew (T.Call is_used place function c_type arguments) = (DesignatorFew function × ValuesFew arguments) × (count_values arguments ≤ greatest_arguments)
  ValueFew (T.LibraryCall function groups place arguments) = ValuesFew arguments

  pub ObjectFew : Object → Type 0
  ObjectFew (T.Local number) = ⊤
  ObjectFew (T.Global name) = ⊤
  ObjectFew (T.Literal place bytes) = ⊤
  ObjectFew (T.GroupedObject place inner) = ObjectFew inner
  ObjectFew (T.Pointed place pointer) = ValueFew pointer
  ObjectFew (T.Element place pointer number) = ValueFew pointer × ValueFew number
  ObjectFew (T.ElementOf place number pointer) = ValueFew number × ValueFew pointer
  ObjectFew (T.MemberOf place object number) = ObjectFew object
  ObjectFew (T.PointedMember place pointer number) = ValueFew pointer

  pub DesignatorFew : Designator → Type 0
  DesignatorFew (T.Function name) = ⊤
  DesignatorFew (T.GroupedFunction inner) = DesignatorFew inner
  DesignatorFew (T.PointedFunction place pointer) = ValueFew pointer
  DesignatorFew (T.ThroughPointer place pointer) = ValueFew pointer

  pub ValuesFew : Values → Type 0
  ValuesFew T.NoValues = ⊤
  ValuesFew (T.MoreValues first others) = ValueFew first × ValuesFew others

abbrev pub OptionalFew : Option Value → Type 0
OptionalFew None = ⊤
OptionalFew (Some value) = ValueFew value

abbrev pub LocalsFew : List LocalDef → Type 0
LocalsFew [] = ⊤
LocalsFew (first ∷ others) = OptionalFew first.first × LocalsFew others

abbrev pub StartFew : ForStart → Type 0
StartFew T.StartNothing = ⊤
StartFew (T.StartValue value) = ValueFew value
StartFew (T.StartLocals locals) = LocalsFew locals

abbrev mutual
  pub StmtFew : Stmt → Type 0
  StmtFew (T.BlockStmt items) = BlockFew items
  StmtFew T.Empty = ⊤
  StmtFew (T.Expression value) = ValueFew value
  StmtFew (T.If condition taken) = ValueFew condition × StmtFew taken
  StmtFew (T.IfElse condition taken otherwise) = (ValueFew condition × StmtFew taken) × StmtFew otherwise
  StmtFew (T.While condition body) = ValueFew condition × StmtFew body
  StmtFew (T.DoWhile body condition) = StmtFew body × ValueFew condition
  StmtFew (T.For start condition step body) = ((StartFew start × OptionalFew condition) × OptionalFew step) × StmtFew body
  StmtFew (T.Switch value items) = ValueFew value × SwitchFew items
  StmtFew T.Break = ⊤
  StmtFew T.Continue = ⊤
  StmtFew (T.Return value) = OptionalFew value

  pub BlockFew : Block → Type 0
  BlockFew T.Close = ⊤
  BlockFew (T.Declare local others) = OptionalFew local.first × BlockFew others
  BlockFew (T.Perform stmt others) = StmtFew stmt × BlockFew others

  pub SwitchFew : SwitchItems → Type 0
  SwitchFew T.SwitchEnd = ⊤
  SwitchFew (T.Case label others) = SwitchFew others
  SwitchFew (T.Default others) = SwitchFew others
  SwitchFew (T.SwitchStmt stmt others) = StmtFew stmt × SwitchFew others

abbrev pub FunctionsFew : List FunctionDef → Type 0
FunctionsFew [] = ⊤
FunctionsFew (first ∷ others) = BlockFew first.body × FunctionsFew others

abbrev pub CallsFew : Program → Type 0
CallsFew program = FunctionsFew program.functions
