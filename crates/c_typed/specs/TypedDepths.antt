-- How deep the expressions of a program's typed tree nest: the most values, objects and designators on one path. Statements are no nodes here.
use Rattle.std.specs.Prelude.{ℕ, suc, max, List, [], ◌∷◌, Option, Some, None}
use Rattle.c_typed.specs.Typed as T
use Rattle.c_typed.specs.Typed.{Value, Object, Designator, Values, Stmt, Block, SwitchItems, LocalDef, ForStart, FunctionDef, Program}

abbrev mutual
  pub value_depth : Value → ℕ
  value_depth (T.Constant int_type z) = 1
  value_depth T.NullPointer = 1
  value_depth (T.Grouped inner) = suc (value_depth inner)
  value_depth (T.Read place object) = suc (object_depth object)
  value_depth (T.Decay place object) = suc (object_depth object)
  value_depth (T.FunctionValue function) = suc (designator_depth function)
  value_depth (T.Converted int_type value) = suc (value_depth value)
  value_depth (T.Repointed place target value) = suc (value_depth value)
  value_depth (T.MadeNull target value) = suc (value_depth value)
  value_depth (T.Tested place value) = suc (value_depth value)
  value_depth (T.Plus operand) = suc (value_depth operand)
  value_depth (T.Minus place int_type operand) = suc (value_depth operand)
  value_depth (T.Complement int_type operand) = suc (value_depth operand)
  value_depth (T.Not operand) = suc (value_depth operand)
  value_depth (T.Arithmetic op place int_type left right) = suc (max (value_depth left) (value_depth right))
  value_depth (T.Compare relation left right) = suc (max (value_depth left) (value_depth right))
  value_depth (T.ComparePointers relation place left right) = suc (max (value_depth left) (value_depth right))
  value_depth (T.PointerPlus place pointer number) = suc (max (value_depth pointer) (value_depth number))
  value_depth (T.NumberPlus place number pointer) = suc (max (value_depth number) (value_depth pointer))
  value_depth (T.PointerMinus place pointer number) = suc (max (value_depth pointer) (value_depth number))
  value_depth (T.PointerDifference place left right) = suc (max (value_depth left) (value_depth right))
  value_depth (T.And left right) = suc (max (value_depth left) (value_depth right))
  value_depth (T.Or left right) = suc (max (value_depth left) (value_depth right))
  value_depth (T.Conditional condition taken otherwise) = suc (max (value_depth condition) (max (value_depth taken) (value_depth otherwise)))
  value_depth (T.AddressOf place object) = suc (object_depth object)
  value_depth (T.AddressOfFunction function) = suc (designator_depth function)
  value_depth (T.Cast value) = suc (value_depth value)
  value_depth (T.CastVoid value) = suc (value_depth value)
  value_depth (T.Assign place object value) = suc (max (object_depth object) (value_depth value))
  value_depth (T.AssignArithmetic op place object_type int_type object value) = suc (max (object_depth object) (value_depth value))
  value_depth (T.AssignMoved is_minus place object number) = suc (max (object_depth object) (value_depth number))
  value_depth (T.StepInteger stepping place int_type object) = suc (object_depth object)
  value_depth (T.StepPointer stepping place object) = suc (object_depth object)
  value_depth (T.Call is_used place function c_type arguments) = suc (max (designator_depth function) (values_depth arguments))
  value_depth (T.LibraryCall function groups place arguments) = suc (values_depth arguments)

  pub object_depth : Object → ℕ
  object_depth (T.Local number) = 1
  object_depth (T.Global name) = 1
  object_depth (T.Literal place bytes) = 1
  object_depth (T.GroupedObject place inner) = suc (object_depth inner)
  object_depth (T.Pointed place pointer) = suc (value_depth pointer)
  object_depth (T.Element place pointer number) = suc (max (value_depth pointer) (value_depth number))
  object_depth (T.ElementOf place number pointer) = suc (max (value_depth number) (value_depth pointer))
  object_depth (T.MemberOf place object number) = suc (object_depth object)
  object_depth (T.PointedMember place pointer number) = suc (value_depth pointer)

  pub designator_depth : Designator → ℕ
  designator_depth (T.Function name) = 1
  designator_depth (T.GroupedFunction inner) = suc (designator_depth inner)
  designator_depth (T.PointedFunction place pointer) = suc (value_depth pointer)
  designator_depth (T.ThroughPointer place pointer) = suc (value_depth pointer)

  pub values_depth : Values → ℕ
  values_depth T.NoValues = 0
  values_depth (T.MoreValues first others) = max (value_depth first) (values_depth others)

abbrev pub optional_depth : Option Value → ℕ
optional_depth None = 0
optional_depth (Some value) = value_depth value

abbrev pub local_depth : LocalDef → ℕ
local_depth local = optional_depth local.first

abbrev pub locals_depth : List LocalDef → ℕ
locals_depth [] = 0
locals_depth (first ∷ others) = max (local_depth first) (locals_depth others)

abbrev pub start_depth : ForStart → ℕ
start_depth T.StartNothing = 0
start_depth (T.StartValue value) = value_depth value
start_depth (T.StartLocals locals) = locals_depth locals

abbrev mutual
  pub stmt_depth : Stmt → ℕ
  stmt_depth (T.BlockStmt items) = block_depth items
  stmt_depth T.Empty = 0
  stmt_depth (T.Expression value) = value_depth value
  stmt_depth (T.If condition taken) = max (value_depth condition) (stmt_depth taken)
  stmt_depth (T.IfElse condition taken otherwise) = max (value_depth condition) (max (stmt_depth taken) (stmt_depth otherwise))
  stmt_depth (T.While condition body) = max (value_depth condition) (stmt_depth body)
  stmt_depth (T.DoWhile body condition) = max (stmt_depth body) (value_depth condition)
  stmt_depth (T.For start condition step body) = max (start_depth start) (max (optional_depth condition) (max (optional_depth step) (stmt_depth body)))
  stmt_depth (T.Switch value items) = max (value_depth value) (switch_depth items)
  stmt_depth T.Break = 0
  stmt_depth T.Continue = 0
  stmt_depth (T.Return value) = optional_depth value

  pub block_depth : Block → ℕ
  block_depth T.Close = 0
  block_depth (T.Declare local others) = max (local_depth local) (block_depth others)
  block_depth (T.Perform stmt others) = max (stmt_depth stmt) (block_depth others)

  pub switch_depth : SwitchItems → ℕ
  switch_depth T.SwitchEnd = 0
  switch_depth (T.Case label others) = switch_depth others
  switch_depth (T.Default others) = switch_depth others
  switch_depth (T.SwitchStmt stmt others) = max (stmt_depth stmt) (switch_depth others)

abbrev pub functions_depth : List FunctionDef → ℕ
functions_depth [] = 0
functions_depth (first ∷ others) = max (block_depth first.body) (functions_depth others)

abbrev pub program_depth : Program → ℕ
program_depth program = functions_depth program.functions

-- More nodes don't lie on one path of an accepted program's typed tree: the reader takes no text that nests deeper than 200 nodes of syntax,
-- and at most three typed nodes on a path are made of one of these.
abbrev pub greatest_depth : ℕ
greatest_depth = 1024
