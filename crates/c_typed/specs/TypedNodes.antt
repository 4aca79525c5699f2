-- How many nodes the typed trees of a program's functions have: values, objects, designators, locals and statements.
use Rattle.std.specs.Prelude.{ℕ, suc, ◌+◌, List, [], ◌∷◌, Option, Some, None}
use Rattle.c_typed.specs.Typed as T
use Rattle.c_typed.specs.Typed.{Value, Object, Designator, Values, Stmt, Block, SwitchItems, LocalDef, ForStart, FunctionDef, Program}

abbrev mutual
  pub value_nodes : Value → ℕ
  value_nodes (T.Constant int_type z) = 1
  value_nodes T.NullPointer = 1
  value_nodes (T.Grouped inner) = suc (value_nodes inner)
  value_nodes (T.Read place object) = suc (object_nodes object)
  value_nodes (T.Decay place object) = suc (object_nodes object)
  value_nodes (T.FunctionValue function) = suc (designator_nodes function)
  value_nodes (T.Converted int_type value) = suc (value_nodes value)
  value_nodes (T.Repointed place target value) = suc (value_nodes value)
  value_nodes (T.MadeNull target value) = suc (value_nodes value)
  value_nodes (T.Tested place value) = suc (value_nodes value)
  value_nodes (T.Plus operand) = suc (value_nodes operand)
  value_nodes (T.Minus place int_type operand) = suc (value_nodes operand)
  value_nodes (T.Complement int_type operand) = suc (value_nodes operand)
  value_nodes (T.Not operand) = suc (value_nodes operand)
  value_nodes (T.Arithmetic op place int_type left right) = suc (value_nodes left + value_nodes right)
  value_nodes (T.Compare relation left right) = suc (value_nodes left + value_nodes right)
  value_nodes (T.ComparePointers relation place left right) = suc (value_nodes left + value_nodes right)
  value_nodes (T.PointerPlus place pointer number) = suc (value_nodes pointer + value_nodes number)
  value_nodes (T.NumberPlus place number pointer) = suc (value_nodes number + value_nodes pointer)
  value_nodes (T.PointerMinus place pointer number) = suc (value_nodes pointer + value_nodes number)
  value_nodes (T.PointerDifference place left right) = suc (value_nodes left + value_nodes right)
  value_nodes (T.And left right) = suc (value_nodes left + value_nodes right)
  value_nodes (T.Or left right) = suc (value_nodes left + value_nodes right)
  value_nodes (T.Conditional condition taken otherwise) = suc (value_nodes condition + (value_nodes taken + value_nodes otherwise))
  value_nodes (T.AddressOf place object) = suc (object_nodes object)
  value_nodes (T.AddressOfFunction function) = suc (designator_nodes function)
  value_nodes (T.Cast value) = suc (value_nodes value)
  value_nodes (T.CastVoid value) = suc (value_nodes value)
  value_nodes (T.Assign place object value) = suc (object_nodes object + value_nodes value)
  value_nodes (T.AssignArithmetic op place object_type int_type object value) = suc (object_nodes object + value_nodes value)
  value_nodes (T.AssignMoved is_minus place object number) = suc (object_nodes object + value_nodes number)
  value_nodes (T.StepInteger stepping place int_type object) = suc (object_nodes object)
  value_nodes (T.StepPointer stepping place object) = suc (object_nodes object)
  value_nodes (T.Call is_used place function c_type arguments) = suc (designator_nodes function + values_nodes arguments)
  value_nodes (T.LibraryCall function groups place arguments) = suc (values_nodes arguments)

  pub object_nodes : Object → ℕ
  object_nodes (T.Local number) = 1
  object_nodes (T.Global name) = 1
  object_nodes (T.Literal place bytes) = 1
  object_nodes (T.GroupedObject place inner) = suc (object_nodes inner)
  object_nodes (T.Pointed place pointer) = suc (value_nodes pointer)
  object_nodes (T.Element place pointer number) = suc (value_nodes pointer + value_nodes number)
  object_nodes (T.ElementOf place number pointer) = suc (value_nodes number + value_nodes pointer)
  object_nodes (T.MemberOf place object number) = suc (object_nodes object)
  object_nodes (T.PointedMember place pointer number) = suc (value_nodes pointer)

  pub designator_nodes : Designator → ℕ
  designator_nodes (T.Function name) = 1
  designator_nodes (T.GroupedFunction inner) = suc (designator_nodes inner)
  designator_nodes (T.PointedFunction place pointer) = suc (value_nodes pointer)
  designator_nodes (T.ThroughPointer place pointer) = suc (value_nodes pointer)

  pub values_nodes : Values → ℕ
  values_nodes T.NoValues = 0
  values_nodes (T.MoreValues first others) = value_nodes first + values_nodes others

abbrev pub optional_nodes : Option Value → ℕ
optional_nodes None = 0
optional_nodes (Some value) = value_nodes value

abbrev pub local_nodes : LocalDef → ℕ
local_nodes local = suc (optional_nodes local.first)

abbrev pub locals_nodes : List LocalDef → ℕ
locals_nodes [] = 0
locals_nodes (first ∷ others) = local_nodes first + locals_nodes others

abbrev pub start_nodes : ForStart → ℕ
start_nodes T.StartNothing = 0
start_nodes (T.StartValue value) = value_nodes value
start_nodes (T.StartLocals locals) = locals_nodes locals

abbrev mutual
  pub stmt_nodes : Stmt → ℕ
  stmt_nodes (T.BlockStmt items) = suc (block_nodes items)
  stmt_nodes T.Empty = 1
  stmt_nodes (T.Expression value) = suc (value_nodes value)
  stmt_nodes (T.If condition taken) = suc (value_nodes condition + stmt_nodes taken)
  stmt_nodes (T.IfElse condition taken otherwise) = suc (value_nodes condition + (stmt_nodes taken + stmt_nodes otherwise))
  stmt_nodes (T.While condition body) = suc (value_nodes condition + stmt_nodes body)
  stmt_nodes (T.DoWhile body condition) = suc (stmt_nodes body + value_nodes condition)
  stmt_nodes (T.For start condition step body) = suc (start_nodes start + (optional_nodes condition + (optional_nodes step + stmt_nodes body)))
  stmt_nodes (T.Switch value items) = suc (value_nodes value + switch_nodes items)
  stmt_nodes T.Break = 1
  stmt_nodes T.Continue = 1
  stmt_nodes (T.Return value) = suc (optional_nodes value)

  pub block_nodes : Block → ℕ
  block_nodes T.Close = 0
  block_nodes (T.Declare local others) = local_nodes local + block_nodes others
  block_nodes (T.Perform stmt others) = stmt_nodes stmt + block_nodes others

  pub switch_nodes : SwitchItems → ℕ
  switch_nodes T.SwitchEnd = 0
  switch_nodes (T.Case label others) = suc (switch_nodes others)
  switch_nodes (T.Default others) = suc (switch_nodes others)
  switch_nodes (T.SwitchStmt stmt others) = stmt_nodes stmt + switch_nodes others

abbrev pub functions_nodes : List FunctionDef → ℕ
functions_nodes [] = 0
functions_nodes (first ∷ others) = block_nodes first.body + functions_nodes others

abbrev pub program_nodes : Program → ℕ
program_nodes program = functions_nodes program.functions

-- Three nodes for each byte of the longest text, and for its end: more nodes a program that is read from a text doesn't have.
abbrev pub greatest_nodes : ℕ
greatest_nodes = 3145731
