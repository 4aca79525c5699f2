-- How many nodes the graph of a function begins with: one for each of its parameters and locals, and one for each of its expressions of
-- pointer, array or function type. The name of a called function is such an expression, and one in parentheses counts beside the one
-- in them; operands of `sizeof` are no part of a typed tree.
use Rattle.std.specs.Prelude.{ℕ, suc, ◌+◌, ◌||◌, Bool, if◌then◌else◌, List, [], ◌∷◌, ◌++◌, length, map, Option, Some, None}
use Rattle.c_typed.specs.Types.{CType, is_pointer, is_array, is_function}
use Rattle.c_typed.specs.Typed as T
use Rattle.c_typed.specs.Typed.{Value, Object, Designator, Values, Stmt, Block, SwitchItems, LocalDef, ForStart, FunctionDef, Program}
use Rattle.c_typed.specs.Context.{global_type, function_type}
use Rattle.dsa_bottom_up.specs.ExpressionTypes.{Surroundings, value_type, object_type, library_type, returned_by}

abbrev pub is_counted : CType → Bool
is_counted c_type = is_pointer c_type || (is_array c_type || is_function c_type)

-- an expression of this type
abbrev pub point : CType → ℕ
point c_type = if is_counted c_type then 1 else 0

-- Reads of objects, uses of arrays and functions, and conversions are no expressions of the text.
module _ (around : Surroundings) where
  abbrev mutual
    pub counted_value : Value → ℕ
    counted_value (T.Constant int_type z) = 0
    counted_value T.NullPointer = 1
    counted_value (T.Grouped inner) = point (value_type around inner) + counted_value inner
    counted_value (T.Read place object) = counted_object object
    counted_value (T.Decay place object) = counted_object object
    counted_value (T.FunctionValue function) = counted_designator function
    counted_value (T.Converted int_type value) = counted_value value
    counted_value (T.Repointed place target value) = counted_value value
    counted_value (T.MadeNull target value) = counted_value value
    counted_value (T.Tested place value) = counted_value value
    counted_value (T.Plus operand) = point (value_type around operand) + counted_value operand
    counted_value (T.Minus place int_type operand) = point (value_type around operand) + counted_value operand
    counted_value (T.Complement int_type operand) = point (value_type around operand) + counted_value operand
    counted_value (T.Not operand) = counted_value operand
    counted_value (T.Arithmetic op place int_type left right) = point (value_type around left) + (counted_value left + counted_value right)
    counted_value (T.Compare relation left right) = counted_value left + counted_value right
    counted_value (T.ComparePointers relation place left right) = counted_value left + counted_value right
    counted_value (T.PointerPlus place pointer number) = point (value_type around pointer) + (counted_value pointer + counted_value number)
    counted_value (T.NumberPlus place number pointer) = point (value_type around pointer) + (counted_value pointer + counted_value number)
    counted_value (T.PointerMinus place pointer number) = point (value_type around pointer) + (counted_value pointer + counted_value number)
    counted_value (T.PointerDifference place left right) = counted_value left + counted_value right
    counted_value (T.And left right) = counted_value left + counted_value right
    counted_value (T.Or left right) = counted_value left + counted_value right
    counted_value (T.Conditional condition taken otherwise) = point (value_type around taken) + (counted_value condition + (counted_value taken + counted_value otherwise))
    counted_value (T.AddressOf place object) = suc (counted_object object)
    counted_value (T.AddressOfFunction function) = suc (counted_designator function)
    counted_value (T.Cast value) = point (value_type around value) + counted_value value
    counted_value (T.CastVoid value) = counted_value value
    counted_value (T.Assign place object value) = point (object_type around object) + (counted_object object + counted_value value)
    counted_value (T.AssignArithmetic op place own int_type object value) = point (object_type around object) + (counted_object object + counted_value value)
    counted_value (T.AssignMoved is_minus place object number) = point (object_type around object) + (counted_object object + counted_value number)
    counted_value (T.StepInteger stepping place int_type object) = point (object_type around object) + counted_object object
    counted_value (T.StepPointer stepping place object) = point (object_type around object) + counted_object object
    counted_value (T.Call is_used place function c_type arguments) = point (returned_by c_type) + (counted_designator function + counted_values arguments)
    -- its name counts, and so does each of the parentheses around that
    counted_value (T.LibraryCall function groups place arguments) = point (library_type function) + (suc groups + counted_values arguments)

    pub counted_values : Values → ℕ
    counted_values T.NoValues = 0
    counted_values (T.MoreValues first others) = counted_value first + counted_values others

    pub counted_object : Object → ℕ
    counted_object (T.Local number) = point (object_type around (T.Local number))
    counted_object (T.Global name) = point (object_type around (T.Global name))
    counted_object (T.Literal place bytes) = 1
    counted_object (T.GroupedObject place inner) = point (object_type around inner) + counted_object inner
    counted_object (T.Pointed place pointer) = point (object_type around (T.Pointed place pointer)) + counted_value pointer
    counted_object (T.Element place pointer number) = point (object_type around (T.Element place pointer number)) + (counted_value pointer + counted_value number)
    counted_object (T.ElementOf place number pointer) = point (object_type around (T.ElementOf place number pointer)) + (counted_value pointer + counted_value number)
    counted_object (T.MemberOf place object number) = point (object_type around (T.MemberOf place object number)) + counted_object object
    counted_object (T.PointedMember place pointer number) = point (object_type around (T.PointedMember place pointer number)) + counted_value pointer

    -- an expression of function type; a pointer that is called is none
    pub counted_designator : Designator → ℕ
    counted_designator (T.Function name) = 1
    counted_designator (T.GroupedFunction inner) = suc (counted_designator inner)
    counted_designator (T.PointedFunction place pointer) = suc (counted_value pointer)
    counted_designator (T.ThroughPointer place pointer) = counted_value pointer

  abbrev pub counted_optional : Option Value → ℕ
  counted_optional None = 0
  counted_optional (Some value) = counted_value value

-- ---- locals

abbrev pub with_local : CType → Surroundings → Surroundings
with_local c_type around = record around { locals = around.locals ++ c_type ∷ [] }

-- a local, whose first value stands in its own scope (C17 6.2.1 paragraph 7)
abbrev pub counted_local : Surroundings → LocalDef → ℕ
counted_local around local = suc (counted_optional (with_local local.c_type around) local.first)

abbrev pub counted_locals : Surroundings → List LocalDef → ℕ
counted_locals around [] = 0
counted_locals around (first ∷ others) = counted_local around first + counted_locals (with_local first.c_type around) others

abbrev pub with_locals : List LocalDef → Surroundings → Surroundings
with_locals [] around = around
with_locals (first ∷ others) around = with_locals others (with_local first.c_type around)

abbrev pub counted_start : Surroundings → ForStart → ℕ
counted_start around T.StartNothing = 0
counted_start around (T.StartValue value) = counted_value around value
counted_start around (T.StartLocals locals) = counted_locals around locals

abbrev pub with_start : ForStart → Surroundings → Surroundings
with_start (T.StartLocals locals) around = with_locals locals around
with_start _ around = around

-- ---- statements

abbrev mutual
  pub counted_stmt : Surroundings → Stmt → ℕ
  counted_stmt around (T.BlockStmt items) = counted_block around items
  counted_stmt around T.Empty = 0
  counted_stmt around (T.Expression value) = counted_value around value
  counted_stmt around (T.If condition taken) = counted_value around condition + counted_stmt around taken
  counted_stmt around (T.IfElse condition taken otherwise) = counted_value around condition + (counted_stmt around taken + counted_stmt around otherwise)
  counted_stmt around (T.While condition body) = counted_value around condition + counted_stmt around body
  counted_stmt around (T.DoWhile body condition) = counted_value around condition + counted_stmt around body
  counted_stmt around (T.For start condition step body) =
      counted_start around start + (counted_optional (with_start start around) condition + (counted_optional (with_start start around) step + counted_stmt (with_start start around) body))
  counted_stmt around (T.Switch value items) = counted_value around value + counted_items around items
  counted_stmt around T.Break = 0
  counted_stmt around T.Continue = 0
  counted_stmt around (T.Return value) = counted_optional around value

  pub counted_block : Surroundings → Block → ℕ
  counted_block around T.Close = 0
  counted_block around (T.Declare local others) = counted_local around local + counted_block (with_local local.c_type around) others
  counted_block around (T.Perform stmt others) = counted_stmt around stmt + counted_block around others

  pub counted_items : Surroundings → SwitchItems → ℕ
  counted_items around T.SwitchEnd = 0
  counted_items around (T.Case label others) = counted_items around others
  counted_items around (T.Default others) = counted_items around others
  counted_items around (T.SwitchStmt stmt others) = counted_stmt around stmt + counted_items around others

-- ---- functions

-- in a program, where these locals are in scope
abbrev pub within : Program → List CType → Surroundings
within program locals = record { structs = program.structs; locals = locals; variable_type = global_type program.globals; function_type = function_type program.functions }

-- the parameters are the first locals
abbrev pub counted_function : Program → FunctionDef → ℕ
counted_function program function = length function.parameters + counted_block (within program function.parameters) function.body

abbrev pub counted_functions : Program → List ℕ
counted_functions program = map (counted_function program) program.functions
