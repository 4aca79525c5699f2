-- The types of the expressions of a text, by their typed trees (C17 6.5). Of a well typed tree it is the type that the tree has, but
-- for a call: its type is what the function returns, whether that is used or not.
use Rattle.std.specs.Prelude.{ℕ, List, slice_get, Option, Some, None}
use Rattle.c_num.specs.declared.IntType.TheVariants as I
use Rattle.c_typed.specs.declared.typed.LibraryFunction.{LibraryFunction}
use Rattle.c_typed.specs.declared.typed.LibraryFunction.TheVariants as L
use Rattle.c_typed.specs.Types.{CType, Void, Integer, Pointer, Function, int, literal_type, decayed}
use Rattle.c_typed.specs.Layouts.{StructDef}
use Rattle.c_typed.specs.Typed as T
use Rattle.c_typed.specs.Typed.{Value, Object, Designator}
use Rattle.c_typed.specs.Expressions.{member_of}

-- what names and tags stand for: the structures, the locals in scope, the oldest first, so that a local's number is its place, the
-- variables outside functions, and the functions
pub record Surroundings : Type 0 where
  pub structs : List StructDef
  pub locals : List CType
  pub variable_type : List ℕ → Option CType
  pub function_type : List ℕ → Option CType

-- the type, where there is one
abbrev pub type_or_void : Option CType → CType
type_or_void None = Void
type_or_void (Some c_type) = c_type

abbrev pub target_of : CType → CType
target_of (Pointer target) = target
target_of _ = Void

abbrev pub returned_by : CType → CType
returned_by (Function result parameters) = result
returned_by _ = Void

abbrev pub library_type : LibraryFunction → CType
library_type L.Malloc = Pointer Void
library_type L.Free = Void
library_type L.GetChar = int
library_type L.PutChar = int
library_type L.Exit = Void

module _ (around : Surroundings) where
  abbrev mutual
    pub value_type : Value → CType
    value_type (T.Constant int_type z) = Integer int_type
    value_type T.NullPointer = Pointer Void
    value_type (T.Grouped inner) = value_type inner
    value_type (T.Read place object) = object_type object
    value_type (T.Decay place object) = decayed (object_type object)
    value_type (T.FunctionValue function) = Pointer (designator_type function)
    value_type (T.Converted int_type value) = Integer int_type
    value_type (T.Repointed place target value) = Pointer target
    value_type (T.MadeNull target value) = Pointer target
    value_type (T.Tested place value) = int
    value_type (T.Plus operand) = value_type operand
    value_type (T.Minus place int_type operand) = value_type operand
    value_type (T.Complement int_type operand) = value_type operand
    value_type (T.Not operand) = int
    value_type (T.Arithmetic op place int_type left right) = value_type left
    value_type (T.Compare relation left right) = int
    value_type (T.ComparePointers relation place left right) = int
    value_type (T.PointerPlus place pointer number) = value_type pointer
    value_type (T.NumberPlus place number pointer) = value_type pointer
    value_type (T.PointerMinus place pointer number) = value_type pointer
    value_type (T.PointerDifference place left right) = Integer I.Long
    value_type (T.And left right) = int
    value_type (T.Or left right) = int
    value_type (T.Conditional condition taken otherwise) = value_type taken
    value_type (T.AddressOf place object) = Pointer (object_type object)
    value_type (T.AddressOfFunction function) = Pointer (designator_type function)
    value_type (T.Cast value) = value_type value
    value_type (T.CastVoid value) = Void
    value_type (T.Assign place object value) = object_type object
    value_type (T.AssignArithmetic op place own int_type object value) = object_type object
    value_type (T.AssignMoved is_minus place object number) = object_type object
    value_type (T.StepInteger stepping place int_type object) = object_type object
    value_type (T.StepPointer stepping place object) = object_type object
    value_type (T.Call is_used place function c_type arguments) = returned_by c_type
    value_type (T.LibraryCall function groups place arguments) = library_type function

    pub object_type : Object → CType
    object_type (T.Local number) = type_or_void (slice_get around.locals number)
    object_type (T.Global name) = type_or_void (around.variable_type name)
    object_type (T.Literal place bytes) = literal_type bytes
    object_type (T.GroupedObject place inner) = object_type inner
    object_type (T.Pointed place pointer) = target_of (value_type pointer)
    object_type (T.Element place pointer number) = target_of (value_type pointer)
    object_type (T.ElementOf place number pointer) = target_of (value_type pointer)
    object_type (T.MemberOf place object number) = type_or_void (member_of around.structs number (object_type object))
    object_type (T.PointedMember place pointer number) = type_or_void (member_of around.structs number (target_of (value_type pointer)))

    pub designator_type : Designator → CType
    designator_type (T.Function name) = type_or_void (around.function_type name)
    designator_type (T.GroupedFunction inner) = designator_type inner
    designator_type (T.PointedFunction place pointer) = target_of (value_type pointer)
    designator_type (T.ThroughPointer place pointer) = target_of (value_type pointer)
