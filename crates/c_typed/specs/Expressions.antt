-- The types of typed expressions (C17 6.5). A tree that isn't well typed has none.
--
-- Each rule asks what the meaning of its form presumes: operands of one integer type, a pointer to complete objects, arguments of
-- the parameters' types. The conversions of C17 6.3 are nodes of the tree, so that no rule here converts.
use Rattle.std.specs.Prelude.{ℕ, Bool, true, false, not, ◌&&◌, ◌||◌, if◌then◌else◌, List, slice_get, Option, Some, None, bytes_eq}
use Rattle.c_num.specs.declared.BinOp.{BinOp}
use Rattle.c_num.specs.declared.IntType.TheVariants as I
use Rattle.c_num.specs.declared.Relation.{Relation}
use Rattle.c_num.specs.declared.Relation.TheVariants as R
use Rattle.c_num.specs.Types.{is_value}
use Rattle.c_num.specs.Arith.{is_shift}
use Rattle.c_typed.specs.declared.typed.LibraryFunction.{LibraryFunction}
use Rattle.c_typed.specs.declared.typed.LibraryFunction.TheVariants as L
use Rattle.c_typed.specs.Types.{CType, CTypes, Void, Integer, Pointer, Array, Struct, Function, NoTypes, MoreTypes, int, literal_type, same_type, same_types, is_integer, is_pointer, is_object_pointer, is_void_pointer, is_function_pointer, is_void, is_function}
use Rattle.c_typed.specs.Layouts.{StructDef, is_complete, members_by_tag, known_members, member_type}
use Rattle.c_typed.specs.Typed as T
use Rattle.c_typed.specs.Typed.{Value, Object, Designator, Values}
use Rattle.c_typed.specs.Context.{Context, local_type, global_type, function_type, literal_bytes}

-- ---- what rules ask

abbrev pub given : {A B : Type 0} → Option A → (A → Option B) → Option B
given None rule = None
given (Some a) rule = rule a

abbrev pub given_two : {A B C : Type 0} → Option A → Option B → (A → B → Option C) → Option C
given_two first second rule = given first (λ a. given second (rule a))

-- this, where it holds that
abbrev pub where_holds : {A : Type 0} → Bool → A → Option A
where_holds true a = Some a
where_holds false a = None

abbrev pub is_scalar : CType → Bool
is_scalar c_type = is_integer c_type || is_pointer c_type

abbrev pub is_pointer_to_complete : List StructDef → CType → Bool
is_pointer_to_complete structs (Pointer target) = is_complete structs target
is_pointer_to_complete structs _ = false

-- pointers to one type, or one of them to void and the other to objects (C17 6.5.9 paragraph 2)
abbrev pub are_alike : CType → CType → Bool
are_alike a b = is_pointer a && is_pointer b && (same_type a b || (is_void_pointer a && is_object_pointer b) || (is_object_pointer a && is_void_pointer b))

-- pointers to objects convert to each other, and those to functions (C17 6.3.2.3 paragraphs 1, 7, 8)
abbrev pub repoints : CType → CType → Bool
repoints c_type target = if is_function target then is_function_pointer c_type else is_object_pointer c_type

-- pointers that a relation compares (C17 6.5.8 paragraph 2, 6.5.9 paragraph 2)
abbrev pub are_comparable : Relation → CType → CType → Bool
are_comparable R.Eq a b = are_alike a b
are_comparable R.Ne a b = are_alike a b
are_comparable _ a b = is_object_pointer a && same_type a b

-- the right operand of an operator at an integer type: an integer where it shifts, else one of that type (C17 6.5.7)
abbrev pub is_right : BinOp → CType → CType → Bool
is_right op c_type other = if is_shift op then is_integer other else same_type c_type other

-- No unit is spent for a conversion, and so none stands directly around another.
abbrev pub is_conversion : Value → Bool
is_conversion (T.Converted int_type value) = true
is_conversion (T.Repointed place target value) = true
is_conversion (T.MadeNull target value) = true
is_conversion (T.Tested place value) = true
is_conversion _ = false

-- ---- what rules give

-- what a pointer points to, where that is a complete object
abbrev pub pointed : List StructDef → CType → Option CType
pointed structs (Pointer target) = where_holds (is_complete structs target) target
pointed structs _ = None

abbrev pub first_element : CType → Option CType
first_element (Array element n) = where_holds (not (is_function element)) (Pointer element)
first_element _ = None

-- the type of the member of this number (C17 6.5.2.3)
abbrev pub member_of : List StructDef → ℕ → CType → Option CType
member_of structs number (Struct tag) = member_type (slice_get (known_members (members_by_tag structs tag)) number)
member_of structs number _ = None

abbrev pub all_scalar : CTypes → Bool
all_scalar NoTypes = true
all_scalar (MoreTypes first others) = is_scalar first && all_scalar others

-- What a function gives for arguments of these types (C17 6.5.2.2 paragraph 2); it takes scalars, and gives one or nothing. A call whose
-- value isn't used gives nothing: the function may end without one (6.9.1 paragraph 12).
abbrev pub result_of : CTypes → CType → Option CType
result_of arguments (Function result parameters) = where_holds (all_scalar parameters && same_types parameters arguments && (is_scalar result || is_void result)) result
result_of arguments _ = None

-- `free` takes any pointer to objects (C17 7.22.3.3)
abbrev pub library_result : LibraryFunction → CTypes → Option CType
library_result L.Malloc arguments = where_holds (same_types (MoreTypes (Integer I.ULong) NoTypes) arguments) (Pointer Void)
library_result L.Free (MoreTypes first NoTypes) = where_holds (is_object_pointer first) Void
library_result L.Free arguments = None
library_result L.GetChar arguments = where_holds (same_types NoTypes arguments) int
library_result L.PutChar arguments = where_holds (same_types (MoreTypes int NoTypes) arguments) int
library_result L.Exit arguments = where_holds (same_types (MoreTypes int NoTypes) arguments) Void

-- a pointer to complete objects that an integer moves (C17 6.5.6 paragraphs 2, 3)
abbrev pub moved : List StructDef → CType → CType → Option CType
moved structs pointer number = where_holds (is_pointer_to_complete structs pointer && is_integer number) pointer

-- the element of a row (C17 6.5.2.1 paragraph 1)
abbrev pub element : List StructDef → CType → CType → Option CType
element structs pointer number = if is_integer number then pointed structs pointer else None

abbrev pub pointed_function : CType → Option CType
pointed_function (Pointer (Function result parameters)) = Some (Function result parameters)
pointed_function _ = None

-- ---- the types of expressions

module _ (around : Context) where
  abbrev mutual
    pub type_of : Value → Option CType
    type_of (T.Constant int_type z) = where_holds (is_value int_type z) (Integer int_type)
    type_of T.NullPointer = Some (Pointer Void)
    type_of (T.Grouped inner) = type_of inner
    type_of (T.Read place object) = given (type_of_object object) (λ t. where_holds (is_scalar t) t)
    type_of (T.Decay place object) = given (type_of_object object) first_element
    type_of (T.FunctionValue function) = given (type_of_designator function) (λ t. Some (Pointer t))
    type_of (T.Converted int_type value) = given (type_of value) (λ t. where_holds (is_integer t && not (is_conversion value)) (Integer int_type))
    type_of (T.Repointed place target value) = given (type_of value) (λ t. where_holds (repoints t target && not (is_conversion value)) (Pointer target))
    type_of (T.MadeNull target value) = given (type_of value) (λ t. where_holds ((is_integer t || is_void_pointer t) && not (is_conversion value)) (Pointer target))
    type_of (T.Tested place value) = given (type_of value) (λ t. where_holds (is_pointer t && not (is_conversion value)) int)
    type_of (T.Plus operand) = given (type_of operand) (λ t. where_holds (is_integer t) t)
    type_of (T.Minus place int_type operand) = given (type_of operand) (λ t. where_holds (same_type t (Integer int_type)) t)
    type_of (T.Complement int_type operand) = given (type_of operand) (λ t. where_holds (same_type t (Integer int_type)) t)
    type_of (T.Not operand) = given (type_of operand) (λ t. where_holds (is_integer t) int)
    type_of (T.Arithmetic op place int_type left right) = given_two (type_of left) (type_of right) (λ a b. where_holds (same_type a (Integer int_type) && is_right op a b) a)
    type_of (T.Compare relation left right) = given_two (type_of left) (type_of right) (λ a b. where_holds (is_integer a && same_type a b) int)
    type_of (T.ComparePointers relation place left right) = given_two (type_of left) (type_of right) (λ a b. where_holds (are_comparable relation a b) int)
    type_of (T.PointerPlus place pointer number) = given_two (type_of pointer) (type_of number) (moved around.program.structs)
    type_of (T.NumberPlus place number pointer) = given_two (type_of pointer) (type_of number) (moved around.program.structs)
    type_of (T.PointerMinus place pointer number) = given_two (type_of pointer) (type_of number) (moved around.program.structs)
    type_of (T.PointerDifference place left right) = given_two (type_of left) (type_of right) (λ a b. where_holds (is_pointer_to_complete around.program.structs a && same_type a b) (Integer I.Long))
    type_of (T.And left right) = given_two (type_of left) (type_of right) (λ a b. where_holds (is_integer a && is_integer b) int)
    type_of (T.Or left right) = given_two (type_of left) (type_of right) (λ a b. where_holds (is_integer a && is_integer b) int)
    type_of (T.Conditional condition taken otherwise) = given (type_of condition) (λ c. given_two (type_of taken) (type_of otherwise) (λ a b. where_holds (is_integer c && same_type a b) a))
    type_of (T.AddressOf place object) = given (type_of_object object) (λ t. Some (Pointer t))
    type_of (T.AddressOfFunction function) = given (type_of_designator function) (λ t. Some (Pointer t))
    type_of (T.Cast value) = given (type_of value) (λ t. where_holds (is_scalar t) t)
    type_of (T.CastVoid value) = given (type_of value) (λ t. Some Void)
    type_of (T.Assign place object value) = given_two (type_of_object object) (type_of value) (λ a b. where_holds (is_scalar a && same_type a b) a)
    type_of (T.AssignArithmetic op place object_type int_type object value) =
        given_two (type_of_object object) (type_of value) (λ a b. where_holds (same_type a (Integer object_type) && is_right op (Integer int_type) b) a)
    type_of (T.AssignMoved is_minus place object number) = given_two (type_of_object object) (type_of number) (moved around.program.structs)
    type_of (T.StepInteger stepping place int_type object) = given (type_of_object object) (λ t. where_holds (same_type t (Integer int_type)) t)
    type_of (T.StepPointer stepping place object) = given (type_of_object object) (λ t. where_holds (is_pointer_to_complete around.program.structs t) t)
    type_of (T.Call is_used place function c_type arguments) =
        given_two (type_of_designator function) (types_of arguments) (λ t types. given (result_of types t) (λ result. where_holds (same_type t c_type) (if is_used then result else Void)))
    type_of (T.LibraryCall function groups place arguments) = given (types_of arguments) (library_result function)

    pub types_of : Values → Option CTypes
    types_of T.NoValues = Some NoTypes
    types_of (T.MoreValues first others) = given_two (type_of first) (types_of others) (λ t types. Some (MoreTypes t types))

    pub type_of_object : Object → Option CType
    type_of_object (T.Local number) = local_type around.locals number
    type_of_object (T.Global name) = global_type around.program.globals name
    type_of_object (T.Literal place bytes) = given (literal_bytes around.program.literals place) (λ listed. where_holds (bytes_eq listed bytes) (literal_type bytes))
    type_of_object (T.GroupedObject place inner) = type_of_object inner
    type_of_object (T.Pointed place pointer) = given (type_of pointer) (pointed around.program.structs)
    type_of_object (T.Element place pointer number) = given_two (type_of pointer) (type_of number) (element around.program.structs)
    type_of_object (T.ElementOf place number pointer) = given_two (type_of pointer) (type_of number) (element around.program.structs)
    type_of_object (T.MemberOf place object number) = given (type_of_object object) (member_of around.program.structs number)
    type_of_object (T.PointedMember place pointer number) = given (type_of pointer) (λ t. given (pointed around.program.structs t) (member_of around.program.structs number))

    pub type_of_designator : Designator → Option CType
    type_of_designator (T.Function name) = function_type around.program.functions name
    type_of_designator (T.GroupedFunction inner) = type_of_designator inner
    type_of_designator (T.PointedFunction place pointer) = given (type_of pointer) pointed_function
    -- elaboration puts no conversion below a call through a pointer
    type_of_designator (T.ThroughPointer place pointer) = if is_conversion pointer then None else given (type_of pointer) pointed_function
