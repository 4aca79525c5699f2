-- What the operators ask of their operands, and what they give (C17 6.5), where the operands are known.
use Rattle.std.specs.Prelude.{ℕ, Bool, true, false, not, ◌&&◌, ◌||◌, if◌then◌else◌, List, [], ◌∷◌, ◌++◌, Option, Some, None, pos, neg_ℤ, bytes_eq, ◌+◌}
use Rattle.run_theory.specs.declared.place.Pos.{Pos}
use Rattle.c_num.specs.declared.IntType.{IntType}
use Rattle.c_num.specs.declared.IntType.TheVariants as I
use Rattle.c_num.specs.declared.BinOp.{BinOp}
use Rattle.c_num.specs.declared.BinOp.TheVariants as B
use Rattle.c_num.specs.declared.Relation.{Relation}
use Rattle.c_num.specs.declared.Relation.TheVariants as R
use Rattle.c_num.specs.Types.{promoted, common_of}
use Rattle.c_num.specs.Arith.{is_shift, negated_of, complement_of}
use Rattle.c_syntax.specs.declared.operator.PrefixOperator.{PrefixOperator}
use Rattle.c_syntax.specs.declared.operator.PrefixOperator.TheVariants as P
use Rattle.c_syntax.specs.declared.operator.BinaryOperator.{BinaryOperator}
use Rattle.c_syntax.specs.declared.operator.BinaryOperator.TheVariants as O
use Rattle.c_syntax.specs.declared.operator.AssignOperator.{AssignOperator}
use Rattle.c_syntax.specs.declared.operator.AssignOperator.TheVariants as A
use Rattle.c_syntax.specs.Trees.{NameTree}
use Rattle.c_rules.specs.declared.rule.TypeRule.TheVariants as T
use Rattle.c_rules.specs.declared.violation.Violation.{Violation}
use Rattle.c_typed.specs.Types
use Rattle.c_typed.specs.Types.{CType, CTypes, Void, Integer, Pointer, Struct, Function, NoTypes, MoreTypes}
use Rattle.c_typed.specs.Layouts.{MemberDef, is_complete, layout_of, members_by_tag}
use Rattle.c_rules.specs.Names.{Scope, Meaning, NoMeaning, Local, Outer, Library, meaning_of}
use Rattle.c_typed.specs.Names.{contains}
use Rattle.c_rules.specs.Known
use Rattle.c_rules.specs.Known.{Checked, Known, TypedExpr, OfObject, OfFunction, OfLibrary, value_in, value_of_typed, give, unknown, refuse, also, require, with_known, given, given_two, at, unless, as_value, value_of_type, object_at, integer_value, Address, NoAddress, NullAddress, FunctionAddress}
use Rattle.c_rules.specs.declared.constness.Constness.{Constness}
use Rattle.c_rules.specs.declared.constness.Constness.TheVariants.{NotConstant, Constant}
use Rattle.c_typed.specs.Values as values
use Rattle.c_typed.specs.Typed as typed
use Rattle.c_typed.specs.declared.typed.LibraryFunction.TheVariants as L
use Rattle.c_typed.specs.declared.typed.Stepping.{Stepping}
use Rattle.c_typed.specs.declared.typed.Stepping.TheVariants as S
use Rattle.c_typed.specs.Typed.{Value, Object, Values}
use Rattle.c_rules.specs.Constants

-- ---- conversions

-- a pointer converts without a cast
abbrev pub pointer_fits : CType → CType → Bool
pointer_fits target source =
    Types.is_pointer source && (Types.same_type target source || ((Types.is_void_pointer target && Types.is_object_pointer source) || (Types.is_void_pointer source && Types.is_object_pointer target)))

-- A value of this type may be assigned, passed, returned or a first value (C17 6.5.16.1 paragraph 1).
abbrev pub fits : CType → Known → Bool
fits target value =
    (Types.is_integer target && Types.is_integer value.c_type)
    || (Types.is_pointer target && (value.is_null || pointer_fits target value.c_type))

-- a value that fits, converted to the type; where a pointer's conversion may fail, this stands at the place
abbrev pub converted : Pos → CType → Known → Value
converted place (Integer int_type) known = typed.Converted int_type (value_in known)
converted place (Pointer target) known =
    if known.is_null then typed.MadeNull target (value_in known)
    else if Types.same_type (Pointer target) known.c_type then value_in known
    else typed.Repointed place target (value_in known)
converted place c_type known = value_in known

-- a value that is left as it is, but for a null pointer constant, which becomes a pointer to the target
abbrev pub unconverted_value : CType → Known → Value
unconverted_value target known = if known.is_null then typed.MadeNull target (value_in known) else value_in known

-- the value of a call may be left unused there
abbrev pub dropped : Value → Value
dropped (typed.Call is_used place function c_type arguments) = typed.Call false place function c_type arguments
dropped (typed.Grouped inner) = typed.Grouped (dropped inner)
dropped value = value

abbrev pub is_scalar : CType → Bool
is_scalar c_type = Types.is_integer c_type || Types.is_pointer c_type

-- a condition, or an operand of `!`, `&&` and `||`
pub record Condition : Type 0 where
  pub test : Value
  pub constness : Constness

-- of a pointer nothing is constant
abbrev pub condition_of : Pos → Known → Condition
condition_of place known =
    if Types.is_integer known.c_type then record { test = value_in known; constness = known.constness }
    else record { test = typed.Tested place (value_in known); constness = NotConstant }

-- a value that is an integer or a pointer
abbrev pub scalar_rule : Pos → Known → Checked Known
scalar_rule place value = require (is_scalar value.c_type) T.T08 place (give value)

abbrev pub as_scalar : Pos → Checked Known → Checked Known
as_scalar place part = given (as_value place part) (scalar_rule place)

abbrev pub as_condition : Pos → Checked Known → Checked Condition
as_condition place part = given (as_scalar place part) (λ value. give (condition_of place value))

-- a value that is an integer
abbrev pub integer_rule : Pos → Known → Checked Known
integer_rule place value = require (Types.is_integer value.c_type) T.T07 place (give value)

abbrev pub as_integer : Pos → Checked Known → Checked Known
as_integer place part = given (as_value place part) (integer_rule place)

-- a value that is to fit a type
abbrev pub fitting_rule : CType → Pos → Known → Checked Known
fitting_rule target place value = require (fits target value) T.T10 place (give value)

abbrev pub as_fitting : CType → Pos → Checked Known → Checked Known
as_fitting target place value = given value (fitting_rule target place)

abbrev pub int_type_of : CType → IntType
int_type_of (Integer int_type) = int_type
int_type_of _ = I.Int

-- ---- names

abbrev pub of_type : Option CType → (CType → Checked Known) → Checked Known
of_type None rule = unknown
of_type (Some c_type) rule = rule c_type

-- A function outside, which has to be defined somewhere, or an object. One that is not has its declared type all the same.
abbrev pub outer_name : Scope → NameTree → CType → Checked Known
outer_name scope name (Function result parameters) =
    also (unless (contains scope.defined name.bytes) T.T23 name.place)
    (give (record { c_type = Function result parameters; typed = OfFunction (typed.Function name.bytes); constness = NotConstant; is_null = false; address = FunctionAddress name.bytes }))
outer_name scope name c_type = give (object_at c_type (typed.Global name.bytes) (Known.Element (values.StaticVariable name.bytes) [] c_type 1 0))

abbrev pub name_as : Scope → NameTree → Meaning → Checked Known
name_as scope name NoMeaning = refuse T.T03 name.place
name_as scope name (Local number c_type) = of_type c_type (λ known. give (object_at known (typed.Local number) NoAddress))
name_as scope name (Outer c_type) = of_type c_type (outer_name scope name)
name_as scope name (Library function c_type) = refuse T.T23 name.place

-- an identifier (C17 6.5.1 paragraph 2)
abbrev pub named : Scope → NameTree → Checked Known
named scope name = name_as scope name (meaning_of scope name.bytes)

-- ---- pointers

abbrev pub is_pointer_to_complete : Scope → CType → Bool
is_pointer_to_complete scope (Pointer target) = is_complete scope.structs target
is_pointer_to_complete scope _ = false

abbrev pub target_of : CType → CType
target_of (Pointer target) = target
target_of c_type = c_type

-- the element behind a pointer, as this object
abbrev pub element_at : Scope → Pos → Pos → CType → CType → Object → Address → Checked Known
element_at scope whole index_place pointer index object address =
    require (is_pointer_to_complete scope pointer) T.T14 whole (require (Types.is_integer index) T.T07 index_place (give (object_at (target_of pointer) object address)))

abbrev pub element : Scope → Pos → Pos → Object → Known → Known → Checked Known
element scope whole index_place object pointer index = element_at scope whole index_place pointer.c_type index.c_type object (Constants.moved pointer.address index.constness)

-- `a[i]`, where either may be the pointer (C17 6.5.2.1)
abbrev pub indexed : Scope → Pos → Pos → Known → Known → Checked Known
indexed scope left_place right_place left right =
    if not (Types.is_pointer left.c_type) && Types.is_pointer right.c_type then element scope left_place left_place (typed.ElementOf left_place (value_in left) (value_in right)) right left
    else element scope left_place right_place (typed.Element left_place (value_in left) (value_in right)) left right

-- `*p` (C17 6.5.3.2)
abbrev pub dereferenced : Scope → Pos → Known → Checked Known
dereferenced scope whole pointer =
    if Types.is_function_pointer pointer.c_type then give (record pointer { c_type = target_of pointer.c_type; typed = OfFunction (typed.PointedFunction whole (value_in pointer)) })
    else require (is_pointer_to_complete scope pointer.c_type) T.T14 whole (give (object_at (target_of pointer.c_type) (typed.Pointed whole (value_in pointer)) pointer.address))

abbrev pub address_in : Pos → Known → TypedExpr → Checked Known
address_in whole operand (OfObject object) = give (record (value_of_type (Pointer operand.c_type) (typed.AddressOf whole object)) { address = operand.address })
address_in whole operand (OfFunction function) = give (record (value_of_type (Pointer operand.c_type) (typed.AddressOfFunction function)) { address = operand.address })
address_in whole operand _ = refuse T.T09 whole

abbrev pub address_of : Pos → Known → Checked Known
address_of whole operand = address_in whole operand operand.typed

-- a pointer that was moved, as this value at an address
abbrev pub moved_pointer : Scope → Pos → Value → CType → Address → Checked Known
moved_pointer scope whole value c_type address = require (is_pointer_to_complete scope c_type) T.T14 whole (give (record (value_of_type c_type value) { address = address }))

abbrev pub add_number : Scope → Pos → Value → Known → Constness → Checked Known
add_number scope whole value pointer number = moved_pointer scope whole value pointer.c_type (Constants.moved pointer.address number)

-- ---- members (C17 6.5.2.3)

abbrev pub member_at : ℕ → List MemberDef → List ℕ → (ℕ → Object) → Address → Pos → Checked Known
member_at number [] name object from whole = refuse T.T15 whole
member_at number (member ∷ members) name object from whole =
    if bytes_eq member.name name then of_type member.c_type (λ c_type. give (object_at c_type (object number) (Constants.member_address from number c_type)))
    else member_at (number + 1) members name object from whole

abbrev pub member_in : Option (List MemberDef) → List ℕ → (ℕ → Object) → Address → Pos → Checked Known
member_in (Some members) name object from whole = member_at 0 members name object from whole
member_in None name object from whole = refuse T.T15 whole

abbrev pub member_of : Scope → Pos → CType → (ℕ → Object) → Address → NameTree → Checked Known
member_of scope whole (Struct tag) object from member = member_in (members_by_tag scope.structs tag) member.bytes object from whole
member_of scope whole _ object from member = refuse T.T15 whole

-- a structure that stands for an object: a value of that type violates a rule itself
abbrev pub object_in : TypedExpr → Object
object_in (OfObject object) = object
object_in _ = typed.Local 0

abbrev pub object_member : Scope → Pos → NameTree → Known → Checked Known
object_member scope whole member known = member_of scope whole known.c_type (typed.MemberOf whole (object_in known.typed)) known.address member

abbrev pub pointer_member : Scope → Pos → NameTree → Known → Checked Known
pointer_member scope whole member pointer =
    require (is_pointer_to_complete scope pointer.c_type) T.T14 whole
    (member_of scope whole (target_of pointer.c_type) (typed.PointedMember whole (value_in pointer)) pointer.address member)

-- ---- operators of one operand

abbrev pub promoted_type : CType → IntType
promoted_type c_type = promoted (int_type_of c_type)

abbrev pub negated : IntType → Constness → Constness
negated int_type constness = Constants.map_constness (λ z. Constants.outcome_constness (negated_of int_type z)) (Constants.converted int_type constness)

abbrev pub complemented : IntType → Constness → Constness
complemented int_type constness = Constants.map_constness (λ z. Constant (complement_of int_type z)) constness

-- an object that may be assigned to: no array (C17 6.3.2.1 paragraph 1)
abbrev pub is_object : TypedExpr → Bool
is_object (OfObject object) = true
is_object _ = false

abbrev pub is_modifiable : Known → Bool
is_modifiable known = is_object known.typed && not (Types.is_array known.c_type)

abbrev pub modifiable_rule : Pos → Known → Checked Known
modifiable_rule whole object = require (is_modifiable object) T.T09 whole (give object)

abbrev pub step_value : Stepping → Pos → CType → Object → Value
step_value stepping place (Integer int_type) object = typed.StepInteger stepping place int_type object
step_value stepping place _ object = typed.StepPointer stepping place object

-- `++` and `--` (C17 6.5.2.4, 6.5.3.1)
abbrev pub stepped : Scope → Stepping → Pos → Pos → Known → Checked Known
stepped scope stepping whole operand_place operand =
    given (modifiable_rule whole operand) (λ object.
    require (is_scalar object.c_type) T.T07 operand_place
    (require (Types.is_integer object.c_type || is_pointer_to_complete scope object.c_type) T.T14 whole
    (give (value_of_type object.c_type (step_value stepping whole object.c_type (object_in object.typed))))))

abbrev pub not_constness : Constness → Constness
not_constness constness = Constants.map_constness (λ z. Constants.truth (not (values.not_zero z))) constness

abbrev pub logical_not : Condition → Known
logical_not operand = integer_value Types.int (not_constness operand.constness) (typed.Not operand.test)

-- an operand of an integer type, converted by the integer promotions
abbrev pub promoted_value : Known → Value
promoted_value known = typed.Converted (promoted_type known.c_type) (value_in known)

-- an integer with a sign in front, or complemented
abbrev pub with_plus : Known → Known
with_plus value = integer_value (Integer (promoted_type value.c_type)) value.constness (typed.Plus (promoted_value value))

abbrev pub with_minus : Pos → Known → Known
with_minus whole value = integer_value (Integer (promoted_type value.c_type)) (negated (promoted_type value.c_type) value.constness) (typed.Minus whole (promoted_type value.c_type) (promoted_value value))

abbrev pub with_complement : Known → Known
with_complement value = integer_value (Integer (promoted_type value.c_type)) (complemented (promoted_type value.c_type) value.constness) (typed.Complement (promoted_type value.c_type) (promoted_value value))

-- an operator before its operand; the whole stands at the place
abbrev pub prefixed : Scope → PrefixOperator → Pos → Pos → Checked Known → Checked Known
prefixed scope P.Increment whole place operand = given operand (stepped scope S.PreIncrement whole place)
prefixed scope P.Decrement whole place operand = given operand (stepped scope S.PreDecrement whole place)
prefixed scope P.Address whole place operand = given operand (address_of whole)
prefixed scope P.Dereference whole place operand = given (as_value place operand) (dereferenced scope whole)
prefixed scope P.Plus whole place operand = given (as_integer place operand) (λ value. give (with_plus value))
prefixed scope P.Minus whole place operand = given (as_integer place operand) (λ value. give (with_minus whole value))
prefixed scope P.Complement whole place operand = given (as_integer place operand) (λ value. give (with_complement value))
prefixed scope P.Not whole place operand = given (as_scalar place operand) (λ value. give (logical_not (condition_of place value)))

-- the size of an object type (C17 6.5.3.4)
abbrev pub size_value : ℕ → Known
size_value size = integer_value (Integer I.ULong) (Constant (pos size)) (typed.Constant I.ULong (pos size))

abbrev pub size_of : Scope → Pos → CType → Checked Known
size_of scope place c_type = require (is_complete scope.structs c_type) T.T05 place (give (size_value (layout_of scope.structs c_type).size))

-- A cast (C17 6.5.4): an integer constant of value 0 that is cast to `void *` is a null pointer constant, a pointer that is cast
-- is none (C17 6.3.2.3 paragraph 3).
abbrev pub cast_to : Scope → Pos → CType → Known → Checked Known
cast_to scope whole Void value = give (value_of_type Void (typed.CastVoid (dropped (value_in value))))
cast_to scope whole (Integer int_type) value =
    require (Types.is_integer value.c_type) T.T16 whole
    (give (integer_value (Integer int_type) (Constants.converted int_type value.constness) (typed.Cast (typed.Converted int_type (value_in value)))))
cast_to scope whole (Pointer target) value =
    if value.is_null then give (record (value_of_type (Pointer target) (typed.Cast (typed.MadeNull target (value_in value)))) { is_null = Types.is_void target && Types.is_integer value.c_type; address = NullAddress })
    else require ((Types.is_object_pointer (Pointer target) && Types.is_object_pointer value.c_type) || (Types.is_function_pointer (Pointer target) && Types.is_function_pointer value.c_type)) T.T16 whole
    (give (record (value_of_type (Pointer target) (typed.Cast (typed.Repointed whole target (value_in value)))) { address = Constants.address_as scope.completed (Pointer target) value.address }))
cast_to scope whole _ value = refuse T.T16 whole

-- ---- operators of two operands

abbrev pub common_type : Known → Known → IntType
common_type a b = common_of (int_type_of a.c_type) (int_type_of b.c_type)

-- the usual arithmetic conversions, and the operator at their type (C17 6.3.1.8)
abbrev pub arithmetic : BinOp → Pos → Known → Known → Checked Known
arithmetic op whole a b =
    let int_type = common_type a b in
    give (integer_value (Integer int_type) (Constants.arithmetic op int_type (Constants.converted int_type a.constness) (Constants.converted int_type b.constness))
    (typed.Arithmetic op whole int_type (typed.Converted int_type (value_in a)) (typed.Converted int_type (value_in b))))

-- a shift works at the promoted type of its left operand (C17 6.5.7)
abbrev pub shifted : BinOp → Pos → Known → Known → Checked Known
shifted op whole a b =
    let int_type = promoted_type a.c_type in
    give (integer_value (Integer int_type) (Constants.arithmetic op int_type (Constants.converted int_type a.constness) b.constness) (typed.Arithmetic op whole int_type (promoted_value a) (promoted_value b)))

abbrev pub both_integers : Known → Known → Bool
both_integers a b = Types.is_integer a.c_type && Types.is_integer b.c_type

abbrev pub sum : Scope → Pos → Known → Known → Checked Known
sum scope whole a b =
    if both_integers a b then arithmetic B.Add whole a b
    else if Types.is_pointer a.c_type && Types.is_integer b.c_type then add_number scope whole (typed.PointerPlus whole (value_in a) (value_in b)) a b.constness
    else if Types.is_integer a.c_type && Types.is_pointer b.c_type then add_number scope whole (typed.NumberPlus whole (value_in a) (value_in b)) b a.constness
    else refuse T.T11 whole

abbrev pub pointer_difference : Scope → Pos → Known → Known → Checked Known
pointer_difference scope whole a b =
    require (Types.is_pointer a.c_type && Types.same_type a.c_type b.c_type) T.T11 whole
    (require (is_pointer_to_complete scope a.c_type) T.T14 whole (give (value_of_type (Integer I.Long) (typed.PointerDifference whole (value_in a) (value_in b)))))

abbrev pub difference : Scope → Pos → Known → Known → Checked Known
difference scope whole a b =
    if both_integers a b then arithmetic B.Sub whole a b
    else if Types.is_pointer a.c_type && Types.is_integer b.c_type then add_number scope whole (typed.PointerMinus whole (value_in a) (value_in b)) a (Constants.map_constness (λ z. Constant (neg_ℤ z)) b.constness)
    else pointer_difference scope whole a b

abbrev pub compared : Relation → Known → Known → Checked Known
compared relation a b =
    let int_type = common_type a b in
    give (integer_value Types.int (Constants.comparison relation (Constants.converted int_type a.constness) (Constants.converted int_type b.constness))
    (typed.Compare relation (typed.Converted int_type (value_in a)) (typed.Converted int_type (value_in b))))

-- `<` and its like (C17 6.5.8)
abbrev pub ordered : Relation → Pos → Known → Known → Checked Known
ordered relation whole a b =
    if both_integers a b then compared relation a b
    else require (Types.is_object_pointer a.c_type && Types.same_type a.c_type b.c_type) T.T11 whole
    (give (value_of_type Types.int (typed.ComparePointers relation whole (value_in a) (value_in b))))

-- pointers that `==` compares, or between which `?:` chooses
abbrev pub pointers_agree : Known → Known → Bool
pointers_agree a b =
    (Types.is_pointer a.c_type && b.is_null) || ((Types.is_pointer b.c_type && a.is_null)
    || (Types.is_pointer a.c_type && (Types.is_pointer b.c_type && (Types.same_type a.c_type b.c_type
    || ((Types.is_void_pointer a.c_type && Types.is_object_pointer b.c_type) || (Types.is_void_pointer b.c_type && Types.is_object_pointer a.c_type))))))

-- the type of both, where they agree
abbrev pub agreed_pointer : Known → Known → CType
agreed_pointer a b =
    if Types.is_pointer a.c_type && b.is_null then (if a.is_null && Types.is_pointer b.c_type then b.c_type else a.c_type)
    else if Types.is_pointer b.c_type && a.is_null then b.c_type
    else if Types.same_type a.c_type b.c_type then a.c_type
    else Pointer Void

-- `==` and `!=` (C17 6.5.9): neither pointer is converted to the type of the other, but for a null pointer constant
abbrev pub equated : Relation → Pos → Known → Known → Checked Known
equated relation whole a b =
    if both_integers a b then compared relation a b
    else require (pointers_agree a b) T.T11 whole
    (give (value_of_type Types.int (typed.ComparePointers relation whole (unconverted_value (target_of (agreed_pointer a b)) a) (unconverted_value (target_of (agreed_pointer a b)) b))))

-- `&&` and `||` (C17 6.5.13, 6.5.14)
abbrev pub both : Condition → Condition → Known
both a b = integer_value Types.int (Constants.conjunction a.constness b.constness) (typed.And a.test b.test)

abbrev pub either : Condition → Condition → Known
either a b = integer_value Types.int (Constants.disjunction a.constness b.constness) (typed.Or a.test b.test)

-- what an operator between two operands asks of each: an integer, any value, or a scalar
pub data OperandKind : Type 0 where
  AnInteger AnyValue AScalar : OperandKind

abbrev pub operand_kind : BinaryOperator → OperandKind
operand_kind O.Add = AnyValue
operand_kind O.Subtract = AnyValue
operand_kind O.Less = AnyValue
operand_kind O.Greater = AnyValue
operand_kind O.LessEqual = AnyValue
operand_kind O.GreaterEqual = AnyValue
operand_kind O.Equal = AnyValue
operand_kind O.NotEqual = AnyValue
operand_kind O.And = AScalar
operand_kind O.Or = AScalar
operand_kind _ = AnInteger

abbrev pub operand : OperandKind → Pos → Checked Known → Checked Known
operand AnInteger place part = as_integer place part
operand AnyValue place part = as_value place part
operand AScalar place part = as_scalar place part

-- what it gives of both; the whole stands where the left one does
abbrev pub combined : Scope → BinaryOperator → Pos → Pos → Known → Known → Checked Known
combined scope O.Multiply whole right_place a b = arithmetic B.Mul whole a b
combined scope O.Divide whole right_place a b = arithmetic B.Div whole a b
combined scope O.Remainder whole right_place a b = arithmetic B.Rem whole a b
combined scope O.Add whole right_place a b = sum scope whole a b
combined scope O.Subtract whole right_place a b = difference scope whole a b
combined scope O.ShiftLeft whole right_place a b = shifted B.Shl whole a b
combined scope O.ShiftRight whole right_place a b = shifted B.Shr whole a b
combined scope O.Less whole right_place a b = ordered R.Lt whole a b
combined scope O.Greater whole right_place a b = ordered R.Gt whole a b
combined scope O.LessEqual whole right_place a b = ordered R.Le whole a b
combined scope O.GreaterEqual whole right_place a b = ordered R.Ge whole a b
combined scope O.Equal whole right_place a b = equated R.Eq whole a b
combined scope O.NotEqual whole right_place a b = equated R.Ne whole a b
combined scope O.BitAnd whole right_place a b = arithmetic B.And whole a b
combined scope O.BitXor whole right_place a b = arithmetic B.Xor whole a b
combined scope O.BitOr whole right_place a b = arithmetic B.Or whole a b
combined scope O.And whole right_place a b = give (both (condition_of whole a) (condition_of right_place b))
combined scope O.Or whole right_place a b = give (either (condition_of whole a) (condition_of right_place b))

-- an operator between its operands, whose first tokens stand at these places, the left one's being the whole's
abbrev pub binary : Scope → BinaryOperator → Pos → Pos → Checked Known → Checked Known → Checked Known
binary scope operator place right_place left right =
    given_two (operand (operand_kind operator) place left) (operand (operand_kind operator) right_place right) (combined scope operator place right_place)

-- ---- `?:` (C17 6.5.15)

abbrev pub integer_choice : Condition → Known → Known → Checked Known
integer_choice condition a b =
    let int_type = common_type a b in
    give (integer_value (Integer int_type) (Constants.conditional condition.constness (Constants.converted int_type a.constness) (Constants.converted int_type b.constness))
    (typed.Conditional condition.test (typed.Converted int_type (value_in a)) (typed.Converted int_type (value_in b))))

abbrev pub choice : Pos → Condition → Known → Known → Checked Known
choice whole condition a b =
    if both_integers a b then integer_choice condition a b
    else if Types.is_void a.c_type && Types.is_void b.c_type then give (value_of_type Void (typed.Conditional condition.test (value_in a) (value_in b)))
    else require (pointers_agree a b) T.T11 whole
    (give (value_of_type (agreed_pointer a b) (typed.Conditional condition.test (converted whole (agreed_pointer a b) a) (converted whole (agreed_pointer a b) b))))

-- ---- assignments (C17 6.5.16)

-- the operator of a compound assignment
abbrev pub operator_of : AssignOperator → Option BinOp
operator_of A.Assign = None
operator_of A.Multiply = Some B.Mul
operator_of A.Divide = Some B.Div
operator_of A.Remainder = Some B.Rem
operator_of A.Add = Some B.Add
operator_of A.Subtract = Some B.Sub
operator_of A.ShiftLeft = Some B.Shl
operator_of A.ShiftRight = Some B.Shr
operator_of A.BitAnd = Some B.And
operator_of A.BitXor = Some B.Xor
operator_of A.BitOr = Some B.Or

-- `+=` and `-=` move pointers
abbrev pub moves_pointers : BinOp → Bool
moves_pointers B.Add = true
moves_pointers B.Sub = true
moves_pointers _ = false

abbrev pub is_subtraction : BinOp → Bool
is_subtraction B.Sub = true
is_subtraction _ = false

-- the object of a compound assignment
abbrev pub compound_object : Scope → BinOp → Pos → Known → Checked Known
compound_object scope op place object =
    if moves_pointers op && Types.is_pointer object.c_type then require (is_pointer_to_complete scope object.c_type) T.T14 place (give object)
    else require (Types.is_integer object.c_type) T.T07 place (give object)

-- what is assigned to, by the operator where there is one
abbrev pub assigned_object : Scope → Option BinOp → Pos → Checked Known → Checked Known
assigned_object scope None place object = given object (modifiable_rule place)
assigned_object scope (Some op) place object = given (given object (modifiable_rule place)) (compound_object scope op place)

-- what is assigned, or the right operand
abbrev pub assigned_value : Option BinOp → Pos → Checked Known → Checked Known
assigned_value None place part = as_value place part
assigned_value (Some op) place part = as_integer place part

abbrev pub compound_integer : BinOp → Pos → IntType → Object → Known → Value
compound_integer op whole object_type object value =
    if is_shift op then typed.AssignArithmetic op whole object_type (promoted object_type) object (promoted_value value)
    else (let int_type = common_of object_type (int_type_of value.c_type) in typed.AssignArithmetic op whole object_type int_type object (typed.Converted int_type (value_in value)))

abbrev pub compound_value : BinOp → Pos → CType → Object → Known → Value
compound_value op whole (Integer object_type) object value = compound_integer op whole object_type object value
compound_value op whole _ object value = typed.AssignMoved (is_subtraction op) whole object (value_in value)

abbrev pub assignment : Option BinOp → Pos → Pos → Known → Known → Checked Known
assignment None whole value_place left right =
    require (fits left.c_type right) T.T10 value_place (give (value_of_type left.c_type (typed.Assign whole (object_in left.typed) (converted whole left.c_type right))))
assignment (Some op) whole value_place left right = give (value_of_type left.c_type (compound_value op whole left.c_type (object_in left.typed) right))

abbrev pub assigned : Scope → AssignOperator → Pos → Pos → Checked Known → Checked Known → Checked Known
assigned scope operator place value_place object value =
    given_two (assigned_object scope (operator_of operator) place object) (assigned_value (operator_of operator) value_place value) (assignment (operator_of operator) place value_place)

-- ---- calls (C17 6.5.2.2)

-- the place of an argument's first token, and its value where that is known
pub record ArgumentValue : Type 0 where
  pub place : Pos
  pub value : Option Known

-- the arguments of a call, and what they violate
pub record Arguments : Type 0 where
  pub found : List Violation
  pub values : List ArgumentValue

abbrev pub no_arguments : Arguments
no_arguments = record { found = []; values = [] }

abbrev pub with_argument : Pos → Checked Known → Arguments → Arguments
with_argument place first others = record { found = first.found ++ others.found; values = record { place = place; value = first.known } ∷ others.values }

abbrev pub as_many : CTypes → List ArgumentValue → Bool
as_many NoTypes [] = true
as_many (MoreTypes first others) (argument ∷ arguments) = as_many others arguments
as_many _ _ = false

-- an argument converted to a parameter's type
abbrev pub passed_rule : Pos → Pos → CType → Known → Checked Value
passed_rule whole place first known = require (fits first known) T.T10 place (give (converted whole first known))

-- all arguments fit, and are converted to the parameters' types
abbrev pub passed : Pos → CTypes → List ArgumentValue → Checked Values
passed whole (MoreTypes first others) (argument ∷ arguments) =
    given_two (with_known argument.value (passed_rule whole argument.place first)) (passed whole others arguments) (λ value values. give (typed.MoreValues value values))
passed whole _ _ = give typed.NoValues

-- what `free` is given needs no conversion
abbrev pub unconverted_argument : Option Known → Value
unconverted_argument None = typed.NullPointer
unconverted_argument (Some known) = unconverted_value Void known

abbrev pub unconverted : List ArgumentValue → Values
unconverted [] = typed.NoValues
unconverted (argument ∷ arguments) = typed.MoreValues (unconverted_argument argument.value) (unconverted arguments)

abbrev pub is_free : TypedExpr → Bool
is_free (OfLibrary L.Free groups) = true
is_free _ = false

-- the call of what the called expression stands for, which may be an array
abbrev pub call_of : Pos → Bool → TypedExpr → CType → Values → Value
call_of whole is_array (OfLibrary function groups) c_type given = typed.LibraryCall function groups whole given
call_of whole is_array (OfFunction function) c_type given = typed.Call true whole function c_type given
call_of whole is_array expression c_type given = typed.Call true whole (typed.ThroughPointer whole (value_of_typed whole is_array expression)) c_type given

abbrev pub call_value : Pos → Known → CType → List ArgumentValue → Values → Value
call_value whole function c_type arguments given = call_of whole (Types.is_array function.c_type) function.typed c_type (if is_free function.typed then unconverted arguments else given)

abbrev pub called_as : Pos → Known → CType → List ArgumentValue → Checked Known
called_as whole function (Pointer (Function result parameters)) arguments =
    require (as_many parameters arguments) T.T13 whole
    (given (passed whole parameters arguments) (λ values. give (value_of_type result (call_value whole function (Function result parameters) arguments values))))
called_as whole function _ arguments = refuse T.T12 whole

abbrev pub call_rule : Pos → Known → List ArgumentValue → Checked Known
call_rule whole known arguments = also (unless (not (Types.is_struct known.c_type)) T.T19 whole) (called_as whole known (Types.decayed known.c_type) arguments)

abbrev pub call : Pos → Checked Known → Arguments → Checked Known
call whole function arguments = also arguments.found (given function (λ known. call_rule whole known arguments.values))
