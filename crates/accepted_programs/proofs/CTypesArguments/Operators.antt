-- Operators give narrow types of narrow ones, and calls of few arguments.
use Rattle.std.proofs.Common.{ℕ, ◌+◌, ◌&&◌, cond, List, [], ◌∷◌, Option, Some, None, bytes_eq}
use Rattle.run_theory.specs.declared.place.Pos.{Pos}
use Rattle.c_num.specs.declared.BinOp.{BinOp}
use Rattle.c_num.specs.declared.BinOp.TheVariants as B
use Rattle.c_num.specs.declared.Relation.{Relation}
use Rattle.c_num.specs.declared.Relation.TheVariants as R
use Rattle.c_num.specs.Arith.{is_shift}
use Rattle.c_syntax.specs.Trees.{NameTree}
use Rattle.c_syntax.specs.declared.operator.PrefixOperator.{PrefixOperator}
use Rattle.c_syntax.specs.declared.operator.PrefixOperator.TheVariants as P
use Rattle.c_syntax.specs.declared.operator.BinaryOperator.{BinaryOperator}
use Rattle.c_syntax.specs.declared.operator.BinaryOperator.TheVariants as O
use Rattle.c_syntax.specs.declared.operator.AssignOperator.{AssignOperator}
use Rattle.c_rules.specs.declared.rule.TypeRule.TheVariants as T
use Rattle.c_typed.specs.Types
use Rattle.c_typed.specs.Types.{CType, Void, Integer, Pointer, Array, Struct, Function}
use Rattle.c_typed.specs.Layouts.{StructDef, MemberDef, members_by_tag}
use Rattle.c_typed.specs.Typed as typed
use Rattle.c_typed.specs.Typed.{Value, Object}
use Rattle.c_typed.specs.declared.typed.Stepping.{Stepping}
use Rattle.c_typed.specs.declared.typed.Stepping.TheVariants as S
use Rattle.c_typed.specs.TypedArguments.{ValueFew, ObjectFew}
use Rattle.c_rules.specs.Names.{Scope}
use Rattle.c_rules.specs.Known.{Checked, Known, TypedExpr, OfValue, OfObject, OfFunction, OfLibrary, Address, give, refuse, require, given, as_value, value_in, value_of_type, object_at}
use Rattle.c_rules.specs.Constants
use Rattle.c_rules.specs.Operators
use Rattle.c_rules.specs.Operators.{Condition, target_of, object_in}
use Rattle.accepted_programs.specs.Small.{IfKnown, Knows, Every}
use Rattle.accepted_programs.specs.Narrow.{IsNarrow, MemberNarrow, StructNarrow, NarrowNames, TypedFew, KnownNarrow}
use Rattle.accepted_programs.proofs.CTypesSizes.Holding.{by_test, chosen, gives, refuses, required, of_part, of_two}
use Rattle.accepted_programs.proofs.CTypesArguments.Types.{target_narrow}
use Rattle.accepted_programs.proofs.CTypesArguments.Operands.{TestNarrow, in_narrow, object_narrow, as_value_narrow, as_integer_narrow, as_scalar_narrow, operand_narrow, condition_narrow, converted_narrow, unconverted_narrow}

-- something narrow, where it is known
abbrev pub Narrow : Checked Known → Type 0
Narrow checked = Knows KnownNarrow checked

in_both : (a b : Known) → KnownNarrow a → KnownNarrow b → (ValueFew (value_in a) × ValueFew (value_in b))
in_both a b one other = (in_narrow a one, in_narrow b other)

-- ---- pointers

element_at_narrow : (scope : Scope) (whole place : Pos) (pointer index : CType) (object : Object) (kept : Address) → IsNarrow pointer → ObjectFew object
    → Narrow (Operators.element_at scope whole place pointer index object kept)
element_at_narrow scope whole place pointer index object kept narrow of_object =
    required _ T.T14 whole _ (required _ T.T07 place _ (gives _ (target_narrow pointer narrow, of_object)))

pub indexed_narrow : (scope : Scope) (left_place right_place : Pos) (left right : Known) → KnownNarrow left → KnownNarrow right → Narrow (Operators.indexed scope left_place right_place left right)
indexed_narrow scope left_place right_place left right one other =
    chosen _ _ _ (element_at_narrow scope left_place left_place right.c_type left.c_type _ _ other.0 (in_both left right one other))
    (element_at_narrow scope left_place right_place left.c_type right.c_type _ _ one.0 (in_both left right one other))

pub dereferenced_narrow : (scope : Scope) (whole : Pos) (pointer : Known) → KnownNarrow pointer → Narrow (Operators.dereferenced scope whole pointer)
dereferenced_narrow scope whole pointer narrow =
    chosen _ _ _ (gives _ (target_narrow pointer.c_type narrow.0, in_narrow pointer narrow))
    (required _ T.T14 whole _ (gives _ (target_narrow pointer.c_type narrow.0, in_narrow pointer narrow)))

pub address_narrow : (whole : Pos) (operand : Known) (expression : TypedExpr) → IsNarrow operand.c_type → TypedFew expression → Narrow (Operators.address_in whole operand expression)
address_narrow whole operand (OfValue value) narrow of_it = refuses _ _
address_narrow whole operand (OfObject object) narrow of_it = gives _ (narrow, of_it)
address_narrow whole operand (OfFunction function) narrow of_it = gives _ (narrow, of_it)
address_narrow whole operand (OfLibrary function groups) narrow of_it = refuses _ _

moved_narrow : (scope : Scope) (whole : Pos) (value : Value) (c_type : CType) (kept : Address) → IsNarrow c_type → ValueFew value → Narrow (Operators.moved_pointer scope whole value c_type kept)
moved_narrow scope whole value c_type kept narrow of_value = required _ T.T14 whole _ (gives _ (narrow, of_value))

-- ---- members

of_type_narrow : (known : Option CType) (object : Object) (at : CType → Address) → IfKnown IsNarrow known → ObjectFew object → Narrow (Operators.of_type known (λ c_type. give (object_at c_type object (at c_type))))
of_type_narrow None object at narrow of_object = record { holds = tt }
of_type_narrow (Some c_type) object at narrow of_object = gives _ (narrow, of_object)

member_at_narrow : (number : ℕ) (members : List MemberDef) → Every MemberNarrow members → (name : List ℕ) (object : ℕ → Object) (from : Address) (whole : Pos) → ((n : ℕ) → ObjectFew (object n))
    → Narrow (Operators.member_at number members name object from whole)
member_at_narrow number [] narrow name object from whole of_object = refuses _ _
member_at_narrow number (member ∷ members) narrow name object from whole of_object =
    chosen (bytes_eq member.name name) _ _ (of_type_narrow member.c_type (object number) _ narrow.0 (of_object number)) (member_at_narrow (number + 1) members narrow.1 name object from whole of_object)

member_in_narrow : (members : Option (List MemberDef)) → IfKnown (Every MemberNarrow) members → (name : List ℕ) (object : ℕ → Object) (from : Address) (whole : Pos) → ((n : ℕ) → ObjectFew (object n))
    → Narrow (Operators.member_in members name object from whole)
member_in_narrow None narrow name object from whole of_object = refuses _ _
member_in_narrow (Some members) narrow name object from whole of_object = member_at_narrow 0 members narrow name object from whole of_object

pub tag_narrow : (all : List StructDef) → Every StructNarrow all → (tag : List ℕ) → IfKnown (Every MemberNarrow) (members_by_tag all tag)
tag_narrow [] narrow tag = tt
tag_narrow (newest ∷ others) narrow tag = by_test (IfKnown (Every MemberNarrow)) (bytes_eq newest.tag tag) (Some newest.members) (members_by_tag others tag) narrow.0 (tag_narrow others narrow.1 tag)

member_of_narrow : (scope : Scope) → NarrowNames scope → (whole : Pos) (t : CType) (object : ℕ → Object) (from : Address) (member : NameTree) → ((n : ℕ) → ObjectFew (object n))
    → Narrow (Operators.member_of scope whole t object from member)
member_of_narrow scope names whole Void object from member of_object = refuses _ _
member_of_narrow scope names whole (Integer t) object from member of_object = refuses _ _
member_of_narrow scope names whole (Pointer t) object from member of_object = refuses _ _
member_of_narrow scope names whole (Array t n) object from member of_object = refuses _ _
member_of_narrow scope names whole (Function t ts) object from member of_object = refuses _ _
member_of_narrow scope names whole (Struct tag) object from member of_object =
    member_in_narrow (members_by_tag scope.structs tag) (tag_narrow scope.structs names.members tag) member.bytes object from whole of_object

pub object_member_narrow : (scope : Scope) → NarrowNames scope → (whole : Pos) (member : NameTree) (known : Known) → KnownNarrow known → Narrow (Operators.object_member scope whole member known)
object_member_narrow scope names whole member known narrow = member_of_narrow scope names whole known.c_type _ known.address member (λ n. object_narrow known.typed narrow.1)

pub pointer_member_narrow : (scope : Scope) → NarrowNames scope → (whole : Pos) (member : NameTree) (pointer : Known) → KnownNarrow pointer → Narrow (Operators.pointer_member scope whole member pointer)
pointer_member_narrow scope names whole member pointer narrow =
    required _ T.T14 whole _ (member_of_narrow scope names whole (target_of pointer.c_type) _ pointer.address member (λ n. in_narrow pointer narrow))

-- ---- operators of one operand

step_narrow : (stepping : Stepping) (place : Pos) (t : CType) (object : Object) → ObjectFew object → ValueFew (Operators.step_value stepping place t object)
step_narrow stepping place Void object narrow = narrow
step_narrow stepping place (Integer t) object narrow = narrow
step_narrow stepping place (Pointer t) object narrow = narrow
step_narrow stepping place (Array t n) object narrow = narrow
step_narrow stepping place (Struct tag) object narrow = narrow
step_narrow stepping place (Function t ts) object narrow = narrow

pub stepped_narrow : (scope : Scope) (stepping : Stepping) (whole place : Pos) (operand : Known) → KnownNarrow operand → Narrow (Operators.stepped scope stepping whole place operand)
stepped_narrow scope stepping whole place operand narrow =
    of_part KnownNarrow KnownNarrow (Operators.modifiable_rule whole operand) _ (required _ T.T09 whole (give operand) (gives operand narrow))
    (λ object object_is. required _ T.T07 place _ (required _ T.T14 whole _
    (gives _ (object_is.0, step_narrow stepping whole object.c_type (object_in object.typed) (object_narrow object.typed object_is.1)))))

pub prefixed_narrow : (scope : Scope) (operator : PrefixOperator) (whole place : Pos) (operand : Checked Known) → Narrow operand → Narrow (Operators.prefixed scope operator whole place operand)
prefixed_narrow scope P.Increment whole place operand narrow = of_part KnownNarrow KnownNarrow operand _ narrow (λ known is. stepped_narrow scope S.PreIncrement whole place known is)
prefixed_narrow scope P.Decrement whole place operand narrow = of_part KnownNarrow KnownNarrow operand _ narrow (λ known is. stepped_narrow scope S.PreDecrement whole place known is)
prefixed_narrow scope P.Address whole place operand narrow = of_part KnownNarrow KnownNarrow operand (Operators.address_of whole) narrow (λ known is. address_narrow whole known known.typed is.0 is.1)
prefixed_narrow scope P.Dereference whole place operand narrow =
    of_part KnownNarrow KnownNarrow (as_value place operand) (Operators.dereferenced scope whole) (as_value_narrow place operand narrow) (λ known is. dereferenced_narrow scope whole known is)
prefixed_narrow scope P.Plus whole place operand narrow =
    of_part KnownNarrow KnownNarrow (Operators.as_integer place operand) (λ value. give (Operators.with_plus value)) (as_integer_narrow place operand narrow) (λ known is. gives _ (tt, in_narrow known is))
prefixed_narrow scope P.Minus whole place operand narrow =
    of_part KnownNarrow KnownNarrow (Operators.as_integer place operand) (λ value. give (Operators.with_minus whole value)) (as_integer_narrow place operand narrow) (λ known is. gives _ (tt, in_narrow known is))
prefixed_narrow scope P.Complement whole place operand narrow =
    of_part KnownNarrow KnownNarrow (Operators.as_integer place operand) (λ value. give (Operators.with_complement value)) (as_integer_narrow place operand narrow) (λ known is. gives _ (tt, in_narrow known is))
prefixed_narrow scope P.Not whole place operand narrow =
    of_part KnownNarrow KnownNarrow (Operators.as_scalar place operand) (λ value. give (Operators.logical_not (Operators.condition_of place value))) (as_scalar_narrow place operand narrow) (λ known is. gives _ (tt, condition_narrow place known is))

pub size_narrow : (scope : Scope) (place : Pos) (t : CType) → Narrow (Operators.size_of scope place t)
size_narrow scope place t = required _ T.T05 place _ (gives _ (tt, tt))

-- a value that is left unused
pub dropped_narrow : (value : Value) → ValueFew value → ValueFew (Operators.dropped value)
dropped_narrow (typed.Call is_used place function c_type arguments) narrow = narrow
dropped_narrow (typed.Grouped inner) narrow = dropped_narrow inner narrow
dropped_narrow value narrow = narrow

pub cast_narrow : (scope : Scope) (whole : Pos) (t : CType) (value : Known) → IsNarrow t → KnownNarrow value → Narrow (Operators.cast_to scope whole t value)
cast_narrow scope whole Void value narrow of_value = gives _ (tt, dropped_narrow (value_in value) (in_narrow value of_value))
cast_narrow scope whole (Integer t) value narrow of_value = required _ T.T16 whole _ (gives _ (narrow, in_narrow value of_value))
cast_narrow scope whole (Pointer target) value narrow of_value =
    chosen value.is_null _ _ (gives _ (narrow, in_narrow value of_value))
    (required _ T.T16 whole _
    (gives _ (narrow, in_narrow value of_value)))
cast_narrow scope whole (Array t n) value narrow of_value = refuses _ _
cast_narrow scope whole (Struct tag) value narrow of_value = refuses _ _
cast_narrow scope whole (Function t ts) value narrow of_value = refuses _ _

-- ---- operators of two operands

arithmetic_narrow : (op : BinOp) (whole : Pos) (a b : Known) → KnownNarrow a → KnownNarrow b → Narrow (Operators.arithmetic op whole a b)
arithmetic_narrow op whole a b one other = gives _ (tt, in_both a b one other)

shifted_narrow : (op : BinOp) (whole : Pos) (a b : Known) → KnownNarrow a → KnownNarrow b → Narrow (Operators.shifted op whole a b)
shifted_narrow op whole a b one other = gives _ (tt, in_both a b one other)

compared_narrow : (relation : Relation) (a b : Known) → KnownNarrow a → KnownNarrow b → Narrow (Operators.compared relation a b)
compared_narrow relation a b one other = gives _ (tt, in_both a b one other)

sum_narrow : (scope : Scope) (whole : Pos) (a b : Known) → KnownNarrow a → KnownNarrow b → Narrow (Operators.sum scope whole a b)
sum_narrow scope whole a b one other =
    chosen (Operators.both_integers a b) (Operators.arithmetic B.Add whole a b) (cond (Types.is_pointer a.c_type && Types.is_integer b.c_type) second (cond (Types.is_integer a.c_type && Types.is_pointer b.c_type) third (refuse T.T11 whole)))
    (arithmetic_narrow B.Add whole a b one other)
    (chosen (Types.is_pointer a.c_type && Types.is_integer b.c_type) second (cond (Types.is_integer a.c_type && Types.is_pointer b.c_type) third (refuse T.T11 whole))
    (moved_narrow scope whole (typed.PointerPlus whole (value_in a) (value_in b)) a.c_type (Constants.moved a.address b.constness) one.0 (in_both a b one other))
    (chosen (Types.is_integer a.c_type && Types.is_pointer b.c_type) third (refuse T.T11 whole)
    (moved_narrow scope whole (typed.NumberPlus whole (value_in a) (value_in b)) b.c_type (Constants.moved b.address a.constness) other.0 (in_both a b one other)) (refuses T.T11 whole)))
  where
    second : Checked Known
    second = Operators.add_number scope whole (typed.PointerPlus whole (value_in a) (value_in b)) a b.constness

    third : Checked Known
    third = Operators.add_number scope whole (typed.NumberPlus whole (value_in a) (value_in b)) b a.constness

difference_narrow : (scope : Scope) (whole : Pos) (a b : Known) → KnownNarrow a → KnownNarrow b → Narrow (Operators.difference scope whole a b)
difference_narrow scope whole a b one other =
    chosen _ _ _ (arithmetic_narrow B.Sub whole a b one other)
    (chosen _ _ _ (moved_narrow scope whole _ a.c_type _ one.0 (in_both a b one other))
    (required _ T.T11 whole _ (required _ T.T14 whole _ (gives _ (tt, in_both a b one other)))))

ordered_narrow : (relation : Relation) (whole : Pos) (a b : Known) → KnownNarrow a → KnownNarrow b → Narrow (Operators.ordered relation whole a b)
ordered_narrow relation whole a b one other =
    chosen _ _ _ (compared_narrow relation a b one other) (required _ T.T11 whole _ (gives _ (tt, in_both a b one other)))

agreed_narrow : (a b : Known) → KnownNarrow a → KnownNarrow b → IsNarrow (Operators.agreed_pointer a b)
agreed_narrow a b one other =
    by_test IsNarrow (Types.is_pointer a.c_type && b.is_null) (cond (a.is_null && Types.is_pointer b.c_type) b.c_type a.c_type) (cond (Types.is_pointer b.c_type && a.is_null) b.c_type last)
    (by_test IsNarrow (a.is_null && Types.is_pointer b.c_type) b.c_type a.c_type other.0 one.0)
    (by_test IsNarrow (Types.is_pointer b.c_type && a.is_null) b.c_type last other.0 (by_test IsNarrow (Types.same_type a.c_type b.c_type) a.c_type (Pointer Void) one.0 tt))
  where
    last : CType
    last = cond (Types.same_type a.c_type b.c_type) a.c_type (Pointer Void)

equated_narrow : (relation : Relation) (whole : Pos) (a b : Known) → KnownNarrow a → KnownNarrow b → Narrow (Operators.equated relation whole a b)
equated_narrow relation whole a b one other =
    chosen _ _ _ (compared_narrow relation a b one other)
    (required _ T.T11 whole _ (gives _ (
      tt,
      (unconverted_narrow (target_of (Operators.agreed_pointer a b)) a one, unconverted_narrow (target_of (Operators.agreed_pointer a b)) b other),
    )))

combined_narrow : (scope : Scope) (operator : BinaryOperator) (whole right_place : Pos) (a b : Known) → KnownNarrow a → KnownNarrow b → Narrow (Operators.combined scope operator whole right_place a b)
combined_narrow scope O.Multiply whole right_place a b one other = arithmetic_narrow B.Mul whole a b one other
combined_narrow scope O.Divide whole right_place a b one other = arithmetic_narrow B.Div whole a b one other
combined_narrow scope O.Remainder whole right_place a b one other = arithmetic_narrow B.Rem whole a b one other
combined_narrow scope O.Add whole right_place a b one other = sum_narrow scope whole a b one other
combined_narrow scope O.Subtract whole right_place a b one other = difference_narrow scope whole a b one other
combined_narrow scope O.ShiftLeft whole right_place a b one other = shifted_narrow B.Shl whole a b one other
combined_narrow scope O.ShiftRight whole right_place a b one other = shifted_narrow B.Shr whole a b one other
combined_narrow scope O.Less whole right_place a b one other = ordered_narrow R.Lt whole a b one other
combined_narrow scope O.Greater whole right_place a b one other = ordered_narrow R.Gt whole a b one other
combined_narrow scope O.LessEqual whole right_place a b one other = ordered_narrow R.Le whole a b one other
combined_narrow scope O.GreaterEqual whole right_place a b one other = ordered_narrow R.Ge whole a b one other
combined_narrow scope O.Equal whole right_place a b one other = equated_narrow R.Eq whole a b one other
combined_narrow scope O.NotEqual whole right_place a b one other = equated_narrow R.Ne whole a b one other
combined_narrow scope O.BitAnd whole right_place a b one other = arithmetic_narrow B.And whole a b one other
combined_narrow scope O.BitXor whole right_place a b one other = arithmetic_narrow B.Xor whole a b one other
combined_narrow scope O.BitOr whole right_place a b one other = arithmetic_narrow B.Or whole a b one other
combined_narrow scope O.And whole right_place a b one other = gives _ (tt, (condition_narrow whole a one, condition_narrow right_place b other))
combined_narrow scope O.Or whole right_place a b one other = gives _ (tt, (condition_narrow whole a one, condition_narrow right_place b other))

pub binary_narrow : (scope : Scope) (operator : BinaryOperator) (place right_place : Pos) (left right : Checked Known) → Narrow left → Narrow right → Narrow (Operators.binary scope operator place right_place left right)
binary_narrow scope operator place right_place left right one other =
    of_two KnownNarrow KnownNarrow KnownNarrow (Operators.operand (Operators.operand_kind operator) place left) (Operators.operand (Operators.operand_kind operator) right_place right) (Operators.combined scope operator place right_place)
    (operand_narrow (Operators.operand_kind operator) place left one) (operand_narrow (Operators.operand_kind operator) right_place right other)
    (λ a b a_is b_is. combined_narrow scope operator place right_place a b a_is b_is)

-- ---- `?:`

pub choice_narrow : (whole : Pos) (condition : Condition) (a b : Known) → TestNarrow condition → KnownNarrow a → KnownNarrow b → Narrow (Operators.choice whole condition a b)
choice_narrow whole condition a b test one other =
    chosen (Operators.both_integers a b) (Operators.integer_choice condition a b) (cond (Types.is_void a.c_type && Types.is_void b.c_type) second third)
    (gives _ (tt, three (value_in a) (value_in b) (in_narrow a one) (in_narrow b other)))
    (chosen (Types.is_void a.c_type && Types.is_void b.c_type) second third
    (gives _ (tt, three (value_in a) (value_in b) (in_narrow a one) (in_narrow b other)))
    (required (Operators.pointers_agree a b) T.T11 whole _
    (gives (value_of_type agreed (typed.Conditional condition.test (Operators.converted whole agreed a) (Operators.converted whole agreed b))) (
      agreed_narrow a b one other,
      three (Operators.converted whole agreed a) (Operators.converted whole agreed b)
          (converted_narrow whole agreed a (agreed_narrow a b one other) one) (converted_narrow whole agreed b (agreed_narrow a b one other) other),
    ))))
  where
    agreed : CType
    agreed = Operators.agreed_pointer a b

    second : Checked Known
    second = give (value_of_type Void (typed.Conditional condition.test (value_in a) (value_in b)))

    third : Checked Known
    third = require (Operators.pointers_agree a b) T.T11 whole (give (value_of_type agreed (typed.Conditional condition.test (Operators.converted whole agreed a) (Operators.converted whole agreed b))))

    three : (x y : Value) → ValueFew x → ValueFew y → (ValueFew condition.test × ValueFew x) × ValueFew y
    three x y x_is y_is = ((test, x_is), y_is)

-- ---- assignments

compound_object_narrow : (scope : Scope) (op : BinOp) (place : Pos) (object : Known) → KnownNarrow object → Narrow (Operators.compound_object scope op place object)
compound_object_narrow scope op place object narrow = chosen _ _ _ (required _ T.T14 place _ (gives object narrow)) (required _ T.T07 place _ (gives object narrow))

modifiable_narrow : (place : Pos) (object : Checked Known) → Narrow object → Narrow (given object (Operators.modifiable_rule place))
modifiable_narrow place object narrow = of_part KnownNarrow KnownNarrow object (Operators.modifiable_rule place) narrow (λ known is. required _ T.T09 place _ (gives known is))

assigned_object_narrow : (scope : Scope) (op : Option BinOp) (place : Pos) (object : Checked Known) → Narrow object → Narrow (Operators.assigned_object scope op place object)
assigned_object_narrow scope None place object narrow = modifiable_narrow place object narrow
assigned_object_narrow scope (Some op) place object narrow =
    of_part KnownNarrow KnownNarrow _ (Operators.compound_object scope op place) (modifiable_narrow place object narrow) (λ known is. compound_object_narrow scope op place known is)

assigned_value_narrow : (op : Option BinOp) (place : Pos) (part : Checked Known) → Narrow part → Narrow (Operators.assigned_value op place part)
assigned_value_narrow None place part narrow = as_value_narrow place part narrow
assigned_value_narrow (Some op) place part narrow = as_integer_narrow place part narrow

compound_narrow : (op : BinOp) (whole : Pos) (t : CType) (object : Object) (value : Known) → ObjectFew object → KnownNarrow value → ValueFew (Operators.compound_value op whole t object value)
compound_narrow op whole Void object value narrow is = (narrow, in_narrow value is)
compound_narrow op whole (Integer t) object value narrow is =
    by_test ValueFew (is_shift op) _ _ (narrow, in_narrow value is) (narrow, in_narrow value is)
compound_narrow op whole (Pointer t) object value narrow is = (narrow, in_narrow value is)
compound_narrow op whole (Array t n) object value narrow is = (narrow, in_narrow value is)
compound_narrow op whole (Struct tag) object value narrow is = (narrow, in_narrow value is)
compound_narrow op whole (Function t ts) object value narrow is = (narrow, in_narrow value is)

assignment_narrow : (op : Option BinOp) (whole value_place : Pos) (left right : Known) → KnownNarrow left → KnownNarrow right → Narrow (Operators.assignment op whole value_place left right)
assignment_narrow None whole value_place left right one other =
    required _ T.T10 value_place _
    (gives _ (one.0, (object_narrow left.typed one.1, converted_narrow whole left.c_type right one.0 other)))
assignment_narrow (Some op) whole value_place left right one other = gives _ (one.0, compound_narrow op whole left.c_type (object_in left.typed) right (object_narrow left.typed one.1) other)

pub assigned_narrow : (scope : Scope) (operator : AssignOperator) (place value_place : Pos) (object value : Checked Known) → Narrow object → Narrow value → Narrow (Operators.assigned scope operator place value_place object value)
assigned_narrow scope operator place value_place object value one other =
    of_two KnownNarrow KnownNarrow KnownNarrow (Operators.assigned_object scope (Operators.operator_of operator) place object) (Operators.assigned_value (Operators.operator_of operator) value_place value)
    (Operators.assignment (Operators.operator_of operator) place value_place)
    (assigned_object_narrow scope (Operators.operator_of operator) place object one) (assigned_value_narrow (Operators.operator_of operator) value_place value other)
    (λ a b a_is b_is. assignment_narrow (Operators.operator_of operator) place value_place a b a_is b_is)
