-- What operators give of their operands nests three nodes deeper at most.
use Rattle.std.proofs.Common.{◌≡◌, ℕ, suc, max, ◌+◌, ◌≤◌, not, ◌&&◌, ◌||◌, List, [], ◌∷◌, Option, Some, None, bytes_eq, neg_ℤ, refl, arith}
use Rattle.run_theory.specs.declared.place.Pos.{Pos}
use Rattle.c_num.specs.declared.IntType.{IntType}
use Rattle.c_num.specs.declared.BinOp.{BinOp}
use Rattle.c_num.specs.declared.BinOp.TheVariants as B
use Rattle.c_num.specs.declared.Relation.{Relation}
use Rattle.c_num.specs.declared.Relation.TheVariants as Relations
use Rattle.c_num.specs.Arith.{is_shift}
use Rattle.c_syntax.specs.declared.operator.PrefixOperator.{PrefixOperator}
use Rattle.c_syntax.specs.declared.operator.PrefixOperator.TheVariants as P
use Rattle.c_syntax.specs.declared.operator.BinaryOperator.{BinaryOperator}
use Rattle.c_syntax.specs.declared.operator.BinaryOperator.TheVariants as O
use Rattle.c_syntax.specs.declared.operator.AssignOperator.{AssignOperator}
use Rattle.c_syntax.specs.Trees.{NameTree}
use Rattle.c_rules.specs.declared.rule.TypeRule.TheVariants as R
use Rattle.c_typed.specs.Types.{CType, Void, Integer, Pointer, Struct, Function, is_integer, is_pointer, is_void, is_function_pointer, is_object_pointer, same_type}
use Rattle.c_typed.specs.Layouts.{MemberDef, is_complete, members_by_tag}
use Rattle.c_typed.specs.Typed as T
use Rattle.c_typed.specs.Typed.{Value, Object}
use Rattle.c_typed.specs.declared.typed.Stepping.{Stepping}
use Rattle.c_typed.specs.declared.typed.Stepping.TheVariants as S
use Rattle.c_typed.specs.TypedDepths.{value_depth, object_depth}
use Rattle.c_rules.specs.Names.{Scope, Meaning, NoMeaning, Local, Outer, Library, meaning_of}
use Rattle.c_rules.specs.Known.{Checked, Known, TypedExpr, OfValue, OfObject, OfFunction, OfLibrary, Address, value_in, grouped, as_value, give, given, object_at}
use Rattle.c_rules.specs.declared.constness.Constness.{Constness}
use Rattle.c_rules.specs.declared.constness.Constness.TheVariants.{Constant}
use Rattle.c_rules.specs.Constants
use Rattle.c_rules.specs.Operators
use Rattle.c_rules.specs.Operators.{Condition, fits, condition_of, is_scalar, as_scalar, as_integer, of_type, outer_name, name_as, named, is_pointer_to_complete, element, indexed, dereferenced, address_in, address_of, add_number, member_at, member_in, member_of, object_in, object_member, pointer_member, is_modifiable, modifiable_rule, step_value, stepped, with_plus, with_minus, with_complement, logical_not, prefixed, size_of, cast_to, arithmetic, shifted, both_integers, sum, difference, compared, ordered, pointers_agree, agreed_pointer, target_of, equated, operand_kind, operand, combined, binary, choice, operator_of, moves_pointers, compound_object, assigned_object, assigned_value, compound_integer, compound_value, assignment, assigned}
use Rattle.c_rules.proofs.Holding.{Holds, either_holds, require_holds, given_holds, given_two_holds}
use Rattle.c_rules.proofs.Depths.Operands.{weight, Within, TestWithin, in_value, value_within, scalar_within, integer_within, operand_within, converted_within, unconverted_within, test_within, dropped_depth, object_in_depth}

-- What is known, if anything, nests at most so deep.
abbrev pub Gives : ℕ → Checked Known → Type 0
Gives n checked = Holds (Within n) checked.known

-- ---- names

outer_gives : (scope : Scope) (name : NameTree) (t : CType) → Gives 3 (outer_name scope name t)
outer_gives scope name (Function result parameters) = omega arith
outer_gives scope name t = omega arith

name_gives : (scope : Scope) (name : NameTree) (meaning : Meaning) → Gives 3 (name_as scope name meaning)
name_gives scope name NoMeaning = tt
name_gives scope name (Local number None) = tt
name_gives scope name (Local number (Some t)) = omega arith
name_gives scope name (Outer None) = tt
name_gives scope name (Outer (Some t)) = outer_gives scope name t
name_gives scope name (Library function t) = tt

pub named_gives : (scope : Scope) (name : NameTree) → Gives 3 (named scope name)
named_gives scope name = name_gives scope name (meaning_of scope name.bytes)

-- ---- parentheses

pub grouped_weight : (place : Pos) (typed : TypedExpr) → weight (grouped place typed) ≤ suc (weight typed)
grouped_weight place (OfValue value) = omega arith
grouped_weight place (OfObject object) = omega arith
grouped_weight place (OfFunction function) = omega arith
grouped_weight place (OfLibrary function groups) = omega arith

-- ---- pointers

element_gives : (scope : Scope) (whole index_place : Pos) (n : ℕ) (object : Object) (pointer index : Known) → suc (suc (object_depth object)) ≤ n → Gives n (element scope whole index_place object pointer index)
element_gives scope whole index_place n object pointer index within =
    require_holds (Within n) (is_pointer_to_complete scope pointer.c_type) R.T14 whole _ (require_holds (Within n) (is_integer index.c_type) R.T07 index_place _ within)

pub indexed_gives : (scope : Scope) (left_place right_place : Pos) (n : ℕ) (left right : Known) → Within n left → Within n right → Gives (3 + n) (indexed scope left_place right_place left right)
indexed_gives scope left_place right_place n left right one other =
    let a = in_value n left one in
    let b = in_value n right other in
    either_holds (Gives (3 + n)) (not (is_pointer left.c_type) && is_pointer right.c_type) _ _
    (element_gives scope left_place left_place (3 + n) (T.ElementOf left_place (value_in left) (value_in right)) right left (omega arith))
    (element_gives scope left_place right_place (3 + n) (T.Element left_place (value_in left) (value_in right)) left right (omega arith))

dereferenced_gives : (scope : Scope) (whole : Pos) (n : ℕ) (pointer : Known) → Within n pointer → Gives (3 + n) (dereferenced scope whole pointer)
dereferenced_gives scope whole n pointer within =
    let a = in_value n pointer within in
    either_holds (Gives (3 + n)) (is_function_pointer pointer.c_type) _ _ (omega arith)
    (require_holds (Within (3 + n)) (is_pointer_to_complete scope pointer.c_type) R.T14 whole _ (omega arith))

address_in_gives : (whole : Pos) (n : ℕ) (operand : Known) (typed : TypedExpr) → weight typed ≤ n → Gives (3 + n) (address_in whole operand typed)
address_in_gives whole n operand (OfObject object) within = omega arith
address_in_gives whole n operand (OfFunction function) within = omega arith
address_in_gives whole n operand (OfValue value) within = tt
address_in_gives whole n operand (OfLibrary function groups) within = tt

address_gives : (whole : Pos) (n : ℕ) (operand : Known) → Within n operand → Gives (3 + n) (address_of whole operand)
address_gives whole n operand within = address_in_gives whole n operand operand.typed within

add_gives : (scope : Scope) (whole : Pos) (n : ℕ) (value : Value) (pointer : Known) (number : Constness) → suc (value_depth value) ≤ n → Gives n (add_number scope whole value pointer number)
add_gives scope whole n value pointer number within = require_holds (Within n) (is_pointer_to_complete scope pointer.c_type) R.T14 whole _ within

-- ---- members

member_type_gives : (n : ℕ) (t : Option CType) (object : Object) (address : CType → Address) → suc (suc (object_depth object)) ≤ n → Gives n (of_type t (λ c_type. give (object_at c_type object (address c_type))))
member_type_gives n None object address within = tt
member_type_gives n (Some t) object address within = within

member_at_gives : (n number : ℕ) (members : List MemberDef) (name : List ℕ) (object : ℕ → Object) (from : Address) (whole : Pos) → ((i : ℕ) → suc (suc (object_depth (object i))) ≤ n)
    → Gives n (member_at number members name object from whole)
member_at_gives n number [] name object from whole within = tt
member_at_gives n number (member ∷ members) name object from whole within =
    either_holds (Gives n) (bytes_eq member.name name) _ _
    (member_type_gives n member.c_type (object number) (λ c_type. Constants.member_address from number c_type) (within number))
    (member_at_gives n (number + 1) members name object from whole within)

member_in_gives : (n : ℕ) (members : Option (List MemberDef)) (name : List ℕ) (object : ℕ → Object) (from : Address) (whole : Pos) → ((i : ℕ) → suc (suc (object_depth (object i))) ≤ n)
    → Gives n (member_in members name object from whole)
member_in_gives n (Some members) name object from whole within = member_at_gives n 0 members name object from whole within
member_in_gives n None name object from whole within = tt

member_gives : (n : ℕ) (scope : Scope) (whole : Pos) (t : CType) (object : ℕ → Object) (from : Address) (member : NameTree) → ((i : ℕ) → suc (suc (object_depth (object i))) ≤ n)
    → Gives n (member_of scope whole t object from member)
member_gives n scope whole (Struct tag) object from member within = member_in_gives n (members_by_tag scope.structs tag) member.bytes object from whole within
member_gives n scope whole t object from member within = tt

pub object_member_gives : (scope : Scope) (whole : Pos) (member : NameTree) (n : ℕ) (known : Known) → Within n known → Gives (3 + n) (object_member scope whole member known)
object_member_gives scope whole member n known within =
    let a = object_in_depth known.typed in
    member_gives (3 + n) scope whole known.c_type (T.MemberOf whole (object_in known.typed)) known.address member (λ i. omega arith)

pub pointer_member_gives : (scope : Scope) (whole : Pos) (member : NameTree) (n : ℕ) (pointer : Known) → Within n pointer → Gives (3 + n) (pointer_member scope whole member pointer)
pointer_member_gives scope whole member n pointer within =
    let a = in_value n pointer within in
    require_holds (Within (3 + n)) (is_pointer_to_complete scope pointer.c_type) R.T14 whole _
    (member_gives (3 + n) scope whole (target_of pointer.c_type) (T.PointedMember whole (value_in pointer)) pointer.address member (λ i. omega arith))

-- ---- operators of one operand

step_depth : (stepping : Stepping) (place : Pos) (t : CType) (object : Object) → value_depth (step_value stepping place t object) ≡ suc (object_depth object)
step_depth stepping place (Integer int_type) object = refl
step_depth stepping place t object = refl

pub stepped_gives : (scope : Scope) (stepping : Stepping) (whole place : Pos) (n : ℕ) (operand : Known) → Within n operand → Gives (3 + n) (stepped scope stepping whole place operand)
stepped_gives scope stepping whole place n operand within =
    given_holds (Within n) (Within (3 + n)) (modifiable_rule whole operand) _ (require_holds (Within n) (is_modifiable operand) R.T09 whole _ within)
    (λ object one. require_holds (Within (3 + n)) (is_scalar object.c_type) R.T07 place _
    (require_holds (Within (3 + n)) (is_integer object.c_type || is_pointer_to_complete scope object.c_type) R.T14 whole _
    (let a = step_depth stepping whole object.c_type (object_in object.typed) in
    let b = object_in_depth object.typed in
    omega arith)))

pub prefixed_gives : (scope : Scope) (operator : PrefixOperator) (whole place : Pos) (n : ℕ) (operand : Checked Known) → Gives n operand → Gives (3 + n) (prefixed scope operator whole place operand)
prefixed_gives scope P.Increment whole place n operand within = given_holds (Within n) (Within (3 + n)) operand _ within (stepped_gives scope S.PreIncrement whole place n)
prefixed_gives scope P.Decrement whole place n operand within = given_holds (Within n) (Within (3 + n)) operand _ within (stepped_gives scope S.PreDecrement whole place n)
prefixed_gives scope P.Address whole place n operand within = given_holds (Within n) (Within (3 + n)) operand _ within (address_gives whole n)
prefixed_gives scope P.Dereference whole place n operand within = given_holds (Within n) (Within (3 + n)) (as_value place operand) _ (value_within n place operand within) (dereferenced_gives scope whole n)
prefixed_gives scope P.Plus whole place n operand within =
    given_holds (Within n) (Within (3 + n)) (as_integer place operand) (λ value. give (with_plus value)) (integer_within n place operand within) (λ value one. let a = in_value n value one in omega arith)
prefixed_gives scope P.Minus whole place n operand within =
    given_holds (Within n) (Within (3 + n)) (as_integer place operand) (λ value. give (with_minus whole value)) (integer_within n place operand within) (λ value one. let a = in_value n value one in omega arith)
prefixed_gives scope P.Complement whole place n operand within =
    given_holds (Within n) (Within (3 + n)) (as_integer place operand) (λ value. give (with_complement value)) (integer_within n place operand within) (λ value one. let a = in_value n value one in omega arith)
prefixed_gives scope P.Not whole place n operand within =
    given_holds (Within n) (Within (3 + n)) (as_scalar place operand) (λ value. give (logical_not (condition_of place value))) (scalar_within n place operand within) (λ value one. let a = test_within n place value one in omega arith)

pub size_gives : (scope : Scope) (place : Pos) (t : CType) → Gives 3 (size_of scope place t)
size_gives scope place t = require_holds (Within 3) (is_complete scope.structs t) R.T05 place _ (omega arith)

pub cast_gives : (scope : Scope) (whole : Pos) (n : ℕ) (t : CType) (value : Known) → Within n value → Gives (3 + n) (cast_to scope whole t value)
cast_gives scope whole n Void value within =
    let a = in_value n value within in
    let b = dropped_depth (value_in value) in
    omega arith
cast_gives scope whole n (Integer int_type) value within =
    let a = in_value n value within in
    require_holds (Within (3 + n)) (is_integer value.c_type) R.T16 whole _ (omega arith)
cast_gives scope whole n (Pointer target) value within =
    let a = in_value n value within in
    either_holds (Gives (3 + n)) value.is_null _ _ (omega arith)
    (require_holds (Within (3 + n)) ((is_object_pointer (Pointer target) && is_object_pointer value.c_type) || (is_function_pointer (Pointer target) && is_function_pointer value.c_type)) R.T16 whole _ (omega arith))
cast_gives scope whole n t value within = tt

-- ---- operators of two operands

arithmetic_gives : (op : BinOp) (whole : Pos) (n : ℕ) (a b : Known) → Within n a → Within n b → Gives (3 + n) (arithmetic op whole a b)
arithmetic_gives op whole n a b one other =
    let x = in_value n a one in
    let y = in_value n b other in
    omega arith

shifted_gives : (op : BinOp) (whole : Pos) (n : ℕ) (a b : Known) → Within n a → Within n b → Gives (3 + n) (shifted op whole a b)
shifted_gives op whole n a b one other =
    let x = in_value n a one in
    let y = in_value n b other in
    omega arith

compared_gives : (relation : Relation) (n : ℕ) (a b : Known) → Within n a → Within n b → Gives (3 + n) (compared relation a b)
compared_gives relation n a b one other =
    let x = in_value n a one in
    let y = in_value n b other in
    omega arith

sum_gives : (scope : Scope) (whole : Pos) (n : ℕ) (a b : Known) → Within n a → Within n b → Gives (3 + n) (sum scope whole a b)
sum_gives scope whole n a b one other =
    let x = in_value n a one in
    let y = in_value n b other in
    either_holds (Gives (3 + n)) (both_integers a b) _ _ (arithmetic_gives B.Add whole n a b one other)
    (either_holds (Gives (3 + n)) (is_pointer a.c_type && is_integer b.c_type) _ _
    (add_gives scope whole (3 + n) (T.PointerPlus whole (value_in a) (value_in b)) a b.constness (omega arith))
    (either_holds (Gives (3 + n)) (is_integer a.c_type && is_pointer b.c_type) _ _
    (add_gives scope whole (3 + n) (T.NumberPlus whole (value_in a) (value_in b)) b a.constness (omega arith))
    tt))

difference_gives : (scope : Scope) (whole : Pos) (n : ℕ) (a b : Known) → Within n a → Within n b → Gives (3 + n) (difference scope whole a b)
difference_gives scope whole n a b one other =
    let x = in_value n a one in
    let y = in_value n b other in
    either_holds (Gives (3 + n)) (both_integers a b) _ _ (arithmetic_gives B.Sub whole n a b one other)
    (either_holds (Gives (3 + n)) (is_pointer a.c_type && is_integer b.c_type) _ _
    (add_gives scope whole (3 + n) (T.PointerMinus whole (value_in a) (value_in b)) a (Constants.map_constness (λ z. Constant (neg_ℤ z)) b.constness) (omega arith))
    (require_holds (Within (3 + n)) (is_pointer a.c_type && same_type a.c_type b.c_type) R.T11 whole _
    (require_holds (Within (3 + n)) (is_pointer_to_complete scope a.c_type) R.T14 whole _ (omega arith))))

ordered_gives : (relation : Relation) (whole : Pos) (n : ℕ) (a b : Known) → Within n a → Within n b → Gives (3 + n) (ordered relation whole a b)
ordered_gives relation whole n a b one other =
    let x = in_value n a one in
    let y = in_value n b other in
    either_holds (Gives (3 + n)) (both_integers a b) _ _ (compared_gives relation n a b one other)
    (require_holds (Within (3 + n)) (is_object_pointer a.c_type && same_type a.c_type b.c_type) R.T11 whole _ (omega arith))

equated_gives : (relation : Relation) (whole : Pos) (n : ℕ) (a b : Known) → Within n a → Within n b → Gives (3 + n) (equated relation whole a b)
equated_gives relation whole n a b one other =
    let x = unconverted_within n (target_of (agreed_pointer a b)) a one in
    let y = unconverted_within n (target_of (agreed_pointer a b)) b other in
    either_holds (Gives (3 + n)) (both_integers a b) _ _ (compared_gives relation n a b one other)
    (require_holds (Within (3 + n)) (pointers_agree a b) R.T11 whole _ (omega arith))

and_gives : (whole right_place : Pos) (n : ℕ) (a b : Known) → Within n a → Within n b → Gives (3 + n) (give (Operators.both (condition_of whole a) (condition_of right_place b)))
and_gives whole right_place n a b one other =
    let x = test_within n whole a one in
    let y = test_within n right_place b other in
    omega arith

or_gives : (whole right_place : Pos) (n : ℕ) (a b : Known) → Within n a → Within n b → Gives (3 + n) (give (Operators.either (condition_of whole a) (condition_of right_place b)))
or_gives whole right_place n a b one other =
    let x = test_within n whole a one in
    let y = test_within n right_place b other in
    omega arith

combined_gives : (scope : Scope) (operator : BinaryOperator) (whole right_place : Pos) (n : ℕ) (a b : Known) → Within n a → Within n b → Gives (3 + n) (combined scope operator whole right_place a b)
combined_gives scope O.Multiply whole right_place n a b one other = arithmetic_gives B.Mul whole n a b one other
combined_gives scope O.Divide whole right_place n a b one other = arithmetic_gives B.Div whole n a b one other
combined_gives scope O.Remainder whole right_place n a b one other = arithmetic_gives B.Rem whole n a b one other
combined_gives scope O.Add whole right_place n a b one other = sum_gives scope whole n a b one other
combined_gives scope O.Subtract whole right_place n a b one other = difference_gives scope whole n a b one other
combined_gives scope O.ShiftLeft whole right_place n a b one other = shifted_gives B.Shl whole n a b one other
combined_gives scope O.ShiftRight whole right_place n a b one other = shifted_gives B.Shr whole n a b one other
combined_gives scope O.Less whole right_place n a b one other = ordered_gives Relations.Lt whole n a b one other
combined_gives scope O.Greater whole right_place n a b one other = ordered_gives Relations.Gt whole n a b one other
combined_gives scope O.LessEqual whole right_place n a b one other = ordered_gives Relations.Le whole n a b one other
combined_gives scope O.GreaterEqual whole right_place n a b one other = ordered_gives Relations.Ge whole n a b one other
combined_gives scope O.Equal whole right_place n a b one other = equated_gives Relations.Eq whole n a b one other
combined_gives scope O.NotEqual whole right_place n a b one other = equated_gives Relations.Ne whole n a b one other
combined_gives scope O.BitAnd whole right_place n a b one other = arithmetic_gives B.And whole n a b one other
combined_gives scope O.BitXor whole right_place n a b one other = arithmetic_gives B.Xor whole n a b one other
combined_gives scope O.BitOr whole right_place n a b one other = arithmetic_gives B.Or whole n a b one other
combined_gives scope O.And whole right_place n a b one other = and_gives whole right_place n a b one other
combined_gives scope O.Or whole right_place n a b one other = or_gives whole right_place n a b one other

-- where both operands nest at most so deep
pub binary_gives : (scope : Scope) (operator : BinaryOperator) (place right_place : Pos) (n : ℕ) (left right : Checked Known) → Gives n left → Gives n right → Gives (3 + n) (binary scope operator place right_place left right)
binary_gives scope operator place right_place n left right one other =
    given_two_holds (Within n) (Within n) (Within (3 + n)) (operand (operand_kind operator) place left) (operand (operand_kind operator) right_place right) (combined scope operator place right_place)
    (operand_within (operand_kind operator) n place left one) (operand_within (operand_kind operator) n right_place right other)
    (combined_gives scope operator place right_place n)

-- ---- choices

pub choice_gives : (whole : Pos) (n : ℕ) (condition : Condition) (a b : Known) → TestWithin n condition → Within n a → Within n b → Gives (3 + n) (choice whole condition a b)
choice_gives whole n condition a b test one other =
    let x = in_value n a one in
    let y = in_value n b other in
    let v = converted_within n whole (agreed_pointer a b) a one in
    let w = converted_within n whole (agreed_pointer a b) b other in
    either_holds (Gives (3 + n)) (both_integers a b) _ _ (omega arith)
    (either_holds (Gives (3 + n)) (is_void a.c_type && is_void b.c_type) _ _ (omega arith)
    (require_holds (Within (3 + n)) (pointers_agree a b) R.T11 whole _ (omega arith)))

-- ---- assignments

compound_object_gives : (scope : Scope) (op : BinOp) (place : Pos) (n : ℕ) (object : Known) → Within n object → Gives n (compound_object scope op place object)
compound_object_gives scope op place n object within =
    either_holds (Gives n) (moves_pointers op && is_pointer object.c_type) _ _
    (require_holds (Within n) (is_pointer_to_complete scope object.c_type) R.T14 place (give object) within)
    (require_holds (Within n) (is_integer object.c_type) R.T07 place (give object) within)

modifiable_gives : (place : Pos) (n : ℕ) (object : Known) → Within n object → Gives n (modifiable_rule place object)
modifiable_gives place n object within = require_holds (Within n) (is_modifiable object) R.T09 place (give object) within

assigned_object_gives : (scope : Scope) (operator : Option BinOp) (place : Pos) (n : ℕ) (object : Checked Known) → Gives n object → Gives n (assigned_object scope operator place object)
assigned_object_gives scope None place n object within = given_holds (Within n) (Within n) object (modifiable_rule place) within (modifiable_gives place n)
assigned_object_gives scope (Some op) place n object within =
    given_holds (Within n) (Within n) (given object (modifiable_rule place)) (compound_object scope op place) (given_holds (Within n) (Within n) object (modifiable_rule place) within (modifiable_gives place n)) (compound_object_gives scope op place n)

assigned_value_gives : (operator : Option BinOp) (place : Pos) (n : ℕ) (part : Checked Known) → Gives n part → Gives n (assigned_value operator place part)
assigned_value_gives None place n part within = value_within n place part within
assigned_value_gives (Some op) place n part within = integer_within n place part within

compound_integer_depth : (op : BinOp) (whole : Pos) (n : IntType) (object : Object) (value : Known) → value_depth (compound_integer op whole n object value) ≤ suc (max (object_depth object) (suc (value_depth (value_in value))))
compound_integer_depth op whole n object value =
    either_holds (λ (v : Value). value_depth v ≤ suc (max (object_depth object) (suc (value_depth (value_in value))))) (is_shift op) _ _ (omega arith) (omega arith)

compound_depth : (op : BinOp) (whole : Pos) (t : CType) (object : Object) (value : Known) → value_depth (compound_value op whole t object value) ≤ suc (max (object_depth object) (suc (value_depth (value_in value))))
compound_depth op whole (Integer n) object value = compound_integer_depth op whole n object value
compound_depth op whole t object value = omega arith

assignment_gives : (operator : Option BinOp) (whole value_place : Pos) (n : ℕ) (left right : Known) → Within n left → Within n right → Gives (3 + n) (assignment operator whole value_place left right)
assignment_gives None whole value_place n left right one other =
    let a = object_in_depth left.typed in
    let b = converted_within n whole left.c_type right other in
    require_holds (Within (3 + n)) (fits left.c_type right) R.T10 value_place _ (omega arith)
assignment_gives (Some op) whole value_place n left right one other =
    let a = object_in_depth left.typed in
    let b = in_value n right other in
    let c = compound_depth op whole left.c_type (object_in left.typed) right in
    omega arith

pub assigned_gives : (scope : Scope) (operator : AssignOperator) (place value_place : Pos) (n : ℕ) (object value : Checked Known) → Gives n object → Gives n value
    → Gives (3 + n) (assigned scope operator place value_place object value)
assigned_gives scope operator place value_place n object value one other =
    given_two_holds (Within n) (Within n) (Within (3 + n)) (assigned_object scope (operator_of operator) place object) (assigned_value (operator_of operator) value_place value) (assignment (operator_of operator) place value_place)
    (assigned_object_gives scope (operator_of operator) place n object one) (assigned_value_gives (operator_of operator) value_place n value other)
    (assignment_gives (operator_of operator) place value_place n)
