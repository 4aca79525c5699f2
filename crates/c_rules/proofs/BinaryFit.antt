-- Operators of two operands fit.
use Rattle.std.proofs.Common.{◌≡◌, true, not, ◌&&◌, ◌||◌, List, Some, neg_ℤ, refl}
use Rattle.std.proofs.lemmas.Bool.{false≢true, and_parts, and_from}
use Rattle.run_theory.specs.declared.place.Pos.{Pos}
use Rattle.c_num.specs.declared.IntType.{IntType}
use Rattle.c_num.specs.declared.IntType.TheVariants as I
use Rattle.c_num.specs.declared.BinOp.{BinOp}
use Rattle.c_num.specs.declared.BinOp.TheVariants as B
use Rattle.c_num.specs.declared.Relation.{Relation}
use Rattle.c_num.specs.declared.Relation.TheVariants as R
use Rattle.c_num.specs.Arith.{is_shift}
use Rattle.c_syntax.specs.declared.operator.BinaryOperator.{BinaryOperator}
use Rattle.c_syntax.specs.declared.operator.BinaryOperator.TheVariants as O
use Rattle.c_rules.specs.declared.rule.TypeRule.TheVariants as T
use Rattle.c_typed.specs.Types.{CType, Integer, Pointer, int, same_type, is_integer, is_pointer, is_void, is_function, is_object_pointer}
use Rattle.c_typed.specs.Layouts.{StructDef}
use Rattle.c_typed.specs.Typed as typed
use Rattle.c_typed.specs.Typed.{Value}
use Rattle.c_typed.proofs.Same.{same_type-refl}
use Rattle.c_rules.specs.Names.{Scope}
use Rattle.c_rules.specs.Known.{Checked, Known, value_in, value_of_type}
use Rattle.c_rules.specs.declared.constness.Constness.TheVariants.{Constant}
use Rattle.c_rules.specs.Constants
use Rattle.c_rules.specs.Operators
use Rattle.c_rules.specs.Operators.{Condition, condition_of, target_of, promoted_type, promoted_value, common_type, arithmetic, shifted, both_integers, sum, difference, pointer_difference, compared, ordered, equated, pointers_agree, agreed_pointer, unconverted_value, both, either, OperandKind, AnInteger, AnyValue, AScalar, operand_kind, operand, combined, binary}
use Rattle.c_typed.specs.Context.{Context}
use Rattle.c_typed.specs.Expressions as well
use Rattle.c_typed.specs.Expressions.{where_holds, is_scalar, is_right, are_comparable, are_alike, type_of}
use Rattle.c_typed.specs.Statements.{is_condition}
use Rattle.c_rules.specs.Fitting.{Fits, Yields, KnownFits, ValueFits}
use Rattle.c_rules.proofs.Yielding.{either_case, give_yields, refuse_yields, require_yields, given_two_yields}
use Rattle.c_rules.proofs.TypeSteps.{given_two_is, holds_is, or_left}
use Rattle.c_rules.proofs.Completeness.{pointer_stays}
use Rattle.c_rules.proofs.ConversionsFit.{value_has, value_yields, integer_yields, scalar_yields, condition_fits, condition_type, converted_type}
use Rattle.c_rules.proofs.Results.{value_result, integer_result}
use Rattle.c_rules.proofs.PointersFit.{add_yields}
use Rattle.c_rules.proofs.UnaryFit.{promoted_is}
use Rattle.c_rules.proofs.AgreementsFit.{unconverted_as, unconverted_type, known_alike}

-- ---- integers

same_right : (op : BinOp) (n : IntType) → is_right op (Integer n) (Integer n) ≡ true
same_right op n = either_case (λ b. b ≡ true) (is_shift op) true (same_type (Integer n) (Integer n)) (λ shift. refl) (λ other. same_type-refl (Integer n))

pub arithmetic_type : (around : Context) (op : BinOp) (whole : Pos) (n m : IntType) (left right : Value) → type_of around left ≡ Some (Integer n) → type_of around right ≡ Some (Integer m)
    → is_right op (Integer n) (Integer m) ≡ true → type_of around (typed.Arithmetic op whole n left right) ≡ Some (Integer n)
arithmetic_type around op whole n m left right one other is =
    given_two_is (type_of around left) (Integer n) (type_of around right) (Integer m) (λ a b. where_holds (same_type a (Integer n) && is_right op a b) a) (Integer n) one other
    (holds_is (same_type (Integer n) (Integer n) && is_right op (Integer n) (Integer m)) (Integer n) (and_from (same_type (Integer n) (Integer n)) (is_right op (Integer n) (Integer m)) (same_type-refl (Integer n)) is))

pub converted_is : (around : Context) (n : IntType) (known : Known) → ValueFits around known → is_integer known.c_type ≡ true → type_of around (typed.Converted n (value_in known)) ≡ Some (Integer n)
converted_is around n known fit is = converted_type around n known.c_type (value_in known) (value_has around known fit) is

pub arithmetic_yields : (around : Context) (op : BinOp) (whole : Pos) (a b : Known) → ValueFits around a → ValueFits around b → is_integer a.c_type ≡ true → is_integer b.c_type ≡ true → Yields (KnownFits around) (arithmetic op whole a b)
arithmetic_yields around op whole a b fit_a fit_b is_a is_b =
    let n = common_type a b in
    give_yields (KnownFits around) _ (integer_result around n _ (typed.Arithmetic op whole n (typed.Converted n (value_in a)) (typed.Converted n (value_in b)))
    (arithmetic_type around op whole n n (typed.Converted n (value_in a)) (typed.Converted n (value_in b)) (converted_is around n a fit_a is_a) (converted_is around n b fit_b is_b) (same_right op n)) refl)

right_shift : (op : BinOp) (a b : CType) → is_shift op ≡ true → is_integer b ≡ true → is_right op a b ≡ true
right_shift op a b shift integer = rw shift integer

pub shifted_yields : (around : Context) (op : BinOp) (whole : Pos) (a b : Known) → is_shift op ≡ true → ValueFits around a → ValueFits around b → is_integer a.c_type ≡ true → is_integer b.c_type ≡ true → Yields (KnownFits around) (shifted op whole a b)
shifted_yields around op whole a b shift fit_a fit_b is_a is_b =
    let n = promoted_type a.c_type in
    give_yields (KnownFits around) _ (integer_result around n _ (typed.Arithmetic op whole n (promoted_value a) (promoted_value b))
    (arithmetic_type around op whole n (promoted_type b.c_type) (promoted_value a) (promoted_value b) (promoted_is around a fit_a is_a) (promoted_is around b fit_b is_b) (right_shift op (Integer n) (Integer (promoted_type b.c_type)) shift refl)) refl)

-- ---- sums and differences

pub moved_is : (structs : List StructDef) (t n : CType) → well.is_pointer_to_complete structs t ≡ true → is_integer n ≡ true → well.moved structs t n ≡ Some t
moved_is structs t n complete integer = holds_is (well.is_pointer_to_complete structs t && is_integer n) t (and_from (well.is_pointer_to_complete structs t) (is_integer n) complete integer)

-- a pointer and a number give a pointer
moved_pair : (around : Context) (pointer number : Known) → ValueFits around pointer → ValueFits around number → well.is_pointer_to_complete around.program.structs pointer.c_type ≡ true → is_integer number.c_type ≡ true
    → well.given_two (type_of around (value_in pointer)) (type_of around (value_in number)) (well.moved around.program.structs) ≡ Some pointer.c_type
moved_pair around pointer number fit other complete integer =
    given_two_is (type_of around (value_in pointer)) pointer.c_type (type_of around (value_in number)) number.c_type (well.moved around.program.structs) pointer.c_type
    (value_has around pointer fit).0 (value_has around number other).0 (moved_is around.program.structs pointer.c_type number.c_type complete integer)

pub sum_yields : (scope : Scope) (around : Context) → Fits scope around → (whole : Pos) (a b : Known) → ValueFits around a → ValueFits around b → Yields (KnownFits around) (sum scope whole a b)
sum_yields scope around fits whole a b fit_a fit_b =
    either_case (λ (checked : Checked Known). Yields (KnownFits around) checked) (both_integers a b) _ _
    (λ integers. let parts = and_parts (is_integer a.c_type) (is_integer b.c_type) integers in arithmetic_yields around B.Add whole a b fit_a fit_b parts.0 parts.1)
    (λ other. either_case (λ (checked : Checked Known). Yields (KnownFits around) checked) (is_pointer a.c_type && is_integer b.c_type) _ _
    (λ one. add_yields scope around fits whole (typed.PointerPlus whole (value_in a) (value_in b)) a b.constness fit_a refl (λ complete. moved_pair around a b fit_a fit_b complete (and_parts (is_pointer a.c_type) (is_integer b.c_type) one).1))
    (λ rest. either_case (λ (checked : Checked Known). Yields (KnownFits around) checked) (is_integer a.c_type && is_pointer b.c_type) _ _
    (λ one. add_yields scope around fits whole (typed.NumberPlus whole (value_in a) (value_in b)) b a.constness fit_b refl (λ complete. moved_pair around b a fit_b fit_a complete (and_parts (is_integer a.c_type) (is_pointer b.c_type) one).0))
    (λ none. refuse_yields (KnownFits around) T.T11 whole)))

pub pointer_difference_yields : (scope : Scope) (around : Context) → Fits scope around → (whole : Pos) (a b : Known) → ValueFits around a → ValueFits around b → Yields (KnownFits around) (pointer_difference scope whole a b)
pointer_difference_yields scope around fits whole a b fit_a fit_b =
    require_yields (KnownFits around) (is_pointer a.c_type && same_type a.c_type b.c_type) T.T11 whole _
    (λ same. require_yields (KnownFits around) (Operators.is_pointer_to_complete scope a.c_type) T.T14 whole _
    (λ complete. give_yields (KnownFits around) _ (value_result around (Integer I.Long) (typed.PointerDifference whole (value_in a) (value_in b))
    (given_two_is (type_of around (value_in a)) a.c_type (type_of around (value_in b)) b.c_type (λ t u. where_holds (well.is_pointer_to_complete around.program.structs t && same_type t u) (Integer I.Long)) (Integer I.Long)
    (value_has around a fit_a).0 (value_has around b fit_b).0
    (holds_is (well.is_pointer_to_complete around.program.structs a.c_type && same_type a.c_type b.c_type) (Integer I.Long)
    (and_from (well.is_pointer_to_complete around.program.structs a.c_type) (same_type a.c_type b.c_type) (pointer_stays scope around fits a.c_type complete) (and_parts (is_pointer a.c_type) (same_type a.c_type b.c_type) same).1)))
    refl refl refl)))

pub difference_yields : (scope : Scope) (around : Context) → Fits scope around → (whole : Pos) (a b : Known) → ValueFits around a → ValueFits around b → Yields (KnownFits around) (difference scope whole a b)
difference_yields scope around fits whole a b fit_a fit_b =
    either_case (λ (checked : Checked Known). Yields (KnownFits around) checked) (both_integers a b) _ _
    (λ integers. let parts = and_parts (is_integer a.c_type) (is_integer b.c_type) integers in arithmetic_yields around B.Sub whole a b fit_a fit_b parts.0 parts.1)
    (λ other. either_case (λ (checked : Checked Known). Yields (KnownFits around) checked) (is_pointer a.c_type && is_integer b.c_type) _ _
    (λ one. add_yields scope around fits whole (typed.PointerMinus whole (value_in a) (value_in b)) a (Constants.map_constness (λ z. Constant (neg_ℤ z)) b.constness) fit_a refl
    (λ complete. moved_pair around a b fit_a fit_b complete (and_parts (is_pointer a.c_type) (is_integer b.c_type) one).1))
    (λ rest. pointer_difference_yields scope around fits whole a b fit_a fit_b))

-- ---- comparisons

pub compared_yields : (around : Context) (relation : Relation) (a b : Known) → ValueFits around a → ValueFits around b → is_integer a.c_type ≡ true → is_integer b.c_type ≡ true → Yields (KnownFits around) (compared relation a b)
compared_yields around relation a b fit_a fit_b is_a is_b =
    let n = common_type a b in
    give_yields (KnownFits around) _ (integer_result around I.Int _ (typed.Compare relation (typed.Converted n (value_in a)) (typed.Converted n (value_in b)))
    (given_two_is (type_of around (typed.Converted n (value_in a))) (Integer n) (type_of around (typed.Converted n (value_in b))) (Integer n) (λ t u. where_holds (is_integer t && same_type t u) int) int
    (converted_is around n a fit_a is_a) (converted_is around n b fit_b is_b) (holds_is (same_type (Integer n) (Integer n)) int (same_type-refl (Integer n)))) refl)

same_alike : (t u : CType) → is_object_pointer t ≡ true → same_type t u ≡ true → are_alike t u ≡ true
same_alike (Pointer p) (Pointer q) object same = or_left (same_type p q || (is_void p && not (is_function q))) _ (or_left (same_type p q) _ same)
same_alike (Pointer p) u object same = absurd (false≢true same)
same_alike t u object same = absurd (false≢true object)

comparable_same : (relation : Relation) (t u : CType) → is_object_pointer t ≡ true → same_type t u ≡ true → are_comparable relation t u ≡ true
comparable_same R.Eq t u object same = same_alike t u object same
comparable_same R.Ne t u object same = same_alike t u object same
comparable_same relation t u object same = and_from (is_object_pointer t) (same_type t u) object same

compared_pointers : (around : Context) (relation : Relation) (whole : Pos) (t u : CType) (left right : Value) → type_of around left ≡ Some t → type_of around right ≡ Some u → are_comparable relation t u ≡ true
    → KnownFits around (value_of_type int (typed.ComparePointers relation whole left right))
compared_pointers around relation whole t u left right one other alike =
    value_result around int (typed.ComparePointers relation whole left right)
    (given_two_is (type_of around left) t (type_of around right) u (λ a b. where_holds (are_comparable relation a b) int) int one other (holds_is (are_comparable relation t u) int alike)) refl refl refl

pub ordered_yields : (around : Context) (relation : Relation) (whole : Pos) (a b : Known) → ValueFits around a → ValueFits around b → Yields (KnownFits around) (ordered relation whole a b)
ordered_yields around relation whole a b fit_a fit_b =
    either_case (λ (checked : Checked Known). Yields (KnownFits around) checked) (both_integers a b) _ _
    (λ integers. let parts = and_parts (is_integer a.c_type) (is_integer b.c_type) integers in compared_yields around relation a b fit_a fit_b parts.0 parts.1)
    (λ other. require_yields (KnownFits around) (is_object_pointer a.c_type && same_type a.c_type b.c_type) T.T11 whole _
    (λ same. let parts = and_parts (is_object_pointer a.c_type) (same_type a.c_type b.c_type) same in
    give_yields (KnownFits around) _ (compared_pointers around relation whole a.c_type b.c_type (value_in a) (value_in b) (value_has around a fit_a).0 (value_has around b fit_b).0
    (comparable_same relation a.c_type b.c_type parts.0 parts.1))))

pub equated_yields : (around : Context) (relation : Relation) (whole : Pos) (a b : Known) → ((t u : CType) → are_alike t u ≡ true → are_comparable relation t u ≡ true) → ValueFits around a → ValueFits around b → Yields (KnownFits around) (equated relation whole a b)
equated_yields around relation whole a b alike fit_a fit_b =
    either_case (λ (checked : Checked Known). Yields (KnownFits around) checked) (both_integers a b) _ _
    (λ integers. let parts = and_parts (is_integer a.c_type) (is_integer b.c_type) integers in compared_yields around relation a b fit_a fit_b parts.0 parts.1)
    (λ other. require_yields (KnownFits around) (pointers_agree a b) T.T11 whole _
    (λ agree. let target = target_of (agreed_pointer a b) in
    give_yields (KnownFits around) _ (compared_pointers around relation whole (unconverted_as target a.c_type a.is_null) (unconverted_as target b.c_type b.is_null) (unconverted_value target a) (unconverted_value target b)
    (unconverted_type around target a fit_a) (unconverted_type around target b fit_b)
    (alike (unconverted_as target a.c_type a.is_null) (unconverted_as target b.c_type b.is_null) (known_alike a b agree)))))

-- ---- conditions

pub both_fit : (around : Context) (a b : Condition) → is_condition around a.test ≡ true → is_condition around b.test ≡ true → KnownFits around (both a b)
both_fit around a b one other =
    let t = condition_type around a.test one in
    let u = condition_type around b.test other in
    integer_result around I.Int _ (typed.And a.test b.test)
    (given_two_is (type_of around a.test) t.0 (type_of around b.test) u.0 (λ x y. where_holds (is_integer x && is_integer y) int) int t.1 u.1 (holds_is (is_integer t.0 && is_integer u.0) int (and_from (is_integer t.0) (is_integer u.0) t.2 u.2))) refl

pub either_fit : (around : Context) (a b : Condition) → is_condition around a.test ≡ true → is_condition around b.test ≡ true → KnownFits around (either a b)
either_fit around a b one other =
    let t = condition_type around a.test one in
    let u = condition_type around b.test other in
    integer_result around I.Int _ (typed.Or a.test b.test)
    (given_two_is (type_of around a.test) t.0 (type_of around b.test) u.0 (λ x y. where_holds (is_integer x && is_integer y) int) int t.1 u.1 (holds_is (is_integer t.0 && is_integer u.0) int (and_from (is_integer t.0) (is_integer u.0) t.2 u.2))) refl

-- ---- all of them

-- what an operator asks of an operand
abbrev OperandFits : Context → OperandKind → Known → Type 0
OperandFits around AnInteger known = ValueFits around known × (is_integer known.c_type ≡ true)
OperandFits around AnyValue known = ValueFits around known
OperandFits around AScalar known = ValueFits around known × (is_scalar known.c_type ≡ true)

operand_yields : (around : Context) (kind : OperandKind) (place : Pos) (part : Checked Known) → Yields (KnownFits around) part → Yields (OperandFits around kind) (operand kind place part)
operand_yields around AnInteger place part yields = integer_yields around place part yields
operand_yields around AnyValue place part yields = value_yields around place part yields
operand_yields around AScalar place part yields = scalar_yields around place part yields

combined_yields : (scope : Scope) (around : Context) → Fits scope around → (operator : BinaryOperator) (whole right_place : Pos) (a b : Known) → OperandFits around (operand_kind operator) a → OperandFits around (operand_kind operator) b
    → Yields (KnownFits around) (combined scope operator whole right_place a b)
combined_yields scope around fits O.Multiply whole right_place a b one other = arithmetic_yields around B.Mul whole a b one.0 other.0 one.1 other.1
combined_yields scope around fits O.Divide whole right_place a b one other = arithmetic_yields around B.Div whole a b one.0 other.0 one.1 other.1
combined_yields scope around fits O.Remainder whole right_place a b one other = arithmetic_yields around B.Rem whole a b one.0 other.0 one.1 other.1
combined_yields scope around fits O.Add whole right_place a b one other = sum_yields scope around fits whole a b one other
combined_yields scope around fits O.Subtract whole right_place a b one other = difference_yields scope around fits whole a b one other
combined_yields scope around fits O.ShiftLeft whole right_place a b one other = shifted_yields around B.Shl whole a b refl one.0 other.0 one.1 other.1
combined_yields scope around fits O.ShiftRight whole right_place a b one other = shifted_yields around B.Shr whole a b refl one.0 other.0 one.1 other.1
combined_yields scope around fits O.Less whole right_place a b one other = ordered_yields around R.Lt whole a b one other
combined_yields scope around fits O.Greater whole right_place a b one other = ordered_yields around R.Gt whole a b one other
combined_yields scope around fits O.LessEqual whole right_place a b one other = ordered_yields around R.Le whole a b one other
combined_yields scope around fits O.GreaterEqual whole right_place a b one other = ordered_yields around R.Ge whole a b one other
combined_yields scope around fits O.Equal whole right_place a b one other = equated_yields around R.Eq whole a b (λ t u alike. alike) one other
combined_yields scope around fits O.NotEqual whole right_place a b one other = equated_yields around R.Ne whole a b (λ t u alike. alike) one other
combined_yields scope around fits O.BitAnd whole right_place a b one other = arithmetic_yields around B.And whole a b one.0 other.0 one.1 other.1
combined_yields scope around fits O.BitXor whole right_place a b one other = arithmetic_yields around B.Xor whole a b one.0 other.0 one.1 other.1
combined_yields scope around fits O.BitOr whole right_place a b one other = arithmetic_yields around B.Or whole a b one.0 other.0 one.1 other.1
combined_yields scope around fits O.And whole right_place a b one other =
    give_yields (KnownFits around) _ (both_fit around (condition_of whole a) (condition_of right_place b) (condition_fits around whole a one.0 one.1) (condition_fits around right_place b other.0 other.1))
combined_yields scope around fits O.Or whole right_place a b one other =
    give_yields (KnownFits around) _ (either_fit around (condition_of whole a) (condition_of right_place b) (condition_fits around whole a one.0 one.1) (condition_fits around right_place b other.0 other.1))

pub binary_yields : (scope : Scope) (around : Context) → Fits scope around → (operator : BinaryOperator) (place right_place : Pos) (left right : Checked Known) → Yields (KnownFits around) left → Yields (KnownFits around) right
    → Yields (KnownFits around) (binary scope operator place right_place left right)
binary_yields scope around fits operator place right_place left right one other =
    given_two_yields (OperandFits around (operand_kind operator)) (OperandFits around (operand_kind operator)) (KnownFits around)
    (operand (operand_kind operator) place left) (operand (operand_kind operator) right_place right) (combined scope operator place right_place)
    (operand_yields around (operand_kind operator) place left one) (operand_yields around (operand_kind operator) right_place right other)
    (combined_yields scope around fits operator place right_place)
