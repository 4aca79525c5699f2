-- `?:` and assignments fit.
use Rattle.std.proofs.Common.{◌≡◌, Bool, true, false, ◌&&◌, ◌||◌, Option, Some, None, refl, ap, ◌∙◌}
use Rattle.std.proofs.lemmas.Bool.{false≢true, and_parts, and_from}
use Rattle.run_theory.specs.declared.place.Pos.{Pos}
use Rattle.c_num.specs.declared.IntType.{IntType}
use Rattle.c_num.specs.declared.BinOp.{BinOp}
use Rattle.c_num.specs.Types.{promoted, common_of}
use Rattle.c_num.specs.Arith.{is_shift}
use Rattle.c_syntax.specs.declared.operator.AssignOperator.{AssignOperator}
use Rattle.c_rules.specs.declared.rule.TypeRule.TheVariants as T
use Rattle.c_typed.specs.Types.{CType, Void, Integer, Pointer, same_type, is_integer, is_pointer, is_void}
use Rattle.c_typed.specs.Typed as typed
use Rattle.c_typed.specs.Typed.{Value, Object}
use Rattle.c_typed.proofs.Same.{same_type-refl}
use Rattle.c_rules.specs.Names.{Scope}
use Rattle.c_rules.specs.Known.{Checked, Known, given, value_in}
use Rattle.c_rules.specs.Operators
use Rattle.c_rules.specs.Operators.{Condition, fits, converted, both_integers, common_type, int_type_of, pointers_agree, agreed_pointer, integer_choice, choice, object_in, is_modifiable, modifiable_rule, promoted_value, operator_of, moves_pointers, compound_object, assigned_object, assigned_value, compound_integer, compound_value, assignment, assigned}
use Rattle.c_typed.specs.Context.{Context}
use Rattle.c_typed.specs.Expressions as well
use Rattle.c_typed.specs.Expressions.{where_holds, is_scalar, is_right, is_conversion, type_of, type_of_object}
use Rattle.c_typed.specs.Statements.{is_condition}
use Rattle.c_rules.specs.Fitting.{Fits, Yields, KnownFits, ValueFits}
use Rattle.c_rules.proofs.Yielding.{either_case, give_yields, require_yields, given_yields, given_two_yields}
use Rattle.c_rules.proofs.TypeSteps.{given_is, given_two_is, holds_is, or_left, or_right}
use Rattle.c_rules.proofs.Completeness.{pointer_stays}
use Rattle.c_rules.proofs.ConversionsFit.{value_has, value_yields, integer_yields, condition_type, converted_fits, fits_scalar}
use Rattle.c_rules.proofs.Results.{value_result, integer_result, scalar_kind}
use Rattle.c_rules.proofs.UnaryFit.{modifiable_object, modifiable_yields, promoted_is}
use Rattle.c_rules.proofs.AgreementsFit.{known_agreed}
use Rattle.c_rules.proofs.BinaryFit.{converted_is, moved_is}

-- ---- `?:`

choice_type : (around : Context) (condition taken otherwise : Value) (t : CType) → is_condition around condition ≡ true → type_of around taken ≡ Some t → type_of around otherwise ≡ Some t → type_of around (typed.Conditional condition taken otherwise) ≡ Some t
choice_type around condition taken otherwise t test one other =
    let c = condition_type around condition test in
    given_is (type_of around condition) c.0 (λ c_type. well.given_two (type_of around taken) (type_of around otherwise) (λ a b. where_holds (is_integer c_type && same_type a b) a)) t c.1
    (given_two_is (type_of around taken) t (type_of around otherwise) t (λ a b. where_holds (is_integer c.0 && same_type a b) a) t one other
    (holds_is (is_integer c.0 && same_type t t) t (and_from (is_integer c.0) (same_type t t) c.2 (same_type-refl t))))

pub integer_choice_yields : (around : Context) (condition : Condition) (a b : Known) → is_condition around condition.test ≡ true → ValueFits around a → ValueFits around b → is_integer a.c_type ≡ true → is_integer b.c_type ≡ true
    → Yields (KnownFits around) (integer_choice condition a b)
integer_choice_yields around condition a b test fit_a fit_b is_a is_b =
    let n = common_type a b in
    give_yields (KnownFits around) _ (integer_result around n _ (typed.Conditional condition.test (typed.Converted n (value_in a)) (typed.Converted n (value_in b)))
    (choice_type around condition.test (typed.Converted n (value_in a)) (typed.Converted n (value_in b)) (Integer n) test (converted_is around n a fit_a is_a) (converted_is around n b fit_b is_b)) refl)

is_void_type : (t : CType) → is_void t ≡ true → t ≡ Void
is_void_type Void is = refl
is_void_type t is = absurd (false≢true is)

pointer_kind : (t : CType) → is_pointer t ≡ true → (is_scalar t || is_void t) ≡ true
pointer_kind (Pointer target) is = refl
pointer_kind t is = absurd (false≢true is)

pub choice_yields : (around : Context) (whole : Pos) (condition : Condition) (a b : Known) → is_condition around condition.test ≡ true → ValueFits around a → ValueFits around b → Yields (KnownFits around) (choice whole condition a b)
choice_yields around whole condition a b test fit_a fit_b =
    either_case (λ (checked : Checked Known). Yields (KnownFits around) checked) (both_integers a b) _ _
    (λ integers. let parts = and_parts (is_integer a.c_type) (is_integer b.c_type) integers in integer_choice_yields around condition a b test fit_a fit_b parts.0 parts.1)
    (λ other. either_case (λ (checked : Checked Known). Yields (KnownFits around) checked) (is_void a.c_type && is_void b.c_type) _ _
    (λ voids. let parts = and_parts (is_void a.c_type) (is_void b.c_type) voids in
    give_yields (KnownFits around) _ (value_result around Void (typed.Conditional condition.test (value_in a) (value_in b))
    (choice_type around condition.test (value_in a) (value_in b) Void test ((value_has around a fit_a).0 ∙ ap Some (is_void_type a.c_type parts.0)) ((value_has around b fit_b).0 ∙ ap Some (is_void_type b.c_type parts.1))) refl refl refl))
    (λ some. require_yields (KnownFits around) (pointers_agree a b) T.T11 whole _
    (λ agree. let both = agreed_pointer a b in let is = known_agreed a b agree in
    give_yields (KnownFits around) _ (value_result around both (typed.Conditional condition.test (converted whole both a) (converted whole both b))
    (choice_type around condition.test (converted whole both a) (converted whole both b) both test (converted_fits around whole both a fit_a is.first) (converted_fits around whole both b fit_b is.second)) refl
    (pointer_kind both is.pointer) (is.proper fit_a.known_fits.proper fit_b.known_fits.proper)))))

-- ---- assignments

-- an object that is assigned to by an operator
abbrev ObjectFits : Context → Option BinOp → Known → Type 0
ObjectFits around None known = KnownFits around known × (is_modifiable known ≡ true)
ObjectFits around (Some op) known = KnownFits around known × (is_modifiable known ≡ true) × ((is_integer known.c_type || well.is_pointer_to_complete around.program.structs known.c_type) ≡ true)

compound_object_yields : (scope : Scope) (around : Context) → Fits scope around → (op : BinOp) (place : Pos) (object : Known) → KnownFits around object → is_modifiable object ≡ true → Yields (ObjectFits around (Some op)) (compound_object scope op place object)
compound_object_yields scope around fits op place object fit is =
    either_case (λ (checked : Checked Known). Yields (ObjectFits around (Some op)) checked) (moves_pointers op && is_pointer object.c_type) _ _
    (λ moves. require_yields (ObjectFits around (Some op)) (Operators.is_pointer_to_complete scope object.c_type) T.T14 place _
    (λ complete. give_yields (ObjectFits around (Some op)) object (fit, is, or_right (is_integer object.c_type) _ (pointer_stays scope around fits object.c_type complete))))
    (λ other. require_yields (ObjectFits around (Some op)) (is_integer object.c_type) T.T07 place _
    (λ integer. give_yields (ObjectFits around (Some op)) object (fit, is, or_left (is_integer object.c_type) _ integer)))

plain_object_yields : (around : Context) (place : Pos) (object : Checked Known) → Yields (KnownFits around) object → Yields (ObjectFits around None) (given object (modifiable_rule place))
plain_object_yields around place object yields =
    given_yields (KnownFits around) (ObjectFits around None) object (modifiable_rule place) yields (λ known fit. modifiable_yields around place known fit)

assigned_object_yields : (scope : Scope) (around : Context) → Fits scope around → (operator : Option BinOp) (place : Pos) (object : Checked Known) → Yields (KnownFits around) object → Yields (ObjectFits around operator) (assigned_object scope operator place object)
assigned_object_yields scope around fits None place object yields = plain_object_yields around place object yields
assigned_object_yields scope around fits (Some op) place object yields =
    given_yields (ObjectFits around None) (ObjectFits around (Some op)) (given object (modifiable_rule place)) (compound_object scope op place)
    (plain_object_yields around place object yields) (λ known one. compound_object_yields scope around fits op place known one.0 one.1)

abbrev RightFits : Context → Option BinOp → Known → Type 0
RightFits around None known = ValueFits around known
RightFits around (Some op) known = ValueFits around known × (is_integer known.c_type ≡ true)

assigned_value_yields : (around : Context) (operator : Option BinOp) (place : Pos) (part : Checked Known) → Yields (KnownFits around) part → Yields (RightFits around operator) (assigned_value operator place part)
assigned_value_yields around None place part yields = value_yields around place part yields
assigned_value_yields around (Some op) place part yields = integer_yields around place part yields

-- the operator of an assignment at an integer object
compound_type : (around : Context) (op : BinOp) (whole : Pos) (n m : IntType) (object : Object) (value : Value) (t : CType) → type_of_object around object ≡ Some (Integer n) → type_of around value ≡ Some t → is_right op (Integer m) t ≡ true
    → type_of around (typed.AssignArithmetic op whole n m object value) ≡ Some (Integer n)
compound_type around op whole n m object value t one other is =
    given_two_is (type_of_object around object) (Integer n) (type_of around value) t (λ a b. where_holds (same_type a (Integer n) && is_right op (Integer m) b) a) (Integer n) one other
    (holds_is (same_type (Integer n) (Integer n) && is_right op (Integer m) t) (Integer n) (and_from (same_type (Integer n) (Integer n)) (is_right op (Integer m) t) (same_type-refl (Integer n)) is))

compound_integer_type : (around : Context) (op : BinOp) (whole : Pos) (n : IntType) (object : Object) (value : Known) → type_of_object around object ≡ Some (Integer n) → ValueFits around value → is_integer value.c_type ≡ true
    → (type_of around (compound_integer op whole n object value) ≡ Some (Integer n)) × (is_conversion (compound_integer op whole n object value) ≡ false)
compound_integer_type around op whole n object value is fit integer = by (is_shift op) refl
  where
    by : (b : Bool) → is_shift op ≡ b → (type_of around (compound_integer op whole n object value) ≡ Some (Integer n)) × (is_conversion (compound_integer op whole n object value) ≡ false)
    by true shift = rw shift (compound_type around op whole n (promoted n) object (promoted_value value) (Integer (Operators.promoted_type value.c_type)) is (promoted_is around value fit integer) (rw shift refl), refl)
    by false other =
        let m = common_of n (int_type_of value.c_type) in
        rw other (compound_type around op whole n m object (typed.Converted m (value_in value)) (Integer m) is (converted_is around m value fit integer) (rw other (same_type-refl (Integer m))), refl)

compound_value_type : (around : Context) (op : BinOp) (whole : Pos) (t : CType) (object : Object) (value : Known) → type_of_object around object ≡ Some t → (is_integer t || well.is_pointer_to_complete around.program.structs t) ≡ true
    → ValueFits around value → is_integer value.c_type ≡ true
    → (type_of around (compound_value op whole t object value) ≡ Some t) × (is_conversion (compound_value op whole t object value) ≡ false) × (is_scalar t ≡ true)
compound_value_type around op whole (Integer n) object value is complete fit integer = let parts = compound_integer_type around op whole n object value is fit integer in (parts.0, parts.1, refl)
compound_value_type around op whole (Pointer target) object value is complete fit integer = (
  given_two_is (type_of_object around object) (Pointer target) (type_of around (value_in value)) value.c_type (well.moved around.program.structs) (Pointer target) is (value_has around value fit).0
      (moved_is around.program.structs (Pointer target) value.c_type complete integer),
  refl,
  refl,
)
compound_value_type around op whole t object value is complete fit integer = absurd (false≢true complete)

assignment_yields : (around : Context) (operator : Option BinOp) (whole value_place : Pos) (left right : Known) → ObjectFits around operator left → RightFits around operator right → Yields (KnownFits around) (assignment operator whole value_place left right)
assignment_yields around None whole value_place left right one other =
    require_yields (KnownFits around) (fits left.c_type right) T.T10 value_place _
    (λ holds. let scalar = fits_scalar left.c_type right holds in
    give_yields (KnownFits around) _ (value_result around left.c_type (typed.Assign whole (object_in left.typed) (converted whole left.c_type right))
    (given_two_is (type_of_object around (object_in left.typed)) left.c_type (type_of around (converted whole left.c_type right)) left.c_type (λ a b. where_holds (is_scalar a && same_type a b) a) left.c_type
    (modifiable_object around left one.0 one.1) (converted_fits around whole left.c_type right other holds)
    (holds_is (is_scalar left.c_type && same_type left.c_type left.c_type) left.c_type (and_from (is_scalar left.c_type) (same_type left.c_type left.c_type) scalar (same_type-refl left.c_type))))
    refl (scalar_kind left.c_type scalar) one.0.proper))
assignment_yields around (Some op) whole value_place left right one other =
    let parts = compound_value_type around op whole left.c_type (object_in left.typed) right (modifiable_object around left one.0 one.1) one.2 other.0 other.1 in
    give_yields (KnownFits around) _ (value_result around left.c_type (compound_value op whole left.c_type (object_in left.typed) right) parts.0 parts.1 (scalar_kind left.c_type parts.2) one.0.proper)

pub assigned_yields : (scope : Scope) (around : Context) → Fits scope around → (operator : AssignOperator) (place value_place : Pos) (object value : Checked Known) → Yields (KnownFits around) object → Yields (KnownFits around) value
    → Yields (KnownFits around) (assigned scope operator place value_place object value)
assigned_yields scope around fits operator place value_place object value one other =
    given_two_yields (ObjectFits around (operator_of operator)) (RightFits around (operator_of operator)) (KnownFits around)
    (assigned_object scope (operator_of operator) place object) (assigned_value (operator_of operator) value_place value) (assignment (operator_of operator) place value_place)
    (assigned_object_yields scope around fits (operator_of operator) place object one) (assigned_value_yields around (operator_of operator) value_place value other)
    (assignment_yields around (operator_of operator) place value_place)
