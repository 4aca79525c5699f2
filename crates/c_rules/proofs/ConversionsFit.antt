-- Values, and conversions of them, fit.
use Rattle.std.proofs.Common.{◌≡◌, true, false, not, ◌&&◌, ◌||◌, Option, Some, None, refl, ap, sym, ◌∙◌}
use Rattle.std.proofs.lemmas.Bool.{and_parts, and_from, false≢true, true≢false}
use Rattle.run_theory.specs.declared.place.Pos.{Pos}
use Rattle.c_num.specs.declared.IntType.{IntType}
use Rattle.c_rules.specs.declared.rule.TypeRule.TheVariants as T
use Rattle.c_typed.specs.Types.{CType, Void, Integer, Pointer, Array, Struct, Function, int, same_type, is_integer, is_pointer, is_void, is_struct, is_function, is_object_pointer, is_void_pointer, decayed}
use Rattle.c_typed.specs.Typed as typed
use Rattle.c_typed.specs.Typed.{Value}
use Rattle.c_typed.proofs.Same.{same_type-true}
use Rattle.c_rules.specs.Known.{Checked, Known, TypedExpr, OfValue, OfObject, OfFunction, OfLibrary, give, value_from, value_in, read_value, value_rule, as_value}
use Rattle.c_rules.specs.Operators.{fits, pointer_fits, converted, Condition, condition_of, scalar_rule, integer_rule, as_scalar, as_integer, as_condition}
use Rattle.c_typed.specs.Context.{Context}
use Rattle.c_typed.specs.Expressions.{where_holds, first_element, is_scalar, is_conversion, repoints, type_of, type_of_object, type_of_designator}
use Rattle.c_typed.specs.Statements.{is_condition, holds_for}
use Rattle.c_rules.specs.Proper.{is_proper}
use Rattle.c_rules.specs.Fitting.{Yields, TypedFits, KnownFits, ValueFits, IsOfValue}
use Rattle.c_rules.proofs.Yielding.{either_case, give_yields, unless_yields, require_yields, given_yields}
use Rattle.c_rules.proofs.TypeSteps.{given_is, holds_is, not_true, or_none, or_case}
use Rattle.c_rules.proofs.Addresses.{read_address}

-- ---- what is read

pub read_typed : (around : Context) (place : Pos) (t : CType) (expression : TypedExpr) → TypedFits around t expression → not (is_struct t) ≡ true → is_proper t ≡ true → TypedFits around (decayed t) (OfValue (value_from place t expression))
read_typed around place Void (OfValue value) fit plain proper = fit
read_typed around place (Integer n) (OfValue value) fit plain proper = fit
read_typed around place (Pointer target) (OfValue value) fit plain proper = fit
read_typed around place t (OfValue value) fit plain proper = absurd (false≢true fit.2)
read_typed around place (Integer n) (OfObject object) fit plain proper = (given_is (type_of_object around object) (Integer n) (λ t. where_holds (is_scalar t) t) (Integer n) fit.0 refl, refl, refl)
read_typed around place (Pointer target) (OfObject object) fit plain proper = (given_is (type_of_object around object) (Pointer target) (λ t. where_holds (is_scalar t) t) (Pointer target) fit.0 refl, refl, refl)
read_typed around place (Array element n) (OfObject object) fit plain proper = (
  given_is (type_of_object around object) (Array element n) first_element (Pointer element) fit.0
      (ap (λ b. where_holds b (Pointer element)) (and_parts (not (is_function element)) (is_proper element) proper).0),
  refl,
  refl,
)
read_typed around place Void (OfObject object) fit plain proper = absurd (false≢true fit.1)
read_typed around place (Function result parameters) (OfObject object) fit plain proper = absurd (false≢true fit.1)
read_typed around place (Struct tag) (OfObject object) fit plain proper = absurd (false≢true plain)
read_typed around place (Function result parameters) (OfFunction function) fit plain proper =
    (given_is (type_of_designator around function) (Function result parameters) (λ t. Some (Pointer t)) (Pointer (Function result parameters)) fit.0 refl, refl, refl)
read_typed around place t (OfFunction function) fit plain proper = absurd (false≢true fit.1)
read_typed around place t (OfLibrary function groups) fit plain proper = absurd fit

pub read_proper : (t : CType) → is_proper t ≡ true → is_proper (decayed t) ≡ true
read_proper (Array element n) proper = (and_parts (not (is_function element)) (is_proper element) proper).1
read_proper Void proper = proper
read_proper (Integer n) proper = proper
read_proper (Pointer target) proper = proper
read_proper (Struct tag) proper = proper
read_proper (Function result parameters) proper = proper

read_null : (t : CType) → (is_integer t || is_void_pointer t) ≡ true → (is_integer (decayed t) || is_void_pointer (decayed t)) ≡ true
read_null (Integer n) null = null
read_null (Pointer target) null = null
read_null t null = absurd (false≢true null)

pub read_fits : (around : Context) (place : Pos) (known : Known) → KnownFits around known → not (is_struct known.c_type) ≡ true → ValueFits around (read_value place known)
read_fits around place known fit plain = record {
  known_fits = record {
    typed = read_typed around place known.c_type known.typed fit.typed plain fit.proper;
    proper = read_proper known.c_type fit.proper;
    null = λ null. (read_null known.c_type (fit.null null).0, tt);
    address = read_address around (value_from place known.c_type known.typed) known.c_type known.typed known.address fit.typed fit.proper fit.address;
  };
  value = tt;
}

pub value_yields : (around : Context) (place : Pos) (part : Checked Known) → Yields (KnownFits around) part → Yields (ValueFits around) (as_value place part)
value_yields around place part fit =
    given_yields (KnownFits around) (ValueFits around) part (value_rule place) fit
    (λ known fits_known. unless_yields (ValueFits around) (not (is_struct known.c_type)) T.T19 place (give (read_value place known))
    (λ plain. give_yields (ValueFits around) (read_value place known) (read_fits around place known fits_known plain)))

-- ---- values

-- what a value's tree has
pub in_value : (around : Context) (place : Pos) (t : CType) (expression : TypedExpr) → TypedFits around t expression → IsOfValue expression → TypedFits around t (OfValue (value_from place t expression))
in_value around place t (OfValue value) fit is = fit
in_value around place t (OfObject object) fit is = absurd is
in_value around place t (OfFunction function) fit is = absurd is
in_value around place t (OfLibrary function groups) fit is = absurd is

pub value_has : (around : Context) (known : Known) → ValueFits around known → TypedFits around known.c_type (OfValue (value_in known))
value_has around known fit = in_value around (record { line = 1; column = 1 }) known.c_type known.typed fit.known_fits.typed fit.value

pub scalar_yields : (around : Context) (place : Pos) (part : Checked Known) → Yields (KnownFits around) part → Yields (λ known. ValueFits around known × (is_scalar known.c_type ≡ true)) (as_scalar place part)
scalar_yields around place part fit =
    given_yields (ValueFits around) (λ known. ValueFits around known × (is_scalar known.c_type ≡ true)) (as_value place part) (scalar_rule place) (value_yields around place part fit)
    (λ known one. require_yields (λ k. ValueFits around k × (is_scalar k.c_type ≡ true)) (is_scalar known.c_type) T.T08 place (give known) (λ is none. (known, refl, (one, is))))

pub integer_yields : (around : Context) (place : Pos) (part : Checked Known) → Yields (KnownFits around) part → Yields (λ known. ValueFits around known × (is_integer known.c_type ≡ true)) (as_integer place part)
integer_yields around place part fit =
    given_yields (ValueFits around) (λ known. ValueFits around known × (is_integer known.c_type ≡ true)) (as_value place part) (integer_rule place) (value_yields around place part fit)
    (λ known one. require_yields (λ k. ValueFits around k × (is_integer k.c_type ≡ true)) (is_integer known.c_type) T.T07 place (give known) (λ is none. (known, refl, (one, is))))

-- ---- conversions

pub converted_type : (around : Context) (int_type : IntType) (t : CType) (value : Value) → TypedFits around t (OfValue value) → is_integer t ≡ true → type_of around (typed.Converted int_type value) ≡ Some (Integer int_type)
converted_type around int_type t value fit is =
    given_is (type_of around value) t (λ a. where_holds (is_integer a && not (is_conversion value)) (Integer int_type)) (Integer int_type) fit.0
    (holds_is (is_integer t && not (is_conversion value)) (Integer int_type) (and_from (is_integer t) (not (is_conversion value)) is (not_true (is_conversion value) fit.1)))

pub null_type : (around : Context) (target t : CType) (value : Value) → TypedFits around t (OfValue value) → (is_integer t || is_void_pointer t) ≡ true → type_of around (typed.MadeNull target value) ≡ Some (Pointer target)
null_type around target t value fit is =
    given_is (type_of around value) t (λ a. where_holds ((is_integer a || is_void_pointer a) && not (is_conversion value)) (Pointer target)) (Pointer target) fit.0
    (holds_is ((is_integer t || is_void_pointer t) && not (is_conversion value)) (Pointer target) (and_from (is_integer t || is_void_pointer t) (not (is_conversion value)) is (not_true (is_conversion value) fit.1)))

pub object_repoints : (t target : CType) → is_object_pointer t ≡ true → not (is_function target) ≡ true → repoints t target ≡ true
object_repoints t (Function result parameters) is object = absurd (false≢true object)
object_repoints t Void is object = is
object_repoints t (Integer n) is object = is
object_repoints t (Pointer target) is object = is
object_repoints t (Array element n) is object = is
object_repoints t (Struct tag) is object = is

pub repointed_type : (around : Context) (place : Pos) (target t : CType) (value : Value) → TypedFits around t (OfValue value) → repoints t target ≡ true → type_of around (typed.Repointed place target value) ≡ Some (Pointer target)
repointed_type around place target t value fit is =
    given_is (type_of around value) t (λ a. where_holds (repoints a target && not (is_conversion value)) (Pointer target)) (Pointer target) fit.0
    (holds_is (repoints t target && not (is_conversion value)) (Pointer target) (and_from (repoints t target) (not (is_conversion value)) is (not_true (is_conversion value) fit.1)))

void_is_object : (t : CType) → is_void_pointer t ≡ true → is_object_pointer t ≡ true
void_is_object (Pointer Void) h = refl
void_is_object (Pointer t) h = absurd (false≢true h)
void_is_object t h = absurd (false≢true h)

-- pointers to objects that convert
pub pointer_parts : (target source : CType) → pointer_fits (Pointer target) source ≡ true → same_type (Pointer target) source ≡ false → (is_object_pointer source ≡ true) × (not (is_function target) ≡ true)
pointer_parts target source holds differs =
    let parts = and_parts (is_pointer source) (same_type (Pointer target) source || ((is_void target && is_object_pointer source) || (is_void_pointer source && not (is_function target)))) holds in
    or_case (same_type (Pointer target) source) ((is_void target && is_object_pointer source) || (is_void_pointer source && not (is_function target))) parts.1
    (λ same. absurd (true≢false (sym same ∙ differs)))
    (λ others. or_case (is_void target && is_object_pointer source) (is_void_pointer source && not (is_function target)) others
    (λ void. let both = and_parts (is_void target) (is_object_pointer source) void in (both.1, void_is_object (Pointer target) both.0))
    (λ void. let both = and_parts (is_void_pointer source) (not (is_function target)) void in (void_is_object source both.0, both.1)))

pub converted_fits : (around : Context) (place : Pos) (target : CType) (known : Known) → ValueFits around known → fits target known ≡ true → type_of around (converted place target known) ≡ Some target
converted_fits around place (Integer int_type) known fit holds = converted_type around int_type known.c_type (value_in known) (value_has around known fit) (or_none (is_integer known.c_type) holds)
converted_fits around place (Pointer target) known fit holds =
    either_case (λ value. type_of around value ≡ Some (Pointer target)) known.is_null _ _
    (λ null. null_type around target known.c_type (value_in known) (value_has around known fit) (fit.known_fits.null null).0)
    (λ some. either_case (λ value. type_of around value ≡ Some (Pointer target)) (same_type (Pointer target) known.c_type) _ _
    (λ same. (value_has around known fit).0 ∙ ap Some (sym (same_type-true (Pointer target) known.c_type same)))
    (λ differs. or_case known.is_null (pointer_fits (Pointer target) known.c_type) holds
    (λ null. absurd (true≢false (sym null ∙ some)))
    (λ one. let parts = pointer_parts target known.c_type one differs in
    repointed_type around place target known.c_type (value_in known) (value_has around known fit) (object_repoints known.c_type target parts.0 parts.1))))
converted_fits around place t known fit holds = absurd (false≢true holds)

-- what fits a type is an integer or a pointer
pub fits_scalar : (target : CType) (known : Known) → fits target known ≡ true → is_scalar target ≡ true
fits_scalar (Integer int_type) known holds = refl
fits_scalar (Pointer target) known holds = refl
fits_scalar t known holds = absurd (false≢true holds)

-- ---- conditions

scalar_pointer : (t : CType) → is_scalar t ≡ true → is_integer t ≡ false → is_pointer t ≡ true
scalar_pointer (Pointer target) is differs = refl
scalar_pointer (Integer n) is differs = absurd (true≢false differs)
scalar_pointer t is differs = absurd (false≢true is)

pub condition_fits : (around : Context) (place : Pos) (known : Known) → ValueFits around known → is_scalar known.c_type ≡ true → is_condition around (condition_of place known).test ≡ true
condition_fits around place known fit is =
    let has = value_has around known fit in
    either_case (λ (condition : Condition). is_condition around condition.test ≡ true) (is_integer known.c_type) _ _
    (λ integer. ap (holds_for is_integer) has.0 ∙ integer)
    (λ differs. ap (holds_for is_integer) (given_is (type_of around (value_in known)) known.c_type (λ a. where_holds (is_pointer a && not (is_conversion (value_in known))) int) int has.0
    (holds_is (is_pointer known.c_type && not (is_conversion (value_in known))) int
    (and_from (is_pointer known.c_type) (not (is_conversion (value_in known))) (scalar_pointer known.c_type is differs) (not_true (is_conversion (value_in known)) has.1)))))

pub condition_yields : (around : Context) (place : Pos) (part : Checked Known) → Yields (KnownFits around) part → Yields (λ condition. is_condition around condition.test ≡ true) (as_condition place part)
condition_yields around place part fit =
    given_yields (λ known. ValueFits around known × (is_scalar known.c_type ≡ true)) (λ condition. is_condition around condition.test ≡ true) (as_scalar place part) (λ value. give (condition_of place value)) (scalar_yields around place part fit)
    (λ known one none. (condition_of place known, refl, condition_fits around place known one.0 one.1))

-- the integer type that a condition has
pub condition_type : (around : Context) (value : Value) → is_condition around value ≡ true → (t : CType) × (type_of around value ≡ Some t) × (is_integer t ≡ true)
condition_type around value holds = by (type_of around value) refl holds
  where
    by : (option : Option CType) → type_of around value ≡ option → holds_for is_integer option ≡ true → (t : CType) × (type_of around value ≡ Some t) × (is_integer t ≡ true)
    by (Some t) is h = (t, is, h)
    by None is h = absurd (false≢true h)
