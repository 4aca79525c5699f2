-- Operators of one operand, sizes and casts fit.
use Rattle.std.proofs.Common.{◌≡◌, true, false, not, ◌&&◌, ◌||◌, Option, Some, None, is_some, pos, ◌⊎◌, inl, inr, refl, ap, sym, ◌∙◌, subst}
use Rattle.std.proofs.lemmas.Bool.{false≢true, true≢false, and_parts}
use Rattle.run_theory.specs.declared.place.Pos.{Pos}
use Rattle.c_num.specs.declared.IntType.{IntType}
use Rattle.c_num.specs.declared.IntType.TheVariants as I
use Rattle.c_num.specs.Types.{is_value}
use Rattle.c_syntax.specs.declared.operator.PrefixOperator.{PrefixOperator}
use Rattle.c_syntax.specs.declared.operator.PrefixOperator.TheVariants as P
use Rattle.c_rules.specs.declared.rule.TypeRule.TheVariants as T
use Rattle.c_typed.specs.Types.{CType, Void, Integer, Pointer, Array, Struct, Function, int, same_type, is_integer, is_void, is_array, is_function, is_object_pointer, is_void_pointer, is_function_pointer}
use Rattle.c_typed.specs.Layouts.{is_complete, layout_of}
use Rattle.c_typed.specs.Typed as typed
use Rattle.c_typed.specs.Typed.{Value, Object}
use Rattle.c_typed.specs.declared.typed.Stepping.{Stepping}
use Rattle.c_typed.specs.declared.typed.Stepping.TheVariants as S
use Rattle.c_typed.proofs.Same.{same_type-refl}
use Rattle.c_rules.specs.Names.{Scope}
use Rattle.c_rules.specs.Known.{Checked, Known, TypedExpr, OfValue, OfObject, give, value_in, as_value}
use Rattle.c_rules.specs.Constants
use Rattle.c_rules.specs.Operators
use Rattle.c_rules.specs.Operators.{condition_of, as_integer, as_scalar, object_in, is_modifiable, modifiable_rule, stepped, step_value, promoted_type, promoted_value, prefixed, size_of, size_value, cast_to, dropped, logical_not, with_plus, with_minus, with_complement}
use Rattle.c_typed.specs.Context.{Context}
use Rattle.c_typed.specs.Expressions as well
use Rattle.c_typed.specs.Expressions.{where_holds, is_scalar, is_conversion, type_of, type_of_object}
use Rattle.c_rules.specs.Proper.{is_proper}
use Rattle.c_rules.specs.Fitting.{Fits, Yields, TypedFits, AddressFits, StandsIn, KnownFits, ValueFits}
use Rattle.c_rules.proofs.Yielding.{either_case, give_yields, refuse_yields, require_yields, given_yields}
use Rattle.c_rules.proofs.TypeSteps.{given_is, holds_is, or_case}
use Rattle.c_rules.proofs.Completeness.{complete_stays}
use Rattle.c_rules.proofs.Addresses.{retyped_fits, no_function_in}
use Rattle.c_rules.proofs.ConversionsFit.{value_has, value_yields, integer_yields, scalar_yields, condition_fits, condition_type, converted_type, null_type, object_repoints, repointed_type}
use Rattle.c_rules.proofs.SizeValues.{size_below, size_is_value}
use Rattle.c_rules.proofs.Results.{value_result, integer_result, scalar_kind}
use Rattle.c_rules.proofs.Unused.{dropped-some}
use Rattle.c_rules.proofs.PointersFit.{address_yields, dereferenced_yields, value_address_fits, no_row}

-- ---- objects that are assigned to

pub modifiable_object : (around : Context) (known : Known) → KnownFits around known → is_modifiable known ≡ true → type_of_object around (object_in known.typed) ≡ Some known.c_type
modifiable_object around known fit is = by known.typed (and_parts (Operators.is_object known.typed) (not (is_array known.c_type)) is).0 fit.typed
  where
    by : (expression : TypedExpr) → Operators.is_object expression ≡ true → TypedFits around known.c_type expression → type_of_object around (object_in expression) ≡ Some known.c_type
    by (OfObject object) is fit = fit.0
    by expression is fit = absurd (false≢true is)

pub modifiable_yields : (around : Context) (whole : Pos) (known : Known) → KnownFits around known → Yields (λ object. KnownFits around object × (is_modifiable object ≡ true)) (modifiable_rule whole known)
modifiable_yields around whole known fit =
    require_yields (λ object. KnownFits around object × (is_modifiable object ≡ true)) (is_modifiable known) T.T09 whole (give known)
    (λ is none. (known, refl, (fit, is)))

-- ---- `++` and `--`

step_fits : (around : Context) (stepping : Stepping) (whole : Pos) (t : CType) (object : Object) → type_of_object around object ≡ Some t → is_scalar t ≡ true → (is_integer t || well.is_pointer_to_complete around.program.structs t) ≡ true
    → (type_of around (step_value stepping whole t object) ≡ Some t) × (is_conversion (step_value stepping whole t object) ≡ false)
step_fits around stepping whole (Integer n) object is scalar complete =
    (given_is (type_of_object around object) (Integer n) (λ t. where_holds (same_type t (Integer n)) t) (Integer n) is (holds_is (same_type (Integer n) (Integer n)) (Integer n) (same_type-refl (Integer n))), refl)
step_fits around stepping whole (Pointer target) object is scalar complete =
    (given_is (type_of_object around object) (Pointer target) (λ t. where_holds (well.is_pointer_to_complete around.program.structs t) t) (Pointer target) is (holds_is (is_complete around.program.structs target) (Pointer target) complete), refl)
step_fits around stepping whole t object is scalar complete = absurd (false≢true scalar)

stays_either : (scope : Scope) (around : Context) → Fits scope around → (t : CType) → (is_integer t || Operators.is_pointer_to_complete scope t) ≡ true → (is_integer t || well.is_pointer_to_complete around.program.structs t) ≡ true
stays_either scope around fits (Integer n) h = refl
stays_either scope around fits (Pointer target) h = complete_stays scope around fits target h
stays_either scope around fits t h = absurd (false≢true h)

pub stepped_yields : (scope : Scope) (around : Context) → Fits scope around → (stepping : Stepping) (whole place : Pos) (operand : Known) → KnownFits around operand → Yields (KnownFits around) (stepped scope stepping whole place operand)
stepped_yields scope around fits stepping whole place operand fit =
    given_yields (λ object. KnownFits around object × (is_modifiable object ≡ true)) (KnownFits around) (modifiable_rule whole operand) _ (modifiable_yields around whole operand fit)
    (λ object one. require_yields (KnownFits around) (is_scalar object.c_type) T.T07 place _
    (λ scalar. require_yields (KnownFits around) (is_integer object.c_type || Operators.is_pointer_to_complete scope object.c_type) T.T14 whole _
    (λ complete. let step = step_fits around stepping whole object.c_type (object_in object.typed) (modifiable_object around object one.0 one.1) scalar (stays_either scope around fits object.c_type complete) in
    give_yields (KnownFits around) _ (value_result around object.c_type (step_value stepping whole object.c_type (object_in object.typed)) step.0 step.1 (scalar_kind object.c_type scalar) one.0.proper))))

-- ---- operators before an operand

pub promoted_is : (around : Context) (known : Known) → ValueFits around known → is_integer known.c_type ≡ true → type_of around (promoted_value known) ≡ Some (Integer (promoted_type known.c_type))
promoted_is around known fit is = converted_type around (promoted_type known.c_type) known.c_type (value_in known) (value_has around known fit) is

same_integer : (around : Context) (n : IntType) (value : Value) → type_of around value ≡ Some (Integer n) → well.given (type_of around value) (λ t. where_holds (same_type t (Integer n)) t) ≡ Some (Integer n)
same_integer around n value is = given_is (type_of around value) (Integer n) (λ t. where_holds (same_type t (Integer n)) t) (Integer n) is (holds_is (same_type (Integer n) (Integer n)) (Integer n) (same_type-refl (Integer n)))

pub prefixed_yields : (scope : Scope) (around : Context) → Fits scope around → (operator : PrefixOperator) (whole place : Pos) (operand : Checked Known) → Yields (KnownFits around) operand
    → Yields (KnownFits around) (prefixed scope operator whole place operand)
prefixed_yields scope around fits P.Increment whole place operand yields =
    given_yields (KnownFits around) (KnownFits around) operand (stepped scope S.PreIncrement whole place) yields (λ known fit. stepped_yields scope around fits S.PreIncrement whole place known fit)
prefixed_yields scope around fits P.Decrement whole place operand yields =
    given_yields (KnownFits around) (KnownFits around) operand (stepped scope S.PreDecrement whole place) yields (λ known fit. stepped_yields scope around fits S.PreDecrement whole place known fit)
prefixed_yields scope around fits P.Address whole place operand yields =
    given_yields (KnownFits around) (KnownFits around) operand (Operators.address_of whole) yields (λ known fit. address_yields around whole known fit)
prefixed_yields scope around fits P.Dereference whole place operand yields =
    given_yields (ValueFits around) (KnownFits around) (as_value place operand) (Operators.dereferenced scope whole) (value_yields around place operand yields) (λ known fit. dereferenced_yields scope around fits whole known fit)
prefixed_yields scope around fits P.Plus whole place operand yields =
    given_yields (λ known. ValueFits around known × (is_integer known.c_type ≡ true)) (KnownFits around) (as_integer place operand) (λ value. give (with_plus value)) (integer_yields around place operand yields)
    (λ known one. give_yields (KnownFits around) (with_plus known) (integer_result around (promoted_type known.c_type) known.constness (typed.Plus (promoted_value known))
    (given_is (type_of around (promoted_value known)) (Integer (promoted_type known.c_type)) (λ t. where_holds (is_integer t) t) (Integer (promoted_type known.c_type)) (promoted_is around known one.0 one.1) refl) refl))
prefixed_yields scope around fits P.Minus whole place operand yields =
    given_yields (λ known. ValueFits around known × (is_integer known.c_type ≡ true)) (KnownFits around) (as_integer place operand) (λ value. give (with_minus whole value)) (integer_yields around place operand yields)
    (λ known one. give_yields (KnownFits around) (with_minus whole known) (integer_result around (promoted_type known.c_type) (Operators.negated (promoted_type known.c_type) known.constness) (typed.Minus whole (promoted_type known.c_type) (promoted_value known))
    (same_integer around (promoted_type known.c_type) (promoted_value known) (promoted_is around known one.0 one.1)) refl))
prefixed_yields scope around fits P.Complement whole place operand yields =
    given_yields (λ known. ValueFits around known × (is_integer known.c_type ≡ true)) (KnownFits around) (as_integer place operand) (λ value. give (with_complement value)) (integer_yields around place operand yields)
    (λ known one. give_yields (KnownFits around) (with_complement known) (integer_result around (promoted_type known.c_type) (Operators.complemented (promoted_type known.c_type) known.constness) (typed.Complement (promoted_type known.c_type) (promoted_value known))
    (same_integer around (promoted_type known.c_type) (promoted_value known) (promoted_is around known one.0 one.1)) refl))
prefixed_yields scope around fits P.Not whole place operand yields =
    given_yields (λ known. ValueFits around known × (is_scalar known.c_type ≡ true)) (KnownFits around) (as_scalar place operand) (λ value. give (logical_not (condition_of place value))) (scalar_yields around place operand yields)
    (λ known one. let test = condition_type around (condition_of place known).test (condition_fits around place known one.0 one.1) in
    give_yields (KnownFits around) (logical_not (condition_of place known)) (integer_result around I.Int (Operators.not_constness (condition_of place known).constness) (typed.Not (condition_of place known).test)
    (given_is (type_of around (condition_of place known).test) test.0 (λ t. where_holds (is_integer t) int) int test.1 (holds_is (is_integer test.0) int test.2)) refl))

-- ---- sizes

pub size_yields : (scope : Scope) (around : Context) (place : Pos) (t : CType) → Yields (KnownFits around) (size_of scope place t)
size_yields scope around place t =
    require_yields (KnownFits around) (is_complete scope.structs t) T.T05 place _
    (λ complete. let size = (layout_of scope.structs t).size in
    give_yields (KnownFits around) (size_value size) (integer_result around I.ULong _ (typed.Constant I.ULong (pos size))
    (holds_is (is_value I.ULong (pos size)) (Integer I.ULong) (size_is_value size (size_below scope.structs t))) refl))

-- ---- casts

cast_scalar : (around : Context) (value : Value) (t : CType) → type_of around value ≡ Some t → is_scalar t ≡ true → type_of around (typed.Cast value) ≡ Some t
cast_scalar around value t is scalar = given_is (type_of around value) t (λ a. where_holds (is_scalar a) a) t is (holds_is (is_scalar t) t scalar)

cast_null : (target t : CType) → (is_void target && is_integer t) ≡ true → (is_integer (Pointer target) || is_void_pointer (Pointer target)) ≡ true
cast_null target t h = (and_parts (is_void target) (is_integer t) h).0

-- which pointers a cast takes
cast_parts : (target t : CType) → ((is_object_pointer (Pointer target) && is_object_pointer t) || (is_function_pointer (Pointer target) && is_function_pointer t)) ≡ true
    → ((not (is_function target) ≡ true) × (is_object_pointer t ≡ true)) ⊎ ((is_function target ≡ true) × (is_function_pointer t ≡ true))
cast_parts target t h =
    or_case (is_object_pointer (Pointer target) && is_object_pointer t) (is_function_pointer (Pointer target) && is_function_pointer t) h
    (λ objects. inl (and_parts (not (is_function target)) (is_object_pointer t) objects))
    (λ functions. inr (and_parts (is_function target) (is_function_pointer t) functions))

cast_repoints : (target t : CType) → ((not (is_function target) ≡ true) × (is_object_pointer t ≡ true)) ⊎ ((is_function target ≡ true) × (is_function_pointer t ≡ true)) → well.repoints t target ≡ true
cast_repoints target t (inl (object, pointer)) = object_repoints t target pointer object
cast_repoints target t (inr (function, pointer)) = rw function pointer

cast_stands : (around : Context) (target : CType) (known : Known) → ((not (is_function target) ≡ true) × (is_object_pointer known.c_type ≡ true)) ⊎ ((is_function target ≡ true) × (is_function_pointer known.c_type ≡ true))
    → (is_function target ≡ false) ⊎ ((element : CType) → StandsIn around.program.completed known.c_type (OfValue (value_in known)) element → ⊥)
cast_stands around target known (inl (object, pointer)) = inl (no_function_in target object)
cast_stands around target known (inr (function, pointer)) = inr (λ element. no_row around.program.completed known.c_type (value_in known) element pointer)

-- a pointer that is cast is one to a function after it, where it was one before
cast_names : (target t : CType) → ((not (is_function target) ≡ true) × (is_object_pointer t ≡ true)) ⊎ ((is_function target ≡ true) × (is_function_pointer t ≡ true))
    → (is_function t || is_function_pointer t) ≡ true → is_function target ≡ true
cast_names target (Pointer p) (inl (object, pointer)) h = absurd (true≢false (sym h ∙ no_function_in p pointer))
cast_names target t (inl (object, pointer)) h = absurd (false≢true pointer)
cast_names target t (inr (function, pointer)) h = function

-- a cast to void has a type where its operand has one
void_type : (around : Context) (option : Option CType) → is_some option ≡ true → well.given option (λ t. Some Void) ≡ Some Void
void_type around (Some t) is = refl
void_type around None is = absurd (false≢true is)

pub cast_yields : (scope : Scope) (around : Context) → Fits scope around → (whole : Pos) (target : CType) (known : Known) → is_proper target ≡ true → ValueFits around known → Yields (KnownFits around) (cast_to scope whole target known)
cast_yields scope around fits whole Void known proper fit =
    give_yields (KnownFits around) _ (value_result around Void (typed.CastVoid (dropped (value_in known)))
    (void_type around (type_of around (dropped (value_in known))) (dropped-some around (value_in known) (ap is_some (value_has around known fit).0))) refl refl refl)
cast_yields scope around fits whole (Integer n) known proper fit =
    require_yields (KnownFits around) (is_integer known.c_type) T.T16 whole _
    (λ integer. give_yields (KnownFits around) _ (integer_result around n (Constants.converted n known.constness) (typed.Cast (typed.Converted n (value_in known)))
    (cast_scalar around (typed.Converted n (value_in known)) (Integer n) (converted_type around n known.c_type (value_in known) (value_has around known fit) integer) refl) refl))
cast_yields scope around fits whole (Pointer target) known proper fit =
    either_case (λ (checked : Checked Known). Yields (KnownFits around) checked) known.is_null _ _
    (λ null. give_yields (KnownFits around) _ (record {
      typed = (cast_scalar around (typed.MadeNull target (value_in known)) (Pointer target) (null_type around target known.c_type (value_in known) (value_has around known fit) (fit.known_fits.null null).0) refl, refl, refl);
      proper = proper;
      null = λ is. (cast_null target known.c_type is, tt);
      address = tt;
    }))
    (λ some. require_yields (KnownFits around) ((is_object_pointer (Pointer target) && is_object_pointer known.c_type) || (is_function_pointer (Pointer target) && is_function_pointer known.c_type)) T.T16 whole _
    (λ pointers. give_yields (KnownFits around) _ (record {
      typed = (cast_scalar around (typed.Repointed whole target (value_in known)) (Pointer target) (repointed_type around whole target known.c_type (value_in known) (value_has around known fit) (cast_repoints target known.c_type (cast_parts target known.c_type pointers))) refl, refl, refl);
      proper = proper;
      null = λ is. absurd (false≢true is);
      address = subst (λ completed. AddressFits around.program (Pointer target) (OfValue (typed.Cast (typed.Repointed whole target (value_in known)))) (Constants.retyped completed target known.address)) (sym fits.completed)
          (retyped_fits around.program known.c_type target (value_in known) (typed.Cast (typed.Repointed whole target (value_in known))) known.address (cast_stands around target known (cast_parts target known.c_type pointers)) (cast_names target known.c_type (cast_parts target known.c_type pointers)) (value_address_fits around known fit));
    })))
cast_yields scope around fits whole (Array element n) known proper fit = refuse_yields (KnownFits around) T.T16 whole
cast_yields scope around fits whole (Struct tag) known proper fit = refuse_yields (KnownFits around) T.T16 whole
cast_yields scope around fits whole (Function result parameters) known proper fit = refuse_yields (KnownFits around) T.T16 whole
