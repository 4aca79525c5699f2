-- First values of variables outside functions stand in scalars of their types.
use Rattle.std.proofs.Common.{◌≡◌, ℕ, Bool, true, false, not, ◌&&◌, ◌||◌, cond, Option, Some, None, pos, is_some, refl, sym, ap, subst, ◌∙◌, ◌⊎◌, inl, inr, nat_le}
use Rattle.std.proofs.lemmas.Bool.{false≢true, and_from, and_parts, or_cases, le-leb}
use Rattle.c_num.specs.declared.IntType.{IntType}
use Rattle.c_num.specs.Types.{is_value}
use Rattle.c_num.specs.declared.IntType.TheVariants as I
use Rattle.c_typed.specs.Types.{CType, Void, Integer, Pointer, Array, Struct, Function, is_function, is_function_pointer, is_like_void, same_type, is_void}
use Rattle.c_typed.specs.Values.{NullValue}
use Rattle.c_typed.specs.Typed.{Program}
use Rattle.c_typed.proofs.Same.{same_type-true}
use Rattle.c_rules.specs.Names.{Scope}
use Rattle.c_rules.specs.Known.{Known, TypedExpr, OfValue, OfObject, OfFunction, OfLibrary, Address, NoAddress, Outside, NullAddress, FunctionAddress, Element}
use Rattle.c_rules.specs.declared.constness.Constness.{Constness}
use Rattle.c_rules.specs.declared.constness.Constness.TheVariants.{NotConstant, Undefined, Constant}
use Rattle.c_rules.specs.Constants.{address_as}
use Rattle.c_rules.specs.Operators.{fits, pointer_fits}
use Rattle.c_rules.specs.Elaborated.{scalar_of, integer_first, address_value}
use Rattle.c_typed.specs.Context.{Context, function_type}
use Rattle.c_typed.specs.Expressions.{is_scalar}
use Rattle.c_typed.specs.Programs.{RowType, is_place, is_first}
use Rattle.c_rules.specs.Fitting.{ValueFits, AddressFits, StandsIn, IsOfValue}
use Rattle.c_rules.proofs.FirstRows.{value_in_range}

-- ---- a constant

zero_is_value : (int_type : IntType) → is_value int_type (pos 0) ≡ true
zero_is_value I.Char = refl
zero_is_value I.UChar = refl
zero_is_value I.Short = refl
zero_is_value I.UShort = refl
zero_is_value I.Int = refl
zero_is_value I.UInt = refl
zero_is_value I.Long = refl
zero_is_value I.ULong = refl

-- what a pointer that fits points to
pointed_alike : (target : CType) (source : CType) → pointer_fits (Pointer target) source ≡ true → is_function_pointer source ≡ true → is_function target ≡ true
pointed_alike target (Pointer other) e function = by (or_cases (same_type target other) ((is_void target && not (is_function other)) || (is_void other && not (is_function target))) e)
  where
    void_function : (t : CType) → is_void t ≡ true → is_function t ≡ true → ⊥
    void_function Void v f = false≢true f
    void_function (Integer int_type) v f = false≢true v
    void_function (Pointer t) v f = false≢true v
    void_function (Array t n) v f = false≢true v
    void_function (Struct tag) v f = false≢true v
    void_function (Function result types) v f = false≢true v

    inner : (is_void target && not (is_function other) ≡ true) ⊎ (is_void other && not (is_function target) ≡ true) → is_function target ≡ true
    inner (inl h) = absurd (false≢true (sym (ap not function) ∙ (and_parts (is_void target) (not (is_function other)) h).1))
    inner (inr h) = absurd (void_function other (and_parts (is_void other) (not (is_function target)) h).0 function)

    by : (same_type target other ≡ true) ⊎ (((is_void target && not (is_function other)) || (is_void other && not (is_function target))) ≡ true) → is_function target ≡ true
    by (inl h) = ap is_function (same_type-true target other h) ∙ function
    by (inr h) = inner (or_cases (is_void target && not (is_function other)) (is_void other && not (is_function target)) h)
pointed_alike target Void e function = absurd (false≢true e)
pointed_alike target (Integer int_type) e function = absurd (false≢true e)
pointed_alike target (Array element n) e function = absurd (false≢true e)
pointed_alike target (Struct tag) e function = absurd (false≢true e)
pointed_alike target (Function result types) e function = absurd (false≢true e)

pointed_object : (target : CType) (other : CType) → pointer_fits (Pointer target) (Pointer other) ≡ true → is_function other ≡ false → is_function target ≡ false
pointed_object target other e object = by (or_cases (same_type target other) ((is_void target && not (is_function other)) || (is_void other && not (is_function target))) e)
  where
    void_object : (t : CType) → is_void t ≡ true → is_function t ≡ false
    void_object Void v = refl
    void_object (Integer int_type) v = refl
    void_object (Pointer t) v = refl
    void_object (Array t n) v = refl
    void_object (Struct tag) v = refl
    void_object (Function result types) v = absurd (false≢true v)

    turned : (b : Bool) → not b ≡ true → b ≡ false
    turned true h = absurd (false≢true h)
    turned false h = refl

    inner : (is_void target && not (is_function other) ≡ true) ⊎ (is_void other && not (is_function target) ≡ true) → is_function target ≡ false
    inner (inl h) = void_object target (and_parts (is_void target) (not (is_function other)) h).0
    inner (inr h) = turned (is_function target) (and_parts (is_void other) (not (is_function target)) h).1

    by : (same_type target other ≡ true) ⊎ (((is_void target && not (is_function other)) || (is_void other && not (is_function target))) ≡ true) → is_function target ≡ false
    by (inl h) = ap is_function (same_type-true target other h) ∙ object
    by (inr h) = inner (or_cases (is_void target && not (is_function other)) (is_void other && not (is_function target)) h)

abbrev place_by : Program → CType → ℕ → Option RowType → Bool
place_by program target index None = false
place_by program target index (Some row) = nat_le index row.count && (is_like_void program.completed target || same_type row.element target)

module _ (program : Program) where
  integer_is_first : (int_type : IntType) (constness : Constness) → is_first program (Integer int_type) (integer_first int_type constness) ≡ true
  integer_is_first int_type (Constant z) = value_in_range int_type z
  integer_is_first int_type NotConstant = zero_is_value int_type
  integer_is_first int_type Undefined = zero_is_value int_type

  -- a pointer that is a function's address, or points to an element
  standing : (c_type : CType) (typed : TypedExpr) → IsOfValue typed → (element target : CType) → StandsIn program.completed c_type typed element → pointer_fits (Pointer target) c_type ≡ true → is_function target ≡ false
  standing (Pointer other) (OfValue value) is element target stands e = pointed_object target other e stands.0
  standing Void (OfValue value) is element target stands e = absurd stands
  standing (Integer int_type) (OfValue value) is element target stands e = absurd stands
  standing (Array inner n) (OfValue value) is element target stands e = absurd stands
  standing (Struct tag) (OfValue value) is element target stands e = absurd stands
  standing (Function result types) (OfValue value) is element target stands e = absurd stands
  standing c_type (OfObject object) is element target stands e = absurd is
  standing c_type (OfFunction function) is element target stands e = absurd is
  standing c_type (OfLibrary function groups) is element target stands e = absurd is

  not_plain_function : (c_type : CType) → (is_function c_type || is_function_pointer c_type) ≡ true → (target : CType) → pointer_fits (Pointer target) c_type ≡ true → is_function target ≡ true
  not_plain_function Void h target e = absurd (false≢true h)
  not_plain_function (Integer int_type) h target e = absurd (false≢true h)
  not_plain_function (Pointer other) h target e = pointed_alike target (Pointer other) e h
  not_plain_function (Array element n) h target e = absurd (false≢true h)
  not_plain_function (Struct tag) h target e = absurd (false≢true h)
  not_plain_function (Function result types) h target e = absurd (false≢true e)

  address_is_first : (c_type : CType) (typed : TypedExpr) → IsOfValue typed → (address : Address) → AddressFits program c_type typed address → (target : CType) → pointer_fits (Pointer target) c_type ≡ true
      → is_first program (Pointer target) (address_value (address_as program.completed (Pointer target) address)) ≡ true
  address_is_first c_type typed is NoAddress fit target e = refl
  address_is_first c_type typed is Outside fit target e = refl
  address_is_first c_type typed is NullAddress fit target e = refl
  address_is_first c_type typed is (FunctionAddress name) fit target e =
      and_from (is_function target) (is_some (function_type program.functions name)) (not_plain_function c_type fit.1 target e) fit.0
  address_is_first c_type typed is (Element root steps element count index) fit target e = by (is_like_void program.completed target || same_type element target) refl
    where
      by : (b : Bool) → (is_like_void program.completed target || same_type element target) ≡ b → is_first program (Pointer target) (address_value (cond b (Element root steps element count index) Outside)) ≡ true
      by false h = refl
      by true h =
          and_from (not (is_function target)) (is_place program target (record { root = root; steps = steps; index = index })) (ap not (standing c_type typed is element target fit.1 e))
          (ap (place_by program target index) fit.0.row ∙ and_from (nat_le index count) (is_like_void program.completed target || same_type element target) (le-leb index count fit.0.within) h)

  pub scalar_is_first : (around : Context) → around.program ≡ program → (scope : Scope) → scope.completed ≡ program.completed → (c_type : CType) (known : Known) → ValueFits around known → fits c_type known ≡ true
      → (is_scalar c_type ≡ true) × (is_first program c_type (scalar_of scope c_type known) ≡ true)
  scalar_is_first around same scope completed (Integer int_type) known fit e = (refl, integer_is_first int_type known.constness)
  scalar_is_first around same scope completed (Pointer target) known fit e = (refl, by known.is_null e)
    where
      address : AddressFits program known.c_type known.typed known.address
      address = subst (λ (p : Program). AddressFits p known.c_type known.typed known.address) same fit.known_fits.address

      by : (b : Bool) → (b || pointer_fits (Pointer target) known.c_type) ≡ true → is_first program (Pointer target) (cond b NullValue (address_value (address_as scope.completed (Pointer target) known.address))) ≡ true
      by true h = refl
      by false h =
          ap (λ c. is_first program (Pointer target) (address_value (address_as c (Pointer target) known.address))) completed
          ∙ address_is_first known.c_type known.typed fit.value known.address address target h
  scalar_is_first around same scope completed Void known fit e = absurd (false≢true e)
  scalar_is_first around same scope completed (Array element n) known fit e = absurd (false≢true e)
  scalar_is_first around same scope completed (Struct tag) known fit e = absurd (false≢true e)
  scalar_is_first around same scope completed (Function result types) known fit e = absurd (false≢true e)
