-- Pointers that agree, and the type of both.
use Rattle.std.proofs.Common.{◌≡◌, Bool, true, false, not, ◌&&◌, ◌||◌, cond, Some, refl, sym, ◌∙◌}
use Rattle.std.proofs.lemmas.Bool.{false≢true, true≢false, and_parts, and_from}
use Rattle.c_typed.specs.Types.{CType, Void, Pointer, same_type, is_integer, is_pointer, is_void, is_function, is_object_pointer, is_void_pointer}
use Rattle.c_typed.specs.Typed.{MadeNull}
use Rattle.c_typed.proofs.Same.{same_type-refl}
use Rattle.c_rules.specs.Known.{Known, value_in}
use Rattle.c_rules.specs.Operators.{pointer_fits, pointers_agree, agreed_pointer, target_of, unconverted_value}
use Rattle.c_typed.specs.Context.{Context}
use Rattle.c_typed.specs.Expressions.{are_alike, type_of}
use Rattle.c_rules.specs.Proper.{is_proper}
use Rattle.c_rules.specs.Fitting.{ValueFits}
use Rattle.c_rules.proofs.Yielding.{either_case}
use Rattle.c_rules.proofs.TypeSteps.{or_case, or_left, or_right}
use Rattle.c_rules.proofs.ConversionsFit.{value_has, null_type}

-- the same over types and whether they are those of null pointer constants
abbrev pub agree : CType → Bool → CType → Bool → Bool
agree t n u m =
    (is_pointer t && m) || ((is_pointer u && n)
    || (is_pointer t && (is_pointer u && (same_type t u
    || ((is_void_pointer t && is_object_pointer u) || (is_void_pointer u && is_object_pointer t))))))

abbrev pub agreed : CType → Bool → CType → Bool → CType
agreed t n u m =
    cond (is_pointer t && m) (cond (n && is_pointer u) u t) (cond (is_pointer u && n) u (cond (same_type t u) t (Pointer Void)))

abbrev pub fit_as : CType → CType → Bool → Bool
fit_as target t n = (is_integer target && is_integer t) || (is_pointer target && (n || pointer_fits target t))

-- a type to which both convert
pub record AreAgreed (t : CType) (n : Bool) (u : CType) (m : Bool) (both : CType) : Type 0 where
  pub pointer : is_pointer both ≡ true
  pub first : fit_as both t n ≡ true
  pub second : fit_as both u m ≡ true
  pub proper : is_proper t ≡ true → is_proper u ≡ true → is_proper both ≡ true

own_fits : (p : CType) (n : Bool) → fit_as (Pointer p) (Pointer p) n ≡ true
own_fits p n = or_right n (pointer_fits (Pointer p) (Pointer p)) (or_left (same_type p p) _ (same_type-refl p))

void_agreed : (p q : CType) → same_type p q ≡ false → (same_type p q || ((is_void p && not (is_function q)) || (is_void q && not (is_function p)))) ≡ true → AreAgreed (Pointer p) false (Pointer q) false (Pointer Void)
void_agreed p q differs h =
    or_case (same_type p q) ((is_void p && not (is_function q)) || (is_void q && not (is_function p))) h
    (λ same. absurd (true≢false (sym same ∙ differs)))
    (λ others. or_case (is_void p && not (is_function q)) (is_void q && not (is_function p)) others
    (λ one. let parts = and_parts (is_void p) (not (is_function q)) one in record { pointer = refl; first = from_void p parts.0; second = from_object q parts.1; proper = λ a b. refl })
    (λ one. let parts = and_parts (is_void q) (not (is_function p)) one in record { pointer = refl; first = from_object p parts.1; second = from_void q parts.0; proper = λ a b. refl }))
  where
    from_object : (r : CType) → not (is_function r) ≡ true → fit_as (Pointer Void) (Pointer r) false ≡ true
    from_object r is = or_right (same_type Void r) (not (is_function r) || (is_void r && true)) (or_left (not (is_function r)) (is_void r && true) is)

    from_void : (r : CType) → is_void r ≡ true → fit_as (Pointer Void) (Pointer r) false ≡ true
    from_void Void is = refl
    from_void r is = absurd (false≢true is)

pub agreed_is : (t : CType) (n : Bool) (u : CType) (m : Bool) → agree t n u m ≡ true → AreAgreed t n u m (agreed t n u m)
agreed_is (Pointer p) true (Pointer q) true h = record { pointer = refl; first = refl; second = refl; proper = λ a b. b }
agreed_is (Pointer p) true u true h = record { pointer = refl; first = refl; second = refl; proper = λ a b. a }
agreed_is (Pointer p) false u true h = record { pointer = refl; first = own_fits p false; second = refl; proper = λ a b. a }
agreed_is (Pointer p) true (Pointer q) false h = record { pointer = refl; first = refl; second = own_fits q false; proper = λ a b. b }
agreed_is (Pointer p) false (Pointer q) false h =
    either_case (λ both. AreAgreed (Pointer p) false (Pointer q) false both) (same_type p q) (Pointer p) (Pointer Void)
    (λ same. record { pointer = refl; first = own_fits p false; second = or_left (same_type p q) _ same; proper = λ a b. a })
    (λ differs. void_agreed p q differs h)
agreed_is (Pointer p) n u false h = absurd (false≢true h)
agreed_is t true (Pointer q) m h = record { pointer = refl; first = refl; second = own_fits q m; proper = λ a b. b }
agreed_is t true u m h = absurd (false≢true h)
agreed_is t false (Pointer q) m h = absurd (false≢true h)
agreed_is t false u m h = absurd (false≢true h)

-- ---- what `==` compares

-- an operand's type, where a null pointer constant becomes a pointer to the target
abbrev pub unconverted_as : CType → CType → Bool → CType
unconverted_as target t n = cond n (Pointer target) t

own_alike : (p : CType) → are_alike (Pointer p) (Pointer p) ≡ true
own_alike p = or_left (same_type p p || (is_void p && not (is_function p))) _ (or_left (same_type p p) _ (same_type-refl p))

own_alike_if : (p : CType) (n : Bool) → are_alike (Pointer p) (unconverted_as p (Pointer p) n) ≡ true
own_alike_if p true = own_alike p
own_alike_if p false = own_alike p

alike_parts : (p q : CType) → (same_type p q || ((is_void p && not (is_function q)) || (is_void q && not (is_function p)))) ≡ true → are_alike (Pointer p) (Pointer q) ≡ true
alike_parts p q h =
    or_case (same_type p q) ((is_void p && not (is_function q)) || (is_void q && not (is_function p))) h
    (λ same. or_left (same_type p q || (is_void p && not (is_function q))) _ (or_left (same_type p q) _ same))
    (λ others. or_case (is_void p && not (is_function q)) (is_void q && not (is_function p)) others
    (λ one. or_left (same_type p q || (is_void p && not (is_function q))) _ (or_right (same_type p q) _ one))
    (λ one. let parts = and_parts (is_void q) (not (is_function p)) one in or_right (same_type p q || (is_void p && not (is_function q))) _ (and_from (not (is_function p)) (is_void q) parts.1 parts.0)))

pub alike_is : (t : CType) (n : Bool) (u : CType) (m : Bool) → agree t n u m ≡ true → are_alike (unconverted_as (target_of (agreed t n u m)) t n) (unconverted_as (target_of (agreed t n u m)) u m) ≡ true
alike_is (Pointer p) true (Pointer q) true h = own_alike q
alike_is (Pointer p) true u true h = own_alike p
alike_is (Pointer p) false u true h = own_alike p
alike_is (Pointer p) true (Pointer q) false h = own_alike q
alike_is (Pointer p) false (Pointer q) false h = alike_parts p q h
alike_is (Pointer p) n u false h = absurd (false≢true h)
alike_is t true (Pointer q) m h = own_alike_if q m
alike_is t true u m h = absurd (false≢true h)
alike_is t false (Pointer q) m h = absurd (false≢true h)
alike_is t false u m h = absurd (false≢true h)

pub unconverted_type : (around : Context) (target : CType) (known : Known) → ValueFits around known → type_of around (unconverted_value target known) ≡ Some (unconverted_as target known.c_type known.is_null)
unconverted_type around target known fit = by known.is_null (λ null. (fit.known_fits.null null).0)
  where
    by : (b : Bool) → (b ≡ true → (is_integer known.c_type || is_void_pointer known.c_type) ≡ true) → type_of around (cond b (MadeNull target (value_in known)) (value_in known)) ≡ Some (cond b (Pointer target) known.c_type)
    by true null = null_type around target known.c_type (value_in known) (value_has around known fit) (null refl)
    by false null = (value_has around known fit).0

-- ---- the same over what is known

pub known_agreed : (a b : Known) → pointers_agree a b ≡ true → AreAgreed a.c_type a.is_null b.c_type b.is_null (agreed_pointer a b)
known_agreed a b h = agreed_is a.c_type a.is_null b.c_type b.is_null h

pub known_alike : (a b : Known) → pointers_agree a b ≡ true
    → are_alike (unconverted_as (target_of (agreed_pointer a b)) a.c_type a.is_null) (unconverted_as (target_of (agreed_pointer a b)) b.c_type b.is_null) ≡ true
known_alike a b h = alike_is a.c_type a.is_null b.c_type b.is_null h
