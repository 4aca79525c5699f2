-- What the outcome of an operator tells, and that the total operators agree with it where it is a result.
use Rattle.std.proofs.Common.{◌≡◌, ◌↔◌, ◌⊎◌, inl, inr, ℕ, suc, ◌-◌, ◌^◌, ◌<◌, Bool, true, false, not, cond, ◌&&◌, ◌||◌, ℤ, pos, negsuc, ◌+ℤ◌, ◌-ℤ◌, ◌*ℤ◌, neg_ℤ, ◌≤ℤ◌, ◌<ℤ◌, int_le, int_lt, int_eq, Result, Ok, Err, IfOk, IfErr, IsTrue, refl, sym, ap, ◌∙◌, arith, true≢false, ⊎_elim, unsigned_abs, int_rem, bit_and, bit_or, bit_xor, div-le_self}
use Rattle.std.proofs.lemmas.Int.{ints, by_lt_z}
use Rattle.std.proofs.lemmas.Nat.{and_le_l, or_lt, xor_lt}
use Rattle.std.proofs.lemmas.Bool.{and_from, and_parts, and_cases, or_parts, not-false, not-true, or_from, le-ltb, lt-leb}
use Rattle.std.specs.Bool.{Decides}
use Rattle.std.specs.Int.{int_shr}
use Rattle.std.proofs.Math.Nat.{mod-le}
use Rattle.c_num.specs.declared.IntType.{IntType}
use Rattle.c_num.specs.declared.IntType.TheVariants.{Char, UChar, Short, UShort, Int, UInt, Long, ULong}
use Rattle.c_num.specs.declared.BinOp.{BinOp}
use Rattle.c_num.specs.declared.BinOp.TheVariants.{Add, Sub, Mul, Div, Rem, Shl, Shr, And, Or, Xor}
use Rattle.c_num.specs.declared.ArithUb.{ArithUb}
use Rattle.c_num.specs.declared.ArithUb.TheVariants.{Overflow, DivideByZero, BadShift}
use Rattle.c_num.specs.Types.{width_of, is_signed, IsSigned, IsValue, is_value, least_of, greatest_of}
use Rattle.c_num.specs.Conversion.{modulo, bits_of, convert_to}
use Rattle.c_num.specs.Arith.{exact, quotient, remainder, is_shift, IsRightOperand, divides_by_zero, is_bad_amount, is_out_of_range, is_bad_shift, overflows, outcome_of, wrapped_right, fitted, wrapped, negated_of, wrapped_negation, complement_of}
use Rattle.c_num.proofs.Conversions.{convert_to-in_range, convert_to-same, value_of_bits-in_range, bits_below, modulo-same, modulo_below}

pub le_from_test : (a b : ℤ) → int_le a b ≡ true → a ≤ℤ b
le_from_test a b e = omega (arith, ints)

pub test_from_le : (a b : ℤ) → a ≤ℤ b → int_le a b ≡ true
test_from_le a b h = sym (omega (arith, ints))

pub is_value-Decides : (t : IntType) (z : ℤ) → Decides (is_value t z) (IsValue t z)
is_value-Decides t z = (
  λ e. let p = and_parts (int_le (least_of t) z) (int_le z (greatest_of t)) e in record { least = le_from_test _ _ p.0; greatest = le_from_test _ _ p.1 },
  λ v. and_from (int_le (least_of t) z) (int_le z (greatest_of t)) (test_from_le _ _ v.least) (test_from_le _ _ v.greatest),
)

zero_is_value : (t : IntType) → is_value t (pos 0) ≡ true
zero_is_value Char = refl
zero_is_value UChar = refl
zero_is_value Short = refl
zero_is_value UShort = refl
zero_is_value Int = refl
zero_is_value UInt = refl
zero_is_value Long = refl
zero_is_value ULong = refl

-- ---- the causes exclude one another

no_shift_by_zero : (op : BinOp) (t : IntType) (a b : ℤ) → divides_by_zero op b ≡ true → is_bad_shift op t a b ≡ false
no_shift_by_zero Div t a b e = refl
no_shift_by_zero Rem t a b e = refl
no_shift_by_zero Shl t a b e = absurd (true≢false (sym e))
no_shift_by_zero Shr t a b e = absurd (true≢false (sym e))
no_shift_by_zero _ t a b e = refl

quotient_by_zero : (t : IntType) (a b : ℤ) → int_eq b (pos 0) ≡ true → is_out_of_range t (quotient a b) ≡ false
quotient_by_zero t a b e = rw (e, zero_is_value t) (by (is_signed t))
  where
    by : (s : Bool) → (s && not true) ≡ false
    by true = refl
    by false = refl

no_overflow_by_zero : (op : BinOp) (t : IntType) (a b : ℤ) → divides_by_zero op b ≡ true → overflows op t a b ≡ false
no_overflow_by_zero Div t a b e = quotient_by_zero t a b e
no_overflow_by_zero Rem t a b e = quotient_by_zero t a b e
no_overflow_by_zero Add t a b e = absurd (true≢false (sym e))
no_overflow_by_zero Sub t a b e = absurd (true≢false (sym e))
no_overflow_by_zero Mul t a b e = absurd (true≢false (sym e))
no_overflow_by_zero Shl t a b e = refl
no_overflow_by_zero Shr t a b e = refl
no_overflow_by_zero And t a b e = refl
no_overflow_by_zero Or t a b e = refl
no_overflow_by_zero Xor t a b e = refl

no_overflow_of_shift : (op : BinOp) (t : IntType) (a b : ℤ) → is_bad_shift op t a b ≡ true → overflows op t a b ≡ false
no_overflow_of_shift Shl t a b e = refl
no_overflow_of_shift Shr t a b e = refl
no_overflow_of_shift _ t a b e = absurd (true≢false (sym e))

-- ---- what an outcome tells

-- where three tests are made in turn, each of which excludes those after it, an error comes exactly where its test passes
record TellsCauses (z k o : Bool) (v : ℤ) (r : Result ℤ ArithUb) : Type 0 where
  overflow : (r ≡ Err Overflow) ↔ IsTrue o
  divide_by_zero : (r ≡ Err DivideByZero) ↔ IsTrue z
  bad_shift : (r ≡ Err BadShift) ↔ IsTrue k
  value : IfOk r (λ x. (z ≡ false) × (k ≡ false) × (o ≡ false) × (x ≡ v))

causes : (z k o : Bool) (v : ℤ) → (z ≡ true → k ≡ false) → (z ≡ true → o ≡ false) → (k ≡ true → o ≡ false) → TellsCauses z k o v (cond z (Err DivideByZero) (cond k (Err BadShift) (cond o (Err Overflow) (Ok v))))
causes true true o v f g h = absurd (true≢false (f refl))
causes true false true v f g h = absurd (true≢false (g refl))
causes true false false v f g h = record { overflow = grind arith; divide_by_zero = grind arith; bad_shift = grind arith; value = tt }
causes false true true v f g h = absurd (true≢false (h refl))
causes false true false v f g h = record { overflow = grind arith; divide_by_zero = grind arith; bad_shift = grind arith; value = tt }
causes false false true v f g h = record { overflow = grind arith; divide_by_zero = grind arith; bad_shift = grind arith; value = tt }
causes false false false v f g h = record { overflow = grind arith; divide_by_zero = grind arith; bad_shift = grind arith; value = (refl, refl, refl, refl) }

causes_of : (op : BinOp) (t : IntType) (a b : ℤ) → TellsCauses (divides_by_zero op b) (is_bad_shift op t a b) (overflows op t a b) (convert_to t (exact op t a b)) (outcome_of op t a b)
unfolding outcome_of
causes_of op t a b =
    causes (divides_by_zero op b) (is_bad_shift op t a b) (overflows op t a b) (convert_to t (exact op t a b)) (no_shift_by_zero op t a b) (no_overflow_by_zero op t a b) (no_overflow_of_shift op t a b)

-- ---- results of a signed type are exact

pub zero_in_range : (t : IntType) → IsValue t (pos 0)
zero_in_range t = (is_value-Decides t (pos 0)).0 (zero_is_value t)

-- r lies between a and 0
IsNearerZero : ℤ → ℤ → Type 0
IsNearerZero a r = ((pos 0 ≤ℤ r) × (r ≤ℤ a)) ⊎ ((a ≤ℤ r) × (r ≤ℤ pos 0))

nearer_zero : (t : IntType) (a r : ℤ) → IsValue t a → IsNearerZero a r → IsValue t r
unfolding IsNearerZero
nearer_zero t a r v (inl h) = let zero = zero_in_range t in record { least = omega (arith, ints); greatest = omega (arith, ints) }
nearer_zero t a r v (inr h) = let zero = zero_in_range t in record { least = omega (arith, ints); greatest = omega (arith, ints) }

remainder_nearer : (a b : ℤ) → IsNearerZero a (int_rem a b)
unfolding IsNearerZero
remainder_nearer (pos n) b = let p = mod-le n (unsigned_abs b) in inl (omega (arith, ints), omega (arith, ints))
remainder_nearer (negsuc n) b = let p = mod-le (suc n) (unsigned_abs b) in inr (omega (arith, ints), omega (arith, ints))

remainder-in_range : (t : IntType) (a b : ℤ) → IsValue t a → IsValue t (remainder a b)
remainder-in_range t a b v = by (int_eq b (pos 0))
  where
    by : (e : Bool) → IsValue t (cond e a (int_rem a b))
    by true = v
    by false = nearer_zero t a (int_rem a b) v (remainder_nearer a b)

shift_nearer : (a : ℤ) (k : ℕ) → IsNearerZero a (int_shr a k)
unfolding IsNearerZero
shift_nearer (pos n) k = let p = div-le_self n (2 ^ k) in inl (omega (arith, ints), omega (arith, ints))
shift_nearer (negsuc n) k = let p = div-le_self n (2 ^ k) in inr (omega (arith, ints), omega (arith, ints))

pub and_below : (t : IntType) (a b : ℤ) → bit_and (bits_of t a) (bits_of t b) < 2 ^ width_of t
and_below t a b = let p = and_le_l (bits_of t a) (bits_of t b) in let q = bits_below t a in omega arith

pub or_below : (t : IntType) (a b : ℤ) → bit_or (bits_of t a) (bits_of t b) < 2 ^ width_of t
or_below t a b = or_lt (width_of t) (bits_of t a) (bits_of t b) (bits_below t a) (bits_below t b)

pub xor_below : (t : IntType) (a b : ℤ) → bit_xor (bits_of t a) (bits_of t b) < 2 ^ width_of t
xor_below t a b = xor_lt (width_of t) (bits_of t a) (bits_of t b) (bits_below t a) (bits_below t b)

-- in a signed type a test for a value that doesn't fail has passed
fits_of_signed : (t : IntType) (z : ℤ) → IsSigned t → is_out_of_range t z ≡ false → IsValue t z
fits_of_signed t z s e = (is_value-Decides t z).0 (⊎_elim (λ f. absurd (true≢false (sym s ∙ f))) (not-false (is_value t z)) (and_cases (is_signed t) (not (is_value t z)) e))

-- In a signed type a defined result is a value of the type.
exact-in_range : (op : BinOp) (t : IntType) (a b : ℤ) → IsSigned t → IsValue t a → is_bad_shift op t a b ≡ false → overflows op t a b ≡ false → IsValue t (exact op t a b)
exact-in_range Add t a b s v k o = fits_of_signed t (a +ℤ b) s o
exact-in_range Sub t a b s v k o = fits_of_signed t (a -ℤ b) s o
exact-in_range Mul t a b s v k o = fits_of_signed t (a *ℤ b) s o
exact-in_range Div t a b s v k o = fits_of_signed t (quotient a b) s o
exact-in_range Rem t a b s v k o = remainder-in_range t a b v
exact-in_range Shl t a b s v k o = fits_of_signed t (exact Shl t a b) s (or_parts (is_bad_amount t b || int_lt a (pos 0)) (is_out_of_range t (exact Shl t a b)) k).1
exact-in_range Shr t a b s v k o = nearer_zero t a (int_shr a (unsigned_abs b)) v (shift_nearer a (unsigned_abs b))
exact-in_range And t a b s v k o = value_of_bits-in_range t (bit_and (bits_of t a) (bits_of t b)) (and_below t a b)
exact-in_range Or t a b s v k o = value_of_bits-in_range t (bit_or (bits_of t a) (bits_of t b)) (or_below t a b)
exact-in_range Xor t a b s v k o = value_of_bits-in_range t (bit_xor (bits_of t a) (bits_of t b)) (xor_below t a b)

-- ---- the total operator is the operator where that is defined

pub good_amount : (t : IntType) (b : ℤ) → is_bad_amount t b ≡ false → (pos 0 ≤ℤ b) × (b <ℤ pos (width_of t))
good_amount t b k =
    let p = or_parts (int_lt b (pos 0)) (int_le (pos (width_of t)) b) k in
    let low = p.0 in
    let high = p.1 in
    omega (arith, ints)

amount_is : (t : IntType) (b : ℤ) → is_bad_amount t b ≡ false → pos (modulo b (width_of t)) ≡ b
amount_is t b k = let p = good_amount t b k in modulo-same (width_of t) b p.0 (omega (arith, ints)) (omega (arith, ints))

right_is : (op : BinOp) (t : IntType) (a b : ℤ) → IsRightOperand op t b → is_bad_shift op t a b ≡ false → wrapped_right op t b ≡ b
right_is Shl t a b v k =
    let p = or_parts (is_bad_amount t b || int_lt a (pos 0)) (is_out_of_range t (exact Shl t a b)) k in
    amount_is t b (or_parts (is_bad_amount t b) (int_lt a (pos 0)) p.0).0
right_is Shr t a b v k = amount_is t b k
right_is Add t a b v k = convert_to-same t b (v refl)
right_is Sub t a b v k = convert_to-same t b (v refl)
right_is Mul t a b v k = convert_to-same t b (v refl)
right_is Div t a b v k = convert_to-same t b (v refl)
right_is Rem t a b v k = convert_to-same t b (v refl)
right_is And t a b v k = convert_to-same t b (v refl)
right_is Or t a b v k = convert_to-same t b (v refl)
right_is Xor t a b v k = convert_to-same t b (v refl)

each_ok : {P Q : ℤ → Type 0} (r : Result ℤ ArithUb) → IfOk r P → ((x : ℤ) → P x → Q x) → IfOk r Q
each_ok (Ok x) h f = f x h
each_ok (Err e) h f = tt

-- ---- an outcome from its cause

module _ (op : BinOp) (t : IntType) (a b : ℤ) where
  pub zero_outcome : divides_by_zero op b ≡ true → Err DivideByZero ≡ outcome_of op t a b
  zero_outcome e = sym ((causes_of op t a b).divide_by_zero.1 e)

  pub shift_outcome : is_bad_shift op t a b ≡ true → Err BadShift ≡ outcome_of op t a b
  shift_outcome e = sym ((causes_of op t a b).bad_shift.1 e)

  pub overflow_outcome : overflows op t a b ≡ true → Err Overflow ≡ outcome_of op t a b
  overflow_outcome e = sym ((causes_of op t a b).overflow.1 e)

  pub ok_outcome : (r : ℤ) → divides_by_zero op b ≡ false → is_bad_shift op t a b ≡ false → overflows op t a b ≡ false → r ≡ convert_to t (exact op t a b) → Ok r ≡ outcome_of op t a b
  unfolding outcome_of
  ok_outcome r e f g h = rw (e, f, g, h) refl

  pub fitted_outcome : divides_by_zero op b ≡ false → is_bad_shift op t a b ≡ false → overflows op t a b ≡ is_out_of_range t (exact op t a b) → fitted t (exact op t a b) ≡ outcome_of op t a b
  unfolding outcome_of
  fitted_outcome e f g = rw (e, f, g) refl

-- A number that is the product, or congruent to it in an unsigned type, is fitted as the product is.
pub product_outcome : (t : IntType) (a b p : ℤ) → (IsSigned t → p ≡ a *ℤ b) → convert_to t p ≡ convert_to t (a *ℤ b) → fitted t p ≡ outcome_of Mul t a b
product_outcome t a b p f e = by (is_signed t) refl
  where
    by : (s : Bool) → is_signed t ≡ s → fitted t p ≡ outcome_of Mul t a b
    by true s = ap (fitted t) (f s) ∙ fitted_outcome Mul t a b refl refl refl
    by false s = rw (s, e) (let h : is_out_of_range t (a *ℤ b) ≡ false = rw s refl in ok_outcome Mul t a b (convert_to t (a *ℤ b)) refl refl h refl)

-- ---- the laws of `binary`

module _ (op : BinOp) (t : IntType) (a b : ℤ) where
  pub outcome-overflow : (outcome_of op t a b ≡ Err Overflow) ↔ IsTrue (overflows op t a b)
  outcome-overflow = (causes_of op t a b).overflow

  pub outcome-divide_by_zero : (outcome_of op t a b ≡ Err DivideByZero) ↔ IsTrue (divides_by_zero op b)
  outcome-divide_by_zero = (causes_of op t a b).divide_by_zero

  pub outcome-bad_shift : (outcome_of op t a b ≡ Err BadShift) ↔ IsTrue (is_bad_shift op t a b)
  outcome-bad_shift = (causes_of op t a b).bad_shift

  pub outcome-reduced : IfOk (outcome_of op t a b) (λ r. r ≡ convert_to t (exact op t a b))
  outcome-reduced = each_ok (outcome_of op t a b) (causes_of op t a b).value (λ x h. h.3)

  pub outcome-in_range : IfOk (outcome_of op t a b) (λ r. IsValue t r)
  outcome-in_range = each_ok (outcome_of op t a b) outcome-reduced (λ x e. rw e (convert_to-in_range t (exact op t a b)))

  pub outcome-signed : IsSigned t → IsValue t a → IfOk (outcome_of op t a b) (λ r. r ≡ exact op t a b)
  outcome-signed s v =
      each_ok (outcome_of op t a b) (causes_of op t a b).value
      (λ x h. h.3 ∙ convert_to-same t (exact op t a b) (exact-in_range op t a b s v h.1 h.2))

  pub wrapped-outcome : IsValue t a → IsRightOperand op t b → IfOk (outcome_of op t a b) (λ r. wrapped op t a b ≡ r)
  unfolding wrapped
  wrapped-outcome v w =
      each_ok (outcome_of op t a b) (causes_of op t a b).value
      (λ x h. rw (convert_to-same t a v, right_is op t a b w h.1) (sym h.3))

  -- all that is said of an r that is the outcome
  pub explained : (r : Result ℤ ArithUb) → IsValue t a → r ≡ outcome_of op t a b → record { outcome : r ≡ outcome_of op t a b; overflow : (r ≡ Err Overflow) ↔ IsTrue (overflows op t a b); divide_by_zero : (r ≡ Err DivideByZero) ↔ IsTrue (divides_by_zero op b); bad_shift : (r ≡ Err BadShift) ↔ IsTrue (is_bad_shift op t a b); signed : IsSigned t → IfOk r (λ x. x ≡ exact op t a b); reduced : IfOk r (λ x. x ≡ convert_to t (exact op t a b)); in_range : IfOk r (λ x. IsValue t x) }
  explained r v e =
      record {
        outcome = e;
        overflow = rw e outcome-overflow;
        divide_by_zero = rw e outcome-divide_by_zero;
        bad_shift = rw e outcome-bad_shift;
        signed = λ s. rw e (outcome-signed s v);
        reduced = rw e outcome-reduced;
        in_range = rw e outcome-in_range;
      }

  -- where the outcome is known
  pub wrapped_is : (r : ℤ) → IsValue t a → IsRightOperand op t b → outcome_of op t a b ≡ Ok r → wrapped op t a b ≡ r
  wrapped_is r v w e = rw e at (wrapped-outcome v w)

-- ---- the unary operators

fitted-overflow : (t : IntType) (z : ℤ) → (fitted t z ≡ Err Overflow) ↔ IsTrue (is_out_of_range t z)
fitted-overflow t z = by (is_out_of_range t z)
  where
    by : (b : Bool) → (cond b (Err Overflow) (Ok (convert_to t z)) ≡ Err Overflow) ↔ IsTrue b
    by true = (λ e. refl, λ e. refl)
    by false = grind arith

fitted-only_overflow : (t : IntType) (z : ℤ) → IfErr (fitted t z) (λ e. e ≡ Overflow)
fitted-only_overflow t z = by (is_out_of_range t z)
  where
    by : (b : Bool) → IfErr (cond b (Err Overflow) (Ok (convert_to t z))) (λ e. e ≡ Overflow)
    by true = refl
    by false = tt

fitted-reduced : (t : IntType) (z : ℤ) → IfOk (fitted t z) (λ r. r ≡ convert_to t z)
fitted-reduced t z = by (is_out_of_range t z)
  where
    by : (b : Bool) → IfOk (cond b (Err Overflow) (Ok (convert_to t z))) (λ r. r ≡ convert_to t z)
    by true = tt
    by false = refl

-- the least value of a signed type is the one whose negation is no value
least_alone : (t : IntType) (a : ℤ) → IsSigned t → IsValue t a → ¬ (IsValue t (neg_ℤ a)) → a ≡ least_of t
least_alone Char a s v n = by_lt_z (greatest_of Char) (neg_ℤ a) (λ h. omega (arith, ints)) (λ h. absurd (n (record { least = omega (arith, ints); greatest = h })))
least_alone Short a s v n = by_lt_z (greatest_of Short) (neg_ℤ a) (λ h. omega (arith, ints)) (λ h. absurd (n (record { least = omega (arith, ints); greatest = h })))
least_alone Int a s v n = by_lt_z (greatest_of Int) (neg_ℤ a) (λ h. omega (arith, ints)) (λ h. absurd (n (record { least = omega (arith, ints); greatest = h })))
least_alone Long a s v n = by_lt_z (greatest_of Long) (neg_ℤ a) (λ h. omega (arith, ints)) (λ h. absurd (n (record { least = omega (arith, ints); greatest = h })))
least_alone _ a s v n = absurd (true≢false (sym s))

negated_least : (t : IntType) → IsSigned t → is_out_of_range t (neg_ℤ (least_of t)) ≡ true
negated_least Char s = refl
negated_least Short s = refl
negated_least Int s = refl
negated_least Long s = refl
negated_least _ s = absurd (true≢false (sym s))

pub negated-overflow : (t : IntType) (a : ℤ) → IsValue t a → (negated_of t a ≡ Err Overflow) ↔ (IsSigned t × (a ≡ least_of t))
unfolding negated_of
negated-overflow t a v = (
  λ e. let p = and_parts (is_signed t) (not (is_value t (neg_ℤ a))) ((fitted-overflow t (neg_ℤ a)).0 e) in
      (p.0, least_alone t a p.0 v (λ w. true≢false (sym ((is_value-Decides t (neg_ℤ a)).1 w) ∙ not-true (is_value t (neg_ℤ a)) p.1))),
  λ h. (fitted-overflow t (neg_ℤ a)).1 (rw h.1 (negated_least t h.0)),
)

pub negated-only_overflow : (t : IntType) (a : ℤ) → IfErr (negated_of t a) (λ e. e ≡ Overflow)
unfolding negated_of
negated-only_overflow t a = fitted-only_overflow t (neg_ℤ a)

pub negated-in_range : (t : IntType) (a : ℤ) → IfOk (negated_of t a) (λ r. IsValue t r)
unfolding negated_of
negated-in_range t a = each_ok (negated_of t a) (fitted-reduced t (neg_ℤ a)) (λ x e. rw e (convert_to-in_range t (neg_ℤ a)))

pub fitted_negation : (t : IntType) (a : ℤ) → fitted t (neg_ℤ a) ≡ negated_of t a
unfolding negated_of
fitted_negation t a = refl

pub wrapped_negation_is : (t : IntType) (a : ℤ) → convert_to t (neg_ℤ (convert_to t a)) ≡ wrapped_negation t a
unfolding wrapped_negation
wrapped_negation_is t a = refl

pub wrapped-negated : (t : IntType) (a : ℤ) → IsValue t a → IfOk (negated_of t a) (λ r. wrapped_negation t a ≡ r)
unfolding negated_of wrapped_negation
wrapped-negated t a v = each_ok (negated_of t a) (fitted-reduced t (neg_ℤ a)) (λ x e. rw (convert_to-same t a v) (sym e))

pub complement-in_range : (t : IntType) (a : ℤ) → IsValue t (complement_of t a)
unfolding complement_of
complement-in_range t a = let p = bits_below t a in value_of_bits-in_range t (2 ^ width_of t - 1 - bits_of t a) (omega arith)

pub wrapped_value : (op : BinOp) (t : IntType) (a b : ℤ) → convert_to t (exact op t (convert_to t a) (wrapped_right op t b)) ≡ wrapped op t a b
unfolding wrapped
wrapped_value op t a b = refl

pub wrapped-in_range : (op : BinOp) (t : IntType) (a b : ℤ) → IsValue t (wrapped op t a b)
unfolding wrapped
wrapped-in_range op t a b = convert_to-in_range t (exact op t (convert_to t a) (wrapped_right op t b))

pub wrapped_negation-in_range : (t : IntType) (a : ℤ) → IsValue t (wrapped_negation t a)
unfolding wrapped_negation
wrapped_negation-in_range t a = convert_to-in_range t (neg_ℤ (convert_to t a))

-- ---- the right operand of the total operator

pub wrapped_right-operand : (op : BinOp) (t : IntType) (b : ℤ) → IsRightOperand op t (wrapped_right op t b)
wrapped_right-operand op t b = by (is_shift op)
  where
    by : (s : Bool) → s ≡ false → IsValue t (cond s (pos (modulo b (width_of t))) (convert_to t b))
    by true e = absurd (true≢false e)
    by false e = convert_to-in_range t b

width_positive : (t : IntType) → 0 < width_of t
width_positive Char = omega arith
width_positive UChar = omega arith
width_positive Short = omega arith
width_positive UShort = omega arith
width_positive Int = omega arith
width_positive UInt = omega arith
width_positive Long = omega arith
width_positive ULong = omega arith

pub wrapped_right-amount : (op : BinOp) (t : IntType) (b : ℤ) → is_shift op ≡ true → is_bad_amount t (wrapped_right op t b) ≡ false
wrapped_right-amount op t b e =
    let n = modulo b (width_of t) in
    rw e (or_from (int_lt (pos n) (pos 0)) (int_le (pos (width_of t)) (pos n)) (le-ltb n 0 (omega arith)) (lt-leb (width_of t) n (modulo_below b (width_of t) (width_positive t))))
