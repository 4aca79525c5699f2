-- The operators that work on words give the result that is wanted, once they are read as a value of the type.
use Rattle.std.proofs.Common.{◌≡◌, ℕ, ◌-◌, ◌*◌, ◌%◌, ◌^◌, ◌<◌, ◌≤◌, ◌≤ℤ◌, ◌<ℤ◌, neg_ℤ, negsuc, suc, int_div, int_eq, of_z, div-le_self, unsigned_abs, lit≤, FitsSigned, pow_mono, true, false, ℤ, pos, ◌*ℤ◌, bit_and, bit_or, bit_xor, sym, ap, ap₂, ◌∙◌, arith, true≢false}
use Rattle.std.proofs.lemmas.Nat.{and_mod, or_mod, xor_mod}
use Rattle.std.proofs.lemmas.Int.{ints, fits_signed_mul, fits_signed_from_abs}
use Rattle.std.proofs.lemmas.Bool.{false_from_ne_true}
use Rattle.std.proofs.lemmas.Bool.Decides.{Decides-int_eq}
use Rattle.std.specs.Int.{w128}
use Rattle.c_num.specs.declared.IntType.{IntType}
use Rattle.c_num.specs.declared.IntType.TheVariants.{Char, UChar, Short, UShort, Int, UInt, Long, ULong}
use Rattle.c_num.specs.declared.BinOp.TheVariants.{And, Or, Xor}
use Rattle.c_num.specs.Types.{width_of, is_signed, IsValue}
use Rattle.c_num.specs.Conversion.{bits_of, value_of_bits, convert_to, word_of}
use Rattle.c_num.specs.Arith.{exact, is_bad_amount, complement_of}
use Rattle.c_num.proofs.Conversions.{bits-word, convert_to-value_of_bits, same_converted, congruent_from_word, modulo-congruent, word_of_unsigned}
use Rattle.c_num.proofs.Outcomes.{and_below, or_below, xor_below, good_amount}

module _ (t : IntType) (a b : ℤ) where
  pub and_words : convert_to t (pos (bit_and (word_of t a) (word_of t b))) ≡ exact And t a b
  unfolding convert_to
  and_words = ap (value_of_bits t) (and_mod (word_of t a) (word_of t b) (width_of t) ∙ ap₂ bit_and (bits-word t a) (bits-word t b))

  pub and_in_type : exact And t a b ≡ convert_to t (exact And t a b)
  and_in_type = sym (convert_to-value_of_bits t (bit_and (bits_of t a) (bits_of t b)) (and_below t a b))

  pub or_words : convert_to t (pos (bit_or (word_of t a) (word_of t b))) ≡ exact Or t a b
  unfolding convert_to
  or_words = ap (value_of_bits t) (or_mod (word_of t a) (word_of t b) (width_of t) ∙ ap₂ bit_or (bits-word t a) (bits-word t b))

  pub or_in_type : exact Or t a b ≡ convert_to t (exact Or t a b)
  or_in_type = sym (convert_to-value_of_bits t (bit_or (bits_of t a) (bits_of t b)) (or_below t a b))

  pub xor_words : convert_to t (pos (bit_xor (word_of t a) (word_of t b))) ≡ exact Xor t a b
  unfolding convert_to
  xor_words = ap (value_of_bits t) (xor_mod (word_of t a) (word_of t b) (width_of t) ∙ ap₂ bit_xor (bits-word t a) (bits-word t b))

  pub xor_in_type : exact Xor t a b ≡ convert_to t (exact Xor t a b)
  xor_in_type = sym (convert_to-value_of_bits t (bit_xor (bits_of t a) (bits_of t b)) (xor_below t a b))

  -- the product of two values of an unsigned type, modulo 2 ^ 64
  pub product-converted : is_signed t ≡ false → IsValue t a → IsValue t b → convert_to t (pos (word_of t a * word_of t b % 2 ^ 64)) ≡ convert_to t (a *ℤ b)
  product-converted u v w =
      let n = word_of t a * word_of t b in
      same_converted t (pos (n % 2 ^ 64)) (pos n) (congruent_from_word t (pos (n % 2 ^ 64)) (pos n) (modulo-congruent (pos n) (2 ^ 64) (omega arith)))
      ∙ ap (convert_to t) (ap₂ ◌*ℤ◌ (word_of_unsigned t a u v) (word_of_unsigned t b u w))

other_bits : (t : IntType) (n : ℕ) → n < 2 ^ 64 → (2 ^ 64 - 1 - n) % 2 ^ width_of t ≡ 2 ^ width_of t - 1 - n % 2 ^ width_of t
other_bits Char n h = omega arith
other_bits UChar n h = omega arith
other_bits Short n h = omega arith
other_bits UShort n h = omega arith
other_bits Int n h = omega arith
other_bits UInt n h = omega arith
other_bits Long n h = omega arith
other_bits ULong n h = omega arith

pub complement-converted : (t : IntType) (a : ℤ) → word_of t a < 2 ^ 64 → convert_to t (pos (2 ^ 64 - 1 - word_of t a)) ≡ complement_of t a
unfolding convert_to complement_of
complement-converted t a h = ap (value_of_bits t) (other_bits t (word_of t a) h ∙ ap (λ n. 2 ^ width_of t - 1 - n) (bits-word t a))

-- a value of any type is at least -(2 ^ 63) and below 2 ^ 64
pub value_bounds : (t : IntType) (z : ℤ) → IsValue t z → (neg_ℤ (pos (2 ^ 63)) ≤ℤ z) × (z <ℤ pos (2 ^ 64))
value_bounds Char z v = omega (arith, ints)
value_bounds UChar z v = omega (arith, ints)
value_bounds Short z v = omega (arith, ints)
value_bounds UShort z v = omega (arith, ints)
value_bounds Int z v = omega (arith, ints)
value_bounds UInt z v = omega (arith, ints)
value_bounds Long z v = omega (arith, ints)
value_bounds ULong z v = omega (arith, ints)

width_small : (t : IntType) → width_of t ≤ 64
width_small Char = lit≤ tt
width_small UChar = lit≤ tt
width_small Short = lit≤ tt
width_small UShort = lit≤ tt
width_small Int = lit≤ tt
width_small UInt = lit≤ tt
width_small Long = lit≤ tt
width_small ULong = lit≤ tt

-- that of a signed type is at most 2 ^ 63 - 1
pub signed_bounds : (t : IntType) (z : ℤ) → is_signed t ≡ true → IsValue t z → unsigned_abs z ≤ 2 ^ 63
signed_bounds Char z s v = omega (arith, ints)
signed_bounds UChar z s v = absurd (true≢false (sym s))
signed_bounds Short z s v = omega (arith, ints)
signed_bounds UShort z s v = absurd (true≢false (sym s))
signed_bounds Int z s v = omega (arith, ints)
signed_bounds UInt z s v = absurd (true≢false (sym s))
signed_bounds Long z s v = omega (arith, ints)
signed_bounds ULong z s v = absurd (true≢false (sym s))

pub value_fits : (t : IntType) (z : ℤ) → IsValue t z → FitsSigned w128 z
value_fits t z v = let bounds = value_bounds t z v in omega (arith, ints)

quotient_below : (a b : ℤ) → unsigned_abs (int_div a b) ≤ unsigned_abs a
quotient_below (pos n) (pos m) = div-le_self n m
quotient_below (pos n) (negsuc m) = omega (arith, ints, div-le_self n (suc m))
quotient_below (negsuc n) (pos m) = omega (arith, ints, div-le_self (suc n) m)
quotient_below (negsuc n) (negsuc m) = div-le_self (suc n) (suc m)

pub quotient_fits : (t : IntType) (a b : ℤ) → IsValue t a → FitsSigned w128 (int_div a b)
quotient_fits t a b v =
    let bounds = value_bounds t a v in
    let below = quotient_below a b in
    fits_signed_from_abs w128 (int_div a b) (omega (arith, ints))

pub product_fits : (t : IntType) (a b : ℤ) → is_signed t ≡ true → IsValue t a → IsValue t b → FitsSigned w128 (a *ℤ b)
product_fits t a b s v w = fits_signed_mul w128 a b (2 ^ 63) (2 ^ 63) (signed_bounds t a s v) (signed_bounds t b s w) (omega arith)

pub amount_below : (t : IntType) (b : ℤ) → is_bad_amount t b ≡ false → unsigned_abs b < 64
amount_below t b k = let p = good_amount t b k in let w = width_small t in omega (arith, ints)

pub shifted_fits : (t : IntType) (a : ℤ) (k : ℕ) → k < 64 → IsValue t a → FitsSigned w128 (a *ℤ pos (2 ^ k))
shifted_fits t a k h v =
    let bounds = value_bounds t a v in
    fits_signed_mul w128 a (pos (2 ^ k)) (2 ^ 64 - 1) (2 ^ 63) (omega (arith, ints)) (pow_mono {i = k} {j = 63} (omega arith)) (omega arith)

-- ---- what the tests and operators of `i128` say

pub zero_from_bits : (b : ℤ) → FitsSigned w128 b → of_z w128 b ≡ 0 → int_eq b (pos 0) ≡ true
zero_from_bits b fits e = let z : b ≡ pos 0 = omega (arith, ints) in (Decides-int_eq b (pos 0)).1 z

pub nonzero_from_bits : (b : ℤ) → FitsSigned w128 b → ¬ (of_z w128 b ≡ 0) → int_eq b (pos 0) ≡ false
nonzero_from_bits b fits n = false_from_ne_true (int_eq b (pos 0)) (λ e. let z : b ≡ pos 0 = (Decides-int_eq b (pos 0)).0 e in n (omega (arith, ints)))
