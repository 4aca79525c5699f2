-- The word of a result depends on no more of the operands than the lowest bits, and what the code computes has those.
use Rattle.std.proofs.Common.{◌≡◌, ℕ, ◌+◌, ◌-◌, ◌*◌, ◌%◌, ◌/◌, ◌^◌, ◌<◌, false, cond, ℤ, pos, negsuc, ◌+ℤ◌, ◌-ℤ◌, ◌*ℤ◌, neg_ℤ, bit_and, bit_or, bit_xor, refl, sym, ap, ap₂, ◌∙◌, arith}
use Rattle.std.proofs.Math.IntN.{+ℤ_comm, *ℤ_comm}
use Rattle.std.proofs.lemmas.Int.{ints}
use Rattle.std.proofs.lemmas.Nat.{and_mod, or_mod, xor_mod}
use Rattle.std.specs.Int.{int_shr}
use Rattle.c_num.specs.declared.IntType.{IntType}
use Rattle.c_num.specs.declared.IntType.TheVariants.{Char, UChar, Short, UShort, Int, UInt, Long, ULong}
use Rattle.c_num.specs.declared.BinOp.{BinOp}
use Rattle.c_num.specs.declared.BinOp.TheVariants.{Add, Sub, Mul, Shl, Shr, And, Or, Xor}
use Rattle.c_num.specs.Types.{width_of}
use Rattle.c_num.specs.Conversion.{modulo, IsCongruent, value_of_bits, convert_to, word_of}
use Rattle.c_num.specs.Arith.{exact, is_shift, wrapped, wrapped_right, wrapped_negation, complement_of}
use Rattle.c_num.proofs.Conversions.{same_converted, convert_to-congruent, convert_to-twice, word-convert_to, bits-convert_to, congruent_from_word, modulo-congruent}
use Rattle.machine.specs.Words.{value_in, binary_word, negated_word, complement_word}
use Rattle.machine.proofs.Congruence.{sum-congruent, product-congruent, negative-congruent}

-- ---- words of congruent numbers

pub same_word : (t : IntType) (x z : ℤ) → IsCongruent (2 ^ width_of t) x z → word_of t x ≡ word_of t z
unfolding word_of
same_word t x z h = ap (λ v. modulo v (2 ^ 64)) (same_converted t x z h)

-- A number modulo 2 ^ 64 has the word of the number.
pub reduced_word : (t : IntType) (z : ℤ) → word_of t (pos (modulo z (2 ^ 64))) ≡ word_of t z
reduced_word t z = same_word t (pos (modulo z (2 ^ 64))) z (congruent_from_word t (pos (modulo z (2 ^ 64))) z (modulo-congruent z (2 ^ 64) (omega arith)))

module _ (t : IntType) (x y : ℤ) where
  sum_word : word_of t (x +ℤ y) ≡ word_of t (convert_to t x +ℤ convert_to t y)
  sum_word =
      let m = 2 ^ width_of t in
      let a = convert_to t x in
      let b = convert_to t y in
      sym (same_word t (a +ℤ y) (x +ℤ y) (sum-congruent m a x (convert_to-congruent t x) y))
      ∙ ap (word_of t) (+ℤ_comm a y)
      ∙ sym (same_word t (b +ℤ a) (y +ℤ a) (sum-congruent m b y (convert_to-congruent t y) a))
      ∙ ap (word_of t) (+ℤ_comm b a)

  difference_word : word_of t (x -ℤ y) ≡ word_of t (convert_to t x -ℤ convert_to t y)
  difference_word =
      let m = 2 ^ width_of t in
      let a = convert_to t x in
      let b = convert_to t y in
      sym (same_word t (a -ℤ y) (x -ℤ y) (sum-congruent m a x (convert_to-congruent t x) (neg_ℤ y)))
      ∙ ap (word_of t) (+ℤ_comm a (neg_ℤ y))
      ∙ sym (same_word t (neg_ℤ b +ℤ a) (neg_ℤ y +ℤ a) (sum-congruent m (neg_ℤ b) (neg_ℤ y) (negative-congruent m b y (convert_to-congruent t y)) a))
      ∙ ap (word_of t) (+ℤ_comm (neg_ℤ b) a)

  product_word : word_of t (x *ℤ y) ≡ word_of t (convert_to t x *ℤ convert_to t y)
  product_word =
      let m = 2 ^ width_of t in
      let a = convert_to t x in
      let b = convert_to t y in
      sym (same_word t (a *ℤ y) (x *ℤ y) (product-congruent m a x (convert_to-congruent t x) y))
      ∙ ap (word_of t) (*ℤ_comm a y)
      ∙ sym (same_word t (b *ℤ a) (y *ℤ a) (product-congruent m b y (convert_to-congruent t y) a))
      ∙ ap (word_of t) (*ℤ_comm b a)

  -- a product whose right factor isn't converted
  scaled_word : word_of t (x *ℤ y) ≡ word_of t (convert_to t x *ℤ y)
  scaled_word = sym (same_word t (convert_to t x *ℤ y) (x *ℤ y) (product-congruent (2 ^ width_of t) (convert_to t x) x (convert_to-congruent t x) y))

negative_word : (t : IntType) (x : ℤ) → word_of t (neg_ℤ x) ≡ word_of t (neg_ℤ (convert_to t x))
negative_word t x = sym (same_word t (neg_ℤ (convert_to t x)) (neg_ℤ x) (negative-congruent (2 ^ width_of t) (convert_to t x) x (convert_to-congruent t x)))

-- ---- operators

-- The definition converts the operands and the result twice.
total_word : (op : BinOp) (t : IntType) (l r : ℕ) → word_of t (exact op t (value_in t l) (wrapped_right op t (value_in t r))) ≡ binary_word op t l r
unfolding wrapped
total_word op t l r =
    let right = wrapped_right op t (value_in t r) in
    ap (λ v. word_of t (exact op t v right)) (sym (convert_to-twice t (pos l))) ∙ sym (word-convert_to t (exact op t (convert_to t (value_in t l)) right))

-- an operator other than a shift
pub on_values : (op : BinOp) (t : IntType) (l r : ℕ) → is_shift op ≡ false → word_of t (exact op t (value_in t l) (value_in t r)) ≡ binary_word op t l r
on_values op t l r e =
    let right : value_in t r ≡ wrapped_right op t (value_in t r) = sym (ap (λ s. cond s (pos (modulo (value_in t r) (width_of t))) (convert_to t (value_in t r))) e ∙ convert_to-twice t (pos r)) in
    ap (λ v. word_of t (exact op t (value_in t l) v)) right ∙ total_word op t l r

below_zero : (l r : ℕ) → r < 2 ^ 64 → IsCongruent (2 ^ 64) (pos ((l + (2 ^ 64 - r)) % 2 ^ 64)) (pos l -ℤ pos r)
below_zero l r h = (pos ((l + (2 ^ 64 - r)) / 2 ^ 64) -ℤ pos 1, omega (arith, ints))

module _ (t : IntType) (l r : ℕ) where
  pub added : word_of t (pos ((l + r) % 2 ^ 64)) ≡ binary_word Add t l r
  added = reduced_word t (pos (l + r)) ∙ sum_word t (pos l) (pos r) ∙ on_values Add t l r refl

  pub subtracted : r < 2 ^ 64 → word_of t (pos ((l + (2 ^ 64 - r)) % 2 ^ 64)) ≡ binary_word Sub t l r
  subtracted h =
      same_word t (pos ((l + (2 ^ 64 - r)) % 2 ^ 64)) (pos l -ℤ pos r) (congruent_from_word t (pos ((l + (2 ^ 64 - r)) % 2 ^ 64)) (pos l -ℤ pos r) (below_zero l r h))
      ∙ difference_word t (pos l) (pos r) ∙ on_values Sub t l r refl

  pub multiplied : word_of t (pos ((l * r) % 2 ^ 64)) ≡ binary_word Mul t l r
  multiplied = reduced_word t (pos (l * r)) ∙ product_word t (pos l) (pos r) ∙ on_values Mul t l r refl

  and_value : convert_to t (pos (bit_and l r)) ≡ exact And t (value_in t l) (value_in t r)
  unfolding convert_to
  and_value = ap (value_of_bits t) (and_mod l r (width_of t) ∙ ap₂ bit_and (sym (bits-convert_to t (pos l))) (sym (bits-convert_to t (pos r))))

  or_value : convert_to t (pos (bit_or l r)) ≡ exact Or t (value_in t l) (value_in t r)
  unfolding convert_to
  or_value = ap (value_of_bits t) (or_mod l r (width_of t) ∙ ap₂ bit_or (sym (bits-convert_to t (pos l))) (sym (bits-convert_to t (pos r))))

  xor_value : convert_to t (pos (bit_xor l r)) ≡ exact Xor t (value_in t l) (value_in t r)
  unfolding convert_to
  xor_value = ap (value_of_bits t) (xor_mod l r (width_of t) ∙ ap₂ bit_xor (sym (bits-convert_to t (pos l))) (sym (bits-convert_to t (pos r))))

  pub anded : word_of t (pos (bit_and l r)) ≡ binary_word And t l r
  anded = sym (word-convert_to t (pos (bit_and l r))) ∙ ap (word_of t) and_value ∙ on_values And t l r refl

  pub ored : word_of t (pos (bit_or l r)) ≡ binary_word Or t l r
  ored = sym (word-convert_to t (pos (bit_or l r))) ∙ ap (word_of t) or_value ∙ on_values Or t l r refl

  pub xored : word_of t (pos (bit_xor l r)) ≡ binary_word Xor t l r
  xored = sym (word-convert_to t (pos (bit_xor l r))) ∙ ap (word_of t) xor_value ∙ on_values Xor t l r refl

-- ---- shifts

amount_8 : (x k : ℤ) (r : ℕ) → pos r ≡ x +ℤ k *ℤ pos (2 ^ 8) → modulo x 8 ≡ r % 8
amount_8 (pos n) k r e = omega (arith, ints)
amount_8 (negsuc n) k r e = omega (arith, ints)

amount_16 : (x k : ℤ) (r : ℕ) → pos r ≡ x +ℤ k *ℤ pos (2 ^ 16) → modulo x 16 ≡ r % 16
amount_16 (pos n) k r e = omega (arith, ints)
amount_16 (negsuc n) k r e = omega (arith, ints)

amount_32 : (x k : ℤ) (r : ℕ) → pos r ≡ x +ℤ k *ℤ pos (2 ^ 32) → modulo x 32 ≡ r % 32
amount_32 (pos n) k r e = omega (arith, ints)
amount_32 (negsuc n) k r e = omega (arith, ints)

amount_64 : (x k : ℤ) (r : ℕ) → pos r ≡ x +ℤ k *ℤ pos (2 ^ 64) → modulo x 64 ≡ r % 64
amount_64 (pos n) k r e = omega (arith, ints)
amount_64 (negsuc n) k r e = omega (arith, ints)

-- The width divides 2 ^ width, so that the amount needn't be converted.
amount_is : (t : IntType) (r : ℕ) → modulo (value_in t r) (width_of t) ≡ r % width_of t
amount_is Char r = let c = convert_to-congruent Char (pos r) in amount_8 (value_in Char r) c.0 r c.1
amount_is UChar r = let c = convert_to-congruent UChar (pos r) in amount_8 (value_in UChar r) c.0 r c.1
amount_is Short r = let c = convert_to-congruent Short (pos r) in amount_16 (value_in Short r) c.0 r c.1
amount_is UShort r = let c = convert_to-congruent UShort (pos r) in amount_16 (value_in UShort r) c.0 r c.1
amount_is Int r = let c = convert_to-congruent Int (pos r) in amount_32 (value_in Int r) c.0 r c.1
amount_is UInt r = let c = convert_to-congruent UInt (pos r) in amount_32 (value_in UInt r) c.0 r c.1
amount_is Long r = let c = convert_to-congruent Long (pos r) in amount_64 (value_in Long r) c.0 r c.1
amount_is ULong r = let c = convert_to-congruent ULong (pos r) in amount_64 (value_in ULong r) c.0 r c.1

module _ (t : IntType) (l r : ℕ) where
  pub shifted_left : word_of t (pos (l * 2 ^ (r % width_of t))) ≡ binary_word Shl t l r
  shifted_left =
      scaled_word t (pos l) (pos (2 ^ (r % width_of t)))
      ∙ ap (λ n. word_of t (value_in t l *ℤ pos (2 ^ n))) (sym (amount_is t r)) ∙ total_word Shl t l r

  pub shifted_right : word_of t (int_shr (value_in t l) (r % width_of t)) ≡ binary_word Shr t l r
  shifted_right = ap (λ n. word_of t (int_shr (value_in t l) n)) (sym (amount_is t r)) ∙ total_word Shr t l r

-- ---- unary operators

module _ (t : IntType) (n : ℕ) (h : n < 2 ^ 64) where
  pub negated : word_of t (pos ((0 + (2 ^ 64 - n)) % 2 ^ 64)) ≡ negated_word t n
  unfolding wrapped_negation
  negated =
      same_word t (pos ((0 + (2 ^ 64 - n)) % 2 ^ 64)) (pos 0 -ℤ pos n) (congruent_from_word t (pos ((0 + (2 ^ 64 - n)) % 2 ^ 64)) (pos 0 -ℤ pos n) (below_zero 0 n h))
      ∙ (let e : pos 0 -ℤ pos n ≡ neg_ℤ (pos n) = omega (arith, ints) in ap (word_of t) e)
      ∙ negative_word t (pos n) ∙ ap (λ v. word_of t (neg_ℤ v)) (sym (convert_to-twice t (pos n))) ∙ sym (word-convert_to t (neg_ℤ (convert_to t (value_in t n))))

other_bits : (t : IntType) (n : ℕ) → n < 2 ^ 64 → (2 ^ 64 - 1 - n) % 2 ^ width_of t ≡ 2 ^ width_of t - 1 - n % 2 ^ width_of t
other_bits Char n h = omega arith
other_bits UChar n h = omega arith
other_bits Short n h = omega arith
other_bits UShort n h = omega arith
other_bits Int n h = omega arith
other_bits UInt n h = omega arith
other_bits Long n h = omega arith
other_bits ULong n h = omega arith

complement_value : (t : IntType) (n : ℕ) → n < 2 ^ 64 → convert_to t (pos (2 ^ 64 - 1 - n)) ≡ complement_of t (value_in t n)
unfolding convert_to complement_of
complement_value t n h = ap (value_of_bits t) (other_bits t n h ∙ ap (λ b. 2 ^ width_of t - 1 - b) (sym (bits-convert_to t (pos n))))

pub complemented : (t : IntType) (n : ℕ) → n < 2 ^ 64 → word_of t (pos (2 ^ 64 - 1 - n)) ≡ complement_word t n
complemented t n h = sym (word-convert_to t (pos (2 ^ 64 - 1 - n))) ∙ ap (word_of t) (complement_value t n h)
