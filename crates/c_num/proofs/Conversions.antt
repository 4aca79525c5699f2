-- The laws of conversion: the converted value is in range, congruent to what was converted, and the only such value.
use Rattle.std.proofs.Common.{◌≡◌, ℕ, ◌+◌, ◌-◌, ◌/◌, ◌%◌, ◌^◌, ◌<◌, ◌≤◌, Bool, true, false, cond, ◌&&◌, ℤ, pos, negsuc, ◌+ℤ◌, ◌-ℤ◌, ◌*ℤ◌, neg_ℤ, ◌≤ℤ◌, leb, ltb, leb-true, leb-false, le-leb, int_div, int_le, ◌<ℤ◌, ◌⊎◌, inl, inr, refl, sym, ap, ◌∙◌, arith, mod-eq_of_lt, true≢false}
use Rattle.std.proofs.Math.IntN.{suc_ℤ, suc_ℤ-*ℤ}
use Rattle.std.proofs.lemmas.Int.{ints}
use Rattle.std.proofs.lemmas.Bool.{and_right, lt-leb}
use Rattle.std.specs.Bool.{beq}
use Rattle.std.specs.Int.{int_rem_euclid}
use Rattle.std.proofs.lemmas.Nat.{pow_pos}
use Rattle.c_num.specs.declared.IntType.{IntType}
use Rattle.c_num.specs.declared.IntType.TheVariants.{Char, UChar, Short, UShort, Int, UInt, Long, ULong}
use Rattle.c_num.specs.Types.{width_of, is_signed, IsValue, greatest_of, rank_of, promoted, unsigned_of, common_of_signs, common_of_promoted, common_of}
use Rattle.c_num.specs.Conversion.{modulo, IsCongruent, bits_of, value_of_bits, convert_to, word_of}

-- ---- remainders

pub modulo_below : (z : ℤ) (m : ℕ) → 0 < m → modulo z m < m
modulo_below (pos n) m h = omega arith
modulo_below (negsuc n) m h = omega arith

pub modulo-congruent : (z : ℤ) (m : ℕ) → 0 < m → IsCongruent m (pos (modulo z m)) z
modulo-congruent (pos n) m h = (pos (n / m), omega (arith, ints))
modulo-congruent (negsuc n) m h = (negsuc (n / m), omega (arith, ints))

-- Numbers that are congruent modulo 2 ^ width have the same bits.
same_residue : (t : IntType) (x z i j k : ℤ) (a b : ℕ) → a < 2 ^ width_of t → b < 2 ^ width_of t → x ≡ pos a +ℤ i *ℤ pos (2 ^ width_of t) → z ≡ pos b +ℤ j *ℤ pos (2 ^ width_of t) → z ≡ x +ℤ k *ℤ pos (2 ^ width_of t) → a ≡ b
same_residue Char x z i j k a b p q e f g = omega (arith, ints)
same_residue UChar x z i j k a b p q e f g = omega (arith, ints)
same_residue Short x z i j k a b p q e f g = omega (arith, ints)
same_residue UShort x z i j k a b p q e f g = omega (arith, ints)
same_residue Int x z i j k a b p q e f g = omega (arith, ints)
same_residue UInt x z i j k a b p q e f g = omega (arith, ints)
same_residue Long x z i j k a b p q e f g = omega (arith, ints)
same_residue ULong x z i j k a b p q e f g = omega (arith, ints)

pub bits_below : (t : IntType) (z : ℤ) → bits_of t z < 2 ^ width_of t
bits_below t z = modulo_below z (2 ^ width_of t) (pow_pos (width_of t))

pub same_bits : (t : IntType) (x z : ℤ) → IsCongruent (2 ^ width_of t) x z → bits_of t x ≡ bits_of t z
same_bits t x z h =
    let m = 2 ^ width_of t in
    let p = modulo-congruent x m (pow_pos (width_of t)) in
    let q = modulo-congruent z m (pow_pos (width_of t)) in
    same_residue t x z p.0 q.0 h.0 (bits_of t x) (bits_of t z) (bits_below t x) (bits_below t z) p.1 q.1 h.1

-- ---- bits read as a value

signed_read : (half n : ℕ) (b : Bool) → leb half n ≡ b → n < half + half → (neg_ℤ (pos half) ≤ℤ cond b (pos n -ℤ pos (half + half)) (pos n)) × (cond b (pos n -ℤ pos (half + half)) (pos n) ≤ℤ pos (half - 1))
signed_read half n true e h = let p : half ≤ n = leb-true half n e in omega (arith, ints)
signed_read half n false e h = let p : n < half = leb-false half n e in omega (arith, ints)

pub value_of_bits-in_range : (t : IntType) (n : ℕ) → n < 2 ^ width_of t → IsValue t (value_of_bits t n)
value_of_bits-in_range Char n h = let p = signed_read (2 ^ 7) n (leb (2 ^ 7) n) refl h in record { least = p.0; greatest = p.1 }
value_of_bits-in_range UChar n h = omega (arith, ints)
value_of_bits-in_range Short n h = let p = signed_read (2 ^ 15) n (leb (2 ^ 15) n) refl h in record { least = p.0; greatest = p.1 }
value_of_bits-in_range UShort n h = omega (arith, ints)
value_of_bits-in_range Int n h = let p = signed_read (2 ^ 31) n (leb (2 ^ 31) n) refl h in record { least = p.0; greatest = p.1 }
value_of_bits-in_range UInt n h = omega (arith, ints)
value_of_bits-in_range Long n h = let p = signed_read (2 ^ 63) n (leb (2 ^ 63) n) refl h in record { least = p.0; greatest = p.1 }
value_of_bits-in_range ULong n h = omega (arith, ints)

-- reading bits as a value adds or takes away nothing but 2 ^ width
congruent_read : (m n : ℕ) (b : Bool) (z : ℤ) → IsCongruent m (pos n) z → IsCongruent m (cond b (pos n -ℤ pos m) (pos n)) z
congruent_read m n true z h = (suc_ℤ h.0, rw (suc_ℤ-*ℤ h.0 (pos m)) (omega (arith, ints)))
congruent_read m n false z h = h

-- ---- conversion

pub convert_to-in_range : (t : IntType) (z : ℤ) → IsValue t (convert_to t z)
unfolding convert_to
convert_to-in_range t z = value_of_bits-in_range t (bits_of t z) (bits_below t z)

pub convert_to-congruent : (t : IntType) (z : ℤ) → IsCongruent (2 ^ width_of t) (convert_to t z) z
unfolding convert_to
convert_to-congruent t z =
    let n = bits_of t z in
    congruent_read (2 ^ width_of t) n (is_signed t && leb (2 ^ (width_of t - 1)) n) z (modulo-congruent z (2 ^ width_of t) (pow_pos (width_of t)))

same_signed : (half : ℕ) (z : ℤ) (b : Bool) → leb half (modulo z (half + half)) ≡ b → neg_ℤ (pos half) ≤ℤ z → z ≤ℤ pos (half - 1) → 0 < half → cond b (pos (modulo z (half + half)) -ℤ pos (half + half)) (pos (modulo z (half + half))) ≡ z
same_signed half (pos n) true e least greatest h =
    let small : n % (half + half) ≡ n = mod-eq_of_lt (omega (arith, ints)) in
    let p : half ≤ n % (half + half) = leb-true half (n % (half + half)) e in
    omega (arith, ints)
same_signed half (pos n) false e least greatest h = ap pos (mod-eq_of_lt (omega (arith, ints)))
same_signed half (negsuc n) true e least greatest h =
    let small : n % (half + half) ≡ n = mod-eq_of_lt (omega (arith, ints)) in
    omega (arith, ints)
same_signed half (negsuc n) false e least greatest h =
    let small : n % (half + half) ≡ n = mod-eq_of_lt (omega (arith, ints)) in
    let p : half + half - 1 - n % (half + half) < half = leb-false half (half + half - 1 - n % (half + half)) e in
    omega (arith, ints)

pub modulo-same : (m : ℕ) (z : ℤ) → pos 0 ≤ℤ z → z ≤ℤ pos (m - 1) → 0 < m → pos (modulo z m) ≡ z
modulo-same m (pos n) least greatest h = ap pos (mod-eq_of_lt (omega (arith, ints)))
modulo-same m (negsuc n) least greatest h = absurd (omega (arith, ints))

pub convert_to-same : (t : IntType) (z : ℤ) → IsValue t z → convert_to t z ≡ z
unfolding convert_to
convert_to-same Char z v = same_signed (2 ^ 7) z (leb (2 ^ 7) (modulo z (2 ^ 8))) refl v.least v.greatest (omega arith)
convert_to-same UChar z v = modulo-same (2 ^ 8) z v.least v.greatest (omega arith)
convert_to-same Short z v = same_signed (2 ^ 15) z (leb (2 ^ 15) (modulo z (2 ^ 16))) refl v.least v.greatest (omega arith)
convert_to-same UShort z v = modulo-same (2 ^ 16) z v.least v.greatest (omega arith)
convert_to-same Int z v = same_signed (2 ^ 31) z (leb (2 ^ 31) (modulo z (2 ^ 32))) refl v.least v.greatest (omega arith)
convert_to-same UInt z v = modulo-same (2 ^ 32) z v.least v.greatest (omega arith)
convert_to-same Long z v = same_signed (2 ^ 63) z (leb (2 ^ 63) (modulo z (2 ^ 64))) refl v.least v.greatest (omega arith)
convert_to-same ULong z v = modulo-same (2 ^ 64) z v.least v.greatest (omega arith)

-- numbers that are congruent modulo 2 ^ width are converted alike
pub same_converted : (t : IntType) (x z : ℤ) → IsCongruent (2 ^ width_of t) x z → convert_to t x ≡ convert_to t z
unfolding convert_to
same_converted t x z h = ap (value_of_bits t) (same_bits t x z h)

-- A value of t that is congruent to z is z converted.
pub convert_to-unique : (t : IntType) (x z : ℤ) → IsValue t x → IsCongruent (2 ^ width_of t) x z → convert_to t z ≡ x
convert_to-unique t x z v h = sym (same_converted t x z h) ∙ convert_to-same t x v

pub convert_to-twice : (t : IntType) (z : ℤ) → convert_to t (convert_to t z) ≡ convert_to t z
convert_to-twice t z = convert_to-same t (convert_to t z) (convert_to-in_range t z)

pub bits-convert_to : (t : IntType) (z : ℤ) → bits_of t (convert_to t z) ≡ bits_of t z
bits-convert_to t z = same_bits t (convert_to t z) z (convert_to-congruent t z)

pub convert_to-value_of_bits : (t : IntType) (n : ℕ) → n < 2 ^ width_of t → convert_to t (value_of_bits t n) ≡ value_of_bits t n
convert_to-value_of_bits t n h = convert_to-same t (value_of_bits t n) (value_of_bits-in_range t n h)

-- ---- what the code of `convert` computes

pub modulus_small : (t : IntType) → 2 ^ width_of t ≤ 2 ^ 64
modulus_small Char = omega arith
modulus_small UChar = omega arith
modulus_small Short = omega arith
modulus_small UShort = omega arith
modulus_small Int = omega arith
modulus_small UInt = omega arith
modulus_small Long = omega arith
modulus_small ULong = omega arith

half_modulus : (t : IntType) → 2 ^ (width_of t - 1) + 2 ^ (width_of t - 1) ≡ 2 ^ width_of t
half_modulus Char = refl
half_modulus UChar = refl
half_modulus Short = refl
half_modulus UShort = refl
half_modulus Int = refl
half_modulus UInt = refl
half_modulus Long = refl
half_modulus ULong = refl

rem_euclid_is : (z : ℤ) (m : ℕ) → int_rem_euclid z (pos m) ≡ pos (modulo z m)
rem_euclid_is (pos n) m = refl
rem_euclid_is (negsuc n) m = refl

-- m is the modulus and r the remainder
pub convert_high : (t : IntType) (z m r : ℤ) → m ≡ pos (2 ^ width_of t) → r ≡ int_rem_euclid z m → is_signed t ≡ true → int_div m (pos 2) ≤ℤ r → r -ℤ m ≡ convert_to t z
unfolding convert_to
convert_high t z m r e f s h =
    let half = half_modulus t in
    let n : r ≡ pos (bits_of t z) = rw e at f ∙ rem_euclid_is z (2 ^ width_of t) in
    let high : 2 ^ (width_of t - 1) ≤ bits_of t z = omega (arith, ints) in
    rw (s, le-leb (2 ^ (width_of t - 1)) (bits_of t z) high, n, e) refl

pub convert_low : (t : IntType) (z m r : ℤ) → m ≡ pos (2 ^ width_of t) → r ≡ int_rem_euclid z m → (is_signed t ≡ false) ⊎ (r <ℤ int_div m (pos 2)) → r ≡ convert_to t z
unfolding convert_to
convert_low t z m r e f (inl s) = rw s ((rw e at f) ∙ rem_euclid_is z (2 ^ width_of t))
convert_low t z m r e f (inr h) =
    let half = half_modulus t in
    let n : r ≡ pos (bits_of t z) = rw e at f ∙ rem_euclid_is z (2 ^ width_of t) in
    let low : bits_of t z < 2 ^ (width_of t - 1) = omega (arith, ints) in
    rw (and_right (is_signed t) (leb (2 ^ (width_of t - 1)) (bits_of t z)) (lt-leb (2 ^ (width_of t - 1)) (bits_of t z) low)) n

-- ---- words

pub word_below : (t : IntType) (z : ℤ) → word_of t z < 2 ^ 64
unfolding word_of
word_below t z = modulo_below (convert_to t z) (2 ^ 64) (omega arith)

-- a number modulo 2 ^ 64 is that number modulo 2 ^ width
from_word : (t : IntType) (x z k : ℤ) → z ≡ x +ℤ k *ℤ pos (2 ^ 64) → z ≡ x +ℤ k *ℤ pos (2 ^ (64 - width_of t)) *ℤ pos (2 ^ width_of t)
from_word Char x z k e = omega (arith, ints)
from_word UChar x z k e = omega (arith, ints)
from_word Short x z k e = omega (arith, ints)
from_word UShort x z k e = omega (arith, ints)
from_word Int x z k e = omega (arith, ints)
from_word UInt x z k e = omega (arith, ints)
from_word Long x z k e = omega (arith, ints)
from_word ULong x z k e = omega (arith, ints)

pub congruent_from_word : (t : IntType) (x z : ℤ) → IsCongruent (2 ^ 64) x z → IsCongruent (2 ^ width_of t) x z
congruent_from_word t x z h = (h.0 *ℤ pos (2 ^ (64 - width_of t)), from_word t x z h.0 h.1)

pub word-congruent : (t : IntType) (z : ℤ) → IsCongruent (2 ^ width_of t) (pos (word_of t z)) (convert_to t z)
unfolding word_of
word-congruent t z = congruent_from_word t (pos (word_of t z)) (convert_to t z) (modulo-congruent (convert_to t z) (2 ^ 64) (omega arith))

pub bits-word : (t : IntType) (z : ℤ) → bits_of t (pos (word_of t z)) ≡ bits_of t z
bits-word t z = same_bits t (pos (word_of t z)) (convert_to t z) (word-congruent t z) ∙ bits-convert_to t z

-- A word read as a value of its type is the value converted.
pub convert_to-word : (t : IntType) (z : ℤ) → convert_to t (pos (word_of t z)) ≡ convert_to t z
convert_to-word t z = same_converted t (pos (word_of t z)) (convert_to t z) (word-congruent t z) ∙ convert_to-twice t z

pub word-convert_to : (t : IntType) (z : ℤ) → word_of t (convert_to t z) ≡ word_of t z
unfolding word_of
word-convert_to t z = ap (λ x. modulo x (2 ^ 64)) (convert_to-twice t z)

pub word_is : (t : IntType) (z : ℤ) → IsValue t z → word_of t z ≡ modulo z (2 ^ 64)
unfolding word_of
word_is t z v = ap (λ x. modulo x (2 ^ 64)) (convert_to-same t z v)

-- what the code of `word` computes: r is the remainder of the converted value x
pub word_computed : (t : IntType) (z x r : ℤ) → x ≡ convert_to t z → r ≡ int_rem_euclid x (pos (2 ^ 64)) → r ≡ pos (word_of t z)
unfolding word_of
word_computed t z x r e f = rw e at f ∙ rem_euclid_is (convert_to t z) (2 ^ 64)

-- Two values with the same word are the same.
pub same_from_words : (t : IntType) (x z : ℤ) → IsValue t x → IsValue t z → word_of t x ≡ word_of t z → x ≡ z
same_from_words t x z v w e =
    sym (convert_to-same t x v) ∙ sym (convert_to-word t x) ∙ ap (λ n. convert_to t (pos n)) e ∙ convert_to-word t z ∙ convert_to-same t z w

-- The word of a value of an unsigned type is that value.
unsigned_modulo : (t : IntType) (z : ℤ) → is_signed t ≡ false → IsValue t z → pos (modulo z (2 ^ 64)) ≡ z
unsigned_modulo Char z u v = absurd (true≢false u)
unsigned_modulo UChar z u v = modulo-same (2 ^ 64) z v.least (omega (arith, ints)) (omega arith)
unsigned_modulo Short z u v = absurd (true≢false u)
unsigned_modulo UShort z u v = modulo-same (2 ^ 64) z v.least (omega (arith, ints)) (omega arith)
unsigned_modulo Int z u v = absurd (true≢false u)
unsigned_modulo UInt z u v = modulo-same (2 ^ 64) z v.least (omega (arith, ints)) (omega arith)
unsigned_modulo Long z u v = absurd (true≢false u)
unsigned_modulo ULong z u v = modulo-same (2 ^ 64) z v.least v.greatest (omega arith)

pub word_of_unsigned : (t : IntType) (z : ℤ) → is_signed t ≡ false → IsValue t z → pos (word_of t z) ≡ z
word_of_unsigned t z u v = ap pos (word_is t z v) ∙ unsigned_modulo t z u v

-- ---- promotion

-- The promoted type has all values of the type (C17 6.3.1.1 paragraph 3).
pub promoted-holds : (t : IntType) (z : ℤ) → IsValue t z → IsValue (promoted t) z
promoted-holds Char z v = omega (arith, ints)
promoted-holds UChar z v = omega (arith, ints)
promoted-holds Short z v = omega (arith, ints)
promoted-holds UShort z v = omega (arith, ints)
promoted-holds Int z v = v
promoted-holds UInt z v = v
promoted-holds Long z v = v
promoted-holds ULong z v = v

-- A value of a promoted type is not promoted further, and an operator works in a promoted type.
pub promoted-twice : (t : IntType) → promoted (promoted t) ≡ promoted t
promoted-twice Char = refl
promoted-twice UChar = refl
promoted-twice Short = refl
promoted-twice UShort = refl
promoted-twice Int = refl
promoted-twice UInt = refl
promoted-twice Long = refl
promoted-twice ULong = refl

one_of : (b : Bool) (x y : IntType) → promoted x ≡ x → promoted y ≡ y → promoted (cond b x y) ≡ cond b x y
one_of true x y e f = e
one_of false x y e f = f

unsigned_promoted : (t : IntType) → promoted t ≡ t → promoted (unsigned_of t) ≡ unsigned_of t
unsigned_promoted Int e = refl
unsigned_promoted UInt e = refl
unsigned_promoted Long e = refl
unsigned_promoted ULong e = refl
unsigned_promoted Char e = absurd (cc)
unsigned_promoted UChar e = absurd (cc)
unsigned_promoted Short e = absurd (cc)
unsigned_promoted UShort e = absurd (cc)

of_signs_promoted : (s u : IntType) → promoted s ≡ s → promoted u ≡ u → promoted (common_of_signs s u) ≡ common_of_signs s u
of_signs_promoted s u e f =
    one_of (leb (rank_of s) (rank_of u)) u (cond (int_le (greatest_of u) (greatest_of s)) s (unsigned_of s)) f
    (one_of (int_le (greatest_of u) (greatest_of s)) s (unsigned_of s) e (unsigned_promoted s e))

pub promoted-common_of : (a b : IntType) → promoted (common_of a b) ≡ common_of a b
promoted-common_of a b = by (promoted a) (promoted b) (promoted-twice a) (promoted-twice b)
  where
    by : (x y : IntType) → promoted x ≡ x → promoted y ≡ y → promoted (common_of_promoted x y) ≡ common_of_promoted x y
    by x y e f =
        one_of (beq (is_signed x) (is_signed y)) (cond (ltb (rank_of x) (rank_of y)) y x) (cond (is_signed x) (common_of_signs x y) (common_of_signs y x))
        (one_of (ltb (rank_of x) (rank_of y)) y x f e)
        (one_of (is_signed x) (common_of_signs x y) (common_of_signs y x) (of_signs_promoted x y e f) (of_signs_promoted y x f e))
