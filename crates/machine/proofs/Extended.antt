-- The words of numbers of 8, 16, 32 and 64 bits, and the values that words stand for.
use Rattle.std.proofs.Common.{◌≡◌, ◌⊎◌, inl, inr, ℕ, suc, ◌+◌, ◌-◌, ◌%◌, ◌^◌, ◌<◌, ◌≤◌, Bool, true, false, cond, leb, ltb, leb-true, leb-false, ltb-true, ltb-false, ℤ, pos, negsuc, ◌-ℤ◌, unsigned_abs, FitsSigned, to_z, of_z, bit_and, refl, sym, ap, ◌∙◌, arith, true≢false}
use Rattle.std.proofs.lemmas.Int.{ints, to_z-of_z}
use Rattle.std.proofs.lemmas.Nat.{and_mask}
use Rattle.std.specs.Int.{w8, w16, w32, w64}
use mir.Val.{sel}
use Rattle.c_num.specs.declared.IntType.{IntType}
use Rattle.c_num.specs.declared.IntType.TheVariants.{Char, UChar, Short, UShort, Int, UInt, Long, ULong}
use Rattle.c_num.specs.Types.{is_signed, IsValue}
use Rattle.c_num.specs.Conversion.{modulo, convert_to, word_of}
use Rattle.c_num.proofs.Conversions.{convert_to-in_range, word_of_unsigned, word-convert_to}
use Rattle.machine.specs.Words.{value_in, converted_word}

-- a number of 64 bits is the word of the signed value that its bits have
pub word_bits : (z : ℤ) → unsigned_abs z ≤ 2 ^ 63 → of_z w64 z ≡ modulo z (2 ^ 64)
word_bits (pos n) h = omega arith
word_bits (negsuc n) h = omega arith

pub fitting_bits : (z : ℤ) → FitsSigned w64 z → of_z w64 z ≡ modulo z (2 ^ 64)
fitting_bits z f = word_bits z (omega (arith, ints))

-- ---- narrow numbers

read_is : (half n : ℕ) (a b : Bool) → ltb n half ≡ a → leb half n ≡ b → n < half + half → sel a (pos n) (negsuc (half + half - suc n)) ≡ cond b (pos n -ℤ pos (half + half)) (pos n)
read_is half n true true p q h = let x : n < half = ltb-true n half p in let y : half ≤ n = leb-true half n q in absurd (omega arith)
read_is half n true false p q h = refl
read_is half n false true p q h = let x : half ≤ n = ltb-false n half p in omega (arith, ints)
read_is half n false false p q h = let x : half ≤ n = ltb-false n half p in let y : n < half = leb-false half n q in absurd (omega arith)

pub extended_8 : (n : ℕ) → of_z w64 (to_z w8 (n % 2 ^ 8)) ≡ word_of Char (pos n)
unfolding word_of convert_to
extended_8 n =
    let m = n % 2 ^ 8 in
    let fits : FitsSigned w64 (to_z w8 m) = omega (arith, ints) in
    fitting_bits (to_z w8 m) fits ∙ ap (λ z. modulo z (2 ^ 64)) (read_is (2 ^ 7) m (ltb m (2 ^ 7)) (leb (2 ^ 7) m) refl refl (omega arith))

pub extended_16 : (n : ℕ) → of_z w64 (to_z w16 (n % 2 ^ 16)) ≡ word_of Short (pos n)
unfolding word_of convert_to
extended_16 n =
    let m = n % 2 ^ 16 in
    let fits : FitsSigned w64 (to_z w16 m) = omega (arith, ints) in
    fitting_bits (to_z w16 m) fits ∙ ap (λ z. modulo z (2 ^ 64)) (read_is (2 ^ 15) m (ltb m (2 ^ 15)) (leb (2 ^ 15) m) refl refl (omega arith))

pub extended_32 : (n : ℕ) → of_z w64 (to_z w32 (n % 2 ^ 32)) ≡ word_of Int (pos n)
unfolding word_of convert_to
extended_32 n =
    let m = n % 2 ^ 32 in
    let fits : FitsSigned w64 (to_z w32 m) = omega (arith, ints) in
    fitting_bits (to_z w32 m) fits ∙ ap (λ z. modulo z (2 ^ 64)) (read_is (2 ^ 31) m (ltb m (2 ^ 31)) (leb (2 ^ 31) m) refl refl (omega arith))

pub masked_8 : (n : ℕ) → bit_and n 255 ≡ word_of UChar (pos n)
unfolding word_of convert_to
masked_8 n = and_mask n 8 ∙ (let e : n % 2 ^ 8 ≡ n % 2 ^ 8 % 2 ^ 64 = omega arith in e)

pub masked_16 : (n : ℕ) → bit_and n 65535 ≡ word_of UShort (pos n)
unfolding word_of convert_to
masked_16 n = and_mask n 16 ∙ (let e : n % 2 ^ 16 ≡ n % 2 ^ 16 % 2 ^ 64 = omega arith in e)

pub masked_32 : (n : ℕ) → bit_and n 4294967295 ≡ word_of UInt (pos n)
unfolding word_of convert_to
masked_32 n = and_mask n 32 ∙ (let e : n % 2 ^ 32 ≡ n % 2 ^ 32 % 2 ^ 64 = omega arith in e)

-- ---- wide numbers

wide_unsigned : (n : ℕ) → n < 2 ^ 64 → n ≡ word_of ULong (pos n)
unfolding word_of convert_to
wide_unsigned n h = let e : n ≡ n % 2 ^ 64 % 2 ^ 64 = omega arith in e

wide_read : (n : ℕ) (b : Bool) → n < 2 ^ 64 → n ≡ modulo (cond b (pos (n % 2 ^ 64) -ℤ pos (2 ^ 64)) (pos (n % 2 ^ 64))) (2 ^ 64)
wide_read n true h =
    let z : pos (n % 2 ^ 64) -ℤ pos (2 ^ 64) ≡ negsuc (2 ^ 64 - 1 - n) = omega (arith, ints) in
    (let e : n ≡ 2 ^ 64 - 1 - (2 ^ 64 - 1 - n) % 2 ^ 64 = omega arith in e) ∙ ap (λ v. modulo v (2 ^ 64)) (sym z)
wide_read n false h = let e : n ≡ n % 2 ^ 64 % 2 ^ 64 = omega arith in e

wide_signed : (n : ℕ) → n < 2 ^ 64 → n ≡ word_of Long (pos n)
unfolding word_of convert_to
wide_signed n h = wide_read n (leb (2 ^ 63) (n % 2 ^ 64)) h

-- ---- values

signed_fits : (t : IntType) (z : ℤ) → is_signed t ≡ true → IsValue t z → FitsSigned w64 z
signed_fits Char z s v = let a = v.least in let b = v.greatest in omega (arith, ints)
signed_fits UChar z s v = absurd (true≢false (sym s))
signed_fits Short z s v = let a = v.least in let b = v.greatest in omega (arith, ints)
signed_fits UShort z s v = absurd (true≢false (sym s))
signed_fits Int z s v = let a = v.least in let b = v.greatest in omega (arith, ints)
signed_fits UInt z s v = absurd (true≢false (sym s))
signed_fits Long z s v = let a = v.least in let b = v.greatest in omega (arith, ints)
signed_fits ULong z s v = absurd (true≢false (sym s))

pub value_fits : (t : IntType) (n : ℕ) → is_signed t ≡ true → FitsSigned w64 (value_in t n)
value_fits t n s = signed_fits t (value_in t n) s (convert_to-in_range t (pos n))

-- The word of a converted number, read as a signed number of 64 bits, is the value.
pub signed_read : (t : IntType) (n : ℕ) → is_signed t ≡ true → to_z w64 (converted_word t n) ≡ value_in t n
unfolding word_of
signed_read t n s =
    let fits = value_fits t n s in
    ap (to_z w64) (sym (fitting_bits (value_in t n) fits)) ∙ to_z-of_z w64 (value_in t n) fits

pub wide_word : (t : IntType) (n : ℕ) → n < 2 ^ 64 → (t ≡ Long) ⊎ (t ≡ ULong) → n ≡ converted_word t n
wide_word t n h (inl e) = wide_signed n h ∙ ap (λ s. converted_word s n) (sym e)
wide_word t n h (inr e) = wide_unsigned n h ∙ ap (λ s. converted_word s n) (sym e)

pub unsigned_read : (t : IntType) (n : ℕ) → is_signed t ≡ false → pos (converted_word t n) ≡ value_in t n
unsigned_read t n u = ap pos (sym (word-convert_to t (pos n))) ∙ word_of_unsigned t (value_in t n) u (convert_to-in_range t (pos n))
