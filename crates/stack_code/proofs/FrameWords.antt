-- The words of 64 bits that operators give.
use Rattle.std.proofs.Common.{◌≡◌, ℕ, zero, suc, ◌+◌, ◌-◌, ◌*◌, ◌%◌, ◌^◌, ◌<◌, not, ℤ, pos, negsuc, neg_ℤ, ◌-ℤ◌, ◌≤ℤ◌, ◌<ℤ◌, refl, sym, ap, ap₂, ◌∙◌, arith}
use Rattle.std.specs.Prelude.{◌==◌, if◌then◌else◌}
use Rattle.std.specs.Ordering.{int_eq}
use Rattle.std.proofs.Math.Nat.{mod-eq_of_lt}
use Rattle.std.proofs.lemmas.Nat.{mul-mod}
use Rattle.std.proofs.lemmas.Int.{ints}
use Rattle.std.proofs.lemmas.Bool.{ne_eqb, false_from_ne_true}
use Rattle.std.proofs.lemmas.Bool.Decides.{Decides-int_eq}
use Rattle.c_num.specs.declared.IntType.{IntType}
use Rattle.c_num.specs.declared.IntType.TheVariants as I
use Rattle.c_num.specs.declared.BinOp.TheVariants as B
use Rattle.c_num.specs.declared.Relation.TheVariants as relations
use Rattle.c_num.specs.Types.{IsValue}
use Rattle.c_num.specs.Conversion.{modulo, convert_to, word_of}
use Rattle.c_num.specs.Arith.{wrapped, compare_of}
use Rattle.c_num.proofs.Conversions.{convert_to-same, convert_to-in_range}
use Rattle.c_num.proofs.Words.{value_bounds}
use Rattle.pool_isa.specs.Machine.{value_in, binary_word, compared_word}
use Rattle.pool_ir.specs.Words.{truth_word, is_zero_word, moved_by, moved_back}

-- ---- tests

zero_test : (n : ℕ) → (n == 0) ≡ int_eq (pos n) (pos 0)
zero_test zero = refl
zero_test (suc n) =
    ne_eqb (suc n) 0 (λ e. omega arith)
    ∙ sym (false_from_ne_true (int_eq (pos (suc n)) (pos 0)) (λ e. let same : pos (suc n) ≡ pos 0 = (Decides-int_eq (pos (suc n)) (pos 0)).0 e in omega (arith, ints)))

-- the word of a value is 0 where the value is
word_is_zero : (type : IntType) (v : ℤ) → IsValue type v → (modulo v (2 ^ 64) == 0) ≡ int_eq v (pos 0)
word_is_zero type v is = bounded v (value_bounds type v is).0 (value_bounds type v is).1
  where
    bounded : (v : ℤ) → neg_ℤ (pos (2 ^ 63)) ≤ℤ v → v <ℤ pos (2 ^ 64) → (modulo v (2 ^ 64) == 0) ≡ int_eq v (pos 0)
    bounded (pos n) low high = let small : n < 2 ^ 64 = omega (arith, ints) in ap (λ m. m == 0) (mod-eq_of_lt small) ∙ zero_test n
    bounded (negsuc n) low high = ne_eqb (modulo (negsuc n) (2 ^ 64)) 0 (λ e. omega (arith, ints))

zero_value : (type : IntType) → value_in type 0 ≡ pos 0
unfolding convert_to
zero_value I.Char = refl
zero_value I.UChar = refl
zero_value I.Short = refl
zero_value I.UShort = refl
zero_value I.Int = refl
zero_value I.UInt = refl
zero_value I.Long = refl
zero_value I.ULong = refl

pub compared_zero : (type : IntType) (word : ℕ) → compared_word relations.Eq type word 0 ≡ truth_word (is_zero_word type word)
unfolding word_of
compared_zero type word =
    ap (λ z. if int_eq (value_in type word) z then 1 else 0) (zero_value type)
    ∙ ap truth_word (sym (word_is_zero type (value_in type word) (convert_to-in_range type (pos word))))

-- ---- addresses

pub added : (a b : ℕ) → binary_word B.Add I.ULong a b ≡ (a + b) % 2 ^ 64
unfolding word_of convert_to wrapped
added a b = omega arith

pub multiplied : (a b : ℕ) → binary_word B.Mul I.ULong a b ≡ a * b % 2 ^ 64
unfolding word_of convert_to wrapped
multiplied a b =
    let one : a % 2 ^ 64 % 2 ^ 64 ≡ a % 2 ^ 64 = omega arith in
    let two : b % 2 ^ 64 % 2 ^ 64 ≡ b % 2 ^ 64 = omega arith in
    ap₂ (λ x y. x * y % 2 ^ 64 % 2 ^ 64 % 2 ^ 64) one two ∙ ap (λ n. n % 2 ^ 64 % 2 ^ 64) (sym (mul-mod a b (2 ^ 64))) ∙ cut (a * b)
  where
    cut : (n : ℕ) → n % 2 ^ 64 % 2 ^ 64 % 2 ^ 64 ≡ n % 2 ^ 64
    cut n = omega arith

pub added_scaled : (address number size : ℕ) → binary_word B.Add I.ULong address (binary_word B.Mul I.ULong number size) ≡ moved_by address size number
added_scaled address number size = added address (binary_word B.Mul I.ULong number size) ∙ ap (λ n. (address + n) % 2 ^ 64) (multiplied number size) ∙ cut (number * size)
  where
    cut : (n : ℕ) → (address + n % 2 ^ 64) % 2 ^ 64 ≡ (address + n) % 2 ^ 64
    cut n = omega arith

pub added_once : (address offset : ℕ) → binary_word B.Add I.ULong address offset ≡ moved_by address offset 1
added_once address offset = added address offset ∙ omega arith

-- what is left of the first number without the second one, around 2 ^ 64
left_of : (x y : ℕ) → x < 2 ^ 64 → y < 2 ^ 64 → modulo (pos x -ℤ pos y) (2 ^ 64) ≡ (x + (2 ^ 64 - y)) % 2 ^ 64
left_of x y small small' = by (pos x -ℤ pos y) refl
  where
    by : (z : ℤ) → z ≡ pos x -ℤ pos y → modulo z (2 ^ 64) ≡ (x + (2 ^ 64 - y)) % 2 ^ 64
    by (pos n) e = let sum : n + y ≡ x = omega (arith, ints, e) in omega (arith, sum)
    by (negsuc n) e = let sum : suc n + x ≡ y = omega (arith, ints, e) in omega (arith, sum)

taken : (a b : ℕ) → binary_word B.Sub I.ULong a b ≡ (a + (2 ^ 64 - b % 2 ^ 64)) % 2 ^ 64
unfolding word_of convert_to wrapped
taken a b =
    let one : a % 2 ^ 64 % 2 ^ 64 ≡ a % 2 ^ 64 = omega arith in
    let two : b % 2 ^ 64 % 2 ^ 64 ≡ b % 2 ^ 64 = omega arith in
    ap₂ (λ (x y : ℕ). modulo (pos x -ℤ pos y) (2 ^ 64) % 2 ^ 64 % 2 ^ 64) one two ∙ ap (λ n. n % 2 ^ 64 % 2 ^ 64) (left_of (a % 2 ^ 64) (b % 2 ^ 64) (omega arith) (omega arith)) ∙ omega arith

pub taken_scaled : (address number size : ℕ) → binary_word B.Sub I.ULong address (binary_word B.Mul I.ULong number size) ≡ moved_back address size number
taken_scaled address number size =
    taken address (binary_word B.Mul I.ULong number size) ∙ ap (λ n. (address + (2 ^ 64 - n % 2 ^ 64)) % 2 ^ 64) (multiplied number size) ∙ cut (number * size)
  where
    cut : (n : ℕ) → (address + (2 ^ 64 - n % 2 ^ 64 % 2 ^ 64)) % 2 ^ 64 ≡ (address + (2 ^ 64 - n % 2 ^ 64)) % 2 ^ 64
    cut n = omega arith

-- ---- pointers

unsigned_value : (x : ℕ) → x < 2 ^ 64 → value_in I.ULong x ≡ pos x
unsigned_value x fits = convert_to-same I.ULong (pos x) (record { least = omega (arith, ints); greatest = omega (arith, ints) })

pub tested : (word : ℕ) → word < 2 ^ 64 → compared_word relations.Ne I.ULong word 0 ≡ truth_word (not (word == 0))
tested word fits = ap₂ (λ a b. truth_word (compare_of relations.Ne a b)) (unsigned_value word fits) (unsigned_value 0 (omega arith)) ∙ ap (λ b. truth_word (not b)) (sym (zero_test word))
