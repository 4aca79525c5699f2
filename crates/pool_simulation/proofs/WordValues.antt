-- Words of 64 bits that hold values of a type, and what operators on them come to.
use Rattle.std.proofs.Common.{◌≡◌, ℕ, zero, suc, ◌%◌, ◌^◌, ◌<◌, Bool, true, false, ℤ, pos, negsuc, neg_ℤ, ◌≤ℤ◌, ◌<ℤ◌, int_lt, ◌||◌, List, [], ◌∷◌, Ok, refl, sym, ap, ap₂, ◌∙◌, subst, arith}
use Rattle.std.specs.Prelude.{◌==◌, if◌then◌else◌}
use Rattle.std.proofs.Math.Nat.{mod-eq_of_lt}
use Rattle.std.proofs.lemmas.Int.{ints}
use Rattle.std.proofs.lemmas.Bool.{ne_eqb, false_from_ne_true, or_parts}
use Rattle.std.proofs.lemmas.Bool.Decides.{Decides-int_eq}
use Rattle.c_num.specs.declared.IntType.{IntType}
use Rattle.c_num.specs.declared.IntType.TheVariants as I
use Rattle.c_num.specs.declared.BinOp.{BinOp}
use Rattle.c_num.specs.declared.BinOp.TheVariants.{Add, Sub, Mul, Div, Rem, Shl, Shr, And, Or, Xor}
use Rattle.c_num.specs.declared.Relation.{Relation}
use Rattle.c_num.specs.Types.{IsValue}
use Rattle.c_num.specs.Conversion.{modulo, bits_of, convert_to, word_of}
use Rattle.c_num.specs.Arith.{exact, IsRightOperand, is_bad_amount, is_out_of_range, is_bad_shift, outcome_of, wrapped, complement_of, compare_of}
use Rattle.c_num.proofs.Conversions.{convert_to-same, convert_to-word, word_is, same_converted, congruent_from_word, modulo-congruent}
use Rattle.c_num.proofs.Outcomes.{wrapped_is, wrapped-in_range, complement-in_range, good_amount, shift_outcome}
use Rattle.c_num.proofs.Words.{value_bounds}
use Rattle.tac_ir.specs.Trees.{is_zero, truth}
use Rattle.tac_ir.specs.Calls.{next_char}
use Rattle.pool_isa.specs.Machine.{input_word, value_in, binary_word, complement_word, compared_word, converted_word}
use Rattle.pool_ir.specs.Words.{truth_word, is_zero_word}

-- the word that holds a value
abbrev pub word : ℤ → ℕ
word value = modulo value (2 ^ 64)

pub word_fits : (value : ℤ) → word value < 2 ^ 64
word_fits (pos n) = omega arith
word_fits (negsuc n) = omega arith

-- it is the word of the value as an unsigned one
pub word_of-value : (value : ℤ) → word_of I.ULong value ≡ word value
unfolding word_of convert_to
word_of-value value = mod-eq_of_lt (word_fits value)

-- the low byte of a word is that of its value
pub word-byte : (value : ℤ) → word value % 256 ≡ bits_of I.UChar value
word-byte (pos n) = omega arith
word-byte (negsuc n) = omega arith

-- the word of a byte of a value
pub word-of_byte : (value : ℤ) → word (pos (bits_of I.UChar value)) ≡ bits_of I.UChar value
word-of_byte (pos n) = omega arith
word-of_byte (negsuc n) = omega arith

-- the word that getchar gives
pub input_word-next : (input : List ℕ) → input_word input ≡ word (next_char input)
input_word-next [] = refl
input_word-next (byte ∷ input) = omega arith

-- the word of a test
pub word-truth : (test : Bool) → truth_word test ≡ word (truth test)
word-truth true = refl
word-truth false = refl

zero-test : (n : ℕ) → (n == 0) ≡ is_zero (pos n)
zero-test zero = refl
zero-test (suc n) = ne_eqb (suc n) 0 (λ e. omega arith) ∙ sym (false_from_ne_true (is_zero (pos (suc n))) (λ e. let same : pos (suc n) ≡ pos 0 = (Decides-int_eq (pos (suc n)) (pos 0)).0 e in omega (arith, ints)))

-- the amount of a shift that is defined is a value of its type
amount_is_value : (type : IntType) (b : ℤ) → is_bad_amount type b ≡ false → IsValue type b
amount_is_value I.Char b k = let p = good_amount I.Char b k in record { least = omega (arith, ints); greatest = omega (arith, ints) }
amount_is_value I.UChar b k = let p = good_amount I.UChar b k in record { least = omega (arith, ints); greatest = omega (arith, ints) }
amount_is_value I.Short b k = let p = good_amount I.Short b k in record { least = omega (arith, ints); greatest = omega (arith, ints) }
amount_is_value I.UShort b k = let p = good_amount I.UShort b k in record { least = omega (arith, ints); greatest = omega (arith, ints) }
amount_is_value I.Int b k = let p = good_amount I.Int b k in record { least = omega (arith, ints); greatest = omega (arith, ints) }
amount_is_value I.UInt b k = let p = good_amount I.UInt b k in record { least = omega (arith, ints); greatest = omega (arith, ints) }
amount_is_value I.Long b k = let p = good_amount I.Long b k in record { least = omega (arith, ints); greatest = omega (arith, ints) }
amount_is_value I.ULong b k = let p = good_amount I.ULong b k in record { least = omega (arith, ints); greatest = omega (arith, ints) }

-- no shift is bad where there is a result
no_bad_shift : (operator : BinOp) (type : IntType) (a b r : ℤ) → outcome_of operator type a b ≡ Ok r → is_bad_shift operator type a b ≡ false
no_bad_shift operator type a b r e = false_from_ne_true (is_bad_shift operator type a b) (λ bad. let err = shift_outcome operator type a b bad in absurd (cc))

-- the right operand is a value of the type where there is a result
right_is_value : (operator : BinOp) (type : IntType) (a b r : ℤ) → IsRightOperand operator type b → outcome_of operator type a b ≡ Ok r → IsValue type b
right_is_value Shl type a b r is e =
    let good = or_parts (is_bad_amount type b || int_lt a (pos 0)) (is_out_of_range type (exact Shl type a b)) (no_bad_shift Shl type a b r e) in
    amount_is_value type b (or_parts (is_bad_amount type b) (int_lt a (pos 0)) good.0).0
right_is_value Shr type a b r is e = amount_is_value type b (no_bad_shift Shr type a b r e)
right_is_value Add type a b r is e = is refl
right_is_value Sub type a b r is e = is refl
right_is_value Mul type a b r is e = is refl
right_is_value Div type a b r is e = is refl
right_is_value Rem type a b r is e = is refl
right_is_value And type a b r is e = is refl
right_is_value Or type a b r is e = is refl
right_is_value Xor type a b r is e = is refl

module _ (type : IntType) where
  -- the value that the word of a value holds
  pub value_in-word : (v : ℤ) → IsValue type v → value_in type (word v) ≡ v
  value_in-word v is = ap (λ w. convert_to type (pos w)) (sym (word_is type v is)) ∙ convert_to-word type v ∙ convert_to-same type v is

  -- any value, converted to the type
  pub converted_word-value : (v : ℤ) → converted_word type (word v) ≡ word (convert_to type v)
  unfolding word_of
  converted_word-value v =
      ap (λ x. modulo x (2 ^ 64)) (same_converted type (pos (word v)) v (congruent_from_word type (pos (word v)) v (modulo-congruent v (2 ^ 64) (omega arith))))

  -- the word of a value is 0 where the value is
  word-is_zero : (v : ℤ) → IsValue type v → (word v == 0) ≡ is_zero v
  word-is_zero v is = bounded v (value_bounds type v is).0 (value_bounds type v is).1
    where
      bounded : (v : ℤ) → neg_ℤ (pos (2 ^ 63)) ≤ℤ v → v <ℤ pos (2 ^ 64) → (word v == 0) ≡ is_zero v
      bounded (pos n) low high = let small : n < 2 ^ 64 = omega (arith, ints) in ap (λ m. m == 0) (mod-eq_of_lt small) ∙ zero-test n
      bounded (negsuc n) low high = ne_eqb (word (negsuc n)) 0 (λ e. omega (arith, ints))

  pub is_zero_word-value : (v : ℤ) → IsValue type v → is_zero_word type (word v) ≡ is_zero v
  is_zero_word-value v is = ap (λ w. w == 0) (converted_word-value v ∙ ap word (convert_to-same type v is)) ∙ word-is_zero v is

  pub binary_word-outcome : (operator : BinOp) (a b r : ℤ) → IsValue type a → IsRightOperand operator type b → outcome_of operator type a b ≡ Ok r → binary_word operator type (word a) (word b) ≡ word r
  binary_word-outcome operator a b r is right e =
      let wrapped_r = wrapped_is operator type a b r is right e in
      ap₂ (λ x y. word_of type (wrapped operator type x y)) (value_in-word a is) (value_in-word b (right_is_value operator type a b r right e))
      ∙ ap (word_of type) wrapped_r ∙ word_is type r (subst (IsValue type) wrapped_r (wrapped-in_range operator type a b))

  pub complement_word-value : (a : ℤ) → IsValue type a → complement_word type (word a) ≡ word (complement_of type a)
  complement_word-value a is =
      ap (λ x. word_of type (complement_of type x)) (value_in-word a is) ∙ word_is type (complement_of type a) (complement-in_range type a)

  pub compared_word-truth : (relation : Relation) (a b : ℤ) → IsValue type a → IsValue type b → compared_word relation type (word a) (word b) ≡ word (truth (compare_of relation a b))
  compared_word-truth relation a b is is' =
      ap₂ (λ x y. if compare_of relation x y then 1 else 0) (value_in-word a is) (value_in-word b is') ∙ word-truth (compare_of relation a b)
