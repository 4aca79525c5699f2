-- The bytes of a first value's word, loaded again, are that word.
use Rattle.std.proofs.Common.{◌≡◌, ℕ, zero, suc, ◌*◌, ◌%◌, ◌^◌, ◌<◌, List, [], ◌∷◌, length, slice_index, Option, Some, ℤ, pos, refl, sym, ap, subst, ◌∙◌, arith, mod-eq_of_lt}
use Rattle.std.proofs.lemmas.Nat.{pow_pos}
use Rattle.std.proofs.lemmas.Option.{none-some}
use Rattle.c_num.specs.declared.IntType.{IntType}
use Rattle.c_num.specs.declared.IntType.TheVariants as I
use Rattle.c_num.specs.Types.{width_of, IsValue}
use Rattle.c_num.specs.Conversion.{modulo, IsCongruent, bits_of, convert_to, word_of}
use Rattle.c_num.proofs.Conversions.{modulo_below, modulo-congruent, same_bits, bits-convert_to, convert_to-same, same_converted, congruent_from_word}
use Rattle.tac_ir.specs.Values.{Value}
use Rattle.tac_ir.specs.First.{characters}
use Rattle.tac_ir.specs.Code.{Tac}
use Rattle.pool_isa.specs.Machine.{size_of, loaded_word}
use Rattle.pool_rewrite.specs.Rewriting.{value_word, character_bytes}

-- ---- numbers

whole_word : (z : ℤ) → word_of I.ULong z ≡ modulo z (2 ^ 64)
unfolding word_of convert_to
whole_word z = mod-eq_of_lt (modulo_below z (2 ^ 64) (omega arith))

-- the low bits of a word are those of its value
pub word_bits : (t : IntType) (z : ℤ) → word_of I.ULong z % 2 ^ width_of t ≡ bits_of t z
word_bits t z =
    same_bits t (pos (word_of I.ULong z)) z (congruent_from_word t (pos (word_of I.ULong z)) z
    (subst (λ (n : ℕ). IsCongruent (2 ^ 64) (pos n) z) (sym (whole_word z)) (modulo-congruent z (2 ^ 64) (omega arith))))

-- a value that its bits make again
pub value_from_bits : (t : IntType) (z : ℤ) → IsValue t z → word_of t (pos (bits_of t z)) ≡ word_of I.ULong z
unfolding word_of
value_from_bits t z is =
    ap (λ x. modulo x (2 ^ 64)) (same_converted t (pos (bits_of t z)) z (modulo-congruent z (2 ^ width_of t) (pow_pos (width_of t))) ∙ convert_to-same t z is)
    ∙ sym (whole_word z)

size_bits : (t : IntType) → 2 ^ (8 * size_of t) ≡ 2 ^ width_of t
size_bits I.Char = refl
size_bits I.UChar = refl
size_bits I.Short = refl
size_bits I.UShort = refl
size_bits I.Int = refl
size_bits I.UInt = refl
size_bits I.Long = refl
size_bits I.ULong = refl

-- the word of an integer's bytes is that of the integer
pub loaded_value : (t : IntType) (z : ℤ) → IsValue t z → loaded_word t (word_of I.ULong z % 2 ^ (8 * size_of t)) ≡ word_of I.ULong z
loaded_value t z is =
    ap (λ (n : ℕ). word_of t (pos (word_of I.ULong z % n))) (size_bits t)
    ∙ ap (λ (n : ℕ). word_of t (pos n)) (word_bits t z)
    ∙ value_from_bits t z is

-- ---- characters

low_byte : (byte : ℕ) → word_of I.UChar (pos byte) ≡ byte % 2 ^ 8
unfolding word_of convert_to
low_byte byte = omega arith

char_word : (byte : ℕ) → word_of I.UChar (pos byte) ≡ word_of I.ULong (convert_to I.Char (pos byte)) % 2 ^ 8
char_word byte = low_byte byte ∙ sym (word_bits I.Char (convert_to I.Char (pos byte)) ∙ bits-convert_to I.Char (pos byte))

zero_word : word_of I.ULong (pos 0) ≡ 0
unfolding word_of convert_to
zero_word = refl

-- a character of a literal, or the zero behind them
pub data CharacterAt (tac : Tac) (bytes : List ℕ) (offset : ℕ) (value : Value) : Type 0 where
  OneOf : offset < length bytes → slice_index (character_bytes bytes) offset ≡ value_word tac (Some value) % 2 ^ 8 → CharacterAt tac bytes offset value
  TheEnd : offset ≡ length bytes → value_word tac (Some value) ≡ 0 → CharacterAt tac bytes offset value

pub character_at : (tac : Tac) (bytes : List ℕ) (offset : ℕ) (value : Value) → characters bytes offset ≡ Some value → CharacterAt tac bytes offset value
character_at tac [] zero value is = TheEnd refl (ap (value_word tac) (sym is) ∙ zero_word)
character_at tac [] (suc offset) value is = absurd (none-some value is)
character_at tac (byte ∷ bytes) zero value is = OneOf (omega arith) (char_word byte ∙ ap (λ (v : Option Value). value_word tac v % 2 ^ 8) is)
character_at tac (byte ∷ bytes) (suc offset) value is = by (character_at tac bytes offset value is)
  where
    by : CharacterAt tac bytes offset value → CharacterAt tac (byte ∷ bytes) (suc offset) value
    by (OneOf lt same) = OneOf (omega arith) same
    by (TheEnd e same) = TheEnd (ap suc e) same
