-- Words of 64 bits in registers, and what trees compute from them: an operator works on the values of its type that words hold.
use Rattle.std.specs.Prelude.{ℕ, ◌+◌, ◌-◌, ◌*◌, ◌%◌, ◌^◌, ◌==◌, Bool, if◌then◌else◌}
use Rattle.c_num.specs.declared.IntType.{IntType}
use Rattle.c_num.specs.declared.IntType.TheVariants as I
use Rattle.c_num.specs.Conversion.{word_of}
use Rattle.tac_ir.specs.declared.register.Register.{Register}
use Rattle.tac_ir.specs.Trees.{same_register}
use Rattle.tac_ir.specs.Code.{Tree, Constant, Held, Convert, Complement, Not, Arithmetic, Compare, Operand, IntegerOperand, PointerOperand}
use Rattle.pool_isa.specs.Machine.{binary_word, complement_word, compared_word, converted_word}

-- what registers hold, words of 64 bits; one that was not written yet holds 0
abbrev pub Words : Type 0
Words = Register → ℕ

abbrev pub no_words : Words
no_words register = 0

abbrev pub with_word : Register → ℕ → Words → Words
with_word register word words other = if same_register register other then word % 2 ^ 64 else words other

abbrev pub truth_word : Bool → ℕ
truth_word test = if test then 1 else 0

abbrev pub is_zero_word : IntType → ℕ → Bool
is_zero_word int_type word = converted_word int_type word == 0

abbrev pub word_in : Words → Tree → ℕ
word_in words (Constant z) = word_of I.ULong z
word_in words (Held register) = words register
word_in words (Convert int_type operand) = converted_word int_type (word_in words operand)
word_in words (Complement int_type operand) = complement_word int_type (word_in words operand)
word_in words (Not int_type operand) = truth_word (is_zero_word int_type (word_in words operand))
word_in words (Arithmetic operator int_type left right) = binary_word operator int_type (word_in words left) (word_in words right)
word_in words (Compare relation int_type left right) = compared_word relation int_type (word_in words left) (word_in words right)

abbrev pub operand_word : Words → Operand → ℕ
operand_word words (IntegerOperand tree) = word_in words tree
operand_word words (PointerOperand register) = words register

-- an address so many elements of a size further, or back, around 2 ^ 64
abbrev pub moved_by : ℕ → ℕ → ℕ → ℕ
moved_by address size number = (address + number * size) % 2 ^ 64

abbrev pub moved_back : ℕ → ℕ → ℕ → ℕ
moved_back address size number = (address + (2 ^ 64 - (number * size) % 2 ^ 64)) % 2 ^ 64
