-- The operators on values of one integer type (C17 6.5.3.3 and 6.5.5 to 6.5.12): what they give, and where they are undefined.
use Rattle.std.specs.Prelude.{◌≡◌, ◌≢◌, ◌-◌, ◌^◌, Bool, true, false, not, ◌&&◌, ◌||◌, if◌then◌else◌, ℤ, pos, neg_ℤ, ◌+ℤ◌, ◌-ℤ◌, ◌*ℤ◌, ◌≤ℤ◌, ◌<ℤ◌, int_lt, int_le, int_div, int_rem, unsigned_abs, bit_and, bit_or, bit_xor, Result, Ok, Err}
use Rattle.std.specs.Ordering.{int_eq}
use Rattle.std.specs.Int.{int_shr}
use Rattle.c_num.specs.declared.IntType.{IntType}
use Rattle.c_num.specs.declared.BinOp.{BinOp}
use Rattle.c_num.specs.declared.BinOp.TheVariants.{Add, Sub, Mul, Div, Rem, Shl, Shr, And, Or, Xor}
use Rattle.c_num.specs.declared.ArithUb.{ArithUb}
use Rattle.c_num.specs.declared.ArithUb.TheVariants.{Overflow, DivideByZero, BadShift}
use Rattle.c_num.specs.declared.Relation.{Relation}
use Rattle.c_num.specs.declared.Relation.TheVariants.{Eq, Ne, Lt, Le, Gt, Ge}
use Rattle.c_num.specs.Types.{width_of, is_signed, IsValue, is_value}
use Rattle.c_num.specs.Conversion.{modulo, bits_of, value_of_bits, convert_to}

-- the algebraic quotient without its fractional part, and what it leaves (C17 6.5.5 paragraph 6). A divisor of zero, at
-- which the operators are undefined, gives 0 and leaves all.
abbrev pub quotient : ℤ → ℤ → ℤ
quotient a b = if int_eq b (pos 0) then pos 0 else int_div a b

abbrev pub remainder : ℤ → ℤ → ℤ
remainder a b = if int_eq b (pos 0) then a else int_rem a b

-- The result without regard to the range of t. `<<` multiplies by a power of two, and `>>` divides by one and rounds
-- down (C17 6.5.7 paragraphs 4 and 5; of a negative value this project's choice); `&`, `^` and `|` work on the bits
-- (6.5.10 to 6.5.12).
abbrev pub exact : BinOp → IntType → ℤ → ℤ → ℤ
exact Add t a b = a +ℤ b
exact Sub t a b = a -ℤ b
exact Mul t a b = a *ℤ b
exact Div t a b = quotient a b
exact Rem t a b = remainder a b
exact Shl t a b = a *ℤ pos (2 ^ unsigned_abs b)
exact Shr t a b = int_shr a (unsigned_abs b)
exact And t a b = value_of_bits t (bit_and (bits_of t a) (bits_of t b))
exact Or t a b = value_of_bits t (bit_or (bits_of t a) (bits_of t b))
exact Xor t a b = value_of_bits t (bit_xor (bits_of t a) (bits_of t b))

abbrev pub is_shift : BinOp → Bool
is_shift Shl = true
is_shift Shr = true
is_shift _ = false

-- b may be the right operand at type t: the amount of a shift may be any number
abbrev pub IsRightOperand : BinOp → IntType → ℤ → Type 0
IsRightOperand op t b = is_shift op ≡ false → IsValue t b

-- The result z doesn't fit the signed type t. Unsigned results are reduced modulo 2 ^ width (C17 6.2.5 paragraph 9).
abbrev pub is_out_of_range : IntType → ℤ → Bool
is_out_of_range t z = is_signed t && not (is_value t z)

-- a divisor of zero (C17 6.5.5 paragraph 5)
abbrev pub divides_by_zero : BinOp → ℤ → Bool
divides_by_zero Div b = int_eq b (pos 0)
divides_by_zero Rem b = int_eq b (pos 0)
divides_by_zero _ b = false

-- an amount that is negative, or at least the width (C17 6.5.7 paragraph 3)
abbrev pub is_bad_amount : IntType → ℤ → Bool
is_bad_amount t b = int_lt b (pos 0) || int_le (pos (width_of t)) b

-- A bad amount, or a left shift of a negative value, which a signed type alone has, or past the range (C17 6.5.7
-- paragraphs 3 and 4).
abbrev pub is_bad_shift : BinOp → IntType → ℤ → ℤ → Bool
is_bad_shift Shl t a b = is_bad_amount t b || int_lt a (pos 0) || is_out_of_range t (exact Shl t a b)
is_bad_shift Shr t a b = is_bad_amount t b
is_bad_shift _ t a b = false

-- A result out of range (C17 6.5 paragraph 5). A remainder is defined where its quotient is (6.5.5 paragraph 6).
abbrev pub overflows : BinOp → IntType → ℤ → ℤ → Bool
overflows Add t a b = is_out_of_range t (a +ℤ b)
overflows Sub t a b = is_out_of_range t (a -ℤ b)
overflows Mul t a b = is_out_of_range t (a *ℤ b)
overflows Div t a b = is_out_of_range t (quotient a b)
overflows Rem t a b = is_out_of_range t (quotient a b)
overflows _ t a b = false

-- What the operator gives on values of t. The conversion reduces an unsigned result; a signed one that is defined is a
-- value of t, so that it stays.
unfoldable pub outcome_of : BinOp → IntType → ℤ → ℤ → Result ℤ ArithUb
outcome_of op t a b =
    if divides_by_zero op b then Err DivideByZero
    else if is_bad_shift op t a b then Err BadShift
    else if overflows op t a b then Err Overflow
    else Ok (convert_to t (exact op t a b))

-- The right operand of the operator made total: converted to t, but the amount of a shift is taken modulo the width.
abbrev pub wrapped_right : BinOp → IntType → ℤ → ℤ
wrapped_right op t b = if is_shift op then pos (modulo b (width_of t)) else convert_to t b

-- the operator made total: the left operand and the result are converted to t
unfoldable pub wrapped : BinOp → IntType → ℤ → ℤ → ℤ
wrapped op t a b = convert_to t (exact op t (convert_to t a) (wrapped_right op t b))

-- a result z in type t: in a signed type an overflow where it is no value
abbrev pub fitted : IntType → ℤ → Result ℤ ArithUb
fitted t z = if is_out_of_range t z then Err Overflow else Ok (convert_to t z)

-- the unary `-` (C17 6.5.3.3 paragraph 3), and the same made total
unfoldable pub negated_of : IntType → ℤ → Result ℤ ArithUb
negated_of t a = fitted t (neg_ℤ a)

unfoldable pub wrapped_negation : IntType → ℤ → ℤ
wrapped_negation t a = convert_to t (neg_ℤ (convert_to t a))

-- the unary `~`: each bit is inverted (C17 6.5.3.3 paragraph 4)
unfoldable pub complement_of : IntType → ℤ → ℤ
complement_of t a = value_of_bits t (2 ^ width_of t - 1 - bits_of t a)

-- the relations of C17 6.5.8 and 6.5.9
abbrev pub Holds : Relation → ℤ → ℤ → Type 0
Holds Eq a b = a ≡ b
Holds Ne a b = a ≢ b
Holds Lt a b = a <ℤ b
Holds Le a b = a ≤ℤ b
Holds Gt a b = b <ℤ a
Holds Ge a b = b ≤ℤ a

-- the same, as a test
abbrev pub compare_of : Relation → ℤ → ℤ → Bool
compare_of Eq a b = int_eq a b
compare_of Ne a b = not (int_eq a b)
compare_of Lt a b = int_lt a b
compare_of Le a b = int_le a b
compare_of Gt a b = int_lt b a
compare_of Ge a b = int_le b a
