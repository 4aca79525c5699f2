-- The integer types: their widths, signs, ranks and values (C17 6.2.5, 6.2.6.2, 6.3.1.1), and the type in which an
-- operator works (6.3.1.1 paragraph 2, 6.3.1.8).
use Rattle.std.specs.Prelude.{ℕ, ◌-◌, ◌^◌, Bool, true, false, if◌then◌else◌, ◌&&◌, IsTrue, nat_lt, nat_le, ℤ, pos, neg_ℤ, ◌≤ℤ◌, int_le}
use Rattle.std.specs.Bool.{beq}
use Rattle.c_num.specs.declared.IntType.{IntType}
use Rattle.c_num.specs.declared.IntType.TheVariants.{Char, UChar, Short, UShort, Int, UInt, Long, ULong}

-- how many bits a value has, the sign's included (C17 6.2.6.2 paragraph 6; the numbers are this project's)
abbrev pub width_of : IntType → ℕ
width_of Char = 8
width_of UChar = 8
width_of Short = 16
width_of UShort = 16
width_of Int = 32
width_of UInt = 32
width_of Long = 64
width_of ULong = 64

-- C17 6.2.5 paragraphs 4 and 6; that `char` is signed is this project's choice (paragraph 15)
abbrev pub is_signed : IntType → Bool
is_signed Char = true
is_signed UChar = false
is_signed Short = true
is_signed UShort = false
is_signed Int = true
is_signed UInt = false
is_signed Long = true
is_signed ULong = false

abbrev pub IsSigned : IntType → Type 0
IsSigned t = IsTrue (is_signed t)

-- the least and the greatest value (C17 6.2.6.2 paragraph 2; two's complement is this project's choice)
abbrev pub least_of : IntType → ℤ
least_of t = if is_signed t then neg_ℤ (pos (2 ^ (width_of t - 1))) else pos 0

abbrev pub greatest_of : IntType → ℤ
greatest_of t = if is_signed t then pos (2 ^ (width_of t - 1) - 1) else pos (2 ^ width_of t - 1)

-- z is a value of t
pub record IsValue (t : IntType) (z : ℤ) : Type 0 where
  pub least : least_of t ≤ℤ z
  pub greatest : z ≤ℤ greatest_of t

-- the same, as a test
abbrev pub is_value : IntType → ℤ → Bool
is_value t z = int_le (least_of t) z && int_le z (greatest_of t)

-- the conversion ranks, of which only the order counts (C17 6.3.1.1 paragraph 1)
abbrev pub rank_of : IntType → ℕ
rank_of Char = 1
rank_of UChar = 1
rank_of Short = 2
rank_of UShort = 2
rank_of Int = 3
rank_of UInt = 3
rank_of Long = 4
rank_of ULong = 4

-- The integer promotions (C17 6.3.1.1 paragraph 2): `int` holds all values of each type of lesser rank.
abbrev pub promoted : IntType → IntType
promoted t = if nat_lt (rank_of t) (rank_of Int) then Int else t

-- the unsigned type that corresponds to t (C17 6.2.5 paragraph 6)
abbrev pub unsigned_of : IntType → IntType
unsigned_of Char = UChar
unsigned_of UChar = UChar
unsigned_of Short = UShort
unsigned_of UShort = UShort
unsigned_of Int = UInt
unsigned_of UInt = UInt
unsigned_of Long = ULong
unsigned_of ULong = ULong

-- The common type of a signed and an unsigned type: the last three rules of C17 6.3.1.8. With this project's widths the
-- last of them never comes.
abbrev pub common_of_signs : IntType → IntType → IntType
common_of_signs signed unsigned =
    if nat_le (rank_of signed) (rank_of unsigned) then unsigned
    else if int_le (greatest_of unsigned) (greatest_of signed) then signed
    else unsigned_of signed

-- the common type of two promoted types (C17 6.3.1.8 paragraph 1)
abbrev pub common_of_promoted : IntType → IntType → IntType
common_of_promoted a b =
    if beq (is_signed a) (is_signed b) then if nat_lt (rank_of a) (rank_of b) then b else a
    else if is_signed a then common_of_signs a b
    else common_of_signs b a

-- the usual arithmetic conversions
abbrev pub common_of : IntType → IntType → IntType
common_of a b = common_of_promoted (promoted a) (promoted b)
