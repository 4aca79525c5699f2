-- Conversions between integer types, and the bits and words that hold values (C17 6.2.6.2, 6.3.1.3).
use Rattle.std.specs.Prelude.{◌≡◌, ℕ, ◌-◌, ◌%◌, ◌^◌, if◌then◌else◌, ◌&&◌, nat_le, ℤ, pos, negsuc, ◌+ℤ◌, ◌-ℤ◌, ◌*ℤ◌}
use Rattle.c_num.specs.declared.IntType.{IntType}
use Rattle.c_num.specs.Types.{width_of, is_signed}

-- the remainder of z by m that lies from 0 to m - 1: `negsuc n` is -(n + 1)
abbrev pub modulo : ℤ → ℕ → ℕ
modulo (pos n) m = n % m
modulo (negsuc n) m = m - 1 - n % m

-- x and z differ by a multiple of m
abbrev pub IsCongruent : ℕ → ℤ → ℤ → Type 0
IsCongruent m x z = (k : ℤ) × (z ≡ x +ℤ k *ℤ pos m)

-- the bits of z in type t, as a number below 2 ^ width (two's complement, C17 6.2.6.2 paragraph 2)
abbrev pub bits_of : IntType → ℤ → ℕ
bits_of t z = modulo z (2 ^ width_of t)

-- the value that such bits have: in a signed type the highest bit is the sign, and counts -(2 ^ (width - 1))
abbrev pub value_of_bits : IntType → ℕ → ℤ
value_of_bits t n = if is_signed t && nat_le (2 ^ (width_of t - 1)) n then pos n -ℤ pos (2 ^ width_of t) else pos n

-- z converted to t: the value of t that is congruent to z modulo 2 ^ width (C17 6.3.1.3; for a signed type that doesn't
-- hold z this project's choice)
unfoldable pub convert_to : IntType → ℤ → ℤ
convert_to t z = value_of_bits t (bits_of t z)

-- the word of 64 bits that holds z converted to t, its sign in all higher bits
unfoldable pub word_of : IntType → ℤ → ℕ
word_of t z = modulo (convert_to t z) (2 ^ 64)
