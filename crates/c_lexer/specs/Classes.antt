-- Classes of bytes (C17 5.2.1, 6.4).
use Rattle.std.specs.Prelude.{ℕ, Bool, not, ◌&&◌, ◌||◌, ◌==◌, nat_le}

abbrev pub is_between : ℕ → ℕ → ℕ → Bool
is_between low high byte = nat_le low byte && nat_le byte high

-- white space: the bytes 09 to 0D and the space
abbrev pub is_space : ℕ → Bool
is_space byte = is_between 9 13 byte || byte == 32

-- what may stand before a `#` and within a directive (C17 6.10 paragraph 5)
abbrev pub is_blank : ℕ → Bool
is_blank byte = byte == 32 || byte == 9

-- any byte that doesn't end its line
abbrev pub is_in_line : ℕ → Bool
is_in_line byte = not (byte == 10)

abbrev pub is_digit : ℕ → Bool
is_digit byte = is_between 48 57 byte

abbrev pub is_octal_digit : ℕ → Bool
is_octal_digit byte = is_between 48 55 byte

abbrev pub is_hexadecimal_digit : ℕ → Bool
is_hexadecimal_digit byte = is_digit byte || is_between 65 70 byte || is_between 97 102 byte

-- a letter or the low line (C17 6.4.2.1)
abbrev pub is_letter : ℕ → Bool
is_letter byte = is_between 65 90 byte || is_between 97 122 byte || byte == 95

abbrev pub is_word_byte : ℕ → Bool
is_word_byte byte = is_letter byte || is_digit byte

-- a sign that stands directly after e, E, p or P (C17 6.4.8)
abbrev pub is_exponent_sign : ℕ → ℕ → Bool
is_exponent_sign before byte =
    (before == 101 || before == 69 || before == 112 || before == 80) && (byte == 43 || byte == 45)

-- a number goes on with the byte behind the one before it (C17 6.4.8)
abbrev pub goes_on : ℕ → ℕ → Bool
goes_on before byte = is_word_byte byte || byte == 46 || is_exponent_sign before byte
