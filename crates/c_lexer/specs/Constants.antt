-- Integer constants, character constants and literals (C17 6.4.4.1, 6.4.4.4, 6.4.5).
use Rattle.std.specs.Prelude.{ℕ, zero, suc, ◌+◌, ◌-◌, ◌*◌, ◌^◌, List, [], ◌∷◌, ◌++◌, Option, Some, None, Bool, true, false, ◌&&◌, ◌||◌, not, ◌==◌, nat_lt, nat_le, if◌then◌else◌, is_some, length, take, drop, slice_index, Result, Ok, Err}
use Rattle.std.specs.List.{list_all, prefix_len}
use Rattle.run_theory.specs.declared.place.Pos.{Pos}
use Rattle.c_num.specs.declared.IntType.{IntType}
use Rattle.c_num.specs.declared.IntType.TheVariants as T
use Rattle.c_num.specs.Types.{width_of, is_signed}
use Rattle.c_lexer.specs.declared.numbers.Base.{Base}
use Rattle.c_lexer.specs.declared.numbers.Base.TheVariants as B
use Rattle.c_lexer.specs.declared.numbers.Suffix.{Suffix}
use Rattle.c_lexer.specs.declared.numbers.Suffix.TheVariants as X
use Rattle.c_grammar.specs.declared.token.Lexeme.{Lexeme}
use Rattle.c_grammar.specs.declared.token.Lexeme.TheVariants as L
use Rattle.c_lexer.specs.declared.lex_err.LexErr.{LexErr}
use Rattle.c_lexer.specs.declared.lex_err.LexErr.TheVariants.{BadLiteral, Unclosed}
use Rattle.c_lexer.specs.Classes.{is_digit, is_octal_digit, is_hexadecimal_digit}

-- the value of a digit, in whatever base
abbrev pub hexadecimal_value : ℕ → ℕ
hexadecimal_value digit = if is_digit digit then digit - 48 else if nat_lt digit 97 then digit - 55 else digit - 87

-- a number in digits of a base, read from the left
abbrev pub digits_from : (ℕ → ℕ) → ℕ → ℕ → List ℕ → ℕ
digits_from value_of base value [] = value
digits_from value_of base value (digit ∷ digits) = digits_from value_of base (base * value + value_of digit) digits

-- ---- integer constants

abbrev pub radix : Base → ℕ
radix B.Decimal = 10
radix B.Octal = 8
radix B.Hexadecimal = 16

abbrev pub is_digit_of : Base → ℕ → Bool
is_digit_of B.Decimal = is_digit
is_digit_of B.Octal = is_octal_digit
is_digit_of B.Hexadecimal = is_hexadecimal_digit

abbrev pub is_u : ℕ → Bool
is_u letter = letter == 117 || letter == 85

abbrev pub is_l : ℕ → Bool
is_l letter = letter == 108 || letter == 76

abbrev pub suffix_of : List ℕ → Option Suffix
suffix_of [] = Some X.Plain
suffix_of (letter ∷ []) = if is_u letter then Some X.Unsigned else if is_l letter then Some X.Long else None
suffix_of (letter ∷ other ∷ []) = if (is_u letter && is_l other) || (is_l letter && is_u other) then Some X.UnsignedLong else None
suffix_of (letter ∷ other ∷ third ∷ more) = None

abbrev pub is_decimal : Base → Bool
is_decimal B.Decimal = true
is_decimal B.Octal = false
is_decimal B.Hexadecimal = false

-- the types that a constant may have, in order, in decimal or in another base (C17 6.4.4.1 paragraph 5, without
-- `long long`)
abbrev pub types_of : Suffix → Bool → List IntType
types_of X.Plain true = T.Int ∷ T.Long ∷ []
types_of X.Plain false = T.Int ∷ T.UInt ∷ T.Long ∷ T.ULong ∷ []
types_of X.Unsigned decimal = T.UInt ∷ T.ULong ∷ []
types_of X.Long true = T.Long ∷ []
types_of X.Long false = T.Long ∷ T.ULong ∷ []
types_of X.UnsignedLong decimal = T.ULong ∷ []

-- the value is one of the type's
abbrev pub holds : ℕ → IntType → Bool
holds value int_type = nat_lt value (2 ^ (if is_signed int_type then width_of int_type - 1 else width_of int_type))

-- the first of the types that holds the value
abbrev pub first_holding : ℕ → List IntType → Option IntType
first_holding value [] = None
first_holding value (int_type ∷ more) = if holds value int_type then Some int_type else first_holding value more

abbrev pub integer_lexeme : ℕ → IntType → Lexeme
integer_lexeme value int_type = L.Integer value int_type

abbrev pub as_integer : ℕ → Option IntType → Option Lexeme
as_integer value None = None
as_integer value (Some int_type) = Some (integer_lexeme value int_type)

abbrev pub typed : Base → ℕ → Option Suffix → Option Lexeme
typed base value None = None
typed base value (Some suffix) = as_integer value (first_holding value (types_of suffix (is_decimal base)))

-- at least one digit of the base, and a suffix
abbrev pub integer_in : Base → List ℕ → Option Lexeme
integer_in base bytes =
    let count = prefix_len (is_digit_of base) bytes in
    if count == 0 then None else typed base (digits_from hexadecimal_value (radix base) 0 (take count bytes)) (suffix_of (drop count bytes))

-- the integer constant that the bytes of a number are
abbrev pub integer_of : List ℕ → Option Lexeme
integer_of number =
    if slice_index number 0 == 48 then
    (if slice_index number 1 == 120 || slice_index number 1 == 88 then integer_in B.Hexadecimal (drop 2 number) else integer_in B.Octal number)
    else integer_in B.Decimal number

-- ---- escapes

-- the byte that a simple escape stands for, by the letter behind the backslash (C17 6.4.4.4, 5.2.2)
abbrev pub simple_escape : ℕ → Option ℕ
simple_escape letter =
    if letter == 97 then Some 7 else if letter == 98 then Some 8 else if letter == 102 then Some 12
    else if letter == 110 then Some 10 else if letter == 114 then Some 13 else if letter == 116 then Some 9
    else if letter == 118 then Some 11
    else if letter == 92 || letter == 39 || letter == 34 || letter == 63 then Some letter else None

-- a number that fits a byte
abbrev pub fitting_byte : ℕ → Option ℕ
fitting_byte value = if nat_lt value 256 then Some value else None

-- the byte of at most three octal digits
abbrev pub octal_byte : List ℕ → Option ℕ
octal_byte digits =
    if nat_le (length digits) 3 && list_all is_octal_digit digits then fitting_byte (digits_from (λ digit. digit - 48) 8 0 digits) else None

-- the byte of at least one hexadecimal digit
abbrev pub hexadecimal_byte : List ℕ → Option ℕ
hexadecimal_byte digits =
    if nat_lt 0 (length digits) && list_all is_hexadecimal_digit digits then fitting_byte (digits_from hexadecimal_value 16 0 digits) else None

-- the value of a hexadecimal digit, where it is one
abbrev pub hexadecimal_digit : ℕ → Option ℕ
hexadecimal_digit byte = if is_hexadecimal_digit byte then Some (hexadecimal_value byte) else None

-- the byte of an escape: what stands behind the backslash is a letter, one to three octal digits, or x and
-- hexadecimal digits (C17 6.4.4.4)
abbrev pub escape_value : List ℕ → Option ℕ
escape_value [] = None
escape_value (first ∷ rest) =
    if is_octal_digit first then octal_byte (first ∷ rest)
    else if first == 120 then hexadecimal_byte rest
    else if length rest == 0 then simple_escape first else None

-- how many bytes behind a backslash belong to its escape: none at the end of the line, one to three octal digits, x and
-- all hexadecimal digits that follow, else one
abbrev pub escape_width : List ℕ → ℕ
escape_width [] = 0
escape_width (first ∷ rest) =
    if is_octal_digit first then (if nat_lt 3 (prefix_len is_octal_digit (first ∷ rest)) then 3 else prefix_len is_octal_digit (first ∷ rest))
    else if first == 120 then 1 + prefix_len is_hexadecimal_digit rest
    else if first == 10 then 0 else 1

-- the byte of the escape whose backslash the text follows
abbrev pub escape_byte : List ℕ → Option ℕ
escape_byte text = escape_value (take (escape_width text) text)

-- ---- what stands between quotes

-- the line or the text ends here
abbrev pub is_open : ℕ → List ℕ → Bool
is_open first rest = first == 10 || (first == 92 && escape_width rest == 0)

abbrev pub is_bad_escape : ℕ → List ℕ → Bool
is_bad_escape first rest = first == 92 && not (is_some (escape_byte rest))

abbrev pub byte_or_zero : Option ℕ → ℕ
byte_or_zero None = 0
byte_or_zero (Some byte) = byte

-- the byte that a byte or escape stands for, and how many bytes behind its first belong to it
abbrev pub spelled_byte : ℕ → List ℕ → ℕ
spelled_byte first rest = if first == 92 then byte_or_zero (escape_byte rest) else first

abbrev pub spelled_width : ℕ → List ℕ → ℕ
spelled_width first rest = if first == 92 then escape_width rest else 0

-- a byte or an escape between quotes: the byte that it stands for, and how many bytes behind its first belong to it; or
-- why it is none
abbrev pub spelled : Pos → ℕ → List ℕ → Result (ℕ × ℕ) LexErr
spelled place first rest =
    if is_open first rest then Err (Unclosed place)
    else if is_bad_escape first rest then Err (BadLiteral place)
    else Ok (spelled_byte first rest, spelled_width first rest)

-- What stands behind an opening quote, from left to right, where `found` are the bytes so far, `count` is how many bytes
-- spell them, and the next `skip` belong to the last escape: the bytes up to the closing quote, and how many bytes of the
-- text that is, the closing quote included.
abbrev pub quoted_from : Pos → ℕ → List ℕ → ℕ → ℕ → List ℕ → Result (List ℕ × ℕ) LexErr
quoted_from place quote found count skip [] = Err (Unclosed place)
quoted_from place quote found count (suc skip) (byte ∷ rest) = quoted_from place quote found (count + 1) skip rest
quoted_from place quote found count zero (byte ∷ rest) =
    if byte == quote then Ok (found, count + 1)
    else if is_open byte rest then Err (Unclosed place)
    else if is_bad_escape byte rest then Err (BadLiteral place)
    else quoted_from place quote (found ++ spelled_byte byte rest ∷ []) (count + 1) (spelled_width byte rest) rest

abbrev pub quoted : Pos → ℕ → List ℕ → Result (List ℕ × ℕ) LexErr
quoted place quote text = quoted_from place quote [] 0 0 text
