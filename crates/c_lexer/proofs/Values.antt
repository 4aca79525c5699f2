-- The values of constants.
use Rattle.std.proofs.Common.{◌≡◌, inl, inr, ℕ, ◌+◌, ◌-◌, ◌*◌, ◌^◌, ◌≤◌, ◌<◌, List, [], ◌∷◌, Option, Some, None, Bool, true, false, cond, ◌&&◌, ltb, length, drop, get_or, refl, ap, ◌∙◌, arith, mul_comm, le-ltb, lt-ltb, le-leb}
use Rattle.std.proofs.lemmas.Bool.{cases_Bool, cond-true, cond-false, cond_both}
use Rattle.std.proofs.lemmas.List.{at_drop_more, at_drop_all}
use Rattle.std.specs.List.{list_all}
use Rattle.c_num.specs.declared.IntType.{IntType}
use Rattle.c_num.specs.declared.IntType.TheVariants as T
use Rattle.c_lexer.specs.declared.numbers.Base.{Base}
use Rattle.c_lexer.specs.declared.numbers.Base.TheVariants as B
use Rattle.c_lexer.specs.declared.numbers.Suffix.{Suffix}
use Rattle.c_grammar.specs.declared.token.Lexeme.TheVariants as L
use Rattle.c_lexer.specs.Classes.{is_octal_digit, is_hexadecimal_digit}
use Rattle.c_lexer.specs.Constants.{radix, fitting_byte, digits_from, hexadecimal_value, octal_byte, hexadecimal_byte, hexadecimal_digit, holds, first_holding, integer_lexeme, as_integer, typed, types_of, is_decimal, suffix_of}

radix_positive : (base : Base) → 1 ≤ radix base
radix_positive B.Decimal = omega arith
radix_positive B.Octal = omega arith
radix_positive B.Hexadecimal = omega arith

grown : (base value digit : ℕ) → 1 ≤ base → value ≤ base * value + digit
grown base value digit positive = grind arith

-- more digits make no number smaller
pub digits_grow : (base value : ℕ) (digits : List ℕ) → 1 ≤ base → value ≤ digits_from hexadecimal_value base value digits
digits_grow base value [] positive = omega arith
digits_grow base value (digit ∷ digits) positive =
    let more : value ≤ base * value + hexadecimal_value digit = grown base value (hexadecimal_value digit) positive in
    omega (arith, more, digits_grow base (base * value + hexadecimal_value digit) digits positive)

pub digits_more : (base value : ℕ) (digits : List ℕ) (i : ℕ) → i < length digits → digits_from hexadecimal_value base value (drop i digits) ≡ digits_from hexadecimal_value base (base * value + hexadecimal_value (get_or digits i 0)) (drop (i + 1) digits)
digits_more base value digits i within = at_drop_more (digits_from hexadecimal_value base value) digits i 0 within

pub digits_done : (base value : ℕ) (digits : List ℕ) (i : ℕ) → length digits ≤ i → digits_from hexadecimal_value base value (drop i digits) ≡ value
digits_done base value digits i past = at_drop_all (digits_from hexadecimal_value base value) digits i past

-- digits whose value so far, with one digit more, is past 64 bits
pub digits_too_large : (base : Base) (digits : List ℕ) (i value times : ℕ) → i < length digits → times ≡ radix base → digits_from hexadecimal_value (radix base) 0 digits ≡ digits_from hexadecimal_value (radix base) value (drop i digits) → 2 ^ 64 ≤ value * times + hexadecimal_value (get_or digits i 0) → 2 ^ 64 ≤ digits_from hexadecimal_value (radix base) 0 digits
digits_too_large base digits i value times within is from large =
    let product : value * times ≡ radix base * value = ap (λ t. value * t) is ∙ mul_comm value (radix base) in
    let next = radix base * value + hexadecimal_value (get_or digits i 0) in
    let enough : 2 ^ 64 ≤ next = omega (arith, large, product) in
    omega (arith, enough, digits_grow (radix base) next (drop (i + 1) digits) (radix_positive base), from ∙ digits_more (radix base) value digits i within)

-- no type holds a value of 2^64 or more
none_holds : (value : ℕ) (int_type : IntType) → 2 ^ 64 ≤ value → holds value int_type ≡ false
none_holds value T.Char large = le-ltb value (2 ^ 7) (omega (arith, large))
none_holds value T.UChar large = le-ltb value (2 ^ 8) (omega (arith, large))
none_holds value T.Short large = le-ltb value (2 ^ 15) (omega (arith, large))
none_holds value T.UShort large = le-ltb value (2 ^ 16) (omega (arith, large))
none_holds value T.Int large = le-ltb value (2 ^ 31) (omega (arith, large))
none_holds value T.UInt large = le-ltb value (2 ^ 32) (omega (arith, large))
none_holds value T.Long large = le-ltb value (2 ^ 63) (omega (arith, large))
none_holds value T.ULong large = le-ltb value (2 ^ 64) large

none_first : (value : ℕ) (types : List IntType) → 2 ^ 64 ≤ value → first_holding value types ≡ None
none_first value [] large = refl
none_first value (int_type ∷ more) large = cond-false (holds value int_type) _ _ (none_holds value int_type large) ∙ none_first value more large

pub none_typed : (base : Base) (value : ℕ) (suffix : Option Suffix) → 2 ^ 64 ≤ value → typed base value suffix ≡ None
none_typed base value None large = refl
none_typed base value (Some suffix) large = ap (λ found. as_integer value found) (none_first value (types_of suffix (is_decimal base)) large)

pub other_integer : (value : ℕ) (int_type : IntType) → (int_type ≡ T.Int → ⊥) → integer_lexeme value int_type ≡ L.Integer value int_type
other_integer value T.Char other = refl
other_integer value T.UChar other = refl
other_integer value T.Short other = refl
other_integer value T.UShort other = refl
other_integer value T.Int other = absurd (other refl)
other_integer value T.UInt other = refl
other_integer value T.Long other = refl
other_integer value T.ULong other = refl

-- suffixes by their length
pub suffix_one : (letters : List ℕ) → length letters ≡ 1 → suffix_of letters ≡ suffix_of (get_or letters 0 0 ∷ [])
suffix_one [] one = absurd (omega (arith, one))
suffix_one (letter ∷ []) one = refl
suffix_one (letter ∷ other ∷ more) one = absurd (omega (arith, one))

pub suffix_two : (letters : List ℕ) → length letters ≡ 2 → suffix_of letters ≡ suffix_of (get_or letters 0 0 ∷ get_or letters 1 0 ∷ [])
suffix_two [] two = absurd (omega (arith, two))
suffix_two (letter ∷ []) two = absurd (omega (arith, two))
suffix_two (letter ∷ other ∷ []) two = refl
suffix_two (letter ∷ other ∷ third ∷ more) two = absurd (omega (arith, two))

pub suffix_more : (letters : List ℕ) → 2 < length letters → suffix_of letters ≡ None
suffix_more [] long = absurd (omega (arith, long))
suffix_more (letter ∷ []) long = absurd (omega (arith, long))
suffix_more (letter ∷ other ∷ []) long = absurd (omega (arith, long))
suffix_more (letter ∷ other ∷ third ∷ more) long = refl

-- The byte of digits that follow a value, where they are digits and it fits a byte.
abbrev pub byte_from : (ℕ → Bool) → (ℕ → ℕ) → ℕ → ℕ → List ℕ → Option ℕ
byte_from is_one value_of base value digits = cond (list_all is_one digits) (fitting_byte (digits_from value_of base value digits)) None

module _ (is_one : ℕ → Bool) (value_of : ℕ → ℕ) (base : ℕ) (positive : 1 ≤ base) where
  grows : (value digit : ℕ) → value ≤ base * value + value_of digit
  grows value digit = grind arith

  large_number : (value : ℕ) (digits : List ℕ) → 256 ≤ value → fitting_byte (digits_from value_of base value digits) ≡ None
  large_number value [] large = cond-false (ltb value 256) _ _ (le-ltb value 256 large)
  large_number value (digit ∷ digits) large = large_number (base * value + value_of digit) digits (omega (arith, grows value digit))

  pub byte_more : (digits : List ℕ) (i value : ℕ) → i < length digits → is_one (get_or digits i 0) ≡ true → byte_from is_one value_of base value (drop i digits) ≡ byte_from is_one value_of base (base * value + value_of (get_or digits i 0)) (drop (i + 1) digits)
  byte_more digits i value within digit =
      at_drop_more (byte_from is_one value_of base value) digits i 0 within
      ∙ ap (λ b. cond (b && list_all is_one (drop (i + 1) digits)) (fitting_byte (digits_from value_of base (base * value + value_of (get_or digits i 0)) (drop (i + 1) digits))) None) digit

  pub byte_too_large : (digits : List ℕ) (i value : ℕ) → i < length digits → 256 ≤ base * value + value_of (get_or digits i 0) → byte_from is_one value_of base value (drop i digits) ≡ None
  byte_too_large digits i value within large =
      at_drop_more (byte_from is_one value_of base value) digits i 0 within
      ∙ cond_both (is_one (get_or digits i 0) && list_all is_one (drop (i + 1) digits)) (fitting_byte (digits_from value_of base (base * value + value_of (get_or digits i 0)) (drop (i + 1) digits))) None (λ found. found ≡ None) (λ _. large_number (base * value + value_of (get_or digits i 0)) (drop (i + 1) digits) large) (λ _. refl)

  pub byte_done : (digits : List ℕ) (i value : ℕ) → length digits ≤ i → value < 256 → byte_from is_one value_of base value (drop i digits) ≡ Some value
  byte_done digits i value past small =
      at_drop_all (byte_from is_one value_of base value) digits i past
      ∙ cond-true (ltb value 256) _ _ (lt-ltb value 256 small)

pub octal_is : (digits : List ℕ) → length digits ≤ 3 → octal_byte digits ≡ byte_from is_octal_digit (λ digit. digit - 48) 8 0 digits
octal_is digits short = ap (λ b. cond (b && list_all is_octal_digit digits) (fitting_byte (digits_from (λ digit. digit - 48) 8 0 digits)) None) (le-leb (length digits) 3 short)

pub hexadecimal_is : (digits : List ℕ) → 0 < length digits → hexadecimal_byte digits ≡ byte_from is_hexadecimal_digit hexadecimal_value 16 0 digits
hexadecimal_is digits some = ap (λ b. cond (b && list_all is_hexadecimal_digit digits) (fitting_byte (digits_from hexadecimal_value 16 0 digits)) None) (lt-ltb 0 (length digits) some)

pub hexadecimal_digit_some : (byte value : ℕ) → Some value ≡ hexadecimal_digit byte → (is_hexadecimal_digit byte ≡ true) × (value ≡ hexadecimal_value byte)
hexadecimal_digit_some byte value is = elim (cases_Bool (is_hexadecimal_digit byte)) [
  | inl digit ↦ (let same : Some value ≡ Some (hexadecimal_value byte) = is ∙ cond-true (is_hexadecimal_digit byte) _ _ digit in (digit, cc))
  | inr other ↦ (let some_is_none : Some value ≡ None = is ∙ cond-false (is_hexadecimal_digit byte) _ _ other in cc)
]
