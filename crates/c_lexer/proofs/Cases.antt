-- What words, numbers and comments are, in their cases.
use Rattle.std.proofs.Common.{◌≡◌, ℕ, ◌+◌, ◌≤◌, ◌<◌, ◌==◌, List, None, Ok, Err, true, ◌&&◌, sym, ap, ◌∙◌, take, drop, le-leb, eq-eqb, ne_eqb}
use Rattle.std.specs.Prelude.{slice_index, nat_le, nat_eq, codes}
use Rattle.std.specs.List.{prefix_len, starts_with}
use Rattle.std.proofs.lemmas.Bool.{cond-true, cond-false, lt-leb}
use Rattle.run_theory.specs.declared.place.Pos.{Pos}
use Rattle.c_lexer.specs.declared.numbers.Base.{Base}
use Rattle.c_lexer.specs.declared.numbers.Base.TheVariants as B
use Rattle.c_lexer.specs.declared.lex_err.LexErr.TheVariants.{NameTooLong}
use Rattle.c_lexer.specs.declared.front.Front.TheVariants as F
use Rattle.c_lexer.specs.Classes.{is_word_byte}
use Rattle.c_lexer.specs.Constants.{hexadecimal_value, digits_from, radix, is_digit_of, suffix_of, typed, integer_in, integer_of}
use Rattle.c_lexer.specs.Fronts.{word_lexeme, word_front, after_blanks, is_known_header, is_accepted}

pub word_long : (place : Pos) (text : List ℕ) → 255 < 1 + prefix_len is_word_byte (drop 1 text) → word_front place text ≡ Err (NameTooLong place)
word_long place text long = cond-false (nat_le (1 + prefix_len is_word_byte (drop 1 text)) 255) _ _ (lt-leb _ 255 long)

pub word_short : (place : Pos) (text : List ℕ) → 1 + prefix_len is_word_byte (drop 1 text) ≤ 255 → word_front place text ≡ Ok (F.Token (word_lexeme (take (1 + prefix_len is_word_byte (drop 1 text)) text)) (1 + prefix_len is_word_byte (drop 1 text)))
word_short place text short = cond-true (nat_le (1 + prefix_len is_word_byte (drop 1 text)) 255) _ _ (le-leb _ 255 short)

-- a line that goes on with `include`
pub accepted_named : (line name : List ℕ) → name ≡ after_blanks line → starts_with nat_eq name (codes "include") ≡ true → is_accepted line ≡ is_known_header (after_blanks (drop 7 name))
accepted_named line name is starts =
    ap (λ n. starts_with nat_eq n (codes "include") && is_known_header (after_blanks (drop 7 n))) (sym is)
    ∙ ap (λ b. b && is_known_header (after_blanks (drop 7 name))) starts

-- no digit of the base
pub integer_empty : (base : Base) (bytes : List ℕ) → prefix_len (is_digit_of base) bytes ≡ 0 → integer_in base bytes ≡ None
integer_empty base bytes none = cond-true (prefix_len (is_digit_of base) bytes == 0) _ _ (eq-eqb _ 0 none)

pub integer_typed : (base : Base) (bytes : List ℕ) → (prefix_len (is_digit_of base) bytes ≡ 0 → ⊥) → integer_in base bytes ≡ typed base (digits_from hexadecimal_value (radix base) 0 (take (prefix_len (is_digit_of base) bytes) bytes)) (suffix_of (drop (prefix_len (is_digit_of base) bytes) bytes))
integer_typed base bytes some = cond-false (prefix_len (is_digit_of base) bytes == 0) _ _ (ne_eqb _ 0 some)

pub integer_decimal : (number : List ℕ) → (slice_index number 0 ≡ 48 → ⊥) → integer_of number ≡ integer_in B.Decimal number
integer_decimal number other = cond-false (slice_index number 0 == 48) _ _ (ne_eqb _ 48 other)
