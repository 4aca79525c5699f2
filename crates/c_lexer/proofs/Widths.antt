-- What stands at the front of a text has at least one byte, and no more than the text.
use Rattle.std.proofs.Common.{◌≡◌, ℕ, zero, suc, ◌+◌, ◌≤◌, ◌==◌, List, [], ◌∷◌, ◌++◌, Option, Some, None, Result, Ok, Err, Bool, ◌&&◌, length, take, drop, subst, arith, length-drop, eqb-true}
use Rattle.std.specs.Prelude.{slice_index, nat_le}
use Rattle.std.specs.List.{prefix_len}
use Rattle.std.proofs.lemmas.Bool.{cond_both, and_parts, leb-true}
use Rattle.std.proofs.lemmas.List.Sums.{prefix_len-le-length}
use Rattle.run_theory.specs.declared.place.Pos.{Pos}
use Rattle.c_grammar.specs.declared.kind.Kind.{Kind}
use Rattle.c_grammar.specs.declared.token.Lexeme.{Lexeme}
use Rattle.c_lexer.specs.declared.lex_err.LexErr.{LexErr}
use Rattle.c_lexer.specs.declared.front.Front.{Front}
use Rattle.c_lexer.specs.Classes.{is_space, is_in_line, is_letter, is_digit, is_word_byte, goes_on}
use Rattle.c_lexer.specs.Tables.{punctuators, kind_in}
use Rattle.c_lexer.specs.Constants.{is_open, is_bad_escape, spelled_byte, spelled_width, quoted_from, quoted}
use Rattle.c_lexer.specs.Fronts.{word_front, number_run, constant_front, number_front, character_front, as_character, as_literal, is_accepted, line_length, directive_front, comment_end, as_comment, punctuator_of, fixed_front, punctuator_front, other_front, front_of}
use Rattle.c_lexer.specs.Tokens.{width_of}

-- a front has at least one byte and at most n
abbrev pub Within : ℕ → Result Front LexErr → Type 0
Within n (Ok front) = (1 ≤ width_of front) × (width_of front ≤ n)
Within n (Err error) = Unit {0}

-- what is read as a byte that isn't 0 stands within the text
pub first_within : (text : List ℕ) (byte : ℕ) → slice_index text 0 ≡ suc byte → 1 ≤ length text
first_within [] byte is = absurd (omega (arith, is))
first_within (first ∷ rest) byte is = omega arith

pub second_within : (text : List ℕ) (byte : ℕ) → slice_index text 1 ≡ suc byte → 2 ≤ length text
second_within [] byte is = absurd (omega (arith, is))
second_within (first ∷ []) byte is = absurd (omega (arith, is))
second_within (first ∷ second ∷ rest) byte is = omega arith

module _ (text : List ℕ) (some : 1 ≤ length text) where
  word_within : (place : Pos) → Within (length text) (word_front place text)
  word_within place =
      cond_both (nat_le (1 + prefix_len is_word_byte (drop 1 text)) 255) _ _ (Within (length text))
      (λ short. (omega arith, omega (arith, some, prefix_len-le-length is_word_byte (drop 1 text), length-drop 1 text)))
      (λ long. tt)

  line_within : line_length text ≤ length text
  line_within = omega (arith, some, prefix_len-le-length is_in_line (drop 1 text), length-drop 1 text)

  directive_within : (place : Pos) → Within (length text) (directive_front place text)
  directive_within place =
      cond_both (is_accepted (drop 1 (take (line_length text) text))) _ _ (Within (length text)) (λ accepted. (omega arith, line_within)) (λ other. tt)

number_run_within : (before : ℕ) (bytes : List ℕ) → number_run before bytes ≤ length bytes
number_run_within before [] = omega arith
number_run_within before (byte ∷ bytes) =
    cond_both (goes_on before byte) _ _ (λ n. n ≤ length (byte ∷ bytes)) (λ goes. omega (arith, number_run_within byte bytes)) (λ stops. omega arith)

constant_within : (n count : ℕ) (place : Pos) (found : Option Lexeme) → 1 ≤ count → count ≤ n → Within n (constant_front place count found)
constant_within n count place None some fits = tt
constant_within n count place (Some lexeme) some fits = (some, fits)

number_within : (text : List ℕ) (place : Pos) → 1 ≤ length text → Within (length text) (number_front place text)
number_within text place some =
    constant_within (length text) (1 + number_run (slice_index text 0) (drop 1 text)) place _ (omega arith) (omega (arith, some, number_run_within (slice_index text 0) (drop 1 text), length-drop 1 text))

-- what stands between quotes takes at most n bytes
abbrev pub QuotedWithin : ℕ → Result (List ℕ × ℕ) LexErr → Type 0
QuotedWithin n (Ok found) = found.1 ≤ n
QuotedWithin n (Err error) = Unit {0}

pub quoted_within : (place : Pos) (quote : ℕ) (found : List ℕ) (count skip : ℕ) (text : List ℕ) → QuotedWithin (count + length text) (quoted_from place quote found count skip text)
quoted_within place quote found count zero [] = tt
quoted_within place quote found count (suc skip) [] = tt
quoted_within place quote found count (suc skip) (byte ∷ rest) =
    let same : count + 1 + length rest ≡ count + length (byte ∷ rest) = omega arith in
    subst (λ n. QuotedWithin n (quoted_from place quote found (count + 1) skip rest)) same (quoted_within place quote found (count + 1) skip rest)
quoted_within place quote found count zero (byte ∷ rest) =
    let same : count + 1 + length rest ≡ count + length (byte ∷ rest) = omega arith in
    cond_both (byte == quote) _ _ (QuotedWithin (count + length (byte ∷ rest)))
    (λ closes. omega arith)
    (λ other. cond_both (is_open byte rest) _ _ (QuotedWithin (count + length (byte ∷ rest))) (λ opens. tt)
    (λ closed. cond_both (is_bad_escape byte rest) _ _ (QuotedWithin (count + length (byte ∷ rest))) (λ bad. tt)
    (λ good. subst (λ n. QuotedWithin n (quoted_from place quote (found ++ spelled_byte byte rest ∷ []) (count + 1) (spelled_width byte rest) rest)) same (quoted_within place quote (found ++ spelled_byte byte rest ∷ []) (count + 1) (spelled_width byte rest) rest))))

one_within : (n count : ℕ) (place : Pos) (bytes : List ℕ) → 1 ≤ count → count ≤ n → Within n (character_front place count bytes)
one_within n count place [] some fits = tt
one_within n count place (byte ∷ []) some fits = (some, fits)
one_within n count place (byte ∷ next ∷ bytes) some fits = tt

character_within : (n : ℕ) (place : Pos) (found : Result (List ℕ × ℕ) LexErr) → QuotedWithin n found → Within (1 + n) (as_character place found)
character_within n place (Err error) within = tt
character_within n place (Ok found) within = one_within (1 + n) (1 + found.1) place found.0 (omega arith) (omega (arith, within))

literal_within : (n : ℕ) (found : Result (List ℕ × ℕ) LexErr) → QuotedWithin n found → Within (1 + n) (as_literal found)
literal_within n (Err error) within = tt
literal_within n (Ok found) within = (omega arith, omega (arith, within))

-- a comment ends within n bytes
abbrev pub EndsWithin : ℕ → Option ℕ → Type 0
EndsWithin n None = Unit {0}
EndsWithin n (Some count) = (1 ≤ count) × (count ≤ n)

comment_within : (count : ℕ) (text : List ℕ) → EndsWithin (count + length text) (comment_end count text)
comment_within count [] = tt
comment_within count (byte ∷ rest) =
    let same : count + 1 + length rest ≡ count + length (byte ∷ rest) = omega arith in
    cond_both (byte == 42 && slice_index rest 0 == 47) _ _ (EndsWithin (count + length (byte ∷ rest)))
    (λ ends. (omega arith, omega (arith, first_within rest 46 (eqb-true (slice_index rest 0) 47 (and_parts (byte == 42) (slice_index rest 0 == 47) ends).1))))
    (λ goes. subst (λ n. EndsWithin n (comment_end (count + 1) rest)) same (comment_within (count + 1) rest))

comment_front_within : (n : ℕ) (place : Pos) (end : Option ℕ) → EndsWithin n end → Within n (as_comment place end)
comment_front_within n place None within = tt
comment_front_within n place (Some count) within = within

fixed_within : (n count : ℕ) (found : Option Kind) (otherwise : Result Front LexErr) → 1 ≤ count → count ≤ n → Within n otherwise → Within n (fixed_front count found otherwise)
fixed_within n count None otherwise some fits within = within
fixed_within n count (Some kind) otherwise some fits within = (some, fits)

spelled_within : (text : List ℕ) (count : ℕ) (otherwise : Result Front LexErr) → 1 ≤ count → Within (length text) otherwise → Within (length text) (fixed_front count (punctuator_of count text) otherwise)
spelled_within text count otherwise some within =
    cond_both (nat_le count (length text)) _ _ (λ found. Within (length text) (fixed_front count found otherwise))
    (λ fits. fixed_within (length text) count (kind_in punctuators (take count text)) otherwise some (leb-true count (length text) fits) within)
    (λ long. within)

punctuator_within : (text : List ℕ) (place : Pos) → Within (length text) (punctuator_front place text)
punctuator_within text place = spelled_within text 3 _ (omega arith) (spelled_within text 2 _ (omega arith) (spelled_within text 1 _ (omega arith) tt))

other_within : (text : List ℕ) (place : Pos) → 1 ≤ length text → Within (length text) (other_front place text)
other_within text place some =
    cond_both (slice_index text 0 == 47 && slice_index text 1 == 47) _ _ (Within (length text))
    (λ line. (omega arith, line_within text some))
    (λ no_line. cond_both (slice_index text 0 == 47 && slice_index text 1 == 42) _ _ (Within (length text))
    (λ block. (let two = second_within text 41 (eqb-true (slice_index text 1) 42 (and_parts (slice_index text 0 == 47) (slice_index text 1 == 42) block).1) in
    let same : 2 + length (drop 2 text) ≡ length text = omega (arith, two, length-drop 2 text) in
    subst (λ n. Within n (as_comment place (comment_end 2 (drop 2 text)))) same (comment_front_within (2 + length (drop 2 text)) place (comment_end 2 (drop 2 text)) (comment_within 2 (drop 2 text)))))
    (λ no_block. punctuator_within text place))

pub within_text : (line : Bool) (text : List ℕ) (place : Pos) → 1 ≤ length text → Within (length text) (front_of line place text)
within_text line text place some =
    let same : 1 + length (drop 1 text) ≡ length text = omega (arith, some, length-drop 1 text) in
    let quoted_fits = λ (quote : ℕ). quoted_within place quote [] 0 0 (drop 1 text) in
    let none : 0 + length (drop 1 text) ≡ length (drop 1 text) = omega arith in
    cond_both (is_space (slice_index text 0)) _ _ (Within (length text)) (λ space. (omega arith, some))
    (λ a. cond_both (is_letter (slice_index text 0)) _ _ (Within (length text)) (λ letter. word_within text some place)
    (λ b. cond_both (is_digit (slice_index text 0)) _ _ (Within (length text)) (λ digit. number_within text place some)
    (λ c. cond_both (slice_index text 0 == 39) _ _ (Within (length text))
    (λ single. subst (λ n. Within n (as_character place (quoted place 39 (drop 1 text)))) same (character_within (length (drop 1 text)) place (quoted place 39 (drop 1 text)) (subst (λ n. QuotedWithin n (quoted place 39 (drop 1 text))) none (quoted_fits 39))))
    (λ d. cond_both (slice_index text 0 == 34) _ _ (Within (length text))
    (λ double. subst (λ n. Within n (as_literal (quoted place 34 (drop 1 text)))) same (literal_within (length (drop 1 text)) (quoted place 34 (drop 1 text)) (subst (λ n. QuotedWithin n (quoted place 34 (drop 1 text))) none (quoted_fits 34))))
    (λ e. cond_both (slice_index text 0 == 35 && line) _ _ (Within (length text)) (λ directive. directive_within text some place)
    (λ f. other_within text place some))))))

pub front_within : (line : Bool) (place : Pos) (text : List ℕ) (front : Front) → 1 ≤ length text → front_of line place text ≡ Ok front → (1 ≤ width_of front) × (width_of front ≤ length text)
front_within line place text front some is = subst (Within (length text)) is (within_text line text place some)
