-- What stands at the front of a text, by its first byte.
use Rattle.std.proofs.Common.{◌≡◌, ℕ, ◌==◌, List, Ok, Bool, true, false, ◌&&◌, drop, ◌∙◌}
use Rattle.std.specs.Prelude.{slice_index}
use Rattle.std.proofs.lemmas.Bool.{cond-true, cond-false}
use Rattle.run_theory.specs.declared.place.Pos.{Pos}
use Rattle.c_lexer.specs.declared.front.Front.TheVariants as F
use Rattle.c_lexer.specs.Classes.{is_space, is_letter, is_digit}
use Rattle.c_lexer.specs.Constants.{quoted}
use Rattle.c_lexer.specs.Fronts.{word_front, number_front, as_character, as_literal, directive_front, other_front, front_of}

module _ (line : Bool) (place : Pos) (text : List ℕ) where
  pub front_space : is_space (slice_index text 0) ≡ true → front_of line place text ≡ Ok (F.Blank 1)
  front_space space = cond-true (is_space (slice_index text 0)) _ _ space

  pub front_word : is_space (slice_index text 0) ≡ false → is_letter (slice_index text 0) ≡ true → front_of line place text ≡ word_front place text
  front_word dark letter = cond-false (is_space (slice_index text 0)) _ _ dark ∙ cond-true (is_letter (slice_index text 0)) _ _ letter

  pub front_number : is_space (slice_index text 0) ≡ false → is_letter (slice_index text 0) ≡ false → is_digit (slice_index text 0) ≡ true → front_of line place text ≡ number_front place text
  front_number dark other digit =
      cond-false (is_space (slice_index text 0)) _ _ dark ∙ cond-false (is_letter (slice_index text 0)) _ _ other ∙ cond-true (is_digit (slice_index text 0)) _ _ digit

  module _ (dark : is_space (slice_index text 0) ≡ false) (no_letter : is_letter (slice_index text 0) ≡ false) (no_digit : is_digit (slice_index text 0) ≡ false) where
    pub front_character : (slice_index text 0 == 39) ≡ true → front_of line place text ≡ as_character place (quoted place 39 (drop 1 text))
    front_character single =
        cond-false (is_space (slice_index text 0)) _ _ dark ∙ cond-false (is_letter (slice_index text 0)) _ _ no_letter ∙ cond-false (is_digit (slice_index text 0)) _ _ no_digit
        ∙ cond-true (slice_index text 0 == 39) _ _ single

    pub front_literal : (slice_index text 0 == 39) ≡ false → (slice_index text 0 == 34) ≡ true → front_of line place text ≡ as_literal (quoted place 34 (drop 1 text))
    front_literal no_single double =
        cond-false (is_space (slice_index text 0)) _ _ dark ∙ cond-false (is_letter (slice_index text 0)) _ _ no_letter ∙ cond-false (is_digit (slice_index text 0)) _ _ no_digit
        ∙ cond-false (slice_index text 0 == 39) _ _ no_single ∙ cond-true (slice_index text 0 == 34) _ _ double

    pub front_directive : (slice_index text 0 == 39) ≡ false → (slice_index text 0 == 34) ≡ false → (slice_index text 0 == 35 && line) ≡ true → front_of line place text ≡ directive_front place text
    front_directive no_single no_double directive =
        cond-false (is_space (slice_index text 0)) _ _ dark ∙ cond-false (is_letter (slice_index text 0)) _ _ no_letter ∙ cond-false (is_digit (slice_index text 0)) _ _ no_digit
        ∙ cond-false (slice_index text 0 == 39) _ _ no_single ∙ cond-false (slice_index text 0 == 34) _ _ no_double ∙ cond-true (slice_index text 0 == 35 && line) _ _ directive

    pub front_other : (slice_index text 0 == 39) ≡ false → (slice_index text 0 == 34) ≡ false → (slice_index text 0 == 35 && line) ≡ false → front_of line place text ≡ other_front place text
    front_other no_single no_double no_directive =
        cond-false (is_space (slice_index text 0)) _ _ dark ∙ cond-false (is_letter (slice_index text 0)) _ _ no_letter ∙ cond-false (is_digit (slice_index text 0)) _ _ no_digit
        ∙ cond-false (slice_index text 0 == 39) _ _ no_single ∙ cond-false (slice_index text 0 == 34) _ _ no_double ∙ cond-false (slice_index text 0 == 35 && line) _ _ no_directive
