-- How far a run of bytes goes.
use Rattle.std.proofs.Common.{◌≡◌, ℕ, ◌+◌, ◌≤◌, ◌<◌, List, true, false, length, drop, get_or, ◌∙◌}
use Rattle.std.proofs.lemmas.Bool.{cond-true, cond-false}
use Rattle.std.proofs.lemmas.List.{at_drop_more, at_drop_all}
use Rattle.c_lexer.specs.Classes.{goes_on}
use Rattle.c_lexer.specs.Fronts.{number_run}

-- one byte more of a number
pub number_more : (before : ℕ) (text : List ℕ) (i : ℕ) → i < length text → goes_on before (get_or text i 0) ≡ true → number_run before (drop i text) ≡ 1 + number_run (get_or text i 0) (drop (i + 1) text)
number_more before text i within goes = at_drop_more (number_run before) text i 0 within ∙ cond-true (goes_on before (get_or text i 0)) _ _ goes

pub number_stops : (before : ℕ) (text : List ℕ) (i : ℕ) → i < length text → goes_on before (get_or text i 0) ≡ false → number_run before (drop i text) ≡ 0
number_stops before text i within stops = at_drop_more (number_run before) text i 0 within ∙ cond-false (goes_on before (get_or text i 0)) _ _ stops

pub number_ends : (before : ℕ) (text : List ℕ) (i : ℕ) → length text ≤ i → number_run before (drop i text) ≡ 0
number_ends before text i past = at_drop_all (number_run before) text i past
