-- Objects that were made: where each was placed, by its number, and the events that tell of them.
use Rattle.std.proofs.Common.{◌≡◌, ℕ, zero, suc, List, [], ◌∷◌, ◌++◌, Some, length, refl, sym, ap, ◌∙◌}
use Rattle.std.specs.Prelude.{slice_get, reverse}
use Rattle.std.proofs.lemmas.List.{length-reverse, reverse-append}
use Rattle.std.proofs.lemmas.Option.{none-some}
use Rattle.tac_ir.specs.Events.{TacEvent, Made}
use Rattle.pool_simulation.specs.Comparing.{made_in}

-- ---- where objects were placed, the first one first

get_in_front : (xs ys : List ℕ) (number x : ℕ) → slice_get xs number ≡ Some x → slice_get (xs ++ ys) number ≡ Some x
get_in_front [] ys number x there = absurd (none-some x there)
get_in_front (first ∷ xs) ys zero x there = there
get_in_front (first ∷ xs) ys (suc number) x there = get_in_front xs ys number x there

get_behind : (xs : List ℕ) (x : ℕ) → slice_get (xs ++ x ∷ []) (length xs) ≡ Some x
get_behind [] x = refl
get_behind (first ∷ xs) x = get_behind xs x

one_more : (starts : List ℕ) (start : ℕ) → reverse (start ∷ starts) ≡ reverse starts ++ start ∷ []
one_more starts start = reverse-append (start ∷ []) starts

-- those placed before keep their numbers
pub older_start : (starts : List ℕ) (start number address : ℕ) → slice_get (reverse starts) number ≡ Some address → slice_get (reverse (start ∷ starts)) number ≡ Some address
older_start starts start number address is = ap (λ xs. slice_get xs number) (one_more starts start) ∙ get_in_front (reverse starts) (start ∷ []) number address is

pub newest_start : (starts : List ℕ) (start : ℕ) → slice_get (reverse (start ∷ starts)) (length starts) ≡ Some start
newest_start starts start =
    ap (λ xs. slice_get xs (length starts)) (one_more starts start) ∙ ap (λ n. slice_get (reverse starts ++ start ∷ []) n) (sym (length-reverse starts)) ∙ get_behind (reverse starts) start

-- ---- events

-- one more object was made
pub made_one : (trace : List TacEvent) (site object size : ℕ) → made_in (trace ++ Made site object size ∷ []) ≡ made_in trace ++ size ∷ []
made_one [] site object size = refl
made_one (Made other_site other other_size ∷ trace) site object size = ap (λ (rest : List ℕ). other_size ∷ rest) (made_one trace site object size)
made_one (first ∷ trace) site object size = made_one trace site object size
