-- The last item of a list, where what is newest stands last.
use Rattle.std.proofs.Common.{◌≡◌, suc, List, [], ◌∷◌, ◌++◌, ℕ, length, reverse, set, sym, ap, ◌∙◌, arith, length-append, take, take-suc, take_all, slice_index_or}
use Rattle.std.proofs.lemmas.List.{reverse-reverse, reverse-append}
use Rattle.std.proofs.Math.Seq.{set-append_seam}

pub newest-last : {X : Type 0} (items : List X) (first : X) (others : List X) → reverse items ≡ first ∷ others → items ≡ reverse others ++ first ∷ []
newest-last items first others e = sym (reverse-reverse items) ∙ (ap reverse e ∙ reverse-append (first ∷ []) others)

pub set-newest : {X : Type 0} (items : List X) (top : ℕ) (value first : X) (others : List X) → suc top ≡ length items → reverse items ≡ first ∷ others → reverse (set items top value) ≡ value ∷ others
set-newest items top value first others number e =
    ap (λ l. reverse (set l top value)) is
    ∙ (ap (λ n. reverse (set (reverse others ++ first ∷ []) n value)) at
    ∙ (ap reverse (set-append_seam (reverse others) first [] value) ∙ (reverse-append (reverse others) (value ∷ []) ∙ ap (λ l. value ∷ l) (reverse-reverse others))))
  where
    is : items ≡ reverse others ++ first ∷ []
    is = newest-last items first others e

    at : top ≡ length (reverse others)
    at = omega (arith, number ∙ (ap length is ∙ length-append (reverse others) (first ∷ [])))

-- the last item is the newest
pub newest-first : {X : Type 0} (items : List X) (top : ℕ) (value : X) → suc top ≡ length items → value ≡ slice_index_or items top value → reverse items ≡ value ∷ reverse (take top items)
newest-first items top value number is =
    ap reverse (sym (take_all (suc top) items (omega (arith, number))) ∙ (take-suc items top value (omega (arith, number)) ∙ ap (λ x. take top items ++ x ∷ []) (sym is)))
    ∙ reverse-append (take top items) (value ∷ [])
