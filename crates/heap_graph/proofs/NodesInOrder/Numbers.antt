-- Where nodes stand in an order to which one more is added.
use Rattle.std.proofs.Common.{◌≡◌, ℕ, suc, ◌+◌, ◌<◌, inl, inr, List, [], ◌∷◌, ◌++◌, length, get_or, set, refl, sym, ap, subst, ◌∙◌, arith}
use Rattle.std.specs.Prelude.{◌==◌, if◌then◌else◌}
use Rattle.std.proofs.lemmas.Bool.{cases_eq, eq-eqb}
use Rattle.std.proofs.lemmas.Bool.Decides.{eqb_tells}
use Rattle.std.proofs.lemmas.List.{get_or-set_same, get_or-set_other, length_push}
use Rattle.heap_graph.specs.Orders.{number_from, number_in}

number_first : (count first : ℕ) (others : List ℕ) (node : ℕ) → first ≡ node → number_from count (first ∷ others) node ≡ count
number_first count first others node same = ap (λ b. if b then count else number_from (suc count) others node) (eq-eqb first node same)

number_other : (count first : ℕ) (others : List ℕ) (node : ℕ) → (first ≡ node → ⊥) → number_from count (first ∷ others) node ≡ number_from (suc count) others node
number_other count first others node differs = elim (eqb_tells first node) [
  | inl same ↦ absurd (differs same.1)
  | inr other ↦ ap (λ b. if b then count else number_from (suc count) others node) other.0
]

number_kept : (count : ℕ) (seen : List ℕ) (number node : ℕ) → (number ≡ node → ⊥) → number_from count (seen ++ number ∷ []) node ≡ number_from count seen node
number_kept count [] number node differs = number_other count number [] node differs
number_kept count (first ∷ others) number node differs = ap (λ rest. if first == node then count else rest) (number_kept (suc count) others number node differs)

number_last : (count : ℕ) (seen : List ℕ) (number : ℕ) → 0 < count → number_from count seen number ≡ 0 → number_from count (seen ++ number ∷ []) number ≡ count + length seen
number_last count [] number some unseen = number_first count number [] number refl ∙ omega arith
number_last count (first ∷ others) number some unseen = elim (cases_eq first number) [
  | inl same ↦ absurd (omega (arith, some, unseen, number_first count first others number same))
  | inr differs ↦ number_other count first (others ++ number ∷ []) number differs
      ∙ (number_last (suc count) others number (omega arith) (sym (number_other count first others number differs) ∙ unseen) ∙ omega arith)
]

-- the numbers, when one more node was added
pub numbers_more : (order numbers : List ℕ) (number : ℕ) → number < length numbers → ((node : ℕ) → get_or numbers node 0 ≡ number_in order node) → get_or numbers number 0 ≡ 0
    → (node : ℕ) → get_or (set numbers number (length (order ++ number ∷ []))) node 0 ≡ number_in (order ++ number ∷ []) node
numbers_more order numbers number within numbered unset node = elim (cases_eq node number) [
  | inl same ↦ subst (λ n. get_or (set numbers number (length (order ++ number ∷ []))) n 0 ≡ number_in (order ++ number ∷ []) n) (sym same)
      (get_or-set_same numbers number (length (order ++ number ∷ [])) 0 within ∙ (length_push order number ∙ (omega arith ∙ sym (number_last 1 order number (omega arith) (sym (numbered number) ∙ unset)))))
  | inr differs ↦ get_or-set_other numbers number node (length (order ++ number ∷ [])) 0 differs ∙ (numbered node ∙ sym (number_kept 1 order number node (λ e. differs (sym e))))
]
