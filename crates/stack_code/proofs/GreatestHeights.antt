-- Heights of parts one behind another: the greatest of theirs.
use Rattle.std.proofs.Common.{◌≡◌, ℕ, ◌+◌, ◌<◌, ◌≤◌, List, [], ◌∷◌, length, map, drop, ap, ◌∙◌, arith}
use Rattle.std.specs.Prelude.{max}
use Rattle.std.proofs.Math.ListN.{get_or}
use Rattle.std.proofs.lemmas.List.{drop_all}
use Rattle.pool_ir.specs.Code.{Step}
use Rattle.stack_code.specs.Emitting.{steps_height}
use Rattle.stack_code.proofs.AppendedParts.{rest_at}

pub some_height : (steps : List Step) → 1 ≤ steps_height steps
some_height [] = omega arith
some_height (first ∷ others) =
    let below = some_height others in
    omega arith

module _ {M A : Type 0} (view : M → A) (height : A → ℕ) (greatest : List A → ℕ) (more : (x : A) (xs : List A) → greatest (x ∷ xs) ≡ max (height x) (greatest xs)) (parts : List M) (i : ℕ) where
  left_over : (x d : M) → i < length parts → x ≡ get_or parts i d → greatest (map view (drop i parts)) ≡ max (height (view x)) (greatest (map view (drop (i + 1) parts)))
  left_over x d within is = ap (λ left. greatest (map view left)) (rest_at parts i x d within is) ∙ more (view x) (map view (drop (i + 1) parts))

  -- a part is as high as all at most
  pub part_below : (x d : M) (so_far whole : ℕ) → i < length parts → x ≡ get_or parts i d → max so_far (greatest (map view (drop i parts))) ≡ whole → height (view x) ≤ whole
  part_below x d so_far whole within is before =
      let left = left_over x d within is in
      omega (arith, left, before)

  -- one more part
  pub height_further : (x d : M) (so_far whole : ℕ) → i < length parts → x ≡ get_or parts i d → max so_far (greatest (map view (drop i parts))) ≡ whole
      → max (max (height (view x)) so_far) (greatest (map view (drop (i + 1) parts))) ≡ whole
  height_further x d so_far whole within is before =
      let left = left_over x d within is in
      omega (arith, left, before)

  -- none is left
  pub height_end : (so_far whole : ℕ) → greatest [] ≤ so_far → length parts ≤ i → max so_far (greatest (map view (drop i parts))) ≡ whole → so_far ≡ whole
  height_end so_far whole least past before =
      let none = ap (λ left. greatest (map view left)) (drop_all i parts past) in
      omega (arith, none, before)
