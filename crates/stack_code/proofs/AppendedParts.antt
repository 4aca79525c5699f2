-- Loops that append what a list of parts is, one part behind another.
use Rattle.std.proofs.Common.{◌≡◌, ℕ, ◌+◌, ◌<◌, ◌≤◌, List, [], ◌∷◌, ◌++◌, length, map, drop, sym, ap, subst, ◌∙◌, append_assoc}
use Rattle.std.proofs.lemmas.List.{append-nil, drop_all, drop_more}
use Rattle.std.proofs.Math.ListN.{get_or}
use Rattle.std.specs.List.{AllByRecursion}

-- what is left at an index: the part there, and what is left behind it
pub rest_at : {M : Type 0} (parts : List M) (i : ℕ) (x d : M) → i < length parts → x ≡ get_or parts i d → drop i parts ≡ x ∷ drop (i + 1) parts
rest_at parts i x d within is = drop_more parts i d within ∙ ap (λ y. y ∷ drop (i + 1) parts) (sym is)

pub all_further : {M A : Type 0} (P : A → Type 0) (view : M → A) (parts : List M) (i : ℕ) (x d : M) → i < length parts → x ≡ get_or parts i d
    → AllByRecursion P (map view (drop i parts)) → P (view x) × AllByRecursion P (map view (drop (i + 1) parts))
all_further P view parts i x d within is all = subst (λ rest. AllByRecursion P (map view rest)) (rest_at parts i x d within is) all

module _ {M A C : Type 0} (view : M → A) (part : A → List C) (all : List A → List C) (nothing : all [] ≡ []) (more : (x : A) (xs : List A) → all (x ∷ xs) ≡ part x ++ all xs) where
  -- a part was appended
  pub appended : (parts : List M) (i : ℕ) (x d : M) (code further whole : List C) → i < length parts → x ≡ get_or parts i d → further ≡ code ++ part (view x)
      → code ++ all (map view (drop i parts)) ≡ whole → further ++ all (map view (drop (i + 1) parts)) ≡ whole
  appended parts i x d code further whole within is one before =
      let rest = all (map view (drop (i + 1) parts)) in
      ap (λ c. c ++ rest) one ∙ append_assoc code (part (view x)) rest
      ∙ ap (λ c. code ++ c) (sym (more (view x) (map view (drop (i + 1) parts))) ∙ ap (λ left. all (map view left)) (sym (rest_at parts i x d within is)))
      ∙ before

  -- none is left
  pub appended_all : (parts : List M) (i : ℕ) (code whole : List C) → length parts ≤ i → code ++ all (map view (drop i parts)) ≡ whole → code ≡ whole
  appended_all parts i code whole past before =
      sym (append-nil code) ∙ ap (λ c. code ++ c) (sym nothing ∙ ap (λ left. all (map view left)) (sym (drop_all i parts past))) ∙ before
