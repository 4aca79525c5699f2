-- Lists that grow at their end, and what stands at their numbers.
use Rattle.std.proofs.Common.{◌≡◌, ℕ, zero, suc, ◌+◌, ◌<◌, ◌≤◌, Bool, true, false, cond, eqb, List, [], ◌∷◌, ◌++◌, length, drop, Option, Some, None, refl, sym, ap, subst, ◌∙◌, ◌⊎◌, inl, inr, arith}
use Rattle.std.specs.Prelude.{nat_lt, slice_get}
use Rattle.std.proofs.Math.ListN.{set}
use Rattle.std.proofs.lemmas.Bool.{cases_eq, cond-true, cond-false, eq-eqb, ne_eqb, ltb-true, ltb-false}
use Rattle.std.proofs.lemmas.Option.{none-some, same_Some, slice_get_past}

module _ {A : Type 0} where
  pub drop_some : (xs : List A) (i : ℕ) (x : A) → slice_get xs i ≡ Some x → drop i xs ≡ x ∷ drop (suc i) xs
  drop_some [] i x h = absurd (none-some x h)
  drop_some (y ∷ xs) zero x h = ap (λ z. z ∷ xs) (same_Some y x h)
  drop_some (y ∷ xs) (suc i) x h = drop_some xs i x h

  pub drop_none : (xs : List A) (i : ℕ) → slice_get xs i ≡ None → drop i xs ≡ []
  drop_none [] zero h = refl
  drop_none [] (suc i) h = refl
  drop_none (y ∷ xs) zero h = absurd (none-some y (sym h))
  drop_none (y ∷ xs) (suc i) h = drop_none xs i h

  last_of : (xs : List A) (y : A) → slice_get (xs ++ y ∷ []) (length xs) ≡ Some y
  last_of [] y = refl
  last_of (x ∷ xs) y = last_of xs y

  before : (xs : List A) (y : A) (n : ℕ) → n < length xs → slice_get (xs ++ y ∷ []) n ≡ slice_get xs n
  before [] y n h = absurd (omega arith)
  before (x ∷ xs) y zero h = refl
  before (x ∷ xs) y (suc n) h = before xs y n (omega arith)

  -- something holds at each number below a bound
  pub each_more : (holds : ℕ → Option A → Type 0) (xs : List A) (y : A) (count : ℕ) → length xs ≡ count → ((n : ℕ) → n < count → holds n (slice_get xs n)) → holds count (Some y)
      → (n : ℕ) → n < count + 1 → holds n (slice_get (xs ++ y ∷ []) n)
  each_more holds xs y count long each here n less = by (cases_eq n count)
    where
      by : (n ≡ count) ⊎ (n ≡ count → ⊥) → holds n (slice_get (xs ++ y ∷ []) n)
      by (inl e) = subst (λ m. holds m (slice_get (xs ++ y ∷ []) m)) (sym e) (subst (λ m. holds count (slice_get (xs ++ y ∷ []) m)) long (subst (holds count) (sym (last_of xs y)) here))
      by (inr differ) = subst (holds n) (sym (before xs y n (omega arith))) (each n (omega arith))

  pub each_pushed : (holds : ℕ → Option A → Type 0) (xs new : List A) (y : A) (count : ℕ) → new ≡ xs ++ y ∷ [] → length xs ≡ count → ((n : ℕ) → n < count → holds n (slice_get xs n)) → holds count (Some y)
      → (n : ℕ) → n < count + 1 → holds n (slice_get new n)
  each_pushed holds xs new y count is long each here n less = subst (λ l. holds n (slice_get l n)) (sym is) (each_more holds xs y count long each here n less)

  pub each_all : (holds : ℕ → Option A → Type 0) (xs : List A) (count : ℕ) → length xs ≡ count → ((n : ℕ) → n < count → holds n (slice_get xs n)) → ((n : ℕ) → count ≤ n → holds n None)
      → (n : ℕ) → holds n (slice_get xs n)
  each_all holds xs count long each beyond n = by (nat_lt n count) refl
    where
      by : (b : Bool) → nat_lt n count ≡ b → holds n (slice_get xs n)
      by true e = each n (ltb-true n count e)
      by false e = let over : count ≤ n = ltb-false n count e in subst (holds n) (sym (slice_get_past xs n (omega arith))) (beyond n over)

  -- ---- one that is set

  set_same : (xs : List A) (n : ℕ) (y : A) → n < length xs → slice_get (set xs n y) n ≡ Some y
  set_same [] n y h = absurd (omega arith)
  set_same (x ∷ xs) zero y h = refl
  set_same (x ∷ xs) (suc n) y h = set_same xs n y (omega arith)

  set_other : (xs : List A) (n m : ℕ) (y : A) → (n ≡ m → ⊥) → slice_get (set xs n y) m ≡ slice_get xs m
  set_other [] zero m y differ = refl
  set_other [] (suc n) m y differ = refl
  set_other (x ∷ xs) zero zero y differ = absurd (differ refl)
  set_other (x ∷ xs) zero (suc m) y differ = refl
  set_other (x ∷ xs) (suc n) zero y differ = refl
  set_other (x ∷ xs) (suc n) (suc m) y differ = set_other xs n m y (λ e. differ (ap suc e))

  pub after_set : (xs : List A) (n : ℕ) (y : A) → n < length xs → (m : ℕ) → slice_get (set xs n y) m ≡ cond (eqb n m) (Some y) (slice_get xs m)
  after_set xs n y less m = by (cases_eq n m)
    where
      by : (n ≡ m) ⊎ (n ≡ m → ⊥) → slice_get (set xs n y) m ≡ cond (eqb n m) (Some y) (slice_get xs m)
      by (inl e) = ap (slice_get (set xs n y)) (sym e) ∙ set_same xs n y less ∙ sym (cond-true (eqb n m) (Some y) (slice_get xs m) (eq-eqb n m e))
      by (inr differ) = set_other xs n m y differ ∙ sym (cond-false (eqb n m) (Some y) (slice_get xs m) (ne_eqb n m differ))
