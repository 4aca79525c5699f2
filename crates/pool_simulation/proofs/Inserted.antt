-- Lists with one element more than others, at some place.
use Rattle.std.proofs.Common.{◌≡◌, ℕ, zero, suc, ◌+◌, ◌<◌, ◌≤◌, ◌⊎◌, Bool, true, false, cond, List, [], ◌∷◌, ◌++◌, Some, None, length, find, flat_map, refl, sym, ap, ◌∙◌, inl, inr, arith, true≢false}
use Rattle.std.specs.Prelude.{slice_index_or, slice_set}
use Rattle.slab_space.proofs.Held.{total}
use Rattle.pool_simulation.specs.Regions.{IsIn}

-- ---- elements of lists

module _ {X : Type 0} where
  pub in_left : (x : X) (xs ys : List X) → IsIn x xs → IsIn x (xs ++ ys)
  in_left x [] ys is = absurd is
  in_left x (y ∷ xs) ys (inl e) = inl e
  in_left x (y ∷ xs) ys (inr is) = inr (in_left x xs ys is)

  pub in_right : (x : X) (xs ys : List X) → IsIn x ys → IsIn x (xs ++ ys)
  in_right x [] ys is = is
  in_right x (y ∷ xs) ys is = inr (in_right x xs ys is)

  pub in_either : (x : X) (xs ys : List X) → IsIn x (xs ++ ys) → IsIn x xs ⊎ IsIn x ys
  in_either x [] ys is = inr is
  in_either x (y ∷ xs) ys (inl e) = inl (inl e)
  in_either x (y ∷ xs) ys (inr is) = elim (in_either x xs ys is) [ inl left ↦ inl (inr left) | inr right ↦ inr right ]

  pub in_total : (f : X → ℕ) (x : X) (xs : List X) → IsIn x xs → f x ≤ total f xs
  in_total f x [] is = absurd is
  in_total f x (y ∷ xs) (inl e) = omega (arith, ap f e)
  in_total f x (y ∷ xs) (inr is) = omega (arith, in_total f x xs is)

  -- where at most one element counts, two that do are the same
  pub same_one : (f : X → ℕ) (x z : X) (xs : List X) → total f xs ≤ 1 → IsIn x xs → IsIn z xs → 1 ≤ f x → 1 ≤ f z → x ≡ z
  same_one f x z [] once is has some more = absurd is
  same_one f x z (y ∷ xs) once (inl e) (inl d) some more = e ∙ sym d
  same_one f x z (y ∷ xs) once (inl e) (inr has) some more = absurd (omega (arith, once, ap f e, in_total f z xs has, some, more))
  same_one f x z (y ∷ xs) once (inr is) (inl d) some more = absurd (omega (arith, once, ap f d, in_total f x xs is, some, more))
  same_one f x z (y ∷ xs) once (inr is) (inr has) some more = same_one f x z xs (omega (arith, once)) is has some more

  found_by : (test : X → Bool) (x y : X) (b : Bool) (xs : List X) → test y ≡ b → (find test xs ≡ Some x → IsIn x xs × (test x ≡ true)) → cond b (Some y) (find test xs) ≡ Some x → IsIn x (y ∷ xs) × (test x ≡ true)
  found_by test x y true xs is behind e = let same : y ≡ x = cc in (inl (sym same), ap test (sym same) ∙ is)
  found_by test x y false xs is behind e = let found = behind e in (inr found.0, found.1)

  pub found_in : (test : X → Bool) (x : X) (xs : List X) → find test xs ≡ Some x → IsIn x xs × (test x ≡ true)
  found_in test x [] e = absurd cc
  found_in test x (y ∷ xs) e = found_by test x y (test y) xs refl (found_in test x xs) e

  some_found : (test : X → Bool) (x y : X) (b : Bool) (xs : List X) → test y ≡ b → (x ≡ y) ⊎ IsIn x xs → test x ≡ true → (IsIn x xs → (z : X) × (find test xs ≡ Some z)) → (z : X) × (cond b (Some y) (find test xs) ≡ Some z)
  some_found test x y true xs is has holds behind = (y, refl)
  some_found test x y false xs is (inl e) holds behind = let both : true ≡ false = sym holds ∙ ap test e ∙ is in absurd cc
  some_found test x y false xs is (inr has) holds behind = behind has

  pub is_found : (test : X → Bool) (x : X) (xs : List X) → IsIn x xs → test x ≡ true → (z : X) × (find test xs ≡ Some z)
  is_found test x [] is holds = absurd is
  is_found test x (y ∷ xs) is holds = some_found test x y (test y) xs refl is holds (λ has. is_found test x xs has holds)

  -- where at most one element counts, and each that passes does, one that passes is found
  pub only_found : (test : X → Bool) (f : X → ℕ) (x : X) (xs : List X) → total f xs ≤ 1 → ((z : X) → test z ≡ true → 1 ≤ f z) → IsIn x xs → test x ≡ true → find test xs ≡ Some x
  only_found test f x xs once counts is holds =
      let some = is_found test x xs is holds in let found = found_in test some.0 xs some.1 in
      some.1 ∙ ap Some (same_one f some.0 x xs once found.0 is (counts some.0 found.1) (counts x holds))

  none_by : (test : X → Bool) (y : X) (xs : List X) (b : Bool) → test y ≡ b → b ≡ false → find test xs ≡ None → cond b (Some y) (find test xs) ≡ None
  none_by test y xs true is fails none = absurd (true≢false fails)
  none_by test y xs false is fails none = none

  pub none_found : (test : X → Bool) (xs : List X) → ((x : X) → IsIn x xs → test x ≡ false) → find test xs ≡ None
  none_found test [] fails = refl
  none_found test (y ∷ xs) fails = none_by test y xs (test y) refl (fails y (inl refl)) (none_found test xs (λ x is. fails x (inr is)))

-- ---- one element more

pub data Inserted {X : Type 0} (x : X) : List X → List X → Type 0 where
  here : (xs : List X) → Inserted x xs (x ∷ xs)
  there : (y : X) (xs ys : List X) → Inserted x xs ys → Inserted x (y ∷ xs) (y ∷ ys)

module _ {X : Type 0} (x : X) where
  pub behind_all : (zs xs ys : List X) → Inserted x xs ys → Inserted x (zs ++ xs) (zs ++ ys)
  behind_all [] xs ys more = more
  behind_all (z ∷ zs) xs ys more = there z (zs ++ xs) (zs ++ ys) (behind_all zs xs ys more)

  pub before_all : (zs xs ys : List X) → Inserted x xs ys → Inserted x (xs ++ zs) (ys ++ zs)
  before_all zs _ _ (here xs) = here (xs ++ zs)
  before_all zs _ _ (there y xs ys more) = there y (xs ++ zs) (ys ++ zs) (before_all zs xs ys more)

  pub at_end : (xs : List X) → Inserted x xs (xs ++ x ∷ [])
  at_end [] = here []
  at_end (y ∷ xs) = there y xs (xs ++ x ∷ []) (at_end xs)

  pub more_total : (f : X → ℕ) (xs ys : List X) → Inserted x xs ys → total f ys ≡ f x + total f xs
  more_total f _ _ (here xs) = refl
  more_total f _ _ (there y xs ys more) = omega (arith, more_total f xs ys more)

  pub new_in : (xs ys : List X) → Inserted x xs ys → IsIn x ys
  new_in _ _ (here xs) = inl refl
  new_in _ _ (there y xs ys more) = inr (new_in xs ys more)

  pub old_in : (z : X) (xs ys : List X) → Inserted x xs ys → IsIn z xs → IsIn z ys
  old_in z _ _ (here xs) is = inr is
  old_in z _ _ (there y xs ys more) (inl e) = inl e
  old_in z _ _ (there y xs ys more) (inr is) = inr (old_in z xs ys more is)

  pub new_or_old : (z : X) (xs ys : List X) → Inserted x xs ys → IsIn z ys → (z ≡ x) ⊎ IsIn z xs
  new_or_old z _ _ (here xs) is = is
  new_or_old z _ _ (there y xs ys more) (inl e) = inr (inl e)
  new_or_old z _ _ (there y xs ys more) (inr is) = elim (new_or_old z xs ys more is) [ inl e ↦ inl e | inr old ↦ inr (inr old) ]

  -- what doesn't pass changes nothing for who looks
  pub find_other : (test : X → Bool) (xs ys : List X) → Inserted x xs ys → test x ≡ false → find test ys ≡ find test xs
  find_other test _ _ (here xs) fails = ap (λ b. cond b (Some x) (find test xs)) fails
  find_other test _ _ (there y xs ys more) fails = ap (λ found. cond (test y) (Some y) found) (find_other test xs ys more fails)

-- ---- in one part of a list of lists

module _ {X A : Type 0} (f : X → List A) (a : A) where
  pub more_in_part : (xs : List X) (i : ℕ) (d y : X) → i < length xs → Inserted a (f (slice_index_or xs i d)) (f y) → Inserted a (flat_map f xs) (flat_map f (slice_set xs i y))
  more_in_part [] i d y inside more = absurd (omega (arith, inside))
  more_in_part (x ∷ xs) zero d y inside more = before_all a (flat_map f xs) (f x) (f y) more
  more_in_part (x ∷ xs) (suc i) d y inside more = behind_all a (f x) (flat_map f xs) (flat_map f (slice_set xs i y)) (more_in_part xs i d y (omega (arith, inside)) more)

  pub less_in_part : (xs : List X) (i : ℕ) (d y : X) → i < length xs → Inserted a (f y) (f (slice_index_or xs i d)) → Inserted a (flat_map f (slice_set xs i y)) (flat_map f xs)
  less_in_part [] i d y inside more = absurd (omega (arith, inside))
  less_in_part (x ∷ xs) zero d y inside more = before_all a (flat_map f xs) (f y) (f x) more
  less_in_part (x ∷ xs) (suc i) d y inside more = behind_all a (f x) (flat_map f (slice_set xs i y)) (flat_map f xs) (less_in_part xs i d y (omega (arith, inside)) more)

  pub in_part : (xs : List X) (i : ℕ) (d : X) → i < length xs → IsIn a (f (slice_index_or xs i d)) → IsIn a (flat_map f xs)
  in_part [] i d inside is = absurd (omega (arith, inside))
  in_part (x ∷ xs) zero d inside is = in_left a (f x) (flat_map f xs) is
  in_part (x ∷ xs) (suc i) d inside is = in_right a (f x) (flat_map f xs) (in_part xs i d (omega (arith, inside)) is)
