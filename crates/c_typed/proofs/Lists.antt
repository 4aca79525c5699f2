-- Lists whose newest item stands in front, and places in them.
use Rattle.std.proofs.Common.{◌≡◌, ℕ, zero, suc, ◌+◌, ◌<◌, ◌≤◌, Bool, true, false, cond, List, [], ◌∷◌, ◌++◌, length, reverse, slice_get, position, get_or, ltb, is_some, Option, Some, None, refl, sym, ap, ◌∙◌, arith, ◌⊎◌, inl, inr}
use Rattle.std.proofs.lemmas.Bool.{cases_eq, ltb-false, true≢false}
use Rattle.std.proofs.lemmas.Option.{none-some, same_Some, slice_get_within, slice_get-get_or, get_or_from_slice_get}
use Rattle.std.proofs.lemmas.List.{reverse-append, length-append}
use Rattle.std.proofs.lemmas.List.Quantifiers.{position-Some}
use Rattle.std.proofs.lemmas.List.Sums.{fails_before_first}
use Rattle.std.specs.List.{position_or_len}
use Rattle.c_typed.specs.Table.{numbered}
use Rattle.c_typed.proofs.Meanings.{numbered_newest, numbered_older}

none_past : (b : Bool) (i : ℕ) → cond b (Some i) None ≡ None → b ≡ false
none_past true i e = absurd (none-some i (sym e))
none_past false i e = refl

module _ {A : Type 0} where
  numbered_last-zero : (ys : List A) (x : A) → numbered (ys ++ x ∷ []) 0 ≡ Some x
  numbered_last-zero [] x = numbered_newest x [] 0 refl
  numbered_last-zero (y ∷ ys) x =
      let long = length-append ys (x ∷ []) in
      numbered_older y (ys ++ x ∷ []) 0 (λ (e : 0 ≡ length (ys ++ x ∷ [])). absurd (omega arith)) ∙ numbered_last-zero ys x

  numbered_last-suc : (ys : List A) (x : A) (n : ℕ) → numbered (ys ++ x ∷ []) (suc n) ≡ numbered ys n
  numbered_last-suc [] x n = numbered_older x [] (suc n) (λ (e : suc n ≡ 0). absurd (omega arith))
  numbered_last-suc (y ∷ ys) x n = by (cases_eq n (length ys)) (numbered_last-suc ys x n)
    where
      long : length (ys ++ x ∷ []) ≡ length ys + 1
      long = length-append ys (x ∷ [])

      by : (n ≡ length ys) ⊎ (n ≡ length ys → ⊥) → numbered (ys ++ x ∷ []) (suc n) ≡ numbered ys n → numbered (y ∷ ys ++ x ∷ []) (suc n) ≡ numbered (y ∷ ys) n
      by (inl same) rest = numbered_newest y (ys ++ x ∷ []) (suc n) (omega (arith, long)) ∙ sym (numbered_newest y ys n same)
      by (inr other) rest =
          numbered_older y (ys ++ x ∷ []) (suc n) (λ (e : suc n ≡ length (ys ++ x ∷ [])). other (omega (arith, long)))
          ∙ rest ∙ sym (numbered_older y ys n other)

  -- the oldest stands in front once the list is turned round
  pub numbered-reverse : (xs : List A) (n : ℕ) → numbered (reverse xs) n ≡ slice_get xs n
  numbered-reverse [] n = refl
  numbered-reverse (x ∷ xs) zero = ap (λ l. numbered l 0) (reverse-append (x ∷ []) xs) ∙ numbered_last-zero (reverse xs) x
  numbered-reverse (x ∷ xs) (suc n) =
      ap (λ l. numbered l (suc n)) (reverse-append (x ∷ []) xs) ∙ numbered_last-suc (reverse xs) x n ∙ numbered-reverse xs n

  pub numbered-within : (xs : List A) (n : ℕ) → n < length xs → (x : A) × (numbered xs n ≡ Some x)
  numbered-within [] n lt = absurd (omega arith)
  numbered-within (x ∷ xs) n lt = by (cases_eq n (length xs)) (λ under. numbered-within xs n under)
    where
      by : (n ≡ length xs) ⊎ (n ≡ length xs → ⊥) → (n < length xs → (x : A) × (numbered xs n ≡ Some x)) → (y : A) × (numbered (x ∷ xs) n ≡ Some y)
      by (inl same) rest = (x, numbered_newest x xs n same)
      by (inr other) rest =
          let under : n < length xs = omega arith in
          let found = rest under in
          (found.0, numbered_older x xs n other ∙ found.1)

  pub reverse_push : (xs : List A) (x : A) → reverse (xs ++ x ∷ []) ≡ x ∷ reverse xs
  reverse_push xs x = reverse-append xs (x ∷ [])

  -- an item of a list with one more is an old one or the last
  pub get_pushed : (xs : List A) (x y : A) (n : ℕ) → slice_get (xs ++ x ∷ []) n ≡ Some y → (slice_get xs n ≡ Some y) ⊎ (x ≡ y)
  get_pushed [] x y zero e = inr (same_Some x y e)
  get_pushed [] x y (suc n) e = absurd (none-some y e)
  get_pushed (z ∷ xs) x y zero e = inl e
  get_pushed (z ∷ xs) x y (suc n) e = get_pushed xs x y n e

  -- where no item passes a test, none in any place does
  pub fails_everywhere : (test : A → Bool) (xs : List A) (n : ℕ) (x : A) → position test xs ≡ None → slice_get xs n ≡ Some x → test x ≡ false
  fails_everywhere test xs n x e at =
      let lt = slice_get_within xs n x at in
      let past : length xs ≤ position_or_len test xs = ltb-false (position_or_len test xs) (length xs) (none_past (ltb (position_or_len test xs) (length xs)) (position_or_len test xs) e) in
      let under : n < position_or_len test xs = omega arith in
      ap test (sym (get_or_from_slice_get xs n x x at)) ∙ fails_before_first test xs n x under

  -- the item at the place of the first that passes
  pub passes_there : (test : A → Bool) (xs : List A) (n : ℕ) → position test xs ≡ Some n → (x : A) × (slice_get xs n ≡ Some x) × (test x ≡ true)
  passes_there test [] n e = absurd (none-some n e)
  passes_there test (y ∷ ys) n e =
      let found = position-Some test (y ∷ ys) n y e in
      (get_or (y ∷ ys) n y, slice_get-get_or (y ∷ ys) n y found.0, found.1)

pub none_from : {A : Type 0} (o : Option A) → is_some o ≡ false → o ≡ None
none_from None e = refl
none_from (Some x) e = absurd (true≢false e)
