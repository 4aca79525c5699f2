-- A loop that judges each of a list: what is asked of those that are left holds just where it holds of all.
use Rattle.std.proofs.Common.{◌≡◌, ℕ, ◌+◌, ◌<◌, ◌≤◌, Bool, true, false, List, ◌∷◌, map, drop, length, get_or, refl, sym, ap, subst, ◌∙◌}
use Rattle.std.specs.List.{AllByRecursion}
use Rattle.std.proofs.lemmas.Bool.{false≢true}
use Rattle.std.proofs.lemmas.List.{drop_more, drop_all}

module _ {X Y : Type 0} (f : X → Y) (P : Y → Type 0) (xs : List X) where
  abbrev pub Whole : Type 0
  Whole = AllByRecursion P (map f xs)

  abbrev pub Rest : ℕ → Type 0
  Rest i = AllByRecursion P (map f (drop i xs))

  pub record Left (i : ℕ) : Type 0 where
    pub to : Rest i → Whole
    pub from : Whole → Rest i

  abbrev pub Judges : Bool → Type 0
  Judges b = (b ≡ true → Whole) × (Whole → b ≡ true)

  pub at_start : Left 0
  at_start = record { to = λ h. h; from = λ h. h }

  -- an item is the one at the index
  split : (i : ℕ) (d x : X) → x ≡ get_or xs i d → i < length xs → map f (drop i xs) ≡ f x ∷ map f (drop (i + 1) xs)
  split i d x is within = ap (map f) (drop_more xs i d within) ∙ ap (λ y. f y ∷ map f (drop (i + 1) xs)) (sym is)

  pub holds_on : (i : ℕ) (d x : X) → x ≡ get_or xs i d → i < length xs → (b : Bool) → b ≡ true → (b ≡ true → P (f x)) × (P (f x) → b ≡ true) → Left i → Left (i + 1)
  holds_on i d x is within b e judged left = record {
    to = λ h. left.to (subst (AllByRecursion P) (sym (split i d x is within)) (judged.0 e, h));
    from = λ h. (subst (AllByRecursion P) (split i d x is within) (left.from h)).1;
  }

  pub fails : (i : ℕ) (d x : X) → x ≡ get_or xs i d → i < length xs → (b : Bool) → b ≡ false → (b ≡ true → P (f x)) × (P (f x) → b ≡ true) → Left i → Judges false
  fails i d x is within b e judged left = (λ h. absurd (false≢true h), λ h. absurd (false≢true (sym e ∙ judged.1 (subst (AllByRecursion P) (split i d x is within) (left.from h)).0)))

  pub ends : (i : ℕ) → length xs ≤ i → Left i → Judges true
  ends i out left = (λ e. left.to (subst (λ l. AllByRecursion P (map f l)) (sym (drop_all i xs out)) tt), λ h. refl)

  -- what holds of all that are left holds of the next
  pub next_of : (i : ℕ) (d x : X) → x ≡ get_or xs i d → i < length xs → Rest i → P (f x) × Rest (i + 1)
  next_of i d x is within rest = subst (AllByRecursion P) (split i d x is within) rest
