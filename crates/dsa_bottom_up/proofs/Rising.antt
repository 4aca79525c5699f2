-- Rising lists of which one has an image in the other, for each number another, are as long.
use Rattle.std.proofs.Common.{◌≡◌, ℕ, zero, suc, ◌<◌, ◌≤◌, ◌==◌, ◌⊎◌, inl, inr, Bool, true, false, cond, List, [], ◌∷◌, length, Contains, refl, sym, ap, subst, ◌∙◌, arith, eqb-true, eq-eqb}
use Rattle.std.proofs.lemmas.Bool.{false≢true}
use Rattle.tac_ir.specs.Groups.{IsIn}
use Rattle.dsa_inlining.specs.Before.{Rises}

-- ---- what a list has

pub contains_in : (xs : List ℕ) (x : ℕ) → Contains xs x → IsIn x xs
contains_in [] x (k, less, is) = absurd (omega (arith, less))
contains_in (y ∷ ys) x (zero, less, is) = inl (sym is)
contains_in (y ∷ ys) x (suc k, less, is) = inr (contains_in ys x (k, omega (arith, less), is))

pub in_contains : (xs : List ℕ) (x : ℕ) → IsIn x xs → Contains xs x
in_contains [] x is = absurd is
in_contains (y ∷ ys) x (inl same) = (0, omega arith, sym same)
in_contains (y ∷ ys) x (inr is) = let rest = in_contains ys x is in let less = rest.1 in (suc rest.0, omega (arith, less), rest.2)

-- each number of a list stands once
abbrev AreApart : List ℕ → Type 0
AreApart [] = Unit {0}
AreApart (x ∷ xs) = (IsIn x xs → ⊥) × AreApart xs

rest_rises : (x : ℕ) (xs : List ℕ) → Rises (x ∷ xs) → Rises xs
rest_rises x [] rises = tt
rest_rises x (y ∷ ys) rises = rises.1

greater : (x : ℕ) (xs : List ℕ) → Rises (x ∷ xs) → (z : ℕ) → IsIn z xs → x < z
greater x [] rises z is = absurd is
greater x (y ∷ ys) rises z (inl same) = let less = rises.0 in omega (arith, less, same)
greater x (y ∷ ys) rises z (inr is) = let less = rises.0 in let more = greater y ys rises.1 z is in omega (arith, less, more)

rising_apart : (xs : List ℕ) → Rises xs → AreApart xs
rising_apart [] rises = tt
rising_apart (x ∷ xs) rises = ((λ is. let less = greater x xs rises x is in omega (arith, less)), rising_apart xs (rest_rises x xs rises))

-- ---- one less

abbrev without : ℕ → List ℕ → List ℕ
without x [] = []
without x (y ∷ ys) = cond (y == x) ys (y ∷ without x ys)

one_less : (x : ℕ) (ys : List ℕ) → IsIn x ys → length ys ≡ suc (length (without x ys))
one_less x [] is = absurd is
one_less x (y ∷ ys) is = by (y == x) refl is (one_less x ys)
  where
    by : (b : Bool) → (y == x) ≡ b → (x ≡ y) ⊎ IsIn x ys → (IsIn x ys → length ys ≡ suc (length (without x ys))) → suc (length ys) ≡ suc (length (cond b ys (y ∷ without x ys)))
    by true e is rest = refl
    by false e (inl same) rest = absurd (false≢true (sym e ∙ eq-eqb y x (sym same)))
    by false e (inr is) rest = ap suc (rest is)

still_in : (x z : ℕ) (ys : List ℕ) → (z ≡ x → ⊥) → IsIn z ys → IsIn z (without x ys)
still_in x z [] differs is = absurd is
still_in x z (y ∷ ys) differs is = by (y == x) refl is (still_in x z ys differs)
  where
    by : (b : Bool) → (y == x) ≡ b → (z ≡ y) ⊎ IsIn z ys → (IsIn z ys → IsIn z (without x ys)) → IsIn z (cond b ys (y ∷ without x ys))
    by true e (inl same) rest = absurd (differs (same ∙ eqb-true y x e))
    by true e (inr is) rest = is
    by false e (inl same) rest = inl same
    by false e (inr is) rest = inr (rest is)

fewer : (xs ys : List ℕ) (f : ℕ → ℕ) → AreApart xs → ((x : ℕ) → IsIn x xs → IsIn (f x) ys) → ((a b : ℕ) → IsIn a xs → IsIn b xs → f a ≡ f b → a ≡ b) → length xs ≤ length ys
fewer [] ys f apart into one = omega arith
fewer (x ∷ xs) ys f apart into one =
    let rest = fewer xs (without (f x) ys) f apart.1
    (λ z is. still_in (f x) (f z) ys (λ same. apart.0 (subst (λ n. IsIn n xs) (one z x (inr is) (inl refl) same) is)) (into z (inr is)))
    (λ a b is also same. one a b (inr is) (inr also) same) in
    let long = one_less (f x) ys (into x (inl refl)) in
    omega (arith, rest, long)

-- the one is no longer than the other
pub rising_fewer : (xs ys : List ℕ) (f : ℕ → ℕ) → Rises xs → ((x : ℕ) → Contains xs x → Contains ys (f x)) → ((a b : ℕ) → Contains xs a → Contains xs b → f a ≡ f b → a ≡ b) → length xs ≤ length ys
rising_fewer xs ys f rises into one =
    fewer xs ys f (rising_apart xs rises) (λ x is. contains_in ys (f x) (into x (in_contains xs x is))) (λ a b is also same. one a b (in_contains xs a is) (in_contains xs b also) same)
