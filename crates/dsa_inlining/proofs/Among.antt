-- What stands in a list passes a test.
use Rattle.std.proofs.Common.{◌≡◌, ℕ, zero, suc, ◌<◌, ◌==◌, ◌||◌, Bool, true, false, List, [], ◌∷◌, length, get_or, Contains, refl, sym, ap, subst, ◌∙◌, arith, eqb-true, eq-eqb}
use Rattle.std.specs.List.{list_any}
use Rattle.std.proofs.lemmas.Bool.{true≢false}
use Rattle.std.proofs.lemmas.List.Elements.{Contains-append_right}
use Rattle.call_graph.specs.RowLists.{is_among}

pub or_true : (b : Bool) → (b || true) ≡ true
or_true true = refl
or_true false = refl

module _ {X : Type 0} (test : X → Bool) where
  pub any_passes : (xs : List X) (x : X) → Contains xs x → test x ≡ true → list_any test xs ≡ true
  any_passes xs x has passes = by xs has.0 has.1 has.2
    where
      by : (xs : List X) (place : ℕ) → place < length xs → get_or xs place x ≡ x → list_any test xs ≡ true
      by [] place less is = absurd (omega (arith, less))
      by (first ∷ others) zero less is = ap (λ y. test y || list_any test others) is ∙ ap (λ t. t || list_any test others) passes
      by (first ∷ others) (suc place) less is = ap (λ t. test first || t) (by others place (omega (arith, less)) is) ∙ or_true (test first)

  pub record Passes (xs : List X) : Type 0 where
    pub one : X
    pub among : Contains xs one
    pub passes : test one ≡ true

  pub passes_one : (xs : List X) → list_any test xs ≡ true → Passes xs
  passes_one [] any = absurd (true≢false (sym any))
  passes_one (first ∷ others) any = by (test first) refl any (passes_one others)
    where
      by : (t : Bool) → test first ≡ t → (t || list_any test others) ≡ true → (list_any test others ≡ true → Passes others) → Passes (first ∷ others)
      by true is any rest = record { one = first; among = (0, omega arith, refl); passes = is }
      by false is any rest =
          let found = rest any in
          record { one = found.one; among = Contains-append_right (first ∷ []) others found.one found.among; passes = found.passes }

-- ---- numbers

pub contained_among : (number : ℕ) (numbers : List ℕ) → Contains numbers number → is_among number numbers ≡ true
contained_among number numbers has = any_passes (λ other. other == number) numbers number has (eq-eqb number number refl)

pub among_contained : (number : ℕ) (numbers : List ℕ) → is_among number numbers ≡ true → Contains numbers number
among_contained number numbers is =
    let found = passes_one (λ other. other == number) numbers is in
    subst (λ n. Contains numbers n) (eqb-true found.one number found.passes) found.among
