-- What is found in a list of entries stands at a place in the list of its keys, and what stands there is found.
use Rattle.std.proofs.Common.{◌≡◌, ℕ, zero, suc, ◌<◌, ◌==◌, Bool, true, false, cond, List, [], ◌∷◌, length, get_or, Some, refl, sym, ap, ◌∙◌, true≢false, is_some, arith, eqb-true, eq-eqb}
use Rattle.std.specs.Map.{keys_of, lookup}

module _ {V : Type 0} where
  module _ (number : ℕ) where
    -- the key at this place
    pub record IsKey (entries : List (ℕ × V)) (place : ℕ) : Type 0 where
      pub within : place < length (keys_of entries)
      pub is : get_or (keys_of entries) place 0 ≡ number

    pub key_found : (entries : List (ℕ × V)) (value : V) → lookup (λ key. number == key) entries ≡ Some value → (place : ℕ) × IsKey entries place
    key_found [] value is = absurd (true≢false (sym (ap is_some is)))
    key_found (first ∷ others) value is = by (number == first.0) refl (key_found others value)
      where
        by : (test : Bool) → (number == first.0) ≡ test → (lookup (λ key. number == key) others ≡ Some value → (place : ℕ) × IsKey others place)
            → (place : ℕ) × IsKey (first ∷ others) place
        by true same rest = (0, record { within = omega arith; is = sym (eqb-true number first.0 same) })
        by false apart rest =
            let found = rest (sym (ap (λ test. cond test (Some first.1) (lookup (λ key. number == key) others)) apart) ∙ is) in
            (suc found.0, record { within = omega (arith, found.1.within); is = found.1.is })

  pub key_there : (entries : List (ℕ × V)) (place : ℕ) → place < length (keys_of entries) → (value : V) × (lookup (λ key. get_or (keys_of entries) place 0 == key) entries ≡ Some value)
  key_there [] place within = absurd (omega arith)
  key_there (first ∷ others) zero within = (first.1, ap (λ test. cond test (Some first.1) (lookup (λ key. first.0 == key) others)) (eq-eqb first.0 first.0 refl))
  key_there (first ∷ others) (suc place) within = by (get_or (keys_of others) place 0 == first.0) refl (key_there others place (omega arith))
    where
      by : (test : Bool) → (get_or (keys_of others) place 0 == first.0) ≡ test → (value : V) × (lookup (λ key. get_or (keys_of others) place 0 == key) others ≡ Some value)
          → (value : V) × (lookup (λ key. get_or (keys_of others) place 0 == key) (first ∷ others) ≡ Some value)
      by true same rest = (first.1, ap (λ test. cond test (Some first.1) (lookup (λ key. get_or (keys_of others) place 0 == key) others)) same)
      by false apart rest = (rest.0, ap (λ test. cond test (Some first.1) (lookup (λ key. get_or (keys_of others) place 0 == key) others)) apart ∙ rest.1)
