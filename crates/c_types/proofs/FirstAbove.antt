-- The first number that is greater than a limit, in lists one behind another.
use Rattle.std.proofs.Common.{◌≡◌, ℕ, ◌<◌, nat_lt, Bool, true, false, cond, List, [], ◌∷◌, ◌++◌, map, Some, None, refl, sym, ap}
use Rattle.std.proofs.lemmas.Bool.Decides.{Decides-ltb}
use Rattle.std.proofs.lemmas.Option.{none-some}
use Rattle.c_typed.specs.Types.{CType, Void, Integer, Pointer, Array, Struct, Function}
use Rattle.c_types.specs.Limits.{first_above, parts}

above-here : (greatest n : ℕ) (others : List ℕ) → greatest < n → first_above greatest (n ∷ others) ≡ Some n
above-here greatest n others h = ap (λ b. cond b (Some n) (first_above greatest others)) ((Decides-ltb greatest n).1 h)

module _ {A : Type 0} (measure : A → ℕ) (greatest : ℕ) where
  -- where none is greater, it is the first of those behind
  pub above-behind : (xs ys : List A) → first_above greatest (map measure xs) ≡ None → first_above greatest (map measure (xs ++ ys)) ≡ first_above greatest (map measure ys)
  above-behind [] ys h = refl
  above-behind (x ∷ xs) ys h = by (above-behind xs ys) (nat_lt greatest (measure x)) h
    where
      by : (first_above greatest (map measure xs) ≡ None → first_above greatest (map measure (xs ++ ys)) ≡ first_above greatest (map measure ys)) → (b : Bool) → cond b (Some (measure x)) (first_above greatest (map measure xs)) ≡ None → cond b (Some (measure x)) (first_above greatest (map measure (xs ++ ys))) ≡ first_above greatest (map measure ys)
      by rest true e = absurd (none-some (measure x) (sym e))
      by rest false e = rest e

  -- one that is greater stays the first in front of others
  pub above-before : (n : ℕ) (xs ys : List A) → first_above greatest (map measure xs) ≡ Some n → first_above greatest (map measure (xs ++ ys)) ≡ Some n
  above-before n [] ys h = absurd (none-some n h)
  above-before n (x ∷ xs) ys h = by (above-before n xs ys) (nat_lt greatest (measure x)) h
    where
      by : (first_above greatest (map measure xs) ≡ Some n → first_above greatest (map measure (xs ++ ys)) ≡ Some n) → (b : Bool) → cond b (Some (measure x)) (first_above greatest (map measure xs)) ≡ Some n → cond b (Some (measure x)) (first_above greatest (map measure (xs ++ ys))) ≡ Some n
      by rest true e = e
      by rest false e = rest e

-- a type is the first of its parts
pub above-whole : (measure : CType → ℕ) (greatest : ℕ) (t : CType) → greatest < measure t → first_above greatest (map measure (parts t)) ≡ Some (measure t)
above-whole measure greatest Void h = above-here greatest _ [] h
above-whole measure greatest (Integer t) h = above-here greatest _ [] h
above-whole measure greatest (Pointer t) h = above-here greatest _ _ h
above-whole measure greatest (Array t n) h = above-here greatest _ _ h
above-whole measure greatest (Struct tag) h = above-here greatest _ [] h
above-whole measure greatest (Function t ts) h = above-here greatest _ _ h
