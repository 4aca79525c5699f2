-- What stands at which place of a list that is put together or written to.
use Rattle.std.proofs.Common.{◌≡◌, ℕ, zero, suc, ◌<◌, ◌⊎◌, List, [], ◌∷◌, ◌++◌, length, set, Some, inl, inr, refl, ap, arith}
use Rattle.std.specs.Prelude.{slice_get}
use Rattle.std.proofs.lemmas.Option.{none-some, same_Some}

module _ {X : Type 0} where
  pub append_before : (a b : List X) (q : ℕ) → q < length a → slice_get (a ++ b) q ≡ slice_get a q
  append_before [] b q lt = absurd (omega (arith, lt))
  append_before (x ∷ a) b zero lt = refl
  append_before (x ∷ a) b (suc q) lt = append_before a b q (omega (arith, lt))

  pub append_at : (a : List X) (v : X) (q : ℕ) → q ≡ length a → slice_get (a ++ v ∷ []) q ≡ Some v
  append_at [] v zero e = refl
  append_at [] v (suc q) e = absurd (omega (arith, e))
  append_at (x ∷ a) v zero e = absurd (omega (arith, e))
  append_at (x ∷ a) v (suc q) e = append_at a v q (omega (arith, e))

  pub set_same : (list : List X) (i : ℕ) (v : X) → i < length list → slice_get (set list i v) i ≡ Some v
  set_same [] i v lt = absurd (omega (arith, lt))
  set_same (x ∷ list) zero v lt = refl
  set_same (x ∷ list) (suc i) v lt = set_same list i v (omega (arith, lt))

  pub set_other : (list : List X) (i j : ℕ) (v : X) → (j ≡ i → ⊥) → slice_get (set list i v) j ≡ slice_get list j
  set_other [] i j v ne = refl
  set_other (x ∷ list) zero zero v ne = absurd (ne refl)
  set_other (x ∷ list) zero (suc j) v ne = refl
  set_other (x ∷ list) (suc i) zero v ne = refl
  set_other (x ∷ list) (suc i) (suc j) v ne = set_other list i j v (λ e. ne (ap suc e))

  -- one more at the end
  pub at_more : (list : List X) (one : X) (x : ℕ) (v : X) → slice_get (list ++ one ∷ []) x ≡ Some v → (slice_get list x ≡ Some v) ⊎ ((x ≡ length list) × (one ≡ v))
  at_more [] one zero v is = inr (refl, same_Some one v is)
  at_more [] one (suc x) v is = absurd (none-some v is)
  at_more (first ∷ list) one zero v is = inl is
  at_more (first ∷ list) one (suc x) v is = elim (at_more list one x v is) [ inl old ↦ inl old | inr new ↦ inr (omega (arith, new.0), new.1) ]

  pub keep_more : (list : List X) (one : X) (x : ℕ) (v : X) → slice_get list x ≡ Some v → slice_get (list ++ one ∷ []) x ≡ Some v
  keep_more [] one x v is = absurd (none-some v is)
  keep_more (first ∷ list) one zero v is = is
  keep_more (first ∷ list) one (suc x) v is = keep_more list one x v is

  pub last_more : (list : List X) (one : X) → slice_get (list ++ one ∷ []) (length list) ≡ Some one
  last_more [] one = refl
  last_more (first ∷ list) one = last_more list one
