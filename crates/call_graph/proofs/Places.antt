-- What stands at which place of a list that is put together, cut or written to.
use Rattle.std.proofs.Common.{◌≡◌, ℕ, zero, suc, ◌+◌, ◌<◌, ◌⊎◌, List, [], ◌∷◌, ◌++◌, length, map, take, set, Some, inl, inr, refl, sym, ap, ◌∙◌, arith}
use Rattle.std.specs.Prelude.{slice_get}
use Rattle.std.proofs.lemmas.Option.{none-some, same_Some}

module _ {X : Type 0} where
  pub at_append : (a b : List X) (q : ℕ) (v : X) → slice_get (a ++ b) q ≡ Some v → (slice_get a q ≡ Some v) ⊎ ((r : ℕ) × (q ≡ length a + r) × (slice_get b r ≡ Some v))
  at_append [] b q v is = inr (q, omega arith, is)
  at_append (x ∷ a) b zero v is = inl is
  at_append (x ∷ a) b (suc q) v is = elim (at_append a b q v is) [ inl old ↦ inl old | inr new ↦ inr (new.0, omega (arith, new.1), new.2) ]

  pub append_left : (a b : List X) (q : ℕ) (v : X) → slice_get a q ≡ Some v → slice_get (a ++ b) q ≡ Some v
  append_left [] b q v is = absurd (none-some v is)
  append_left (x ∷ a) b zero v is = is
  append_left (x ∷ a) b (suc q) v is = append_left a b q v is

  pub append_right : (a b : List X) (q r : ℕ) (v : X) → q ≡ length a + r → slice_get b r ≡ Some v → slice_get (a ++ b) q ≡ Some v
  append_right [] b q r v e is = let same : q ≡ r = omega (arith, e) in ap (slice_get b) same ∙ is
  append_right (x ∷ a) b zero r v e is = absurd (omega (arith, e))
  append_right (x ∷ a) b (suc q) r v e is = append_right a b q r v (omega (arith, e)) is

  pub at_one : (own : X) (r : ℕ) (v : X) → slice_get (own ∷ []) r ≡ Some v → (r ≡ 0) × (v ≡ own)
  at_one own zero v is = (refl, sym (same_Some own v is))
  at_one own (suc r) v is = absurd (none-some v is)

  pub at_none : (r : ℕ) (v : X) → slice_get [] r ≡ Some v → ⊥
  at_none r v is = none-some v is

  pub set_same : (list : List X) (i : ℕ) (v : X) → i < length list → slice_get (set list i v) i ≡ Some v
  set_same [] i v lt = absurd (omega (arith, lt))
  set_same (x ∷ list) zero v lt = refl
  set_same (x ∷ list) (suc i) v lt = set_same list i v (omega (arith, lt))

  pub set_other : (list : List X) (i j : ℕ) (v : X) → (j ≡ i → ⊥) → slice_get (set list i v) j ≡ slice_get list j
  set_other [] i j v ne = refl
  set_other (x ∷ list) zero zero v ne = absurd (ne refl)
  set_other (x ∷ list) zero (suc j) v ne = refl
  set_other (x ∷ list) (suc i) zero v ne = refl
  set_other (x ∷ list) (suc i) (suc j) v ne = set_other list i j v (λ e. ne (ap suc e))

  pub at_take : (n : ℕ) (list : List X) (i : ℕ) (v : X) → slice_get (take n list) i ≡ Some v → (slice_get list i ≡ Some v) × (i < n)
  at_take zero list i v is = absurd (none-some v is)
  at_take (suc n) [] i v is = absurd (none-some v is)
  at_take (suc n) (x ∷ list) zero v is = (is, omega arith)
  at_take (suc n) (x ∷ list) (suc i) v is = let own = at_take n list i v is in (own.0, omega (arith, own.1))

  pub take_at : (n : ℕ) (list : List X) (i : ℕ) (v : X) → slice_get list i ≡ Some v → i < n → slice_get (take n list) i ≡ Some v
  take_at zero list i v is lt = absurd (omega (arith, lt))
  take_at (suc n) [] i v is lt = is
  take_at (suc n) (x ∷ list) zero v is lt = is
  take_at (suc n) (x ∷ list) (suc i) v is lt = take_at n list i v is (omega (arith, lt))

  pub last_at : (before : List X) (own : X) → slice_get (before ++ own ∷ []) (length before) ≡ Some own
  last_at before own = append_right before (own ∷ []) (length before) 0 own (omega arith) refl

pub at_map : {X Y : Type 0} (f : X → Y) (list : List X) (r : ℕ) (w : Y) → slice_get (map f list) r ≡ Some w → (v : X) × (slice_get list r ≡ Some v) × (w ≡ f v)
at_map f [] r w is = absurd (none-some w is)
at_map f (x ∷ list) zero w is = (x, refl, sym (same_Some (f x) w is))
at_map f (x ∷ list) (suc r) w is = at_map f list r w is

pub map_at : {X Y : Type 0} (f : X → Y) (list : List X) (r : ℕ) (v : X) → slice_get list r ≡ Some v → slice_get (map f list) r ≡ Some (f v)
map_at f [] r v is = absurd (none-some v is)
map_at f (x ∷ list) zero v is = ap Some (ap f (same_Some x v is))
map_at f (x ∷ list) (suc r) v is = map_at f list r v is
