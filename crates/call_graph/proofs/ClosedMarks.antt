-- The marks of nodes where a group is closed.
use Rattle.std.proofs.Common.{◌≡◌, ℕ, ◌<◌, ◌≤◌, ◌⊎◌, Bool, true, false, Option, Some, None, if◌then◌else◌, nat_lt, inl, inr, refl, ap, arith, ltb-true, ltb-false, lt-ltb}
use Rattle.std.specs.Prelude.{option_map}
use Rattle.std.proofs.lemmas.Option.{none-some}
use Rattle.call_graph.specs.declared.components.Mark.{Mark}
use Rattle.call_graph.specs.declared.components.Mark.TheVariants.{Unseen, Open, Done}
use Rattle.call_graph.specs.Searches.{closed_mark}

module _ (start count : ℕ) where
  open_test : (j i : ℕ) (b : Bool) → nat_lt j start ≡ b → Some (if b then Open j else Done count) ≡ Some (Open i) → (Some (Open j) ≡ Some (Open i)) × (i < start)
  open_test j i true lt e = let same : j ≡ i = cc in (e, omega (arith, ltb-true j start lt, same))
  open_test j i false lt e = absurd (cc)

  pub open_before : (m : Option Mark) (i : ℕ) → option_map (closed_mark start count) m ≡ Some (Open i) → (m ≡ Some (Open i)) × (i < start)
  open_before None i is = absurd (none-some (Open i) is)
  open_before (Some Unseen) i is = absurd (cc)
  open_before (Some (Done d)) i is = absurd (cc)
  open_before (Some (Open j)) i is = open_test j i (nat_lt j start) refl is

  done_test : (j c : ℕ) (b : Bool) → nat_lt j start ≡ b → Some (if b then Open j else Done count) ≡ Some (Done c) → (c ≡ count) × ((i : ℕ) × (start ≤ i) × (Some (Open j) ≡ Some (Open i)))
  done_test j c true lt e = absurd (cc)
  done_test j c false lt e = let same : c ≡ count = cc in (same, (j, ltb-false j start lt, refl))

  pub done_before : (m : Option Mark) (c : ℕ) → option_map (closed_mark start count) m ≡ Some (Done c) → (m ≡ Some (Done c)) ⊎ ((c ≡ count) × ((i : ℕ) × (start ≤ i) × (m ≡ Some (Open i))))
  done_before None c is = absurd (none-some (Done c) is)
  done_before (Some Unseen) c is = absurd (cc)
  done_before (Some (Done d)) c is = inl is
  done_before (Some (Open j)) c is = inr (done_test j c (nat_lt j start) refl is)

  pub unseen_before : (m : Option Mark) → option_map (closed_mark start count) m ≡ Some Unseen → m ≡ Some Unseen
  unseen_before None is = absurd (none-some Unseen is)
  unseen_before (Some Unseen) is = is
  unseen_before (Some (Done d)) is = is
  unseen_before (Some (Open j)) is = by (nat_lt j start) is
    where
      by : (b : Bool) → Some (if b then Open j else Done count) ≡ Some Unseen → Some (Open j) ≡ Some Unseen
      by true e = e
      by false e = absurd (cc)

  pub open_after : (i : ℕ) → i < start → option_map (closed_mark start count) (Some (Open i)) ≡ Some (Open i)
  open_after i lt = ap (λ (b : Bool). Some (if b then Open i else Done count)) (lt-ltb i start lt)

  pub done_after : (i : ℕ) → start ≤ i → option_map (closed_mark start count) (Some (Open i)) ≡ Some (Done count)
  done_after i le = by (nat_lt i start) refl
    where
      by : (b : Bool) → nat_lt i start ≡ b → Some (if b then Open i else Done count) ≡ Some (Done count)
      by true lt = absurd (omega (arith, ltb-true i start lt, le))
      by false lt = refl
