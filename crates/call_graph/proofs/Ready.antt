-- Sets of numbers, and the components that are ready.
use Rattle.std.proofs.Common.{◌≡◌, ℕ, zero, suc, ◌<◌, ◌≤◌, ◌==◌, Bool, true, false, if◌then◌else◌, nat_lt, nat_cmp, inl, inr, List, refl, sym, ap, ◌∙◌, arith, eqb-true, ltb-true}
use Rattle.std.specs.Ordering.{is_gt}
use Rattle.std.specs.BTreeMap.{is_at}
use Rattle.std.proofs.lemmas.Bool.{false≢true, cases_eq}
use Rattle.call_graph.specs.RowLists.{is_among}
use Rattle.call_graph.specs.Orders.{unplaced}

-- ---- numbers in order

pub at_number : (k q : ℕ) → is_at (nat_cmp k) q ≡ (k == q)
at_number k q = by (nat_lt k q) (k == q) refl refl
  where
    by : (l e : Bool) → nat_lt k q ≡ l → (k == q) ≡ e → is_at (nat_cmp k) q ≡ (k == q)
    by true true lt same = absurd (omega (arith, ltb-true k q lt, eqb-true k q same))
    by true false lt same = rw lt (sym same)
    by false true lt same = rw lt (rw same refl)
    by false false lt same = rw lt (rw same refl)

pub not_above : (x y : ℕ) → is_gt (nat_cmp x y) ≡ false → x ≤ y
not_above x y is = by (nat_lt x y) (x == y) refl refl is
  where
    by : (l e : Bool) → nat_lt x y ≡ l → (x == y) ≡ e → is_gt (nat_cmp x y) ≡ false → x ≤ y
    by true e lt same given = omega (arith, ltb-true x y lt)
    by false true lt same given = omega (arith, eqb-true x y same)
    by false false lt same given = absurd (false≢true (sym given ∙ (rw lt (rw same refl))))

-- ---- how many aren't placed

pub unplaced_fewer : (old new : List ℕ) (n : ℕ) → ((node : ℕ) → is_among node old ≡ true → is_among node new ≡ true) → unplaced new n ≤ unplaced old n
unplaced_fewer old new zero still = omega arith
unplaced_fewer old new (suc n) still = by (is_among n old) (is_among n new) (still n) (unplaced_fewer old new n still)
  where
    by : (a b : Bool) → (a ≡ true → b ≡ true) → unplaced new n ≤ unplaced old n
        → (if b then unplaced new n else suc (unplaced new n)) ≤ (if a then unplaced old n else suc (unplaced old n))
    by true true h le = le
    by true false h le = absurd (false≢true (h refl))
    by false true h le = omega (arith, le)
    by false false h le = omega (arith, le)

pub one_placed : (old new : List ℕ) (n one : ℕ) → one < n → ((node : ℕ) → is_among node old ≡ true → is_among node new ≡ true) → is_among one old ≡ false → is_among one new ≡ true → unplaced new n < unplaced old n
one_placed old new zero one lt still was now = absurd (omega (arith, lt))
one_placed old new (suc n) one lt still was now = elim (cases_eq one n) [
  | inl same ↦ here (is_among n old) (is_among n new) (ap (λ k. is_among k old) (sym same) ∙ was) (ap (λ k. is_among k new) (sym same) ∙ now) (unplaced_fewer old new n still)
  | inr other ↦ below (is_among n old) (is_among n new) (still n) (one_placed old new n one (omega (arith, lt, other)) still was now)
]
  where
    here : (a b : Bool) → a ≡ false → b ≡ true → unplaced new n ≤ unplaced old n
        → (if b then unplaced new n else suc (unplaced new n)) < (if a then unplaced old n else suc (unplaced old n))
    here true b e f le = absurd (false≢true (sym e))
    here false true e f le = omega (arith, le)
    here false false e f le = absurd (false≢true f)

    below : (a b : Bool) → (a ≡ true → b ≡ true) → unplaced new n < unplaced old n
        → (if b then unplaced new n else suc (unplaced new n)) < (if a then unplaced old n else suc (unplaced old n))
    below true true h less = less
    below true false h less = absurd (false≢true (h refl))
    below false true h less = omega (arith, less)
    below false false h less = omega (arith, less)
