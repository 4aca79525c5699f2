-- Components are counted down one by one.
use Rattle.std.proofs.Common.{◌≡◌, ℕ, zero, suc, ◌+◌, ◌-◌, ◌<◌, ◌==◌, ◌&&◌, ◌||◌, Bool, true, false, cond, if◌then◌else◌, nat_cmp, List, [], ◌∷◌, ◌++◌, length, get_or, refl, sym, ap, ◌∙◌, arith, eqb-true, eq-eqb, length-set}
use Rattle.std.specs.BTreeMap.{is_at}
use Rattle.std.specs.BTreeSet.{contains}
use Rattle.std.proofs.lemmas.Bool.{false≢true}
use Rattle.std.proofs.lemmas.List.{get_or-set_same, get_or-set_other}
use Rattle.call_graph.specs.RowLists.{is_among}
use Rattle.call_graph.proofs.RowLists.{among_append}
use Rattle.call_graph.specs.declared.order.Ordering.{Ordering}
use Rattle.call_graph.specs.Orders.{occurrences, AreCovered, CountsAll, CountsDown}
use Rattle.call_graph.proofs.Ready.{at_number}
use Rattle.call_graph.proofs.Counting.{occurs_append, occurs_once, occurs_not}

or_none : (a : Bool) → a ≡ (a || false)
or_none true = refl
or_none false = refl

pub none_counted : (old : Ordering) → CountsAll [] old old
none_counted old = record {
  each = refl;
  counts = λ node. omega arith;
  ready = λ node. or_none (contains nat_cmp old.ready node);
}

pub beyond : (list : List ℕ) (at : ℕ) → 0 < get_or list at 0 → at < length list
beyond [] at lt = absurd (omega (arith, lt))
beyond (first ∷ list) zero lt = omega arith
beyond (first ∷ list) (suc at) lt = let rest = beyond list at lt in omega (arith, rest)

positive : (n : ℕ) → 0 < n → (n == 0) ≡ false
positive n lt = by (n == 0) refl
  where
    by : (b : Bool) → (n == 0) ≡ b → (n == 0) ≡ false
    by true e = absurd (omega (arith, eqb-true n 0 e, lt))
    by false e = e

-- ---- a set after one is counted down

pub inserted_down : (caller node count : ℕ) (was now : Bool) → count ≡ 0 → now ≡ cond (is_at (nat_cmp caller) node) true was → now ≡ (if caller == node && (count == 0) then true else was)
inserted_down caller node count was now none is = is ∙ (ap (λ b. cond b true was) (at_number caller node) ∙ by (caller == node) (count == 0) (eq-eqb count 0 none))
  where
    by : (b z : Bool) → z ≡ true → cond b true was ≡ (if b && z then true else was)
    by true true e = refl
    by true false e = absurd (false≢true e)
    by false z e = refl

pub kept_down : (caller node count : ℕ) (was : Bool) → (count ≡ 0 → ⊥) → was ≡ (if caller == node && (count == 0) then true else was)
kept_down caller node count was some = by (caller == node) (count == 0) refl
  where
    by : (b z : Bool) → (count == 0) ≡ z → was ≡ (if b && z then true else was)
    by true true e = absurd (some (eqb-true count 0 e))
    by true false e = refl
    by false z e = refl

module _ (old mid new : Ordering) (done more : List ℕ) (caller : ℕ) (counted : CountsAll done old mid) (down : CountsDown caller mid new) (some : 0 < get_or mid.counts.items caller 0) (e : more ≡ done ++ caller ∷ []) where
  own : (node : ℕ) → (caller == node) ≡ true → get_or new.counts.items node 0 + 1 ≡ get_or mid.counts.items node 0
  own node is =
      let same : node ≡ caller = sym (eqb-true caller node is) in
      let now : get_or new.counts.items node 0 ≡ get_or mid.counts.items caller 0 - 1 =
      (λ i. get_or (down.counts i) (same i) 0) ∙ get_or-set_same mid.counts.items caller (get_or mid.counts.items caller 0 - 1) 0 (beyond mid.counts.items caller some) in
      let was : get_or mid.counts.items node 0 ≡ get_or mid.counts.items caller 0 = ap (λ n. get_or mid.counts.items n 0) same in
      omega (arith, now, was, some)

  other : (node : ℕ) → (caller == node) ≡ false → get_or new.counts.items node 0 ≡ get_or mid.counts.items node 0
  other node is =
      ap (λ list. get_or list node 0) down.counts
      ∙ get_or-set_other mid.counts.items caller node (get_or mid.counts.items caller 0 - 1) 0 (λ same. false≢true (sym is ∙ eq-eqb caller node (sym same)))

  all : (node : ℕ) → occurrences node more ≡ occurrences node done + occurrences node (caller ∷ [])
  all node = ap (occurrences node) e ∙ occurs_append node done (caller ∷ [])

  counts_more : (node : ℕ) → get_or old.counts.items node 0 ≡ get_or new.counts.items node 0 + occurrences node more
  counts_more node = by (caller == node) refl
    where
      by : (b : Bool) → (caller == node) ≡ b → get_or old.counts.items node 0 ≡ get_or new.counts.items node 0 + occurrences node more
      by true is =
          let one : occurrences node (caller ∷ []) ≡ 1 = ap (λ (b : Bool). if b then 1 else 0) is in
          omega (arith, counted.counts node, own node is, all node, one)
      by false is = omega (arith, counted.counts node, other node is, all node, occurs_not node caller is)

  among : (node : ℕ) → is_among node more ≡ (is_among node done || (caller == node))
  among node = ap (is_among node) e ∙ (among_append node done (caller ∷ []) ∙ ap (λ b. is_among node done || b) (sym (or_none (caller == node))))

  ready_more : (node : ℕ) → contains nat_cmp new.ready node ≡ (contains nat_cmp old.ready node || (is_among node more && (get_or new.counts.items node 0 == 0)))
  ready_more node = down.ready node ∙ (by (caller == node) refl (get_or new.counts.items caller 0 == 0) refl ∙ sym (ap (λ b. contains nat_cmp old.ready node || (b && (get_or new.counts.items node 0 == 0))) (among node)))
    where
      none_yet : (a b : Bool) → (a || (b && false)) ≡ (a || ((b || true) && false))
      none_yet true b = refl
      none_yet false true = refl
      none_yet false false = refl

      now : (a b : Bool) → true ≡ (a || ((b || true) && true))
      now true b = refl
      now false true = refl
      now false false = refl

      as_before : (a b z : Bool) → (a || (b && z)) ≡ (a || ((b || false) && z))
      as_before true b z = refl
      as_before false true z = refl
      as_before false false z = refl

      by : (b : Bool) → (caller == node) ≡ b → (z : Bool) → (get_or new.counts.items caller 0 == 0) ≡ z
          → (if b && z then true else contains nat_cmp mid.ready node) ≡ (contains nat_cmp old.ready node || ((is_among node done || b) && (get_or new.counts.items node 0 == 0)))
      by true is true none =
          let here : (get_or new.counts.items node 0 == 0) ≡ true = ap (λ n. get_or new.counts.items n 0 == 0) (sym (eqb-true caller node is)) ∙ none in
          now (contains nat_cmp old.ready node) (is_among node done) ∙ ap (λ z. contains nat_cmp old.ready node || ((is_among node done || true) && z)) (sym here)
      by true is false some' =
          let here : (get_or new.counts.items node 0 == 0) ≡ false = ap (λ n. get_or new.counts.items n 0 == 0) (sym (eqb-true caller node is)) ∙ some' in
          let before : (get_or mid.counts.items node 0 == 0) ≡ false = positive (get_or mid.counts.items node 0) (omega (arith, own node is)) in
          counted.ready node ∙ (ap (λ z. contains nat_cmp old.ready node || (is_among node done && z)) before
          ∙ (none_yet (contains nat_cmp old.ready node) (is_among node done) ∙ ap (λ z. contains nat_cmp old.ready node || ((is_among node done || true) && z)) (sym here)))
      by false is z none =
          counted.ready node ∙ (ap (λ n. contains nat_cmp old.ready node || (is_among node done && (n == 0))) (sym (other node is))
          ∙ as_before (contains nat_cmp old.ready node) (is_among node done) (get_or new.counts.items node 0 == 0))

  pub one_counted : CountsAll more old new
  one_counted = record {
    each = (ap length down.counts ∙ length-set mid.counts.items caller (get_or mid.counts.items caller 0 - 1)) ∙ counted.each;
    counts = counts_more;
    ready = ready_more;
  }

-- what is left of a node is enough
pub still_some : (old mid : Ordering) (callers done rest : List ℕ) (caller : ℕ) → AreCovered callers old.counts.items → CountsAll done old mid → callers ≡ done ++ caller ∷ rest → 0 < get_or mid.counts.items caller 0
still_some old mid callers done rest caller covered counted e =
    let all : occurrences caller callers ≡ occurrences caller done + occurrences caller (caller ∷ rest) = ap (occurrences caller) e ∙ occurs_append caller done (caller ∷ rest) in
    let here : occurrences caller (caller ∷ rest) ≡ occurrences caller (caller ∷ []) + occurrences caller rest = occurs_append caller (caller ∷ []) rest in
    omega (arith, covered caller, counted.counts caller, all, here, occurs_once caller)
