-- What holds of each of a list is read of its numbers.
use Rattle.std.proofs.Common.{◌≡◌, ℕ, zero, suc, ◌+◌, ◌<◌, Bool, true, false, ◌&&◌, not, nat_eq, List, [], ◌∷◌, length, get_or, drop, Option, Some, None, IsTrue, refl, sym, ap, ◌∙◌, arith, eqb-true, eq-eqb}
use Rattle.std.specs.List.{list_all, IsDistinct}
use Rattle.std.specs.Cmp.{nat_eq_equiv}
use Rattle.std.specs.Map.{lookup, keys_of}
use Rattle.std.proofs.lemmas.Bool.{and_from, and_parts, false≢true, not-true, ltb-true, lt-ltb}
use Rattle.std.proofs.lemmas.List.{at_drop_more}
use Rattle.std.proofs.lemmas.Map.{lookup-none}
use Rattle.std.proofs.lemmas.Map.Entries.{lookup_head, lookup_tail, none_past_head}
use Rattle.std.proofs.lemmas.Map.Keys.{IsDistinct-tail}
use Rattle.heap_graph.specs.declared.graph.Target as memory_target
use Rattle.heap_graph.specs.Graphs.{Target}
use Rattle.heap_graph.specs.Memory.{target_of}
use Rattle.heap_graph.specs.Targets.{has_target}
use Rattle.heap_graph.specs.Frozen.{optional_target, target_in}
use Rattle.graph_checker.specs.Tests.{have_none, are_below}

-- a test that fails
pub refused : {P : Type 0} (test : Bool) → false ≡ test → (P → test ≡ true) → (IsTrue false → P) × (P → IsTrue false)
refused test fails holds = (λ f. absurd (false≢true f), λ p. fails ∙ holds p)

-- one of a list fails where the others are left
pub one_fails : {X : Type 0} (test : X → Bool) (xs : List X) (i : ℕ) (x : X) (all : Bool) → i < length xs → x ≡ get_or xs i x → false ≡ test x → list_all test (drop i xs) ≡ all → false ≡ all
one_fails test xs i x all less is fails so_far =
    ap (λ b. b && list_all test (drop (i + 1) xs)) (fails ∙ ap test is) ∙ (sym (at_drop_more (list_all test) xs i x less) ∙ so_far)

-- ---- lists of targets

module _ (test : Option Target → Bool) where
  pub each_passes : test None ≡ true → (targets : List (Option memory_target.Target)) → list_all (λ target. test (optional_target target)) targets ≡ true → (number : ℕ) → test (target_in targets number) ≡ true
  each_passes none [] all number = none
  each_passes none (target ∷ targets) all zero = (and_parts _ _ all).0
  each_passes none (target ∷ targets) all (suc number) = each_passes none targets (and_parts _ _ all).1 number

  pub all_pass : (targets : List (Option memory_target.Target)) → ((number : ℕ) → test (target_in targets number) ≡ true) → list_all (λ target. test (optional_target target)) targets ≡ true
  all_pass [] each = refl
  all_pass (target ∷ targets) each = and_from _ _ (each 0) (all_pass targets (λ number. each (suc number)))

has_none : (targets : List (Option memory_target.Target)) → have_none targets ≡ true → (number : ℕ) → has_target (target_in targets number) ≡ true → ⊥
has_none [] all number has = false≢true has
has_none (target ∷ targets) all zero has = false≢true (sym (not-true _ (and_parts _ _ all).0) ∙ has)
has_none (target ∷ targets) all (suc number) has = has_none targets (and_parts _ _ all).1 number has

pub ends_at : (targets : List (Option memory_target.Target)) (first : ℕ) → have_none (drop first targets) ≡ true → (number : ℕ) → has_target (target_in targets number) ≡ true → number < first
ends_at targets zero all number has = absurd (has_none targets all number has)
ends_at [] (suc first) all number has = absurd (false≢true has)
ends_at (target ∷ targets) (suc first) all zero has = omega arith
ends_at (target ∷ targets) (suc first) all (suc number) has = omega (arith, ends_at targets first all number has)

not_there : (b : Bool) → (b ≡ true → ⊥) → not b ≡ true
not_there true has = absurd (has refl)
not_there false has = refl

none_below_zero : {n : ℕ} → n < 0 → ⊥
none_below_zero less = omega (arith, less)

one_less : {n m : ℕ} → suc n < suc m → n < m
one_less less = omega (arith, less)

pub none_from : (targets : List (Option memory_target.Target)) (first : ℕ) → ((number : ℕ) → has_target (target_in targets number) ≡ true → number < first) → have_none (drop first targets) ≡ true
none_from [] zero each = refl
none_from [] (suc first) each = refl
none_from (target ∷ targets) zero each = and_from _ _ (not_there _ (λ has. none_below_zero (each 0 has))) (none_from targets 0 (λ number has. absurd (none_below_zero (each (suc number) has))))
none_from (target ∷ targets) (suc first) each = none_from targets first (λ number has. one_less (each (suc number) has))

-- ---- maps

module _ (test : Option Target → Bool) (none : test None ≡ true) where
  pub each_entry_passes : (entries : List (ℕ × memory_target.Target)) → list_all (λ (entry : ℕ × memory_target.Target). test (Some (target_of entry.1))) entries ≡ true → (number : ℕ)
      → test (optional_target (lookup (nat_eq number) entries)) ≡ true
  each_entry_passes [] all number = none
  each_entry_passes (entry ∷ entries) all number = by (each_entry_passes entries (and_parts _ _ all).1 number) (nat_eq number entry.0) refl
    where
      by : test (optional_target (lookup (nat_eq number) entries)) ≡ true → (b : Bool) → nat_eq number entry.0 ≡ b → test (optional_target (lookup (nat_eq number) (entry ∷ entries))) ≡ true
      by later true is = ap (λ o. test (optional_target o)) (lookup_head (nat_eq number) entry entries is) ∙ (and_parts _ _ all).0
      by later false is = ap (λ o. test (optional_target o)) (lookup_tail (nat_eq number) entry entries is) ∙ later

  pub entries_pass : (entries : List (ℕ × memory_target.Target)) → IsDistinct nat_eq (keys_of entries) → ((number : ℕ) → test (optional_target (lookup (nat_eq number) entries)) ≡ true)
      → list_all (λ (entry : ℕ × memory_target.Target). test (Some (target_of entry.1))) entries ≡ true
  entries_pass [] distinct each = refl
  entries_pass (entry ∷ entries) distinct each =
      and_from _ _ (ap (λ o. test (optional_target o)) (sym (lookup_head (nat_eq entry.0) entry entries (eq-eqb entry.0 entry.0 refl))) ∙ each entry.0)
      (entries_pass entries (IsDistinct-tail nat_eq entry.0 (keys_of entries) distinct) (λ number. by number (nat_eq number entry.0) refl))
    where
      by : (number : ℕ) (b : Bool) → nat_eq number entry.0 ≡ b → test (optional_target (lookup (nat_eq number) entries)) ≡ true
      by number true is = ap (λ o. test (optional_target o)) (lookup-none (nat_eq number) entries (none_past_head nat_eq_equiv number entry entries distinct is)) ∙ none
      by number false is = ap (λ o. test (optional_target o)) (sym (lookup_tail (nat_eq number) entry entries is)) ∙ each number

pub each_is_below : (count : ℕ) (entries : List (ℕ × memory_target.Target)) → are_below count (keys_of entries) ≡ true → (number : ℕ) → has_target (optional_target (lookup (nat_eq number) entries)) ≡ true → number < count
each_is_below count [] all number has = absurd (false≢true has)
each_is_below count (entry ∷ entries) all number has = by (each_is_below count entries (and_parts _ _ all).1 number) (nat_eq number entry.0) refl
  where
    by : (has_target (optional_target (lookup (nat_eq number) entries)) ≡ true → number < count) → (b : Bool) → nat_eq number entry.0 ≡ b → number < count
    by later true is = omega (arith, eqb-true number entry.0 is, ltb-true entry.0 count (and_parts _ _ all).0)
    by later false is = later (ap (λ o. has_target (optional_target o)) (sym (lookup_tail (nat_eq number) entry entries is)) ∙ has)

pub all_are_below : (count : ℕ) (entries : List (ℕ × memory_target.Target)) → ((number : ℕ) → has_target (optional_target (lookup (nat_eq number) entries)) ≡ true → number < count) → are_below count (keys_of entries) ≡ true
all_are_below count [] each = refl
all_are_below count (entry ∷ entries) each =
    and_from _ _ (lt-ltb entry.0 count (each entry.0 (ap (λ o. has_target (optional_target o)) (lookup_head (nat_eq entry.0) entry entries (eq-eqb entry.0 entry.0 refl)))))
    (all_are_below count entries (λ number has. by number has (nat_eq number entry.0) refl))
  where
    by : (number : ℕ) → has_target (optional_target (lookup (nat_eq number) entries)) ≡ true → (b : Bool) → nat_eq number entry.0 ≡ b → number < count
    by number has true is = each number (ap (λ o. has_target (optional_target o)) (lookup_head (nat_eq number) entry entries is))
    by number has false is = each number (ap (λ o. has_target (optional_target o)) (lookup_tail (nat_eq number) entry entries is) ∙ has)
