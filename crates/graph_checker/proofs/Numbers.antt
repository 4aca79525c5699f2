-- What holds of each number that a map has holds of all numbers, if nothing is asked of the others.
use Rattle.std.proofs.Common.{◌≡◌, ℕ, zero, suc, ◌+◌, ◌==◌, ◌&&◌, Bool, true, false, List, [], ◌∷◌, Option, Some, None, cond, refl, sym, ap, subst, ◌∙◌, arith, eqb-true}
use Rattle.std.specs.Prelude.{slice_get}
use Rattle.std.specs.List.{list_all}
use Rattle.std.specs.Map.{lookup, keys_of}

-- ---- tests

pub same_test : (a b : Bool) → (a ≡ true → b ≡ true) → (b ≡ true → a ≡ true) → a ≡ b
same_test true b onto back = sym (onto refl)
same_test false true onto back = back refl
same_test false false onto back = refl

both : (a b : Bool) → (a && b) ≡ true → (a ≡ true) × (b ≡ true)
both true b e = (refl, e)
both false b e = absurd (cc)

from_both : (a b : Bool) → a ≡ true → b ≡ true → (a && b) ≡ true
from_both true b e f = f
from_both false b e f = absurd (cc)

-- ---- lists

-- what is asked of the item with this number, if there is one
abbrev pub at : {A : Type 0} → (ℕ → A → Bool) → ℕ → Option A → Bool
at test number None = true
at test number (Some x) = test number x

-- of each item from a number on
abbrev pub each : {A : Type 0} → (ℕ → A → Bool) → ℕ → List A → Bool
each test number [] = true
each test number (x ∷ xs) = test number x && each test (suc number) xs

module _ {A : Type 0} (test : ℕ → A → Bool) where
  each_at : (from : ℕ) (xs : List A) → each test from xs ≡ true → (number : ℕ) → at test (from + number) (slice_get xs number) ≡ true
  each_at from [] all number = refl
  each_at from (x ∷ xs) all zero = subst (λ n. test n x ≡ true) (omega arith) (both (test from x) (each test (suc from) xs) all).0
  each_at from (x ∷ xs) all (suc number) = subst (λ n. at test n (slice_get xs number) ≡ true) (omega arith) (each_at (suc from) xs (both (test from x) (each test (suc from) xs) all).1 number)

  at_each : (from : ℕ) (xs : List A) → ((number : ℕ) → at test (from + number) (slice_get xs number) ≡ true) → each test from xs ≡ true
  at_each from [] all = refl
  at_each from (x ∷ xs) all =
      from_both (test from x) (each test (suc from) xs) (subst (λ n. test n x ≡ true) (omega arith) (all 0))
      (at_each (suc from) xs (λ number. subst (λ n. at test n (slice_get xs number) ≡ true) (omega arith) (all (suc number))))

-- ---- maps

all_keys : (holds : ℕ → Bool) (keys : List ℕ) → ((number : ℕ) → holds number ≡ true) → list_all holds keys ≡ true
all_keys holds [] all = refl
all_keys holds (key ∷ keys) all = from_both (holds key) (list_all holds keys) (all key) (all_keys holds keys all)

at_key : {T : Type 0} (holds : ℕ → Bool) (entries : List (ℕ × T)) → list_all holds (keys_of entries) ≡ true → (number : ℕ) (target : T) → lookup (λ key. number == key) entries ≡ Some target
    → holds number ≡ true
at_key holds [] all number target found = absurd (cc)
at_key {T = T} holds (entry ∷ entries) all number target found =
    let parts = both (holds entry.0) (list_all holds (keys_of entries)) all in
    by (number == entry.0) refl parts.0 (at_key holds entries parts.1 number target)
  where
    by : (b : Bool) → (number == entry.0) ≡ b → holds entry.0 ≡ true → (lookup (λ key. number == key) entries ≡ Some target → holds number ≡ true) → holds number ≡ true
    by true e here behind = subst (λ n. holds n ≡ true) (sym (eqb-true number entry.0 e)) here
    by false e here behind = behind (ap (λ b. cond b (Some entry.1) (lookup (λ key. number == key) entries)) (sym e) ∙ found)

-- a test of each key is one of each item of a list, where nothing is asked of items that the map doesn't have
pub by_keys : {A T : Type 0} (test : ℕ → A → Bool) (xs : List A) (entries : List (ℕ × T)) → ((number : ℕ) (x : A) → lookup (λ key. number == key) entries ≡ None → test number x ≡ true)
    → list_all (λ number. at test number (slice_get xs number)) (keys_of entries) ≡ each test 0 xs
by_keys {A = A} {T = T} test xs entries free =
    same_test (list_all (λ number. at test number (slice_get xs number)) (keys_of entries)) (each test 0 xs)
    (λ all. at_each test 0 xs (λ number. subst (λ n. at test n (slice_get xs number) ≡ true) (omega arith) (of all number (lookup (λ key. number == key) entries) refl)))
    (λ all. all_keys (λ number. at test number (slice_get xs number)) (keys_of entries) (λ number. subst (λ n. at test n (slice_get xs number) ≡ true) (omega arith) (each_at test 0 xs all number)))
  where
    free_at : (number : ℕ) (x : Option A) → lookup (λ key. number == key) entries ≡ None → at test number x ≡ true
    free_at number None none = refl
    free_at number (Some x) none = free number x none

    of : list_all (λ number. at test number (slice_get xs number)) (keys_of entries) ≡ true → (number : ℕ) (found : Option T) → lookup (λ key. number == key) entries ≡ found
        → at test number (slice_get xs number) ≡ true
    of all number None none = free_at number (slice_get xs number) none
    of all number (Some target) is = at_key (λ number. at test number (slice_get xs number)) entries all number target is
