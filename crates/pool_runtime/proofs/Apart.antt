-- Held runs lie apart, and stay held when others are taken and given back.
use Rattle.std.proofs.Common.{◌≡◌, ℕ, ◌+◌, ◌<◌, ◌≤◌, List, Option, Some, None, length, sym, ◌∙◌, inl, inr, arith}
use Rattle.std.proofs.lemmas.Bool.{cases_lt}
use Rattle.slab_space.specs.Runs.{with_run, IsFreeRun, IsHeldRun}
use Rattle.slab_space.proofs.WithRun.{length-with_run, get_or-with_run_in, get_or-with_run_below, get_or-with_run_above}
use Rattle.pool_runtime.specs.Bytes.{Apart}

some_same : {a b : ℕ} → Some a ≡ Some b → a ≡ b
some_same e = cc

some_none : {a : ℕ} → ¬ (Some a ≡ None)
some_none e = cc

module _ (owners : List (Option ℕ)) (f n : ℕ) (one : IsHeldRun owners f n) where
  module _ (g m : ℕ) (two : IsHeldRun owners g m) where
    pub same_first : (slab : ℕ) → f ≤ slab → slab < f + n → g ≤ slab → slab < g + m → f ≡ g
    same_first slab low high low' high' = some_same (sym (one.held slab low high) ∙ two.held slab low' high')

    pub held_apart : ¬ (f ≡ g) → Apart f n g m
    held_apart differ =
        elim (cases_lt g (f + n)) [
          | inr after ↦ inl after
          | inl before ↦ elim (cases_lt f (g + m)) [
            | inr after ↦ inr after
            | inl within ↦ elim (cases_lt f g) [
              | inl first ↦ absurd (differ (same_first g (omega arith) before (omega arith) (omega (arith, two.some))))
              | inr second ↦ absurd (differ (same_first f (omega arith) (omega (arith, one.some)) second within))
            ]
          ]
        ]

  module _ (g m : ℕ) (some : 1 ≤ m) (free : IsFreeRun owners g m) where
    both : (slab : ℕ) → f ≤ slab → slab < f + n → g ≤ slab → slab < g + m → Some f ≡ None
    both slab low high low' high' = sym (one.held slab low high) ∙ free.free slab low' high'

    pub free_apart : Apart f n g m
    free_apart =
        elim (cases_lt g (f + n)) [
          | inr after ↦ inl after
          | inl before ↦ elim (cases_lt f (g + m)) [
            | inr after ↦ inr after
            | inl within ↦ elim (cases_lt f g) [
              | inl first ↦ absurd (some_none (both g (omega arith) before (omega arith) (omega (arith, some))))
              | inr second ↦ absurd (some_none (both f (omega arith) (omega (arith, one.some)) second within))
            ]
          ]
        ]

  -- a run that another one does not touch
  pub held_kept : (g m : ℕ) (x : Option ℕ) → g + m ≤ length owners → Apart f n g m → IsHeldRun (with_run owners g m x) f n
  held_kept g m x inside apart = record {
    some = one.some;
    inside = let long = length-with_run owners g m x inside in omega (arith, one.inside, long);
    held = λ slab low high. elim apart [
      | inl before ↦ get_or-with_run_below owners g m slab x None inside (omega arith) ∙ one.held slab low high
      | inr behind ↦ get_or-with_run_above owners g m slab x None inside (omega arith) ∙ one.held slab low high
    ];
  }

pub taken_run : (owners : List (Option ℕ)) (g m : ℕ) → 1 ≤ m → g + m ≤ length owners → IsHeldRun (with_run owners g m (Some g)) g m
taken_run owners g m some inside = record {
  some = some;
  inside = let long = length-with_run owners g m (Some g) inside in omega (arith, long);
  held = λ slab low high. get_or-with_run_in owners g m slab (Some g) None inside low high;
}
