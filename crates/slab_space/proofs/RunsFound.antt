-- The search for the lowest free run, slab by slab.
use Rattle.std.proofs.Common.{◌≡◌, ℕ, ◌+◌, ◌<◌, ◌≤◌, List, Option, None, length, inl, inr, arith}
use Rattle.std.specs.Prelude.{IsSome}
use Rattle.std.proofs.lemmas.Bool.{cases_lt}
use Rattle.slab_space.specs.Runs.{owner_at, IsFreeRun, IsLowestRun, Full}

-- no run begins below `first`, and the slabs from there to `at` are free and too few
pub record Searched (owners : List (Option ℕ)) (count first at : ℕ) : Type 0 where
  pub order : first ≤ at
  pub short : at < first + count
  pub free : (slab : ℕ) → first ≤ slab → slab < at → owner_at owners slab ≡ None
  pub none : (lower : ℕ) → lower < first → ¬ IsFreeRun owners lower count

held_is_not_free : {o : Option ℕ} → IsSome o → ¬ (o ≡ None)
held_is_not_free held e = cc

module _ (owners : List (Option ℕ)) (count : ℕ) where
  pub searched_start : (first : ℕ) → 1 ≤ count → ((slab : ℕ) → slab < first → IsSome (owner_at owners slab)) → Searched owners count first first
  searched_start first some front = record {
    order = omega arith;
    short = omega arith;
    free = λ slab low high. absurd (omega arith);
    none = λ lower below run. held_is_not_free (front lower below) (run.free lower (omega arith) (omega arith));
  }

  pub searched_held : (first at : ℕ) → 1 ≤ count → Searched owners count first at → IsSome (owner_at owners at) → Searched owners count (at + 1) (at + 1)
  searched_held first at some so_far held = record {
    order = omega arith;
    short = omega arith;
    free = λ slab low high. absurd (omega arith);
    none = λ lower below run. elim (cases_lt lower first) [ inl under ↦ so_far.none lower under run | inr over ↦ held_is_not_free held (run.free at (omega arith) (omega (arith, so_far.short))) ];
  }

  through : (first at : ℕ) → Searched owners count first at → owner_at owners at ≡ None → (slab : ℕ) → first ≤ slab → slab < at + 1 → owner_at owners slab ≡ None
  through first at so_far here slab low high =
      elim (cases_lt slab at) [ inl before ↦ so_far.free slab low before | inr last ↦ (let is : slab ≡ at = omega arith in rw is here) ]

  pub searched_free : (first at : ℕ) → Searched owners count first at → owner_at owners at ≡ None → at + 1 < first + count → Searched owners count first (at + 1)
  searched_free first at so_far here few = record {
    order = omega (arith, so_far.order);
    short = few;
    free = through first at so_far here;
    none = so_far.none;
  }

  pub searched_found : (first at : ℕ) → Searched owners count first at → owner_at owners at ≡ None → at + 1 ≡ first + count → at < length owners → IsLowestRun owners count first
  searched_found first at so_far here enough inside = record {
    free = record { inside = omega arith; free = λ slab low high. through first at so_far here slab low (omega arith) };
    lowest = so_far.none;
  }

  -- all slabs from `at` on are free
  module _ (first at : ℕ) (so_far : Searched owners count first at) (rest : (slab : ℕ) → at ≤ slab → owner_at owners slab ≡ None) where
    pub searched_end : first + count ≤ length owners → IsLowestRun owners count first
    searched_end room = record {
      free = record { inside = room; free = λ slab low high. elim (cases_lt slab at) [ inl before ↦ so_far.free slab low before | inr behind ↦ rest slab behind ] };
      lowest = so_far.none;
    }

    pub searched_full : length owners < first + count → Full owners count
    searched_full short lower run = elim (cases_lt lower first) [ inl under ↦ so_far.none lower under run | inr over ↦ absurd (omega (arith, run.inside)) ]

-- a run that is the lowest is there
pub lowest_is_not_full : (owners : List (Option ℕ)) (count first : ℕ) → IsLowestRun owners count first → ¬ Full owners count
lowest_is_not_full owners count first run full = full first run.free
