-- What taking and giving make of the owners.
use Rattle.std.proofs.Common.{◌≡◌, ℕ, ◌+◌, ◌<◌, ◌≤◌, List, [], ◌∷◌, Option, Some, None, length, sym, ap, subst, refl, inl, inr, arith}
use Rattle.std.specs.Prelude.{IsSome, is_some}
use Rattle.std.proofs.lemmas.Bool.{cases_lt}
use Rattle.slab_space.specs.Runs.{owner_at, free_count, with_run, IsFreeRun, IsHeldRun, IsLowestRun}
use Rattle.slab_space.proofs.WithRun.{length-with_run, get_or-with_run_in, get_or-with_run_below, get_or-with_run_above, free_count_given}

pub free_count-le-length : (owners : List (Option ℕ)) → free_count owners ≤ length owners
free_count-le-length [] = omega arith
free_count-le-length (None ∷ rest) = omega (arith, free_count-le-length rest)
free_count-le-length (Some owner ∷ rest) = omega (arith, free_count-le-length rest)

-- as many slabs are held as a held run has
pub run_is_held : (owners : List (Option ℕ)) (first count held : ℕ) → IsHeldRun owners first count → held + free_count owners ≡ length owners → count ≤ held
run_is_held owners first count held run counted =
    omega (arith, free_count_given owners first count run, free_count-le-length (with_run owners first count None), length-with_run owners first count None run.inside)

module _ (owners : List (Option ℕ)) (first count : ℕ) (inside : first + count ≤ length owners) where
  pub taken_is_held : (slab : ℕ) → first ≤ slab → slab < first + count → IsSome (owner_at (with_run owners first count (Some first)) slab)
  taken_is_held slab low high = ap is_some (get_or-with_run_in owners first count slab (Some first) None inside low high)

  -- a held slab stays held when others are taken
  pub held_stays : (slab : ℕ) → IsSome (owner_at owners slab) → IsSome (owner_at (with_run owners first count (Some first)) slab)
  held_stays slab held =
      elim (cases_lt slab first) [
        | inl below ↦ subst IsSome (sym (get_or-with_run_below owners first count slab (Some first) None inside below)) held
        | inr from ↦ elim (cases_lt slab (first + count)) [
          | inl within ↦ taken_is_held slab from within
          | inr above ↦ subst IsSome (sym (get_or-with_run_above owners first count slab (Some first) None inside above)) held
        ]
      ]

  -- and when a run above it is given back
  pub held_below : (slab : ℕ) → slab < first → IsSome (owner_at owners slab) → IsSome (owner_at (with_run owners first count None) slab)
  held_below slab below held = subst IsSome (sym (get_or-with_run_below owners first count slab None None inside below)) held

is_held : (owners : List (Option ℕ)) (slab : ℕ) (owner : Option ℕ) → owner_at owners slab ≡ owner → slab < length owners → ¬ IsFreeRun owners slab 1 → IsSome owner
is_held owners slab (Some o) e inside held = refl
is_held owners slab None e inside held = absurd (held (record { inside = omega arith; free = λ here low high. let same : here ≡ slab = omega arith in rw same e }))

-- below the lowest free slab all are held
pub below_lowest : (owners : List (Option ℕ)) (first slab : ℕ) → IsLowestRun owners 1 first → slab < first → IsSome (owner_at owners slab)
below_lowest owners first slab run below = is_held owners slab (owner_at owners slab) refl (omega (arith, run.free.inside)) (run.lowest slab below)
