-- The slabs below a limit: the owner of each, and all their bytes one after another, 4,096 a slab. A free slab's bytes
-- are zero.
use Rattle.std.specs.Prelude.{◌≡◌, ℕ, ◌+◌, ◌*◌, ◌<◌, ◌≤◌, List, slice_index, Option, Some, None}
use Rattle.slab_space.specs.Runs.{with_run}

pub record Space : Type 0 where
  pub owners : List (Option ℕ)
  pub bytes : List ℕ

-- the space once a run was taken
abbrev pub with_taken : Space → ℕ → ℕ → Space
with_taken space first count = record space { owners = with_run space.owners first count (Some first) }

-- the space once a run was given back
abbrev pub with_given : Space → ℕ → ℕ → Space
with_given space first count = record {
  owners = with_run space.owners first count None;
  bytes = with_run space.bytes (4096 * first) (4096 * count) 0;
}

-- so many bytes from a place on are zero
abbrev pub IsZero : List ℕ → ℕ → ℕ → Type 0
IsZero bytes from count = (at : ℕ) → from ≤ at → at < from + count → slice_index bytes at ≡ 0
