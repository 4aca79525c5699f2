-- The space that the table of the slabs reached so far stands for.
use Rattle.std.specs.Prelude.{◌≡◌, ℕ, ◌+◌, ◌≤◌, ◌<◌, length, IsSome}
use Rattle.slab_space.specs.Runs.{owner_at, free_count}
use Rattle.slab_space.specs.Slots.{all_owners, all_bytes}
use Rattle.slab_space.specs.Space.{Space}
use Rattle.slab_space.specs.declared.space.SlabSpace.TheInside.{Inside}

abbrev pub space_of : Inside → Space
space_of s = record { owners = all_owners s.slots.items s.limit; bytes = all_bytes s.slots.items s.limit }

pub record IsTable (s : Inside) : Type 0 where
  pub within : length s.slots.items ≤ s.limit
  pub small : s.limit ≤ 1048576
  pub counted : s.held + free_count (space_of s).owners ≡ s.limit
  pub front : (slab : ℕ) → slab < s.lowest_free → IsSome (owner_at (space_of s).owners slab)
