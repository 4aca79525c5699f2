-- What a pool has at a place that was found among the slabs.
use Rattle.std.specs.Prelude.{◌≡◌, ℕ, ◌+◌, ◌-◌, ◌*◌, ◌<◌, ◌≤◌, ◌==◌, ◌&&◌, nat_le, Bool, true, false, if◌then◌else◌, List, length, slice_get, slice_index, slice_index_or, Option, Some, None}
use Rattle.std.specs.BTreeMap.{get}
use Rattle.std.specs.Ordering.{nat_cmp}
use Rattle.slab_space.specs.Pool.{cells_per_run}
use Rattle.slab_space.specs.declared.kind.PoolKind.{PoolKind}
use Rattle.slab_space.specs.declared.kind.PoolKind.TheVariants.{Homogeneous, Mixed}
use Rattle.pool_runtime.specs.declared.cells.Cells.{Cells}
use Rattle.pool_runtime.specs.declared.pool.Pool.{Pool}
use Rattle.pool_runtime.specs.declared.slabs.Found.{Found}
use Rattle.pool_runtime.specs.declared.slabs.Held.{Held}
use Rattle.pool_runtime.specs.declared.slabs.Held.TheVariants as held
use Rattle.pool_runtime.specs.Seen.{cell_found}

-- sizes that cells may have, and a flag for each cell made
pub record IsSized (c : Cells) : Type 0 where
  pub least : 4 ≤ c.size
  pub most : c.size ≤ 1048576
  pub made : c.made ≤ length c.live.items
  pub few : length c.runs.items ≤ 1048576
  pub room : length c.live.items ≡ length c.runs.items * cells_per_run c.size
  pub inside : (j : ℕ) → j < length c.runs.items → slice_index c.runs.items j < 1048576

abbrev pub AreSized : List Cells → Type 0
AreSized classes = (k : ℕ) (c : Cells) → slice_get classes k ≡ Some c → IsSized c

abbrev pub cell_in_run : Cells → Found → ℕ → Option ℕ → Option (ℕ × ℕ)
cell_in_run c found run None = None
cell_in_run c found run (Some first) = if first == found.first then cell_found c run found.within else None

abbrev pub cell_in_class : Found → ℕ → Option Cells → Option (ℕ × ℕ)
cell_in_class found run None = None
cell_in_class found run (Some c) = cell_in_run c found run (slice_get c.runs.items run)

-- the made cell that the place lies in, and how far behind the cell's begin it lies
abbrev pub cell_of : List Cells → Found → ℕ → ℕ → Option (ℕ × ℕ)
cell_of classes found class run = cell_in_class found run (slice_get classes class)

abbrev pub live_covers : Cells → ℕ → Option (ℕ × ℕ) → Bool
live_covers c width None = false
live_covers c width (Some at) = slice_index_or c.live.items (at.0 - 1) false && nat_le (at.1 + width) c.size

abbrev pub class_covers : Found → ℕ → ℕ → Option Cells → Bool
class_covers found width run None = false
class_covers found width run (Some c) = live_covers c width (cell_in_run c found run (slice_get c.runs.items run))

abbrev pub large_covers : Found → ℕ → Option ℕ → Bool
large_covers found width None = false
large_covers found width (Some bytes) = nat_le (found.within + width) bytes

abbrev pub held_covers : Pool → Found → ℕ → Held → Bool
held_covers pool found width (held.Cells class run) = class_covers found width run (slice_get pool.classes.items class)
held_covers pool found width held.Large = large_covers found width (get nat_cmp pool.large found.first)

-- so many bytes from the place on lie in one live cell or object
abbrev pub is_covered : Pool → Found → ℕ → Bool
is_covered pool found width = held_covers pool found width found.home.held

abbrev pub is_homogeneous_kind : PoolKind → Bool
is_homogeneous_kind (Homogeneous source cell indexed) = true
is_homogeneous_kind Mixed = false

abbrev pub is_indexed_kind : PoolKind → Bool
is_indexed_kind (Homogeneous source cell indexed) = indexed
is_indexed_kind Mixed = false

abbrev pub number_begun : Option (ℕ × ℕ) → ℕ
number_begun None = 0
number_begun (Some at) = if at.1 == 0 then at.0 else 0

abbrev pub held_index : Pool → Found → Held → ℕ
held_index pool found (held.Cells class run) = number_begun (cell_of pool.classes.items found class run)
held_index pool found held.Large = 0

-- the number of the made cell that begins at the place
abbrev pub index_found : Pool → Found → ℕ
index_found pool found = if is_homogeneous_kind pool.kind then held_index pool found found.home.held else 0
