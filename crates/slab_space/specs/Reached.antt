-- The pools that calls lead to: the slabs that a homogeneous pool holds then, and the numbers and addresses of its cells.
use Rattle.std.specs.Prelude.{◌≡◌, ℕ, ◌+◌, ◌-◌, ◌*◌, ◌/◌, ◌<◌, ◌≤◌, Bool, option_map, unwrap_or, Some}
use Rattle.slab_space.specs.declared.kind.PoolKind.{PoolKind}
use Rattle.slab_space.specs.declared.kind.PoolKind.TheVariants.{Homogeneous}
use Rattle.slab_space.specs.Runs.{need}
use Rattle.slab_space.specs.Pool.{Pool, cells_per_run, made_in}
use Rattle.slab_space.specs.PoolSteps.{placed}
use Rattle.slab_space.specs.Pools.{Pools, new_pools, pool_at, init_step, destroy_step, alloc_step, free_step, store_step, cells_of, address_of, index_of, peak_of, slabs_of}

-- these pools come from new ones by calls, each of which ended well
pub data IsReached : Pools → Type 0 where
  at_start : (slabs index : ℕ) → IsReached (new_pools slabs index)
  after_init : (p : Pools) (kind : PoolKind) → IsReached p → IsReached (init_step p kind)
  after_destroy : (p : Pools) (id : ℕ) → IsReached p → IsReached (destroy_step p id)
  after_alloc : (p q : Pools) (id bytes address : ℕ) → IsReached p → alloc_step p id bytes ≡ placed address q → IsReached q
  after_free : (p q : Pools) (id address : ℕ) → IsReached p → free_step p id address ≡ Some q → IsReached q
  after_store : (p q : Pools) (address width word : ℕ) → IsReached p → store_step p address width word ≡ Some q → IsReached q

-- the runs that so many cells of this size need: a part of a run is a run
abbrev pub runs_for : ℕ → ℕ → ℕ
runs_for cell cells = (cells + (cells_per_run cell - 1)) / cells_per_run cell

-- the slabs that so many cells of this size need
abbrev pub slabs_for_peak : ℕ → ℕ → ℕ
slabs_for_peak cell peak = need cell * runs_for cell peak

-- A living homogeneous pool holds just the slabs that its peak of live cells needs.
abbrev pub PeakTellsSlabs : Type 0
PeakTellsSlabs =
    (p : Pools) (id source cell : ℕ) (indexed : Bool) (pool : Pool) →
    IsReached p → pool_at p id ≡ Some pool → pool.kind ≡ Homogeneous source cell indexed →
    slabs_of p id ≡ slabs_for_peak cell (peak_of p id)

-- the cells that a homogeneous pool has made
abbrev pub made_of : Pools → ℕ → ℕ
made_of p id = unwrap_or (option_map made_in (cells_of (pool_at p id))) 0

-- In a living homogeneous pool whose cells have a byte or more, each cell made has an address, which tells its number.
abbrev pub AddressesTellNumbers : Type 0
AddressesTellNumbers =
    (p : Pools) (id source cell : ℕ) (indexed : Bool) (pool : Pool) →
    IsReached p → pool_at p id ≡ Some pool → pool.kind ≡ Homogeneous source cell indexed → 1 ≤ cell →
    (number : ℕ) → 1 ≤ number → number ≤ made_of p id → (0 < address_of p id number) × (index_of p id (address_of p id number) ≡ number)

-- A number that is told for an address is that of a cell made, whose address it is.
abbrev pub NumbersTellAddresses : Type 0
NumbersTellAddresses =
    (p : Pools) (id address number : ℕ) → 1 ≤ number → index_of p id address ≡ number → (number ≤ made_of p id) × (address_of p id number ≡ address)
