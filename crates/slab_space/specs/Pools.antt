-- What each call on pools does. Pools are numbered from 1 in the order in which they were made; a number is never used
-- again. Slab i lies at 2 ^ 44 + 4096 i.
use Rattle.std.specs.Prelude.{◌<◌, ℕ, ◌-◌, ◌==◌, Bool, if◌then◌else◌, List, [], ◌∷◌, ◌++◌, map, find, slice_index_or, slice_set, option_map, unwrap_or, replicate, Option, Some, None, is_some}
use Rattle.std.specs.List.{flat_map}
use Rattle.run_theory.specs.Words.{word_at}
use Rattle.slab_space.specs.declared.kind.PoolKind.{PoolKind}
use Rattle.slab_space.specs.Runs.{free_count}
use Rattle.slab_space.specs.Pool.{Cells, Pool, Object, numbered, address_in, number_in, new_pool, objects_in, live_in, slabs_in, given_pool}
use Rattle.slab_space.specs.PoolSteps.{PoolInSlabs, Allocation, placed, index_exhausted, heap_exhausted, placed_in, freed_in, covers, written_in}

-- the most cells that an indexed pool may make; the owner of each slab; and each pool made, none once it is destroyed
pub record Pools : Type 0 where
  pub index : ℕ
  pub owners : List (Option ℕ)
  pub pools : List (Option Pool)

abbrev pub new_pools : ℕ → ℕ → Pools
new_pools slabs index = record { index = index; owners = replicate slabs None; pools = [] }

-- the living pool of a number
abbrev pub pool_at : Pools → ℕ → Option Pool
pool_at p id = if id == 0 then None else slice_index_or p.pools (id - 1) None

abbrev pub with_pool : Pools → ℕ → Option Pool → Pools
with_pool p id pool = record p { pools = slice_set p.pools (id - 1) pool }

-- ---- init and destroy

-- the new pool's number is the number of pools made
abbrev pub init_step : Pools → PoolKind → Pools
init_step p kind = record p { pools = p.pools ++ Some (new_pool kind) ∷ [] }

abbrev pub destroyed : Pools → ℕ → Option Pool → Pools
destroyed p id None = p
destroyed p id (Some pool) = record (with_pool p id None) { owners = given_pool pool p.owners }

abbrev pub destroy_step : Pools → ℕ → Pools
destroy_step p id = destroyed p id (pool_at p id)

-- ---- alloc and free

-- the pools once one of them and the owners have changed
abbrev pub with_change : Pools → ℕ → PoolInSlabs → Pools
with_change p id s = record (with_pool p id (Some s.pool)) { owners = s.owners }

abbrev pub allocated : Pools → ℕ → Allocation PoolInSlabs → Allocation Pools
allocated p id (placed address s) = placed address (with_change p id s)
allocated p id index_exhausted = index_exhausted
allocated p id heap_exhausted = heap_exhausted

abbrev pub alloc_in : Pools → ℕ → ℕ → Option Pool → Allocation Pools
alloc_in p id bytes None = heap_exhausted
alloc_in p id bytes (Some pool) = allocated p id (placed_in p.index p.owners pool bytes)

-- 0 bytes take nothing
abbrev pub alloc_step : Pools → ℕ → ℕ → Allocation Pools
alloc_step p id bytes = if bytes == 0 then placed 0 p else alloc_in p id bytes (pool_at p id)

-- a step that takes slabs
abbrev pub TakesSlabs : Pools → Allocation Pools → Type 0
TakesSlabs p (placed address q) = free_count q.owners < free_count p.owners
TakesSlabs p index_exhausted = ⊥
TakesSlabs p heap_exhausted = ⊥

abbrev pub free_in : Pools → ℕ → ℕ → Option Pool → Option Pools
free_in p id address None = None
free_in p id address (Some pool) = option_map (with_change p id) (freed_in p.owners pool address)

-- none where no live cell or object of the pool begins at the address
abbrev pub free_step : Pools → ℕ → ℕ → Option Pools
free_step p id address = free_in p id address (pool_at p id)

-- ---- load and store

abbrev pub objects_of : Option Pool → List Object
objects_of None = []
objects_of (Some pool) = objects_in pool

-- the live cells and objects of all pools
abbrev pub objects : Pools → List Object
objects p = flat_map objects_of p.pools

abbrev pub object_at : Pools → ℕ → ℕ → Option Object
object_at p address width = find (covers address width) (objects p)

-- none where the range lies in no one live cell or object
abbrev pub load_step : Pools → ℕ → ℕ → Option ℕ
load_step p address width = option_map (λ o. word_at o.bytes (address - o.start) width) (object_at p address width)

-- none where the range lies in no one live cell or object
abbrev pub store_step : Pools → ℕ → ℕ → ℕ → Option Pools
store_step p address width word =
    if is_some (object_at p address width) then Some (record p { pools = map (option_map (written_in address width word)) p.pools }) else None

-- ---- what is told of a pool

-- the one kind of cells of a homogeneous pool
abbrev pub cells_of : Option Pool → Option Cells
cells_of None = None
cells_of (Some pool) = numbered pool.kind pool.classes

abbrev pub address_of : Pools → ℕ → ℕ → ℕ
address_of p id number = address_in (cells_of (pool_at p id)) number

abbrev pub index_of : Pools → ℕ → ℕ → ℕ
index_of p id address = number_in (cells_of (pool_at p id)) address

abbrev pub lives_of : Pools → ℕ → Bool
lives_of p id = is_some (pool_at p id)

abbrev pub kind_of : Pools → ℕ → Option PoolKind
kind_of p id = option_map (λ pool. pool.kind) (pool_at p id)

abbrev pub peak_of : Pools → ℕ → ℕ
peak_of p id = unwrap_or (option_map (λ pool. pool.peak) (pool_at p id)) 0

abbrev pub live_of : Pools → ℕ → ℕ
live_of p id = unwrap_or (option_map live_in (pool_at p id)) 0

abbrev pub slabs_of : Pools → ℕ → ℕ
slabs_of p id = unwrap_or (option_map slabs_in (pool_at p id)) 0

abbrev pub free_slabs_of : Pools → ℕ
free_slabs_of p = free_count p.owners
