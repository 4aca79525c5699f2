-- What a call on a pool makes of it and of the slabs.
use Rattle.std.specs.Prelude.{◌≡◌, ℕ, Bool, true, false, ◌+◌, ◌*◌, ◌^◌, ◌-◌, ◌<◌, ◌≤◌, List, [], ◌∷◌, ◌++◌, set, length, slice_get, slice_index_or, Option, Some, None, Result, Ok, Err, IfSome, IsSome}
use Rattle.std.specs.BTreeMap.{BTreeMap, get}
use Rattle.std.specs.Ordering.{nat_cmp}
use Rattle.slab_space.specs.declared.kind.PoolKind.{PoolKind}
use Rattle.slab_space.specs.Runs.{need, free_count, with_run, lowest_run}
use Rattle.slab_space.specs.Pool.{new_pool, given_pool, no_cells}
use Rattle.slab_space.specs.Pool as seen
use Rattle.slab_space.specs.PoolSteps.{PoolInSlabs, Allocation, placed, placed_cell, placed_in, placed_in_class, placed_large, freed_in, index_exhausted, heap_exhausted}
use Rattle.pool_runtime.specs.declared.cells.Cells.{Cells}
use Rattle.pool_runtime.specs.declared.pool.Pool.{Pool}
use Rattle.pool_runtime.specs.declared.pools.AllocEnd.{AllocEnd}
use Rattle.pool_runtime.specs.declared.pools.AllocEnd.TheVariants.{HeapExhausted, IndexExhausted, OutOfMemory}
use Rattle.pool_runtime.specs.declared.pools.NotLive.{NotLive}
use Rattle.pool_runtime.specs.declared.slabs.Found.{Found}
use Rattle.pool_runtime.specs.declared.slabs.Home.{Home}
use Rattle.pool_runtime.specs.declared.slabs.Slabs.{Slabs}
use Rattle.pool_runtime.specs.Bytes.{SameAt}
use Rattle.pool_runtime.specs.Lookup.{AreSized, is_covered}
use Rattle.pool_runtime.specs.Seen.{pool_seen}
use Rattle.pool_runtime.specs.Tables.{IsSpace, IsAtHome, IsPool}

-- cells of which none was made, and with no runs
pub record HasNone (c : Cells) : Type 0 where
  pub runs : c.runs.items ≡ []
  pub live : c.live.items ≡ []
  pub made : c.made ≡ 0
  pub freed : c.freed ≡ 0

-- a class of this size, with no cells, was added
pub record Added (size : ℕ) (old new : List Cells) : Type 0 where
  pub cells : Cells
  pub items : new ≡ old ++ cells ∷ []
  pub sized : cells.size ≡ size
  pub none : HasNone cells

-- each note stays, but perhaps that of one slab
abbrev pub KeepsNotes : List Home → List Home → ℕ → Type 0
KeepsNotes old new but = (first : ℕ) (home : Home) → ¬ (first ≡ but) → slice_get old first ≡ Some home → slice_get new first ≡ Some home

abbrev pub KeepsAllNotes : List Home → List Home → Type 0
KeepsAllNotes old new = (first : ℕ) (home : Home) → slice_get old first ≡ Some home → slice_get new first ≡ Some home

-- the runs of which `kept` holds stay as they are
abbrev pub Keeps : (ℕ → Home → Type 0) → Slabs → Slabs → Type 0
Keeps kept old new =
    (first count : ℕ) (home : Home) → kept first home → IsAtHome old first count home
    → IsAtHome new first count home × SameAt old.space.bytes new.space.bytes (4096 * first) (4096 * count)

-- an address was looked up among the slabs
pub record FindsCell (slabs : Slabs) (address : ℕ) (result : Option Found) : Type 0 where
  pub at : IfSome result (λ found. 2 ^ 44 + 4096 * found.first + found.within ≡ address)
  pub near : IfSome result (λ found. found.within < 4294967296)
  pub there : (first count : ℕ) (home : Home) → IsAtHome slabs first count home → 2 ^ 44 + 4096 * first ≤ address → address < 2 ^ 44 + 4096 * (first + count)
      → result ≡ Some (record { first = first; within = address - (2 ^ 44 + 4096 * first); home = home })

-- the classes of each pool have sizes that cells may have
abbrev pub HaveSizes : BTreeMap ℕ Pool → Type 0
HaveSizes pools = (id : ℕ) (pool : Pool) → get nat_cmp pools id ≡ Some pool → AreSized pool.classes.items

-- a range that lies in one live cell or object, in its run
pub record IsCovered (pools : BTreeMap ℕ Pool) (address width : ℕ) : Type 0 where
  pub found : Found
  pub pool : Pool
  pub there : get nat_cmp pools found.home.pool ≡ Some pool
  pub at : 2 ^ 44 + 4096 * found.first + found.within ≡ address
  pub covered : is_covered pool found width ≡ true

-- a range lies in one live cell or object, or in none of those in the runs of the pools
abbrev pub CoversAt : Slabs → BTreeMap ℕ Pool → ℕ → ℕ → Bool → Type 0
CoversAt slabs pools address width true = IsCovered pools address width
CoversAt slabs pools address width false =
    (first count : ℕ) (home : Home) (pool : Pool) → IsAtHome slabs first count home → 2 ^ 44 + 4096 * first ≤ address → address < 2 ^ 44 + 4096 * (first + count)
    → get nat_cmp pools home.pool ≡ Some pool → is_covered pool (record { first = first; within = address - (2 ^ 44 + 4096 * first); home = home }) width ≡ false

-- the runs of other pools
abbrev pub of_others : ℕ → ℕ → Home → Type 0
of_others id first home = ¬ (home.pool ≡ id)

-- a pool changes, and the slabs with it; other pools do not
pub record Changes (id : ℕ) (old new : Slabs) (pool pool' : Pool) : Type 0 where
  pub space : IsSpace new.space
  pub long : length new.space.owners ≡ length old.space.owners
  pub is_pool : IsPool new id pool'
  pub others : Keeps (of_others id) old new
  pub counted : pool'.slabs + free_count new.space.owners ≡ pool.slabs + free_count old.space.owners

-- what was seen of the pool and the slabs stays
abbrev pub Unchanged : Slabs → Slabs → Pool → Pool → Type 0
Unchanged old new pool pool' = (new.space.owners ≡ old.space.owners) × (pool_seen new.space.bytes pool' ≡ pool_seen old.space.bytes pool)

-- a step that takes slabs
abbrev pub TakesSlabs : List (Option ℕ) → Allocation PoolInSlabs → Type 0
TakesSlabs owners (placed address s) = free_count s.owners < free_count owners
TakesSlabs owners index_exhausted = ⊥
TakesSlabs owners heap_exhausted = ⊥

-- an allocation ends as its step says, but that memory may be short where slabs are to be taken
abbrev pub Ends : Allocation PoolInSlabs → Slabs → Slabs → Pool → Pool → Result ℕ AllocEnd → Type 0
Ends step old new pool pool' (Ok address) = step ≡ placed address (record { owners = new.space.owners; pool = pool_seen new.space.bytes pool' })
Ends step old new pool pool' (Err HeapExhausted) = (step ≡ heap_exhausted) × Unchanged old new pool pool'
Ends step old new pool pool' (Err IndexExhausted) = (step ≡ index_exhausted) × Unchanged old new pool pool'
Ends step old new pool pool' (Err OutOfMemory) = TakesSlabs old.space.owners step × Unchanged old new pool pool'

-- a pool of this kind, with nothing in it
pub record IsNew (kind : PoolKind) (pool : Pool) : Type 0 where
  pub seen : (bytes : List ℕ) → pool_seen bytes pool ≡ new_pool kind
  pub is_pool : (slabs : Slabs) (id : ℕ) → IsPool slabs id pool
  pub none : pool.slabs ≡ 0

-- class `k` has another run, and room in it
pub record RunAdded (k : ℕ) (old new : Slabs) (pool pool' : Pool) (c : seen.Cells) : Type 0 where
  pub first : ℕ
  pub lowest : lowest_run old.space.owners (need c.size) ≡ Some first
  pub owners : new.space.owners ≡ with_run old.space.owners first (need c.size) (Some first)
  pub seen : pool_seen new.space.bytes pool' ≡ record (pool_seen old.space.bytes pool) { classes = set (pool_seen old.space.bytes pool).classes k (record c { runs = c.runs ++ first ∷ [] }) }

-- class `k`, whose cells were seen as `c`, has another run, or none is free, or memory is short
abbrev pub AddsRun : ℕ → Slabs → Slabs → Pool → Pool → seen.Cells → Result (Unit {0}) AllocEnd → Type 0
AddsRun k old new pool pool' c (Ok t) = RunAdded k old new pool pool' c
AddsRun k old new pool pool' c (Err HeapExhausted) = (lowest_run old.space.owners (need c.size) ≡ None) × Unchanged old new pool pool'
AddsRun k old new pool pool' c (Err IndexExhausted) = ⊥
AddsRun k old new pool pool' c (Err OutOfMemory) = IsSome (lowest_run old.space.owners (need c.size)) × Unchanged old new pool pool'

-- an object was freed as its step says
abbrev pub Frees : Option PoolInSlabs → Slabs → Slabs → Pool → Pool → Result (Unit {0}) NotLive → Type 0
Frees step old new pool pool' (Ok t) = step ≡ Some (record { owners = new.space.owners; pool = pool_seen new.space.bytes pool' })
Frees step old new pool pool' (Err e) = (step ≡ None) × Unchanged old new pool pool'

-- all slabs of a pool were given back
pub record ReturnsSlabs (id : ℕ) (pool : Pool) (old new : Slabs) : Type 0 where
  pub space : IsSpace new.space
  pub long : length new.space.owners ≡ length old.space.owners
  pub owners : new.space.owners ≡ given_pool (pool_seen old.space.bytes pool) old.space.owners
  pub others : Keeps (of_others id) old new
  pub counted : free_count new.space.owners ≡ free_count old.space.owners + pool.slabs

-- ---- the steps of the model from what a pool in memory stands for

abbrev pub placing : ℕ → Slabs → Pool → ℕ → Allocation PoolInSlabs
placing limit slabs pool bytes = placed_in limit slabs.space.owners (pool_seen slabs.space.bytes pool) bytes

-- the cells of a size
abbrev pub cells_in : Slabs → Pool → ℕ → seen.Cells
cells_in slabs pool class = slice_index_or (pool_seen slabs.space.bytes pool).classes class (no_cells 0)

abbrev pub placing_in_class : ℕ → Slabs → Pool → ℕ → Allocation PoolInSlabs
placing_in_class limit slabs pool class = placed_in_class limit slabs.space.owners (pool_seen slabs.space.bytes pool) class (cells_in slabs pool class)

abbrev pub placing_large : Slabs → Pool → ℕ → Allocation PoolInSlabs
placing_large slabs pool bytes = placed_large slabs.space.owners (pool_seen slabs.space.bytes pool) bytes (lowest_run slabs.space.owners (need bytes))

-- a cell that the size has room for was taken, at this address
abbrev pub PlacesCell : Slabs → Slabs → Pool → Pool → ℕ → ℕ → Type 0
PlacesCell old new pool pool' class address =
    placed_cell old.space.owners (pool_seen old.space.bytes pool) class (cells_in old pool class) ≡ placed address (record { owners = new.space.owners; pool = pool_seen new.space.bytes pool' })

-- what stands at an address is freed, wherever it is found
abbrev pub FreesFound : Slabs → Slabs → Pool → Pool → Found → Result (Unit {0}) NotLive → Type 0
FreesFound old new pool pool' found result =
    (address : ℕ) → FindsCell old address (Some found) → Frees (freed_in old.space.owners (pool_seen old.space.bytes pool) address) old new pool pool' result
