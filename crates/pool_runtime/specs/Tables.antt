-- What holds of the tables of cells, of a pool and of all pools.
use Rattle.std.specs.Prelude.{◌≡◌, ℕ, ◌+◌, ◌-◌, ◌*◌, ◌/◌, ◌<◌, ◌≤◌, false, List, [], ◌∷◌, ⊤, length, map, sum_by, slice_get, slice_index, slice_index_or, Option, Some, IsSome}
use Rattle.std.specs.BTreeMap.{get, IsOrdered}
use Rattle.std.specs.Map.{values_of}
use Rattle.std.specs.List.{AllByRecursion}
use Rattle.std.specs.Ordering.{nat_cmp}
use Rattle.slab_space.specs.Runs.{need, owner_at, free_count, IsHeldRun}
use Rattle.slab_space.specs.Space.{Space}
use Rattle.slab_space.specs.Pool.{cells_per_run, live_cells, live_in, slabs_in, classes_of, IsKind}
use Rattle.pool_runtime.specs.declared.cells.Cells.{Cells}
use Rattle.pool_runtime.specs.declared.pool.Pool.{Pool}
use Rattle.pool_runtime.specs.declared.slabs.Home.{Home}
use Rattle.pool_runtime.specs.declared.slabs.Held.TheVariants as held
use Rattle.pool_runtime.specs.declared.slabs.Slabs.{Slabs}
use Rattle.pool_runtime.specs.declared.pools.Pools.TheInside.{Inside}
use Rattle.pool_runtime.specs.Seen.{class_seen, freed_seen, pool_seen}

-- the space has 4,096 bytes for each of its slabs, of which there are not too many
pub record IsSpace (space : Space) : Type 0 where
  pub whole : length space.bytes ≡ 4096 * length space.owners
  pub small : length space.owners ≤ 1048576

-- the bytes of a range lie in held slabs
abbrev pub AreHeld : List (Option ℕ) → ℕ → ℕ → Type 0
AreHeld owners place count = (at : ℕ) → place ≤ at → at < place + count → IsSome (owner_at owners (at / 4096))

-- a cell that was made and is not live
pub record IsDead (c : Cells) (number : ℕ) : Type 0 where
  pub some : 1 ≤ number
  pub made : number ≤ c.made
  pub dead : slice_index_or c.live.items (number - 1) false ≡ false

abbrev pub AllDead : Cells → List ℕ → Type 0
AllDead c numbers = AllByRecursion (IsDead c) numbers

abbrev pub IsNotAmong : ℕ → List ℕ → Type 0
IsNotAmong number others = AllByRecursion (λ other. ¬ (number ≡ other)) others

abbrev pub EachOnce : List ℕ → Type 0
EachOnce [] = ⊤
EachOnce (number ∷ rest) = IsNotAmong number rest × EachOnce rest

pub record IsCells (bytes : List ℕ) (c : Cells) : Type 0 where
  pub least : 4 ≤ c.size
  pub most : c.size ≤ 1048576
  pub room : length c.live.items ≡ length c.runs.items * cells_per_run c.size
  pub few : length c.runs.items ≤ 1048576
  pub made : c.made ≤ length c.live.items
  pub dead : AllDead c (freed_seen bytes c)
  pub once : EachOnce (freed_seen bytes c)
  pub counted : length (live_cells (class_seen bytes c)) + c.freed ≡ c.made

-- the runs of these cells are held, each there once
pub record AreRuns (owners : List (Option ℕ)) (c : Cells) : Type 0 where
  pub held : (j : ℕ) → j < length c.runs.items → IsHeldRun owners (slice_index c.runs.items j) (need c.size)
  pub once : (i j : ℕ) → i < length c.runs.items → j < length c.runs.items → slice_index c.runs.items i ≡ slice_index c.runs.items j → i ≡ j

-- a run is held, and noted as what it was taken for
pub record IsAtHome (slabs : Slabs) (first count : ℕ) (home : Home) : Type 0 where
  pub run : IsHeldRun slabs.space.owners first count
  pub noted : slice_get slabs.homes.items first ≡ Some home

abbrev pub of_class : ℕ → ℕ → ℕ → Home
of_class id k j = record { pool = id; held = held.Cells k j }

abbrev pub of_large : ℕ → Home
of_large id = record { pool = id; held = held.Large }

pub record IsClass (slabs : Slabs) (id k : ℕ) (c : Cells) : Type 0 where
  pub cells : IsCells slabs.space.bytes c
  pub runs : (j : ℕ) → j < length c.runs.items → IsAtHome slabs (slice_index c.runs.items j) (need c.size) (of_class id k j)

pub record IsLarge (slabs : Slabs) (id : ℕ) (e : ℕ × ℕ) : Type 0 where
  pub some : 1 ≤ e.1
  pub run : IsAtHome slabs e.0 (need e.1) (of_large id)

pub record IsPool (tables : Slabs) (id : ℕ) (pool : Pool) : Type 0 where
  pub kind : IsKind pool.kind
  pub sizes : map (λ (c : Cells). c.size) pool.classes.items ≡ map (λ c. c.size) (classes_of pool.kind)
  pub classes : (k : ℕ) (c : Cells) → slice_get pool.classes.items k ≡ Some c → IsClass tables id k c
  pub ordered : IsOrdered nat_cmp pool.large
  pub large : AllByRecursion (IsLarge tables id) pool.large.entries
  pub live : pool.live ≡ live_in (pool_seen tables.space.bytes pool)
  pub slabs : pool.slabs ≡ slabs_in (pool_seen tables.space.bytes pool)

-- the slabs of some pools
abbrev pub slabs_held : List (ℕ × Pool) → ℕ
slabs_held entries = sum_by (λ (pool : Pool). pool.slabs) (values_of entries)

pub record IsPools (s : Inside) : Type 0 where
  pub space : IsSpace s.slabs.space
  pub numbers : (id : ℕ) → IsSome (get nat_cmp s.pools id) → (1 ≤ id) × (id ≤ s.made)
  pub pools : (id : ℕ) (pool : Pool) → get nat_cmp s.pools id ≡ Some pool → IsPool s.slabs id pool
  pub counted : slabs_held s.pools.entries + free_count s.slabs.space.owners ≡ length s.slabs.space.owners
