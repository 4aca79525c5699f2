-- What cells, pools and all pools are seen as: the tables together with the bytes of the space.
use Rattle.std.specs.Prelude.{ℕ, zero, suc, ◌+◌, ◌-◌, ◌*◌, ◌/◌, ◌%◌, ◌==◌, ◌&&◌, nat_lt, false, if◌then◌else◌, List, [], ◌∷◌, ◌++◌, map, slice_index, slice_index_or, option_map, Option, Some, None}
use Rattle.std.specs.BTreeMap.{BTreeMap, get}
use Rattle.std.specs.Ordering.{nat_cmp}
use Rattle.run_theory.specs.Words.{word_at}
use Rattle.slab_space.specs.Pool.{cells_per_run}
use Rattle.slab_space.specs.Pool as one
use Rattle.slab_space.specs.Pools as all
use Rattle.pool_runtime.specs.declared.cells.Cells.{Cells}
use Rattle.pool_runtime.specs.declared.pool.Pool.{Pool}
use Rattle.pool_runtime.specs.declared.pools.Pools.TheInside.{Inside}
use Rattle.pool_runtime.specs.Bytes.{range}

-- where a cell lies in the space
abbrev pub place : Cells → ℕ → ℕ
place c number = 4096 * slice_index c.runs.items ((number - 1) / cells_per_run c.size) + c.size * ((number - 1) % cells_per_run c.size)

abbrev pub cell_seen : List ℕ → Cells → ℕ → Option (List ℕ)
cell_seen bytes c number = if slice_index_or c.live.items (number - 1) false then Some (range bytes (place c number) c.size) else None

-- the first so many cells
abbrev pub cells_seen : List ℕ → Cells → ℕ → List (Option (List ℕ))
cells_seen bytes c zero = []
cells_seen bytes c (suc made) = cells_seen bytes c made ++ cell_seen bytes c (suc made) ∷ []

-- so many freed cells, from this one on
abbrev pub threaded : List ℕ → Cells → ℕ → ℕ → List ℕ
threaded bytes c zero number = []
threaded bytes c (suc count) number = number ∷ threaded bytes c count (word_at bytes (place c number) 4)

abbrev pub freed_seen : List ℕ → Cells → List ℕ
freed_seen bytes c = threaded bytes c c.freed c.last_freed

abbrev pub class_seen : List ℕ → Cells → one.Cells
class_seen bytes c = record { size = c.size; runs = c.runs.items; cells = cells_seen bytes c c.made; freed = freed_seen bytes c }

abbrev pub large_seen : List ℕ → ℕ × ℕ → one.Large
large_seen bytes e = record { first = e.0; bytes = range bytes (4096 * e.0) e.1 }

abbrev pub pool_seen : List ℕ → Pool → one.Pool
pool_seen bytes pool = record { kind = pool.kind; classes = map (class_seen bytes) pool.classes.items; large = map (large_seen bytes) pool.large.entries; peak = pool.peak }

-- the pools with the first so many numbers
abbrev pub pools_seen : List ℕ → BTreeMap ℕ Pool → ℕ → List (Option one.Pool)
pools_seen bytes pools zero = []
pools_seen bytes pools (suc made) = pools_seen bytes pools made ++ option_map (pool_seen bytes) (get nat_cmp pools (suc made)) ∷ []

abbrev pub pools_of : Inside → all.Pools
pools_of s = record { index = s.index; owners = s.slabs.space.owners; pools = pools_seen s.slabs.space.bytes s.pools s.made }

-- the cell that has a byte of a run, by its number, and the byte's place in the cell; none where none was made there
abbrev pub cell_found : Cells → ℕ → ℕ → Option (ℕ × ℕ)
cell_found c run within =
    if nat_lt (within / c.size) (cells_per_run c.size) && nat_lt (run * cells_per_run c.size + within / c.size) c.made then Some (run * cells_per_run c.size + within / c.size + 1, within % c.size) else None

-- the tables after the last freed cell was taken off their list, or the next one made
abbrev pub after_next : List ℕ → Cells → Cells
after_next bytes c = if c.freed == 0 then record c { made = c.made + 1 } else record c { freed = c.freed - 1; last_freed = word_at bytes (place c c.last_freed) 4 }

abbrev pub number_next : Cells → ℕ
number_next c = if c.freed == 0 then c.made + 1 else c.last_freed
