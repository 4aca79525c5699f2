-- What placing, freeing and writing make of one pool and of the owners of the slabs.
use Rattle.std.specs.Prelude.{ℕ, suc, ◌+◌, ◌-◌, Bool, false, ◌&&◌, nat_le, nat_lt, if◌then◌else◌, List, [], ◌∷◌, ◌++◌, length, map, slice_get, slice_index_or, slice_set, option_map, Option, Some, None, is_none}
use Rattle.run_theory.specs.Words.{zeros, with_word}
use Rattle.slab_space.specs.declared.kind.PoolKind.{PoolKind}
use Rattle.slab_space.specs.declared.kind.PoolKind.TheVariants.{Homogeneous, Mixed}
use Rattle.slab_space.specs.Runs.{need, with_run, lowest_run}
use Rattle.slab_space.specs.Pool.{Cells, Large, Pool, Object, slab_address, no_cells, large_object, cell_address, made_in, number_at, with_next, next_number, has_room, with_freed, is_live, with_large, large_at, without_large, class_for, with_peak}

-- the owner of each slab, and one pool
pub record PoolInSlabs : Type 0 where
  pub owners : List (Option ℕ)
  pub pool : Pool

-- what an allocation does: it places an object at an address; or none, since an indexed pool has as many cells as it may,
-- or since no so many adjacent slabs are free
pub data Allocation (X : Type 0) : Type 0 where
  placed : ℕ → X → Allocation X
  index_exhausted : Allocation X
  heap_exhausted : Allocation X

-- ---- placing

-- the pool may make no further cell
abbrev pub at_limit : ℕ → PoolKind → Cells → Bool
at_limit index (Homogeneous source cell indexed) c = indexed && is_none (slice_get c.freed 0) && nat_le index (made_in c)
at_limit index Mixed c = false

-- the next cell of class `k`, whose cells are `c`
abbrev pub placed_cell : List (Option ℕ) → Pool → ℕ → Cells → Allocation PoolInSlabs
placed_cell owners pool k c =
    placed (cell_address c (next_number c c.freed)) (record { owners = owners; pool = with_peak (record pool { classes = slice_set pool.classes k (with_next c c.freed) }) })

abbrev pub placed_in_run : List (Option ℕ) → Pool → ℕ → Cells → Option ℕ → Allocation PoolInSlabs
placed_in_run owners pool k c None = heap_exhausted
placed_in_run owners pool k c (Some first) = placed_cell (with_run owners first (need c.size) (Some first)) pool k (record c { runs = c.runs ++ first ∷ [] })

abbrev pub placed_in_class : ℕ → List (Option ℕ) → Pool → ℕ → Cells → Allocation PoolInSlabs
placed_in_class index owners pool k c =
    if at_limit index pool.kind c then index_exhausted
    else if has_room c then placed_cell owners pool k c
    else placed_in_run owners pool k c (lowest_run owners (need c.size))

abbrev pub placed_large : List (Option ℕ) → Pool → ℕ → Option ℕ → Allocation PoolInSlabs
placed_large owners pool bytes None = heap_exhausted
placed_large owners pool bytes (Some first) =
    placed (slab_address first)
    (record { owners = with_run owners first (need bytes) (Some first); pool = with_peak (record pool { large = with_large first (zeros bytes) pool.large }) })

abbrev pub placed_as : ℕ → List (Option ℕ) → Pool → ℕ → Option ℕ → Allocation PoolInSlabs
placed_as index owners pool bytes None = placed_large owners pool bytes (lowest_run owners (need bytes))
placed_as index owners pool bytes (Some k) = placed_in_class index owners pool k (slice_index_or pool.classes k (no_cells 0))

-- an object of so many bytes is placed in the pool
abbrev pub placed_in : ℕ → List (Option ℕ) → Pool → ℕ → Allocation PoolInSlabs
placed_in index owners pool bytes = placed_as index owners pool bytes (class_for pool.kind pool.classes bytes)

-- ---- freeing

-- the classes once the live cell at an address was freed; none where there is none
abbrev pub freed_among : List Cells → ℕ → Option (List Cells)
freed_among [] address = None
freed_among (c ∷ rest) address =
    let number = number_at c (made_in c) address in
    if nat_lt 0 number && is_live c number then Some (with_freed c number ∷ rest) else option_map (λ classes. c ∷ classes) (freed_among rest address)

abbrev pub freed_large : List (Option ℕ) → Pool → ℕ → Option Large → Option PoolInSlabs
freed_large owners pool address None = None
freed_large owners pool address (Some l) =
    Some (record { owners = with_run owners l.first (need (length l.bytes)) None; pool = record pool { large = without_large address pool.large } })

abbrev pub freed_as : List (Option ℕ) → Pool → ℕ → Option (List Cells) → Option PoolInSlabs
freed_as owners pool address None = freed_large owners pool address (large_at address pool.large)
freed_as owners pool address (Some classes) = Some (record { owners = owners; pool = record pool { classes = classes } })

-- none where no live cell or object of the pool begins at the address
abbrev pub freed_in : List (Option ℕ) → Pool → ℕ → Option PoolInSlabs
freed_in owners pool address = freed_as owners pool address (freed_among pool.classes address)

-- ---- writing

-- a range lies in this object
abbrev pub covers : ℕ → ℕ → Object → Bool
covers address width o = nat_le o.start address && nat_le (address + width) (o.start + length o.bytes)

-- the bytes of an object after a word was written, if its range lies in it
abbrev pub written : ℕ → ℕ → ℕ → Object → List ℕ
written address width word o = if covers address width o then with_word o.bytes (address - o.start) width word else o.bytes

abbrev pub written_from : ℕ → ℕ → ℕ → Cells → ℕ → List (Option (List ℕ)) → List (Option (List ℕ))
written_from address width word c number [] = []
written_from address width word c number (None ∷ rest) = None ∷ written_from address width word c (suc number) rest
written_from address width word c number (Some bytes ∷ rest) =
    Some (written address width word (record { start = cell_address c number; bytes = bytes })) ∷ written_from address width word c (suc number) rest

abbrev pub written_cells : ℕ → ℕ → ℕ → Cells → Cells
written_cells address width word c = record c { cells = written_from address width word c 1 c.cells }

abbrev pub written_large : ℕ → ℕ → ℕ → Large → Large
written_large address width word l = record l { bytes = written address width word (large_object l) }

abbrev pub written_in : ℕ → ℕ → ℕ → Pool → Pool
written_in address width word pool = record pool {
  classes = map (written_cells address width word) pool.classes;
  large = map (written_large address width word) pool.large;
}
