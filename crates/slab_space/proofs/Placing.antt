-- What an object that is placed, and slabs that are given back, make of the bound below which the held slabs lie.
use Rattle.std.proofs.Common.{◌≡◌, ℕ, ◌+◌, ◌<◌, ◌≤◌, List, [], ◌∷◌, ◌++◌, Option, Some, None, length, refl, ◌∙◌, arith}
use Rattle.std.specs.Prelude.{⊤, if◌then◌else◌, slice_index_or}
use Rattle.slab_space.specs.Runs.{need, lowest_run, with_run}
use Rattle.slab_space.specs.Pool.{Cells, Large, Pool, no_cells, with_next, has_room, large_at, class_for, given_runs, given_classes, given_large, given_pool}
use Rattle.slab_space.specs.PoolSteps.{PoolInSlabs, Allocation, placed, index_exhausted, heap_exhausted, at_limit, placed_cell, placed_in_run, placed_in_class, placed_large, placed_as, placed_in, freed_among, freed_large, freed_as, freed_in}
use Rattle.slab_space.proofs.Peaks.{either}
use Rattle.slab_space.specs.Needs.{NeedsItsCell}
use Rattle.slab_space.proofs.Slabs.{HeldBelow, more_used, given_back, too_many, taken_low}
use Rattle.slab_space.proofs.Cells.{sizes_of, OfItsSizes, SizesStay, size_of_next, sizes_set, sizes_freed, some_needed, cell_needed}

-- the pool keeps its kind and its sizes, and the held slabs lie below `used`
pub record Kept (limit used : ℕ) (before : Pool) (s : PoolInSlabs) : Type 0 where
  pub slabs : HeldBelow limit used s.owners
  pub kind : s.pool.kind ≡ before.kind
  pub sizes : OfItsSizes s.pool

-- ---- placing

-- an object is placed, or more slabs were asked for than there are
abbrev pub PlacedKeeps : ℕ → ℕ → Pool → Allocation PoolInSlabs → Type 0
PlacedKeeps limit used before (placed address s) = Kept limit used before s
PlacedKeeps limit used before index_exhausted = ⊤
PlacedKeeps limit used before heap_exhausted = limit < used

module _ (limit used : ℕ) (owners : List (Option ℕ)) (pool : Pool) (slabs : HeldBelow limit used owners) (sizes : OfItsSizes pool) (bytes : ℕ) (some : 1 ≤ bytes) where
  abbrev Keeps : Allocation PoolInSlabs → Type 0
  Keeps result = PlacedKeeps limit (used + need bytes) pool result

  module _ (k : ℕ) (c : Cells) (same : c.size ≡ (slice_index_or pool.classes k (no_cells 0)).size) where
    in_slabs : (now : List (Option ℕ)) (runs : List ℕ) → HeldBelow limit (used + need bytes) now → Keeps (placed_cell now pool k (record c { runs = runs }))
    in_slabs now runs kept =
        let next : Cells = with_next (record c { runs = runs }) c.freed in
        record { slabs = kept; kind = refl; sizes = sizes_set pool.classes k next (size_of_next (record c { runs = runs }) c.freed ∙ same) ∙ sizes }

    in_run : need c.size ≤ need bytes → (found : Option ℕ) → lowest_run owners (need c.size) ≡ found → Keeps (placed_in_run owners pool k c found)
    in_run enough None none = too_many limit used (need bytes) (need c.size) owners slabs enough (some_needed bytes some) none
    in_run enough (Some first) found =
        in_slabs (with_run owners first (need c.size) (Some first)) (c.runs ++ first ∷ [])
        (taken_low limit used (need bytes) (need c.size) owners slabs enough (some_needed bytes some) first found)

    in_class : (index : ℕ) → need c.size ≤ need bytes → Keeps (placed_in_class index owners pool k c)
    in_class index enough =
        let fresh = placed_in_run owners pool k c (lowest_run owners (need c.size)) in
        either Keeps (at_limit index pool.kind c) index_exhausted (if has_room c then placed_cell owners pool k c else fresh) (λ e. tt) (λ e.
        either Keeps (has_room c) (placed_cell owners pool k c) fresh (λ room. in_slabs owners c.runs (more_used limit used (need bytes) owners slabs))
        (λ room. in_run enough (lowest_run owners (need c.size)) refl))

  as_large : (found : Option ℕ) → lowest_run owners (need bytes) ≡ found → Keeps (placed_large owners pool bytes found)
  as_large None none = too_many limit used (need bytes) (need bytes) owners slabs (omega arith) (some_needed bytes some) none
  as_large (Some first) found = record { slabs = taken_low limit used (need bytes) (need bytes) owners slabs (omega arith) (some_needed bytes some) first found; kind = refl; sizes = sizes }

  as_class : (index : ℕ) → NeedsItsCell pool.kind bytes → (class : Option ℕ) → class_for pool.kind pool.classes bytes ≡ class → Keeps (placed_as index owners pool bytes class)
  as_class index needs None e = as_large (lowest_run owners (need bytes)) refl
  as_class index needs (Some k) e = in_class k (slice_index_or pool.classes k (no_cells 0)) refl index (cell_needed pool.kind pool.classes bytes k sizes e some needs)

  pub placed_keeps : (index : ℕ) → NeedsItsCell pool.kind bytes → PlacedKeeps limit (used + need bytes) pool (placed_in index owners pool bytes)
  placed_keeps index needs = as_class index needs (class_for pool.kind pool.classes bytes) refl

-- ---- freeing

abbrev pub FreedKeeps : ℕ → ℕ → Pool → Option PoolInSlabs → Type 0
FreedKeeps limit used before None = ⊤
FreedKeeps limit used before (Some s) = Kept limit used before s

module _ (limit used : ℕ) where
  module _ (owners : List (Option ℕ)) (pool : Pool) (slabs : HeldBelow limit used owners) (sizes : OfItsSizes pool) where
    large_freed : (address : ℕ) (found : Option Large) → FreedKeeps limit used pool (freed_large owners pool address found)
    large_freed address None = tt
    large_freed address (Some l) = record { slabs = given_back limit used owners l.first (need (length l.bytes)) slabs; kind = refl; sizes = sizes }

    cell_freed : (address : ℕ) (found : Option (List Cells)) → SizesStay (sizes_of pool.classes) found → FreedKeeps limit used pool (freed_as owners pool address found)
    cell_freed address None stay = large_freed address (large_at address pool.large)
    cell_freed address (Some classes) stay = record { slabs = slabs; kind = refl; sizes = stay ∙ sizes }

    pub freed_keeps : (address : ℕ) → FreedKeeps limit used pool (freed_in owners pool address)
    freed_keeps address = cell_freed address (freed_among pool.classes address) (sizes_freed pool.classes address)

  -- ---- giving back

  runs_given : (count : ℕ) (runs : List ℕ) (owners : List (Option ℕ)) → HeldBelow limit used owners → HeldBelow limit used (given_runs count runs owners)
  runs_given count [] owners slabs = slabs
  runs_given count (first ∷ rest) owners slabs = runs_given count rest (with_run owners first count None) (given_back limit used owners first count slabs)

  classes_given : (classes : List Cells) (owners : List (Option ℕ)) → HeldBelow limit used owners → HeldBelow limit used (given_classes classes owners)
  classes_given [] owners slabs = slabs
  classes_given (c ∷ rest) owners slabs = classes_given rest (given_runs (need c.size) c.runs owners) (runs_given (need c.size) c.runs owners slabs)

  large_given : (large : List Large) (owners : List (Option ℕ)) → HeldBelow limit used owners → HeldBelow limit used (given_large large owners)
  large_given [] owners slabs = slabs
  large_given (l ∷ rest) owners slabs = large_given rest (with_run owners l.first (need (length l.bytes)) None) (given_back limit used owners l.first (need (length l.bytes)) slabs)

  pub pool_given : (pool : Pool) (owners : List (Option ℕ)) → HeldBelow limit used owners → HeldBelow limit used (given_pool pool owners)
  pool_given pool owners slabs = large_given pool.large (given_classes pool.classes owners) (classes_given pool.classes owners slabs)
