-- Where the objects placed so far need so many slabs, all held slabs are among the first so many: so where no run is found,
-- the refused object needs more than the others.
use Rattle.std.proofs.Common.{◌≡◌, ℕ, ◌+◌, ◌-◌, ◌<◌, ◌≤◌, Bool, true, false, List, ◌∷◌, Option, Some, None, All, map, replicate, refl, sym, ap, subst, ◌∙◌, arith, false-eqb}
use Rattle.std.specs.Prelude.{⊤, ◌==◌, is_some, slice_index_or, option_map, IfSome}
use Rattle.std.proofs.lemmas.List.{length-replicate}
use Rattle.std.proofs.lemmas.List.Elements.{All-nil, All-set, All-push, All-map, All-weaker, All-replicate}
use Rattle.std.proofs.lemmas.List.Sums.{sum_by-cons}
use Rattle.slab_space.specs.declared.kind.PoolKind.{PoolKind}
use Rattle.slab_space.specs.Runs.{need}
use Rattle.slab_space.specs.Pool.{Pool, new_pool}
use Rattle.slab_space.specs.PoolSteps.{PoolInSlabs, Allocation, placed, index_exhausted, heap_exhausted, placed_in, freed_in, written_in}
use Rattle.slab_space.specs.Pools.{Pools, new_pools, pool_at, with_change, init_step, destroyed, allocated, alloc_in, alloc_step, free_in, object_at, store_step, lives_of}
use Rattle.slab_space.proofs.Peaks.{either}
use Rattle.slab_space.specs.Needs.{NeedsItsCell, Suits, HavePlaced, at_start, after_init, after_destroy, after_alloc, after_free, after_store, needs, ExhaustionTellsNeeds}
use Rattle.slab_space.proofs.Slabs.{HeldBelow, more_used}
use Rattle.slab_space.proofs.Cells.{OfItsSizes, or_holds, sizes_written}
use Rattle.slab_space.proofs.Placing.{Kept, PlacedKeeps, placed_keeps, FreedKeeps, freed_keeps, pool_given}

-- ---- pools

abbrev OneOfItsSizes : Option Pool → Type 0
OneOfItsSizes None = ⊤
OneOfItsSizes (Some pool) = OfItsSizes pool

-- there are so many slabs, and those that are held lie below `used`
pub record Within (limit used : ℕ) (p : Pools) : Type 0 where
  pub slabs : HeldBelow limit used p.owners
  pub sizes : All OneOfItsSizes p.pools

at_of_sizes : (p : Pools) (id : ℕ) → All OneOfItsSizes p.pools → OneOfItsSizes (pool_at p id)
at_of_sizes p id all = either OneOfItsSizes (id == 0) None (slice_index_or p.pools (id - 1) None) (λ e. tt) (λ e. or_holds OneOfItsSizes p.pools (id - 1) None all tt)

none_at : (slabs slab : ℕ) → slice_index_or (replicate {A = Option ℕ} slabs None) slab None ≡ None
none_at slabs slab = or_holds (λ o. o ≡ None) (replicate slabs None) slab None (All-replicate (λ o. o ≡ None) slabs None refl) refl

new_within : (slabs index : ℕ) → Within slabs 0 (new_pools slabs index)
new_within slabs index = record {
  slabs = record { all = omega (arith, length-replicate {A = Option ℕ} slabs None); free = λ slab from. none_at slabs slab };
  sizes = All-nil OneOfItsSizes;
}

written_one : (address width word : ℕ) (found : Option Pool) → OneOfItsSizes found → OneOfItsSizes (option_map (written_in address width word) found)
written_one address width word None sizes = tt
written_one address width word (Some pool) sizes = sizes_written address width word pool.classes ∙ sizes

module _ (limit used : ℕ) where
  abbrev SomeWithin : Option Pools → Type 0
  SomeWithin None = ⊤
  SomeWithin (Some q) = Within limit used q

  -- at a refusal, for a pool that lives
  abbrev AllocWithin : Bool → Allocation Pools → Type 0
  AllocWithin lives (placed address q) = Within limit used q
  AllocWithin lives index_exhausted = ⊤
  AllocWithin lives heap_exhausted = lives ≡ true → limit < used

  -- one pool and the owners have changed
  changed : (p : Pools) (id : ℕ) (before : Pool) (s : PoolInSlabs) → All OneOfItsSizes p.pools → Kept limit used before s → Within limit used (with_change p id s)
  changed p id before s all kept = record { slabs = kept.slabs; sizes = All-set OneOfItsSizes p.pools (id - 1) (Some s.pool) kept.sizes all }

  allocated_within : (p : Pools) (id : ℕ) (before : Pool) (lives : Bool) (result : Allocation PoolInSlabs) → All OneOfItsSizes p.pools
      → PlacedKeeps limit used before result → AllocWithin lives (allocated p id result)
  allocated_within p id before lives (placed address s) all kept = changed p id before s all kept
  allocated_within p id before lives index_exhausted all kept = tt
  allocated_within p id before lives heap_exhausted all kept = λ living. kept

  freed_within : (p : Pools) (id : ℕ) (before : Pool) (result : Option PoolInSlabs) → All OneOfItsSizes p.pools
      → FreedKeeps limit used before result → SomeWithin (option_map (with_change p id) result)
  freed_within p id before None all kept = tt
  freed_within p id before (Some s) all kept = changed p id before s all kept

  -- ---- each call

  module _ (p : Pools) (so_far : Within limit used p) where
    init_within : (kind : PoolKind) → Within limit used (init_step p kind)
    init_within kind = record { slabs = so_far.slabs; sizes = All-push OneOfItsSizes p.pools (Some (new_pool kind)) so_far.sizes refl }

    destroy_within : (id : ℕ) (found : Option Pool) → Within limit used (destroyed p id found)
    destroy_within id None = so_far
    destroy_within id (Some pool) = record { slabs = pool_given limit used pool p.owners so_far.slabs; sizes = All-set OneOfItsSizes p.pools (id - 1) None tt so_far.sizes }

    free_within : (id address : ℕ) (found : Option Pool) → OneOfItsSizes found → SomeWithin (free_in p id address found)
    free_within id address None sizes = tt
    free_within id address (Some pool) sizes = freed_within p id pool (freed_in p.owners pool address) so_far.sizes (freed_keeps limit used p.owners pool so_far.slabs sizes address)

    store_within : (address width word : ℕ) → SomeWithin (store_step p address width word)
    store_within address width word =
        let each = All-weaker OneOfItsSizes (λ o. OneOfItsSizes (option_map (written_in address width word) o)) (written_one address width word) p.pools so_far.sizes in
        either SomeWithin (is_some (object_at p address width)) (Some (record p { pools = map (option_map (written_in address width word)) p.pools })) None
        (λ e. record { slabs = so_far.slabs; sizes = All-map OneOfItsSizes (option_map (written_in address width word)) p.pools each }) (λ e. tt)

module _ (limit used : ℕ) (p : Pools) (so_far : Within limit used p) (id bytes : ℕ) (suits : Suits p id bytes) where
  alloc_in_within : 1 ≤ bytes → (found : Option Pool) → pool_at p id ≡ found → AllocWithin limit (used + need bytes) (lives_of p id) (alloc_in p id bytes found)
  alloc_in_within some None here = λ lives. let both : false ≡ true = ap is_some (sym here) ∙ lives in absurd cc
  alloc_in_within some (Some pool) here =
      let sizes = subst OneOfItsSizes here (at_of_sizes p id so_far.sizes) in
      let needed = subst (λ o. IfSome (option_map (λ (x : Pool). x.kind) o) (λ kind. NeedsItsCell kind bytes)) here suits in
      allocated_within limit (used + need bytes) p id pool (lives_of p id) (placed_in p.index p.owners pool bytes) so_far.sizes
      (placed_keeps limit used p.owners pool so_far.slabs sizes bytes some p.index needed)

  alloc_within : AllocWithin limit (used + need bytes) (lives_of p id) (alloc_step p id bytes)
  alloc_within =
      either (AllocWithin limit (used + need bytes) (lives_of p id)) (bytes == 0) (placed 0 p) (alloc_in p id bytes (pool_at p id))
      (λ e. record { slabs = more_used limit used (need bytes) p.owners so_far.slabs; sizes = so_far.sizes })
      (λ e. let some = false-eqb bytes 0 (sym e) in alloc_in_within (omega (arith, some)) (pool_at p id) refl)

-- ---- all calls

one_more : (sizes : List ℕ) (bytes : ℕ) → needs sizes + need bytes ≡ needs (bytes ∷ sizes)
one_more sizes bytes = omega (arith, sum_by-cons need bytes sizes)

pub placed_within : (slabs : ℕ) (p : Pools) (sizes : List ℕ) → HavePlaced slabs p sizes → Within slabs (needs sizes) p
placed_within slabs _ _ (at_start index) = new_within slabs index
placed_within slabs _ sizes (after_init p _ kind placing) = init_within slabs (needs sizes) p (placed_within slabs p sizes placing) kind
placed_within slabs _ sizes (after_destroy p _ id placing) = destroy_within slabs (needs sizes) p (placed_within slabs p sizes placing) id (pool_at p id)
placed_within slabs q _ (after_alloc p _ sizes id bytes address placing suits e) =
    let within = alloc_within slabs (needs sizes) p (placed_within slabs p sizes placing) id bytes suits in
    subst (λ used. Within slabs used q) (one_more sizes bytes) (subst (AllocWithin slabs (needs sizes + need bytes) (lives_of p id)) e within)
placed_within slabs _ sizes (after_free p q _ id address placing e) =
    let so_far = placed_within slabs p sizes placing in
    subst (SomeWithin slabs (needs sizes)) e (free_within slabs (needs sizes) p so_far id address (pool_at p id) (at_of_sizes p id so_far.sizes))
placed_within slabs _ sizes (after_store p q _ address width word placing e) =
    subst (SomeWithin slabs (needs sizes)) e (store_within slabs (needs sizes) p (placed_within slabs p sizes placing) address width word)

-- where the heap is exhausted, the objects placed so far and the refused one need more slabs than there are
pub exhaustion_tells_needs : ExhaustionTellsNeeds
exhaustion_tells_needs slabs p sizes id bytes placing lives suits refused =
    let within = alloc_within slabs (needs sizes) p (placed_within slabs p sizes placing) id bytes suits in
    let more = subst (AllocWithin slabs (needs sizes + need bytes) (lives_of p id)) refused within lives in
    omega (arith, more, one_more sizes bytes)
