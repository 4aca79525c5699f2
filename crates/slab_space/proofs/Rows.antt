-- Worked rows, by evaluation: a space of one slab.
use Rattle.std.proofs.Common.{◌≡◌, ◌^◌, false, [], ◌∷◌, Option, Some, None, refl}
use Rattle.run_theory.specs.Words.{zeros}
use Rattle.slab_space.specs.declared.kind.PoolKind.TheVariants.{Homogeneous, Mixed}
use Rattle.slab_space.specs.PoolSteps.{Allocation, placed, index_exhausted, heap_exhausted}
use Rattle.slab_space.specs.Pools.{Pools, new_pools, init_step, alloc_step, free_step}
use Rattle.slab_space.specs.Needs.{HavePlaced, at_start, after_init, after_alloc, after_free, needs}

abbrev after : Allocation Pools → Pools
after (placed at p) = p
after index_exhausted = new_pools 0 0
after heap_exhausted = new_pools 0 0

abbrev freed : Option Pools → Pools
freed None = new_pools 0 0
freed (Some p) = p

abbrev mixed : Pools
mixed = init_step (new_pools 1 1) Mixed

abbrev first : Pools
first = after (alloc_step mixed 1 5)

abbrev back : Pools
back = freed (free_step first 1 (2 ^ 44))

first_placed : alloc_step mixed 1 5 ≡ placed (2 ^ 44) first
unfolding zeros
first_placed = refl

first_freed : free_step first 1 (2 ^ 44) ≡ Some back
unfolding zeros
first_freed = refl

-- cells of another class find no slab, though no object lives
second_refused : alloc_step back 1 40 ≡ heap_exhausted
unfolding zeros
second_refused = refl

placing : HavePlaced 1 back (5 ∷ [])
placing = after_free first back (5 ∷ []) 1 (2 ^ 44) (after_alloc mixed first [] 1 5 (2 ^ 44) (after_init (new_pools 1 1) [] Mixed (at_start 1)) tt first_placed) first_freed

needs_of_both : needs (40 ∷ 5 ∷ []) ≡ 2
needs_of_both = refl

-- where cells take more slabs than an object needs, a refusal tells less
wide_refused : alloc_step (init_step (new_pools 1 1) (Homogeneous 5 4100 false)) 1 5 ≡ heap_exhausted
wide_refused = refl
