-- Worked rows of pools, by evaluation.
use Rattle.std.proofs.Common.{◌≡◌, ℕ, ◌+◌, ◌^◌, Option, Some, None, true, refl}
use Rattle.run_theory.specs.Words.{zeros}
use Rattle.slab_space.specs.declared.kind.PoolKind.TheVariants.{Homogeneous, Mixed}
use Rattle.slab_space.specs.PoolSteps.{Allocation, placed, index_exhausted, heap_exhausted}
use Rattle.slab_space.specs.Pools.{Pools, new_pools, init_step, destroy_step, alloc_step, free_step, load_step, store_step, index_of, peak_of, live_of, slabs_of, free_slabs_of}
use Rattle.slab_space.specs.Reached.{IsReached, at_start, after_init, after_alloc, after_free, slabs_for_peak}

abbrev address : Allocation Pools → ℕ
address (placed at p) = at
address index_exhausted = 1
address heap_exhausted = 2

abbrev after : Allocation Pools → Pools
after (placed at p) = p
after index_exhausted = new_pools 0 0
after heap_exhausted = new_pools 0 0

abbrev freed : Option Pools → Pools
freed None = new_pools 0 0
freed (Some p) = p

-- an indexed pool of cells of 16 bytes, three at most
abbrev indexed_p0 : Pools
indexed_p0 = init_step (new_pools 1 3) (Homogeneous 16 16 true)

abbrev indexed_a1 : Allocation Pools
indexed_a1 = alloc_step indexed_p0 1 16

abbrev indexed_a2 : Allocation Pools
indexed_a2 = alloc_step (after indexed_a1) 1 16

abbrev indexed_a3 : Allocation Pools
indexed_a3 = alloc_step (after indexed_a2) 1 16

indexed_first : address indexed_a1 ≡ 2 ^ 44
unfolding zeros
indexed_first = refl

indexed_second : address indexed_a2 ≡ 2 ^ 44 + 16
unfolding zeros
indexed_second = refl

indexed_third : address indexed_a3 ≡ 2 ^ 44 + 32
unfolding zeros
indexed_third = refl

indexed_fourth : alloc_step (after indexed_a3) 1 16 ≡ index_exhausted
unfolding zeros
indexed_fourth = refl

abbrev indexed_back : Pools
indexed_back = freed (free_step (after indexed_a3) 1 (2 ^ 44 + 16))

indexed_twice : free_step indexed_back 1 (2 ^ 44 + 16) ≡ None
unfolding zeros
indexed_twice = refl

indexed_again : address (alloc_step indexed_back 1 16) ≡ 2 ^ 44 + 16
unfolding zeros
indexed_again = refl

indexed_number : index_of (after (alloc_step indexed_back 1 16)) 1 (2 ^ 44 + 16) ≡ 2
unfolding zeros
indexed_number = refl

indexed_counted : peak_of indexed_back 1 + live_of indexed_back 1 + slabs_of indexed_back 1 ≡ 3 + 2 + 1
unfolding zeros
indexed_counted = refl

-- the calls above lead there
indexed_reached : IsReached indexed_back
unfolding zeros
indexed_reached =
    let first = after_alloc indexed_p0 (after indexed_a1) 1 16 (2 ^ 44) (after_init (new_pools 1 3) (Homogeneous 16 16 true) (at_start 1 3)) refl in
    let second = after_alloc (after indexed_a1) (after indexed_a2) 1 16 (2 ^ 44 + 16) first refl in
    let third = after_alloc (after indexed_a2) (after indexed_a3) 1 16 (2 ^ 44 + 32) second refl in
    after_free (after indexed_a3) indexed_back 1 (2 ^ 44 + 16) third refl

-- 256 cells of 16 bytes share a slab; one cell of 5,000 bytes takes two
needed_slabs : slabs_for_peak 16 0 + slabs_for_peak 16 256 + slabs_for_peak 16 257 + slabs_for_peak 5000 3 ≡ 0 + 1 + 2 + 6
needed_slabs = refl

-- large objects in a mixed pool of three slabs
abbrev mixed_p0 : Pools
mixed_p0 = init_step (new_pools 3 1) Mixed

abbrev mixed_a1 : Allocation Pools
mixed_a1 = alloc_step mixed_p0 1 2049

abbrev mixed_a2 : Allocation Pools
mixed_a2 = alloc_step (after mixed_a1) 1 16

mixed_first : address mixed_a1 ≡ 2 ^ 44
unfolding zeros
mixed_first = refl

mixed_second : address mixed_a2 ≡ 2 ^ 44 + 4096
unfolding zeros
mixed_second = refl

mixed_third : alloc_step (after mixed_a2) 1 5000 ≡ heap_exhausted
unfolding zeros
mixed_third = refl

abbrev mixed_back : Pools
mixed_back = freed (free_step (after mixed_a2) 1 (2 ^ 44))

mixed_two_free : free_slabs_of mixed_back ≡ 2
unfolding zeros
mixed_two_free = refl

mixed_still_none : alloc_step mixed_back 1 5000 ≡ heap_exhausted
unfolding zeros
mixed_still_none = refl

mixed_all_free : free_slabs_of (destroy_step mixed_back 1) ≡ 3
unfolding zeros
mixed_all_free = refl

-- words in cells
abbrev stored : Pools
stored = freed (store_step (after indexed_a3) (2 ^ 44 + 16) 4 16909060)

upper_half : load_step stored (2 ^ 44 + 18) 2 ≡ Some 258
unfolding zeros
upper_half = refl

across_cells : load_step stored (2 ^ 44 + 12) 8 ≡ None
unfolding zeros
across_cells = refl

freed_cell : load_step (freed (free_step stored 1 (2 ^ 44 + 16))) (2 ^ 44 + 16) 4 ≡ None
unfolding zeros
freed_cell = refl

zero_again : load_step (after (alloc_step (freed (free_step stored 1 (2 ^ 44 + 16))) 1 16)) (2 ^ 44 + 16) 4 ≡ Some 0
unfolding zeros
zero_again = refl
