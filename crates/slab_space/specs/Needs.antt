-- The slabs that all objects placed so far need, whatever was freed since, and what they tell where the heap is exhausted.
use Rattle.std.specs.Prelude.{◌≡◌, ℕ, ◌<◌, ◌≤◌, true, List, [], ◌∷◌, sum_by, Some, IfSome, ⊤}
use Rattle.slab_space.specs.declared.kind.PoolKind.{PoolKind}
use Rattle.slab_space.specs.declared.kind.PoolKind.TheVariants.{Homogeneous, Mixed}
use Rattle.slab_space.specs.Runs.{need}
use Rattle.slab_space.specs.PoolSteps.{placed, heap_exhausted}
use Rattle.slab_space.specs.Pools.{Pools, new_pools, init_step, destroy_step, alloc_step, free_step, store_step, kind_of, lives_of}

-- An object of so many bytes needs at least as many slabs as a cell of such a pool takes. In a mixed pool each object does,
-- and 0 bytes take no cell.
abbrev pub NeedsItsCell : PoolKind → ℕ → Type 0
NeedsItsCell (Homogeneous source cell indexed) bytes = 1 ≤ bytes → need cell ≤ need bytes
NeedsItsCell Mixed bytes = ⊤

-- so does one that is allocated in the pool of this number
abbrev pub Suits : Pools → ℕ → ℕ → Type 0
Suits p id bytes = IfSome (kind_of p id) (λ kind. NeedsItsCell kind bytes)

-- These pools come from new ones, in a space of so many slabs, by calls, each of which ended well. The objects that were
-- placed had these sizes, the last one first.
pub data HavePlaced (slabs : ℕ) : Pools → List ℕ → Type 0 where
  at_start : (index : ℕ) → HavePlaced slabs (new_pools slabs index) []
  after_init : (p : Pools) (sizes : List ℕ) (kind : PoolKind) → HavePlaced slabs p sizes → HavePlaced slabs (init_step p kind) sizes
  after_destroy : (p : Pools) (sizes : List ℕ) (id : ℕ) → HavePlaced slabs p sizes → HavePlaced slabs (destroy_step p id) sizes
  after_alloc : (p q : Pools) (sizes : List ℕ) (id bytes address : ℕ) → HavePlaced slabs p sizes → Suits p id bytes
      → alloc_step p id bytes ≡ placed address q → HavePlaced slabs q (bytes ∷ sizes)
  after_free : (p q : Pools) (sizes : List ℕ) (id address : ℕ) → HavePlaced slabs p sizes → free_step p id address ≡ Some q → HavePlaced slabs q sizes
  after_store : (p q : Pools) (sizes : List ℕ) (address width word : ℕ) → HavePlaced slabs p sizes → store_step p address width word ≡ Some q → HavePlaced slabs q sizes

-- the slabs that objects of these sizes need, each its own
abbrev pub needs : List ℕ → ℕ
needs sizes = sum_by need sizes

-- Where an allocation in a living pool finds the heap exhausted, the objects placed so far and the refused one need more
-- slabs than there are.
abbrev pub ExhaustionTellsNeeds : Type 0
ExhaustionTellsNeeds =
    (slabs : ℕ) (p : Pools) (sizes : List ℕ) (id bytes : ℕ) →
    HavePlaced slabs p sizes → lives_of p id ≡ true → Suits p id bytes →
    alloc_step p id bytes ≡ heap_exhausted → slabs < needs (bytes ∷ sizes)
