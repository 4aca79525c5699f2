-- How an allocation ends, of a pool and of all pools.
use Rattle.std.proofs.Common.{◌≡◌, ℕ, Bool, List, Option, Some, Result, Ok, Err, IfOk, OnErr, ◌↔◌, refl, sym, ap, subst, ◌∙◌}
use Rattle.std.specs.Prelude.{if◌then◌else◌}
use Rattle.std.specs.BTreeMap.{get}
use Rattle.std.specs.Ordering.{nat_cmp}
use Rattle.std.proofs.lemmas.Bool.{ne_eqb}
use Rattle.slab_space.specs.PoolSteps.{PoolInSlabs, Allocation, placed, index_exhausted, heap_exhausted, placed_in}
use Rattle.slab_space.specs.Pools.{alloc_step, alloc_in, allocated, with_change}
use Rattle.slab_space.specs.Pools as all
use Rattle.pool_runtime.specs.declared.pool.Pool.{Pool}
use Rattle.pool_runtime.specs.declared.pools.AllocEnd.{AllocEnd}
use Rattle.pool_runtime.specs.declared.pools.AllocEnd.TheVariants.{HeapExhausted, IndexExhausted, OutOfMemory}
use Rattle.pool_runtime.specs.declared.pools.Pools.TheInside.{Inside}
use Rattle.pool_runtime.specs.declared.slabs.Slabs.{Slabs}
use Rattle.pool_runtime.specs.Seen.{pool_seen, pools_of}
use Rattle.pool_runtime.specs.Tables.{IsPools}
use Rattle.pool_runtime.specs.Changes.{Ends, TakesSlabs, Unchanged}
use Rattle.pool_runtime.proofs.PoolsSeen.{pool_there}

pub step_is : (s : Inside) → IsPools s → (id bytes : ℕ) (pool : Pool) → get nat_cmp s.pools id ≡ Some pool → ¬ (bytes ≡ 0)
    → alloc_step (pools_of s) id bytes ≡ allocated (pools_of s) id (placed_in s.index s.slabs.space.owners (pool_seen s.slabs.space.bytes pool) bytes)
step_is s is id bytes pool there some =
    ap (λ (b : Bool). if b then placed 0 (pools_of s) else alloc_in (pools_of s) id bytes (all.pool_at (pools_of s) id)) (ne_eqb bytes 0 some)
    ∙ ap (alloc_in (pools_of s) id bytes) (pool_there s is id pool there)

module _ (p : all.Pools) (id : ℕ) where
  not_heap : (owners : List (Option ℕ)) (step : Allocation PoolInSlabs) → TakesSlabs owners step → allocated p id step ≡ heap_exhausted → ⊥
  not_heap owners (placed address s) takes e = cc
  not_heap owners index_exhausted takes e = absurd takes
  not_heap owners heap_exhausted takes e = absurd takes

  not_index : (owners : List (Option ℕ)) (step : Allocation PoolInSlabs) → TakesSlabs owners step → allocated p id step ≡ index_exhausted → ⊥
  not_index owners (placed address s) takes e = cc
  not_index owners index_exhausted takes e = absurd takes
  not_index owners heap_exhausted takes e = absurd takes

  takes_all : (step : Allocation PoolInSlabs) → TakesSlabs p.owners step → all.TakesSlabs p (allocated p id step)
  takes_all (placed address s) takes = takes
  takes_all index_exhausted takes = absurd takes
  takes_all heap_exhausted takes = absurd takes

  module _ (step : Allocation PoolInSlabs) (old new : Slabs) (pool pool' : Pool) (p' : all.Pools) where
    pub ok_ends : (result : Result ℕ AllocEnd) → Ends step old new pool pool' result → p' ≡ with_change p id (record { owners = new.space.owners; pool = pool_seen new.space.bytes pool' }) → IfOk result (λ address. allocated p id step ≡ placed address p')
    ok_ends (Ok address) ends seen = ap (allocated p id) ends ∙ ap (placed address) (sym seen)
    ok_ends (Err e) ends seen = tt

    pub heap_ends : (result : Result ℕ AllocEnd) → Ends step old new pool pool' result → (result ≡ Err HeapExhausted) ↔ (allocated p id step ≡ heap_exhausted)
    heap_ends (Ok address) ends = (λ e. absurd cc, λ e. let both = sym (ap (allocated p id) ends) ∙ e in absurd cc)
    heap_ends (Err HeapExhausted) ends = (λ e. ap (allocated p id) ends.0, λ e. refl)
    heap_ends (Err IndexExhausted) ends = (λ e. absurd cc, λ e. let both = sym (ap (allocated p id) ends.0) ∙ e in absurd cc)
    heap_ends (Err OutOfMemory) ends = (λ e. absurd cc, λ e. absurd (not_heap old.space.owners step ends.0 e))

    pub index_ends : (result : Result ℕ AllocEnd) → Ends step old new pool pool' result → (result ≡ Err IndexExhausted) ↔ (allocated p id step ≡ index_exhausted)
    index_ends (Ok address) ends = (λ e. absurd cc, λ e. let both = sym (ap (allocated p id) ends) ∙ e in absurd cc)
    index_ends (Err HeapExhausted) ends = (λ e. absurd cc, λ e. let both = sym (ap (allocated p id) ends.0) ∙ e in absurd cc)
    index_ends (Err IndexExhausted) ends = (λ e. ap (allocated p id) ends.0, λ e. refl)
    index_ends (Err OutOfMemory) ends = (λ e. absurd cc, λ e. absurd (not_index old.space.owners step ends.0 e))

    pub memory_ends : (result : Result ℕ AllocEnd) → p.owners ≡ old.space.owners → Ends step old new pool pool' result → result ≡ Err OutOfMemory → all.TakesSlabs p (allocated p id step)
    memory_ends (Ok address) os ends e = absurd cc
    memory_ends (Err HeapExhausted) os ends e = absurd cc
    memory_ends (Err IndexExhausted) os ends e = absurd cc
    memory_ends (Err OutOfMemory) os ends e = takes_all step (subst (λ (x : List (Option ℕ)). TakesSlabs x step) (sym os) ends.0)

    pub err_ends : (result : Result ℕ AllocEnd) → (Unchanged old new pool pool' → p' ≡ p) → Ends step old new pool pool' result → OnErr result (p' ≡ p)
    err_ends (Ok address) back ends = tt
    err_ends (Err HeapExhausted) back ends = back ends.1
    err_ends (Err IndexExhausted) back ends = back ends.1
    err_ends (Err OutOfMemory) back ends = back ends.1
