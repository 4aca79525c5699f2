-- The one pool: it serves all allocations, and stays the one pool while objects are placed and freed.
use Rattle.std.proofs.Common.{◌≡◌, ℕ, ◌-◌, ◌⊎◌, List, [], ◌∷◌, Option, Some, None, length, flat_map, refl, sym, ap, subst, ◌∙◌, inl, inr, arith}
use Rattle.std.specs.Prelude.{⊤, ◌==◌, slice_index_or, option_map}
use Rattle.std.proofs.lemmas.List.{length-set}
use Rattle.std.proofs.lemmas.Option.{none-some}
use Rattle.slab_space.specs.declared.kind.PoolKind.TheVariants.{Mixed}
use Rattle.slab_space.specs.Pool.{Pool, Object, objects_in}
use Rattle.slab_space.specs.PoolSteps.{PoolInSlabs, Allocation, placed, index_exhausted, heap_exhausted, placed_in, freed_in}
use Rattle.slab_space.specs.Pools.{Pools, pool_at, with_change, allocated, alloc_in, alloc_step, free_in, free_step, objects_of, kind_of}
use Rattle.slab_space.proofs.Peaks.{either}
use Rattle.pool_ir.specs.States as P
use Rattle.pool_simulation.specs.Regions.{IsIn, Lives, LivesIn}
use Rattle.pool_simulation.specs.OnePool.{HasOnePool}
use Rattle.pool_simulation.proofs.Inserted.{in_either}

-- ---- the one pool

module _ (machine : P.State) (only : HasOnePool machine) where
  pub only_at : pool_at machine.pools 1 ≡ Some only.0
  only_at = ap (λ (pools : List (Option Pool)). slice_index_or pools 0 None) only.1

  pub only_kind : kind_of machine.pools 1 ≡ Some Mixed
  only_kind = ap (option_map (λ (pool : Pool). pool.kind)) only_at ∙ ap Some only.2

  -- all that lives, lives there
  pub only_lives : (o : Object) → Lives machine.pools o → LivesIn machine.pools 1 o
  only_lives o lives = subst (λ f. IsIn o (objects_of f)) (sym only_at) (by (in_either o (objects_in only.0) [] (subst (λ (pools : List (Option Pool)). IsIn o (flat_map objects_of pools)) only.1 lives)))
    where
      by : IsIn o (objects_in only.0) ⊎ IsIn o [] → IsIn o (objects_in only.0)
      by (inl is) = is
      by (inr is) = absurd is

  pub only_made : length machine.pools.pools ≡ 1
  only_made = ap (λ (pools : List (Option Pool)). length pools) only.1

one_by : (pools : List (Option Pool)) → length pools ≡ 1 → option_map (λ (pool : Pool). pool.kind) (slice_index_or pools 0 None) ≡ Some Mixed
    → (pool : Pool) × (pools ≡ Some pool ∷ []) × (pool.kind ≡ Mixed)
one_by [] made kind = absurd (none-some Mixed kind)
one_by (None ∷ rest) made kind = absurd (none-some Mixed kind)
one_by (Some pool ∷ []) made kind = (pool, refl, (let same : pool.kind ≡ Mixed = cc in same))
one_by (Some pool ∷ other ∷ rest) made kind = absurd (omega (arith, made))

-- pools of which one was made, that is mixed
pub one_again : (pools : Pools) → length pools.pools ≡ 1 → kind_of pools 1 ≡ Some Mixed → (pool : Pool) × (pools.pools ≡ Some pool ∷ []) × (pool.kind ≡ Mixed)
one_again pools made kind = one_by pools.pools made kind

-- ---- no pool is made

abbrev MadeSame : Pools → Allocation Pools → Type 0
MadeSame p (placed address q) = length q.pools ≡ length p.pools
MadeSame p index_exhausted = ⊤
MadeSame p heap_exhausted = ⊤

made_with : (p : Pools) (id : ℕ) (s : PoolInSlabs) → length (with_change p id s).pools ≡ length p.pools
made_with p id s = length-set p.pools (id - 1) (Some s.pool)

made_allocated : (p : Pools) (id : ℕ) (result : Allocation PoolInSlabs) → MadeSame p (allocated p id result)
made_allocated p id (placed address s) = made_with p id s
made_allocated p id index_exhausted = tt
made_allocated p id heap_exhausted = tt

made_in_pool : (p : Pools) (id bytes : ℕ) (found : Option Pool) → MadeSame p (alloc_in p id bytes found)
made_in_pool p id bytes None = tt
made_in_pool p id bytes (Some pool) = made_allocated p id (placed_in p.index p.owners pool bytes)

pub placed_made : (p q : Pools) (id bytes address : ℕ) → alloc_step p id bytes ≡ placed address q → length q.pools ≡ length p.pools
placed_made p q id bytes address e =
    subst (MadeSame p) e (either (MadeSame p) (bytes == 0) (placed 0 p) (alloc_in p id bytes (pool_at p id)) (λ none. refl) (λ some. made_in_pool p id bytes (pool_at p id)))

freed_with : (p q : Pools) (id : ℕ) (found : Option PoolInSlabs) → option_map (with_change p id) found ≡ Some q → length q.pools ≡ length p.pools
freed_with p q id None e = absurd (none-some q e)
freed_with p q id (Some s) e = let same : with_change p id s ≡ q = cc in ap (λ (r : Pools). length r.pools) (sym same) ∙ made_with p id s

pub freed_made : (p q : Pools) (id address : ℕ) → free_step p id address ≡ Some q → length q.pools ≡ length p.pools
freed_made p q id address e = by (pool_at p id) e
  where
    by : (found : Option Pool) → free_in p id address found ≡ Some q → length q.pools ≡ length p.pools
    by None e = absurd (none-some q e)
    by (Some pool) e = freed_with p q id (freed_in p.owners pool address) e
