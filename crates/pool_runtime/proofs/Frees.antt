-- How freeing ends, of a pool and of all pools.
use Rattle.std.proofs.Common.{◌≡◌, ℕ, Option, Some, None, Result, Ok, Err, OnOk, OnErr, refl, sym, ap, ◌∙◌}
use Rattle.std.specs.Prelude.{option_map}
use Rattle.std.specs.BTreeMap.{get}
use Rattle.std.specs.Ordering.{nat_cmp}
use Rattle.slab_space.specs.PoolSteps.{PoolInSlabs, freed_in}
use Rattle.slab_space.specs.Pools.{free_step, free_in, with_change}
use Rattle.slab_space.specs.Pools as all
use Rattle.pool_runtime.specs.declared.pool.Pool.{Pool}
use Rattle.pool_runtime.specs.declared.pools.NotLive.{NotLive}
use Rattle.pool_runtime.specs.declared.pools.Pools.TheInside.{Inside}
use Rattle.pool_runtime.specs.declared.slabs.Found.{Found}
use Rattle.pool_runtime.specs.declared.slabs.Slabs.{Slabs}
use Rattle.pool_runtime.specs.Seen.{pool_seen, pools_of}
use Rattle.pool_runtime.specs.Tables.{IsPools}
use Rattle.pool_runtime.specs.Changes.{FindsCell, Frees, Unchanged}
use Rattle.pool_runtime.proofs.Begun.{apart_freed}
use Rattle.pool_runtime.proofs.PoolsSeen.{pool_there, no_pool_there}

module _ (s : Inside) (is : IsPools s) (id address : ℕ) where
  pub free_step_is : (pool : Pool) → get nat_cmp s.pools id ≡ Some pool → free_step (pools_of s) id address ≡ option_map (with_change (pools_of s) id) (freed_in s.slabs.space.owners (pool_seen s.slabs.space.bytes pool) address)
  free_step_is pool there = ap (free_in (pools_of s) id address) (pool_there s is id pool there)

  apart_by : (o : Option Pool) (result : Option Found) → get nat_cmp s.pools id ≡ o → FindsCell s.slabs address result → ((found : Found) → result ≡ Some found → ¬ (found.home.pool ≡ id)) → free_step (pools_of s) id address ≡ None
  apart_by None result there finds other = ap (free_in (pools_of s) id address) (no_pool_there s is id there)
  apart_by (Some pool) result there finds other =
      free_step_is pool there ∙ ap (option_map (with_change (pools_of s) id)) (apart_freed s.slabs pool id (is.pools id pool there) address result finds s.slabs.space.owners other)

  pub nothing_freed : FindsCell s.slabs address None → free_step (pools_of s) id address ≡ None
  nothing_freed finds = apart_by (get nat_cmp s.pools id) None refl finds (λ found e. absurd cc)

  pub other_freed : (found : Found) → FindsCell s.slabs address (Some found) → ¬ (found.home.pool ≡ id) → free_step (pools_of s) id address ≡ None
  other_freed found finds other = apart_by (get nat_cmp s.pools id) (Some found) refl finds (λ f e same. other (ap (λ (x : Found). x.home.pool) (let e' : found ≡ f = cc in e') ∙ same))

module _ (p : all.Pools) (id : ℕ) (step : Option PoolInSlabs) (old new : Slabs) (pool pool' : Pool) (p' : all.Pools) where
  pub ok_frees : (result : Result (Unit {0}) NotLive) → Frees step old new pool pool' result → p' ≡ with_change p id (record { owners = new.space.owners; pool = pool_seen new.space.bytes pool' })
      → OnOk result (option_map (with_change p id) step ≡ Some p')
  ok_frees (Ok t) frees seen = ap (option_map (with_change p id)) frees ∙ ap Some (sym seen)
  ok_frees (Err e) frees seen = tt

  pub err_frees : (result : Result (Unit {0}) NotLive) → Frees step old new pool pool' result → OnErr result (option_map (with_change p id) step ≡ None)
  err_frees (Ok t) frees = tt
  err_frees (Err e) frees = ap (option_map (with_change p id)) frees.0

  pub back_frees : (result : Result (Unit {0}) NotLive) → (Unchanged old new pool pool' → p' ≡ p) → Frees step old new pool pool' result → OnErr result (p' ≡ p)
  back_frees (Ok t) back frees = tt
  back_frees (Err e) back frees = back frees.1
