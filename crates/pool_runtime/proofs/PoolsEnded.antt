-- All pools, after one of them ended and its slabs were given back.
use Rattle.std.proofs.Common.{◌≡◌, ℕ, ◌≤◌, Option, Some, None, sym, ap, refl, ◌∙◌, inl, inr, arith}
use Rattle.std.specs.Prelude.{is_some, IsSome, option_map, unwrap_or}
use Rattle.std.specs.BTreeMap.{BTreeMap, get, is_at, Updates}
use Rattle.std.specs.Map.{remove_entry}
use Rattle.std.specs.Ordering.{nat_cmp}
use Rattle.std.proofs.lemmas.Map.Entries.{sum_by-remove_entry}
use Rattle.std.proofs.lemmas.Bool.{cases_eq}
use Rattle.slab_space.specs.Pools as all
use Rattle.pool_runtime.specs.declared.pool.Pool.{Pool}
use Rattle.pool_runtime.specs.declared.pools.Pools.TheInside.{Inside}
use Rattle.pool_runtime.specs.declared.slabs.Slabs.{Slabs}
use Rattle.pool_runtime.specs.Seen.{pool_seen, pools_of}
use Rattle.pool_runtime.specs.Tables.{IsPool, IsPools, slabs_held}
use Rattle.pool_runtime.specs.Changes.{ReturnsSlabs, of_others}
use Rattle.pool_runtime.proofs.Kept.{pool_kept, pool_same}
use Rattle.pool_runtime.proofs.PoolsSeen.{pools_set, pool_there, no_pool_there}
use Rattle.pool_runtime.proofs.PoolsChanged.{same_pools, other_key, unchanged_seen}

no_pool : {pool : Pool} → ¬ (None ≡ Some pool)
no_pool e = cc

module _ (s : Inside) (is : IsPools s) (id : ℕ) (pool : Pool) (slabs' : Slabs) (there : get nat_cmp s.pools id ≡ Some pool) (gives : ReturnsSlabs id pool s.slabs slabs') (new : BTreeMap ℕ Pool)
    (updates : Updates nat_cmp s.pools new id None) (entries : new.entries ≡ remove_entry (is_at (nat_cmp id)) s.pools.entries) where
  number : (1 ≤ id) × (id ≤ s.made)
  number = is.numbers id (ap is_some there)

  same_get : (q : ℕ) → ¬ (q ≡ id) → get nat_cmp new q ≡ get nat_cmp s.pools q
  same_get q differ = updates.2 q (other_key id q differ)

  gone : (q : ℕ) → q ≡ id → get nat_cmp new q ≡ None
  gone q e = ap (get nat_cmp new) e ∙ updates.1

  still_is : (q : ℕ) (p : Pool) → ¬ (q ≡ id) → get nat_cmp s.pools q ≡ Some p → IsPool slabs' q p
  still_is q p differ at = pool_kept (of_others id) s.slabs slabs' is.space gives.space gives.long gives.others q p (is.pools q p at) (λ k j first. differ) (λ first. differ)

  still_seen : (q : ℕ) (o : Option Pool) → ¬ (q ≡ id) → get nat_cmp s.pools q ≡ o → option_map (pool_seen slabs'.space.bytes) o ≡ option_map (pool_seen s.slabs.space.bytes) o
  still_seen q None differ at = refl
  still_seen q (Some p) differ at = ap Some (pool_same (of_others id) s.slabs slabs' is.space gives.space gives.long gives.others q p (is.pools q p at) (λ k j first. differ) (λ first. differ))

  pool_by : (q : ℕ) (p : Pool) → get nat_cmp new q ≡ Some p → IsPool slabs' q p
  pool_by q p at = elim (cases_eq q id) [
    | inl e ↦ absurd (no_pool (sym (gone q e) ∙ at))
    | inr differ ↦ still_is q p differ (sym (same_get q differ) ∙ at)
  ]

  number_by : (q : ℕ) → IsSome (get nat_cmp new q) → (1 ≤ q) × (q ≤ s.made)
  number_by q some = elim (cases_eq q id) [
    | inl e ↦ (omega (arith, e, number.0), omega (arith, e, number.1))
    | inr differ ↦ is.numbers q (sym (ap is_some (same_get q differ)) ∙ some)
  ]

  pub ended_pools : IsPools (record s { slabs = slabs'; pools = new })
  ended_pools =
      let f = λ (p : Pool). p.slabs in
      let sum = sum_by-remove_entry f (is_at (nat_cmp id)) s.pools.entries in
      let one = ap (λ (o : Option Pool). unwrap_or (option_map f o) 0) there in
      record { space = gives.space; numbers = number_by; pools = pool_by; counted = omega (arith, ap slabs_held entries, sum, one, gives.counted, gives.long, is.counted) }

  pub ended_seen : pools_of (record s { slabs = slabs'; pools = new }) ≡ all.destroy_step (pools_of s) id
  ended_seen =
      same_pools refl gives.owners (pools_set s.slabs.space.bytes slabs'.space.bytes s.pools new s.made id None number.0 number.1
      (λ q low high differ. ap (option_map (pool_seen slabs'.space.bytes)) (same_get q differ) ∙ still_seen q (get nat_cmp s.pools q) differ refl)
      (ap (option_map (pool_seen slabs'.space.bytes)) updates.1))
      ∙ sym (ap (all.destroyed (pools_of s) id) (pool_there s is id pool there))

-- where there is no such pool, none ends
pub none_ended : (s : Inside) → IsPools s → (id : ℕ) (new : BTreeMap ℕ Pool) → get nat_cmp s.pools id ≡ None → new.entries ≡ s.pools.entries → pools_of (record s { pools = new }) ≡ all.destroy_step (pools_of s) id
none_ended s is id new none same = unchanged_seen s new same ∙ sym (ap (all.destroyed (pools_of s) id) (no_pool_there s is id none))
