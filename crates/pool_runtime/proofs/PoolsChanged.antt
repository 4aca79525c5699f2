-- All pools, after one was added, changed or ended.
use Rattle.std.proofs.Common.{◌≡◌, ℕ, suc, ◌+◌, ◌-◌, ◌≤◌, false, List, [], ◌∷◌, ◌++◌, Option, Some, None, set, refl, sym, ap, subst, ◌∙◌, inl, inr, arith}
use Rattle.std.specs.Prelude.{is_some, IsSome, option_map, unwrap_or}
use Rattle.std.specs.BTreeMap.{BTreeMap, get, is_at, Updates, IsOrdered, insert_entry}
use Rattle.std.specs.Map.{lookup}
use Rattle.std.specs.Ordering.{nat_cmp}
use Rattle.std.specs.Cmp.{Equal-is}
use Rattle.std.proofs.lemmas.Cmp.{nat_cmp_total}
use Rattle.std.proofs.lemmas.Map.Lookups.{exact_unsigned}
use Rattle.std.proofs.lemmas.Map.Entries.{sum_by-insert_entry}
use Rattle.std.proofs.lemmas.Bool.{cases_eq, false_from_ne_true}
use Rattle.slab_space.specs.declared.kind.PoolKind.{PoolKind}
use Rattle.slab_space.specs.Pool as one
use Rattle.slab_space.specs.Pools as all
use Rattle.pool_runtime.specs.declared.pool.Pool.{Pool}
use Rattle.pool_runtime.specs.declared.pools.Pools.TheInside.{Inside}
use Rattle.pool_runtime.specs.Seen.{pool_seen, pools_seen, pools_of}
use Rattle.pool_runtime.specs.Tables.{IsPool, IsPools, slabs_held}
use Rattle.std.proofs.lemmas.Option.{same_Some, slice_get-get_or}
use Rattle.std.proofs.lemmas.Map.Entries.{sum_by-set_value}
use Rattle.std.specs.Map.{set_value}
use Rattle.pool_runtime.specs.declared.slabs.Slabs.{Slabs}
use Rattle.pool_runtime.specs.Changes.{IsNew, Changes, Unchanged, of_others}
use Rattle.pool_runtime.proofs.Kept.{pool_kept, pool_same}
use Rattle.pool_runtime.proofs.AddRun.{set_same}
use Rattle.pool_runtime.proofs.PoolsSeen.{one_seen, pools_same, pools_set, length-pools_seen, get_or-pools_seen}

abbrev pools_with : ℕ → List (Option ℕ) → List (Option one.Pool) → all.Pools
pools_with index owners pools = record { index = index; owners = owners; pools = pools }

pub same_pools : {i i' : ℕ} {os os' : List (Option ℕ)} {ps ps' : List (Option one.Pool)} → i ≡ i' → os ≡ os' → ps ≡ ps' → pools_with i os ps ≡ pools_with i' os' ps'
same_pools ei eos eps = rw (ei, eos, eps) refl

pub unchanged_pools : (s : Inside) (pools : BTreeMap ℕ Pool) → pools.entries ≡ s.pools.entries → IsPools s → IsPools (record s { pools = pools })
unchanged_pools s pools e is =
    let same = λ (q : ℕ). ap (λ (es : List (ℕ × Pool)). lookup (is_at (nat_cmp q)) es) e in
    record {
      space = is.space;
      numbers = λ q some. is.numbers q (sym (ap is_some (same q)) ∙ some);
      pools = λ q p at. is.pools q p (sym (same q) ∙ at);
      counted = omega (arith, ap slabs_held e, is.counted);
    }

pub unchanged_seen : (s : Inside) (pools : BTreeMap ℕ Pool) → pools.entries ≡ s.pools.entries → pools_of (record s { pools = pools }) ≡ pools_of s
unchanged_seen s pools e =
    let bytes = s.slabs.space.bytes in
    same_pools refl refl (pools_same bytes bytes s.pools pools s.made (λ q low high. ap (λ (es : List (ℕ × Pool)). option_map (pool_seen bytes) (lookup (is_at (nat_cmp q)) es)) e))

nothing_above : (o : Option Pool) → (IsSome o → ⊥) → o ≡ None
nothing_above None never = refl
nothing_above (Some pool) never = absurd (never refl)

pub other_key : (id q : ℕ) → ¬ (q ≡ id) → is_at (nat_cmp id) q ≡ false
other_key id q differ = false_from_ne_true (is_at (nat_cmp id) q) (λ t. differ (sym (exact_unsigned id q ((Equal-is (nat_cmp id q)).0 t))))

-- ---- one more pool

module _ (s : Inside) (is : IsPools s) (kind : PoolKind) (id : ℕ) (pool : Pool) (new : BTreeMap ℕ Pool) (next : id ≡ s.made + 1) (fresh : IsNew kind pool)
    (updates : Updates nat_cmp s.pools new id (Some pool)) (entries : new.entries ≡ insert_entry nat_cmp s.pools.entries id pool) (ordered : IsOrdered nat_cmp s.pools) where
  pub none_yet : get nat_cmp s.pools id ≡ None
  none_yet = nothing_above (get nat_cmp s.pools id) (λ some. absurd (omega (arith, (is.numbers id some).1, next)))

  here : (q : ℕ) (p : Pool) → q ≡ id → get nat_cmp new q ≡ Some p → p ≡ pool
  here q p e at = let both = sym at ∙ ap (get nat_cmp new) e ∙ updates.1 in cc

  others : (q : ℕ) → ¬ (q ≡ id) → get nat_cmp new q ≡ get nat_cmp s.pools q
  others q differ = updates.2 q (other_key id q differ)

  added_pool : (q : ℕ) (p : Pool) → get nat_cmp new q ≡ Some p → IsPool s.slabs q p
  added_pool q p at =
      elim (cases_eq q id) [
        | inl e ↦ subst (λ (x : Pool). IsPool s.slabs q x) (sym (here q p e at)) (fresh.is_pool s.slabs q)
        | inr differ ↦ is.pools q p (sym (others q differ) ∙ at)
      ]

  added_numbers : (q : ℕ) → IsSome (get nat_cmp new q) → (1 ≤ q) × (q ≤ id)
  added_numbers q some =
      elim (cases_eq q id) [
        | inl e ↦ (omega arith, omega arith)
        | inr differ ↦ (let was = is.numbers q (sym (ap is_some (others q differ)) ∙ some) in (was.0, omega (arith, was.1)))
      ]

  added_counted : slabs_held new.entries ≡ slabs_held s.pools.entries
  added_counted =
      let f = λ (p : Pool). p.slabs in
      let sum = sum_by-insert_entry f nat_cmp_total s.pools.entries id pool ordered in
      let gone = ap (λ (o : Option Pool). unwrap_or (option_map f o) 0) none_yet in
      omega (arith, ap slabs_held entries, sum, gone, fresh.none)

  pub added_pools : IsPools (record s { pools = new; made = id })
  added_pools = record { space = is.space; numbers = added_numbers; pools = added_pool; counted = omega (arith, added_counted, is.counted) }

  pub added_seen : pools_of (record s { pools = new; made = id }) ≡ all.init_step (pools_of s) kind
  added_seen =
      let bytes = s.slabs.space.bytes in
      let more : id ≡ suc s.made = omega (arith, next) in
      let same = pools_same bytes bytes s.pools new s.made (λ q low high. ap (option_map (pool_seen bytes)) (others q (λ e. absurd (omega (arith, e, high, next))))) in
      let last = ap (option_map (pool_seen bytes)) (ap (get nat_cmp new) (sym more) ∙ updates.1) ∙ ap Some (fresh.seen bytes) in
      same_pools refl refl (ap (pools_seen bytes new) more ∙ ap (λ (ps : List (Option one.Pool)). ps ++ one_seen bytes new (suc s.made) ∷ []) same ∙ ap (λ (o : Option one.Pool). pools_seen bytes s.pools s.made ++ o ∷ []) last)

-- ---- one pool changed

module _ (s : Inside) (is : IsPools s) (id : ℕ) (pool pool' : Pool) (slabs' : Slabs) (there : get nat_cmp s.pools id ≡ Some pool) (changes : Changes id s.slabs slabs' pool pool') (new : BTreeMap ℕ Pool)
    (updates : Updates nat_cmp s.pools new id (Some pool')) (entries : new.entries ≡ set_value (is_at (nat_cmp id)) s.pools.entries pool') where
  number : (1 ≤ id) × (id ≤ s.made)
  number = is.numbers id (ap is_some there)

  same_get : (q : ℕ) → ¬ (q ≡ id) → get nat_cmp new q ≡ get nat_cmp s.pools q
  same_get q differ = updates.2 q (other_key id q differ)

  still_is : (q : ℕ) (p : Pool) → ¬ (q ≡ id) → get nat_cmp s.pools q ≡ Some p → IsPool slabs' q p
  still_is q p differ at = pool_kept (of_others id) s.slabs slabs' is.space changes.space changes.long changes.others q p (is.pools q p at) (λ k j first. differ) (λ first. differ)

  still_seen : (q : ℕ) (o : Option Pool) → ¬ (q ≡ id) → get nat_cmp s.pools q ≡ o → option_map (pool_seen slabs'.space.bytes) o ≡ option_map (pool_seen s.slabs.space.bytes) o
  still_seen q None differ at = refl
  still_seen q (Some p) differ at = ap Some (pool_same (of_others id) s.slabs slabs' is.space changes.space changes.long changes.others q p (is.pools q p at) (λ k j first. differ) (λ first. differ))

  pool_by : (q : ℕ) (p : Pool) → get nat_cmp new q ≡ Some p → IsPool slabs' q p
  pool_by q p at = elim (cases_eq q id) [
    | inl e ↦ (let same : p ≡ pool' = same_Some p pool' (sym at ∙ ap (get nat_cmp new) e ∙ updates.1) in subst (λ n. IsPool slabs' n p) (sym e) (subst (λ (x : Pool). IsPool slabs' id x) (sym same) changes.is_pool))
    | inr differ ↦ still_is q p differ (sym (same_get q differ) ∙ at)
  ]

  number_by : (q : ℕ) → IsSome (get nat_cmp new q) → (1 ≤ q) × (q ≤ s.made)
  number_by q some = elim (cases_eq q id) [
    | inl e ↦ (omega (arith, e, number.0), omega (arith, e, number.1))
    | inr differ ↦ is.numbers q (sym (ap is_some (same_get q differ)) ∙ some)
  ]

  pub changed_pools : IsPools (record s { slabs = slabs'; pools = new })
  changed_pools =
      let f = λ (p : Pool). p.slabs in
      let sum = sum_by-set_value f (is_at (nat_cmp id)) s.pools.entries pool pool' there in
      record { space = changes.space; numbers = number_by; pools = pool_by; counted = omega (arith, ap slabs_held entries, sum, changes.counted, changes.long, is.counted) }

  pub changed_seen : pools_of (record s { slabs = slabs'; pools = new }) ≡ all.with_change (pools_of s) id (record { owners = slabs'.space.owners; pool = pool_seen slabs'.space.bytes pool' })
  changed_seen =
      same_pools refl refl (pools_set s.slabs.space.bytes slabs'.space.bytes s.pools new s.made id (Some (pool_seen slabs'.space.bytes pool')) number.0 number.1
      (λ q low high differ. ap (option_map (pool_seen slabs'.space.bytes)) (same_get q differ) ∙ still_seen q (get nat_cmp s.pools q) differ refl)
      (ap (option_map (pool_seen slabs'.space.bytes)) updates.1))

  pub nothing_seen : Unchanged s.slabs slabs' pool pool' → pools_of (record s { slabs = slabs'; pools = new }) ≡ pools_of s
  nothing_seen same =
      let list = pools_seen s.slabs.space.bytes s.pools s.made in
      let next : id - 1 + 1 ≡ id = omega (arith, number.0) in
      let at = slice_get-get_or list (id - 1) None (omega (arith, length-pools_seen s.slabs.space.bytes s.pools s.made, number.0, number.1))
      ∙ ap Some (get_or-pools_seen s.slabs.space.bytes s.pools s.made (id - 1) None (omega (arith, number.0, number.1)) ∙ ap (one_seen s.slabs.space.bytes s.pools) next ∙ ap (option_map (pool_seen s.slabs.space.bytes)) there) in
      changed_seen ∙ same_pools refl same.0 (ap (λ (p : one.Pool). set (pools_seen s.slabs.space.bytes s.pools s.made) (id - 1) (Some p)) same.1 ∙ set_same list (id - 1) (Some (pool_seen s.slabs.space.bytes pool)) at)
