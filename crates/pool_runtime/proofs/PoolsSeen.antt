-- The list of all pools, by their numbers.
use Rattle.std.proofs.Common.{◌≡◌, ℕ, zero, suc, ◌+◌, ◌-◌, ◌<◌, ◌≤◌, Bool, true, false, List, [], ◌∷◌, Option, Some, None, length, get_or, set, refl, sym, ap, ◌∙◌, inl, inr, arith}
use Rattle.std.specs.Prelude.{is_some, IsSome, if◌then◌else◌, option_map, unwrap_or, slice_index_or}
use Rattle.std.specs.BTreeMap.{BTreeMap, get}
use Rattle.std.specs.Ordering.{nat_cmp}
use Rattle.std.proofs.lemmas.List.{length_push, same_lists, get_or-set_same, get_or-set_other, length-set, get_or_append_left, get_or_push, get_or_past}
use Rattle.std.proofs.lemmas.Bool.{cases_lt, cases_eq, eq-eqb, ne_eqb}
use Rattle.slab_space.specs.Pool as one
use Rattle.slab_space.specs.Pools.{pool_at}
use Rattle.slab_space.specs.Pools as all
use Rattle.pool_runtime.specs.declared.pool.Pool.{Pool}
use Rattle.pool_runtime.specs.declared.pools.Pools.TheInside.{Inside}
use Rattle.pool_runtime.specs.Seen.{pool_seen, pools_seen, pools_of}
use Rattle.pool_runtime.specs.Tables.{IsPools}

-- what is seen at a number
abbrev pub one_seen : List ℕ → BTreeMap ℕ Pool → ℕ → Option one.Pool
one_seen bytes pools id = option_map (pool_seen bytes) (get nat_cmp pools id)

pub length-pools_seen : (bytes : List ℕ) (pools : BTreeMap ℕ Pool) (made : ℕ) → length (pools_seen bytes pools made) ≡ made
length-pools_seen bytes pools zero = refl
length-pools_seen bytes pools (suc made) = length_push (pools_seen bytes pools made) (one_seen bytes pools (suc made)) ∙ ap (λ n. n + 1) (length-pools_seen bytes pools made) ∙ omega arith

pub get_or-pools_seen : (bytes : List ℕ) (pools : BTreeMap ℕ Pool) (made at : ℕ) (d : Option one.Pool) → at < made → get_or (pools_seen bytes pools made) at d ≡ one_seen bytes pools (at + 1)
get_or-pools_seen bytes pools zero at d inside = absurd (omega arith)
get_or-pools_seen bytes pools (suc made) at d inside =
    let long = length-pools_seen bytes pools made in
    elim (cases_lt at made) [
      | inl before ↦ get_or_append_left (pools_seen bytes pools made) (one_seen bytes pools (suc made) ∷ []) d at (omega (arith, long)) ∙ get_or-pools_seen bytes pools made at d before
      | inr last ↦ (
          let here : made ≡ at = omega arith in
          get_or_push (pools_seen bytes pools made) (one_seen bytes pools (suc made)) d at (long ∙ here) ∙ ap (one_seen bytes pools) (let next : suc made ≡ at + 1 = omega arith in next))
    ]

pub pools_same : (bytes bytes' : List ℕ) (old new : BTreeMap ℕ Pool) (made : ℕ) → ((id : ℕ) → 1 ≤ id → id ≤ made → one_seen bytes' new id ≡ one_seen bytes old id) → pools_seen bytes' new made ≡ pools_seen bytes old made
pools_same bytes bytes' old new zero same = refl
pools_same bytes bytes' old new (suc made) same = rw (pools_same bytes bytes' old new made (λ id low high. same id low (omega arith)), same (suc made) (omega arith) (omega arith)) refl

-- all look the same but one
pub pools_set : (bytes bytes' : List ℕ) (old new : BTreeMap ℕ Pool) (made id : ℕ) (x : Option one.Pool) → 1 ≤ id → id ≤ made
    → ((q : ℕ) → 1 ≤ q → q ≤ made → ¬ (q ≡ id) → one_seen bytes' new q ≡ one_seen bytes old q) → one_seen bytes' new id ≡ x
    → pools_seen bytes' new made ≡ set (pools_seen bytes old made) (id - 1) x
pools_set bytes bytes' old new made id x low high same is =
    let was = pools_seen bytes old made in let now = pools_seen bytes' new made in
    let long = length-pools_seen bytes old made in let long' = length-pools_seen bytes' new made in
    same_lists now (set was (id - 1) x) (long' ∙ sym (length-set was (id - 1) x ∙ long)) (λ k d h.
    let k_made : k < made = omega (arith, h, long') in
    let seen = get_or-pools_seen bytes' new made k d k_made in
    elim (cases_eq k (id - 1)) [
      | inl here ↦ (let there : k + 1 ≡ id = omega (arith, here) in
          seen ∙ ap (one_seen bytes' new) there ∙ is ∙ sym (get_or-set_same was (id - 1) x d (omega (arith, long))) ∙ ap (λ i. get_or (set was (id - 1) x) i d) (sym here))
      | inr other ↦ (
          seen ∙ same (k + 1) (omega arith) (omega arith) (λ e. other (let e' : k ≡ id - 1 = omega (arith, e) in e'))
          ∙ sym (get_or-set_other was (id - 1) k x d other ∙ get_or-pools_seen bytes old made k d k_made))
    ])

none_there : {X : Type 0} (o : Option X) → (IsSome o → ⊥) → o ≡ None
none_there None never = refl
none_there (Some x) never = absurd (never refl)

module _ (s : Inside) (is : IsPools s) where
  pub pool_at_seen : (id : ℕ) → pool_at (pools_of s) id ≡ one_seen s.slabs.space.bytes s.pools id
  pool_at_seen id =
      let bytes = s.slabs.space.bytes in let list = pools_seen bytes s.pools s.made in
      elim (cases_lt id 1) [
        | inl none ↦ (
            let zeroth : id ≡ 0 = omega arith in
            ap (λ (b : Bool). if b then None else slice_index_or list (id - 1) None) (eq-eqb id 0 zeroth) ∙ sym (ap (option_map (pool_seen bytes)) (none_there (get nat_cmp s.pools id) (λ some. absurd (omega (arith, (is.numbers id some).0))))))
        | inr some ↦ (
            let past = ap (λ (b : Bool). if b then None else slice_index_or list (id - 1) None) (ne_eqb id 0 (λ e. absurd (omega arith))) in
            let next : id - 1 + 1 ≡ id = omega arith in
            elim (cases_lt (id - 1) s.made) [
              | inl inside ↦ past ∙ get_or-pools_seen bytes s.pools s.made (id - 1) None inside ∙ ap (one_seen bytes s.pools) next
              | inr beyond ↦ (
                  past ∙ get_or_past list (id - 1) None (omega (arith, length-pools_seen bytes s.pools s.made))
                  ∙ ap (option_map (pool_seen bytes)) (sym (none_there (get nat_cmp s.pools id) (λ has. absurd (omega (arith, (is.numbers id has).1))))))
            ])
      ]

  pub pool_there : (id : ℕ) (pool : Pool) → get nat_cmp s.pools id ≡ Some pool → pool_at (pools_of s) id ≡ Some (pool_seen s.slabs.space.bytes pool)
  pool_there id pool e = pool_at_seen id ∙ ap (option_map (pool_seen s.slabs.space.bytes)) e

  pub no_pool_there : (id : ℕ) → get nat_cmp s.pools id ≡ None → pool_at (pools_of s) id ≡ None
  no_pool_there id e = pool_at_seen id ∙ ap (option_map (pool_seen s.slabs.space.bytes)) e

  pub lives_seen : (id : ℕ) → is_some (get nat_cmp s.pools id) ≡ is_some (pool_at (pools_of s) id)
  lives_seen id = mapped (get nat_cmp s.pools id) ∙ sym (ap is_some (pool_at_seen id))
    where
      mapped : (o : Option Pool) → is_some o ≡ is_some (option_map (pool_seen s.slabs.space.bytes) o)
      mapped None = refl
      mapped (Some pool) = refl

  -- a pool that lives is there
  pub never_gone : (p : all.Pools) (id : ℕ) → pools_of s ≡ p → get nat_cmp s.pools id ≡ None → all.lives_of p id ≡ true → ⊥
  never_gone p id view none lives =
      let both : false ≡ true = sym (ap is_some none) ∙ lives_seen id ∙ ap (λ (q : all.Pools). all.lives_of q id) view ∙ lives in
      cc

  pub told : (f : one.Pool → ℕ) (id : ℕ) (pool : Pool) (n : ℕ) → get nat_cmp s.pools id ≡ Some pool → n ≡ f (pool_seen s.slabs.space.bytes pool) → n ≡ unwrap_or (option_map f (pool_at (pools_of s) id)) 0
  told f id pool n e is = is ∙ sym (ap (λ p. unwrap_or (option_map f p) 0) (pool_there id pool e))

  pub not_told : (f : one.Pool → ℕ) (id : ℕ) → get nat_cmp s.pools id ≡ None → 0 ≡ unwrap_or (option_map f (pool_at (pools_of s) id)) 0
  not_told f id e = sym (ap (λ p. unwrap_or (option_map f p) 0) (no_pool_there id e))

  pub of_number : (id : ℕ) (pool : Pool) → get nat_cmp s.pools id ≡ Some pool → (1 ≤ id) × (id ≤ s.made)
  of_number id pool e = is.numbers id (ap is_some e)
