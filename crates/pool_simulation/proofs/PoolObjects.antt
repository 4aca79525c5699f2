-- What each step on pools makes of the live objects of all pools: it places one, takes one away, writes in them, or leaves them.
use Rattle.std.proofs.Common.{◌≡◌, ℕ, zero, suc, ◌-◌, ◌<◌, ◌≤◌, ◌⊎◌, ◌≢◌, Bool, true, false, List, [], ◌∷◌, ◌++◌, Option, Some, None, length, map, flat_map, refl, sym, ap, subst, ◌∙◌, inl, inr, arith, false-eqb, ne_eqb, get_or-set_same, get_or-set_other, append-nil}
use Rattle.std.specs.Prelude.{⊤, ◌==◌, is_some, slice_set, slice_index_or, option_map, if◌then◌else◌}
use Rattle.std.specs.List.{AllByRecursion}
use Rattle.std.proofs.lemmas.Bool.{cases_lt, cases_eq}
use Rattle.std.proofs.lemmas.List.{map-append, length-replicate, get_or_past}
use Rattle.std.proofs.lemmas.List.Concat.{flat_map-append}
use Rattle.run_theory.specs.Words.{zeros}
use Rattle.slab_space.specs.declared.kind.PoolKind.{PoolKind}
use Rattle.slab_space.specs.declared.kind.PoolKind.TheVariants.{Homogeneous, Mixed}
use Rattle.slab_space.specs.Pool.{Pool, Object, IsKind, new_pool, objects_in}
use Rattle.slab_space.specs.PoolSteps.{PoolInSlabs, Allocation, placed, index_exhausted, heap_exhausted, placed_in, freed_in, written_in}
use Rattle.slab_space.specs.Pools.{Pools, new_pools, pool_at, with_change, init_step, destroyed, allocated, alloc_in, alloc_step, free_in, free_step, objects_of, objects, object_at, store_step, kind_of}
use Rattle.slab_space.proofs.Peaks.{either}
use Rattle.slab_space.specs.Needs.{HavePlaced, at_start, after_init, after_destroy, after_alloc, after_free, after_store}
use Rattle.pool_simulation.specs.Regions.{IsIn, LivesIn, OfKind}
use Rattle.pool_simulation.proofs.Inserted.{in_part, new_in, old_in, new_or_old, Inserted, more_in_part, less_in_part}
use Rattle.pool_simulation.proofs.LiveCells.{all_push, all_set, all_or, all_mapped}
use Rattle.pool_simulation.proofs.SoundPools.{SoundPool, new_sound, HasSize, object_of, Grown, PlacedGrows, placed_grows, Shrunk, FreedShrinks, freed_shrinks, pool_given, writing, pool_written, pool_written_sound}

abbrev pub SomeSound : ℕ → Option Pool → Type 0
SomeSound slabs None = ⊤
SomeSound slabs (Some pool) = SoundPool slabs pool

pub record SoundPools (slabs : ℕ) (p : Pools) : Type 0 where
  pub few : length p.owners ≤ slabs
  pub all : AllByRecursion (SomeSound slabs) p.pools

-- ---- pools by their numbers

pub record IsThere (p : Pools) (id : ℕ) (pool : Pool) : Type 0 where
  pub some : 1 ≤ id
  pub inside : id - 1 < length p.pools
  pub at : slice_index_or p.pools (id - 1) None ≡ Some pool

there_by : (p : Pools) (id : ℕ) (pool : Pool) (b : Bool) → (id == 0) ≡ b → (if b then None else slice_index_or p.pools (id - 1) None) ≡ Some pool → IsThere p id pool
there_by p id pool true is e = absurd cc
there_by p id pool false is e =
    let some = false-eqb id 0 (sym is) in
    record { some = omega (arith, some); inside = by (cases_lt (id - 1) (length p.pools)); at = e }
  where
    by : ((id - 1) < length p.pools) ⊎ (length p.pools ≤ id - 1) → id - 1 < length p.pools
    by (inl inside) = inside
    by (inr past) = let both : None ≡ Some pool = sym (get_or_past p.pools (id - 1) None past) ∙ e in absurd cc

pub pool_there : (p : Pools) (id : ℕ) (pool : Pool) → pool_at p id ≡ Some pool → IsThere p id pool
pool_there p id pool e = there_by p id pool (id == 0) refl e

module _ (p q : Pools) (id : ℕ) (pool : Pool) (there : IsThere p id pool) (next : Option Pool) (set : q.pools ≡ slice_set p.pools (id - 1) next) where
  pub at_same : pool_at q id ≡ next
  at_same =
      ap (λ b. if b then None else slice_index_or q.pools (id - 1) None) (ne_eqb id 0 (λ e. omega (arith, e, there.some)))
      ∙ ap (λ (ps : List (Option Pool)). slice_index_or ps (id - 1) None) set ∙ get_or-set_same p.pools (id - 1) next None there.inside

  pub at_other : (other : ℕ) → other ≢ id → pool_at q other ≡ pool_at p other
  at_other other apart =
      either (λ o. o ≡ pool_at p other) (other == 0) None (slice_index_or q.pools (other - 1) None)
      (λ e. sym (ap (λ b. if b then None else slice_index_or p.pools (other - 1) None) e))
      (λ e. ap (λ (ps : List (Option Pool)). slice_index_or ps (other - 1) None) set
      ∙ get_or-set_other p.pools (id - 1) (other - 1) next None (λ same. apart (let some = false-eqb other 0 (sym e) in omega (arith, same, there.some, some)))
      ∙ sym (ap (λ b. if b then None else slice_index_or p.pools (other - 1) None) e))

pub lives_in_all : (p : Pools) (id : ℕ) (o : Object) → LivesIn p id o → IsIn o (objects p)
lives_in_all p id o lives = by (pool_at p id) refl lives
  where
    by : (found : Option Pool) → pool_at p id ≡ found → IsIn o (objects_of found) → IsIn o (objects p)
    by None e is = absurd is
    by (Some pool) e is =
        let there = pool_there p id pool e in
        in_part objects_of o p.pools (id - 1) None there.inside (subst (λ f. IsIn o (objects_of f)) (sym there.at) is)

-- ---- an object placed

pub record PlacedOne (slabs : ℕ) (p : Pools) (id bytes address : ℕ) (q : Pools) : Type 0 where
  pub sound : SoundPools slabs q
  pub pool : Pool
  pub there : pool_at p id ≡ Some pool
  pub size : ℕ
  pub enough : HasSize pool.kind bytes size
  pub inserted : Inserted (object_of address (zeros size)) (objects p) (objects q)
  pub kinds : (other : ℕ) → kind_of q other ≡ kind_of p other
  pub of_kinds : AllByRecursion OfKind p.pools → AllByRecursion OfKind q.pools
  pub lives : LivesIn q id (object_of address (zeros size))
  pub kept : (other : ℕ) (o : Object) → LivesIn p other o → LivesIn q other o

abbrev AllocPlaces : ℕ → Pools → ℕ → ℕ → Allocation Pools → Type 0
AllocPlaces slabs p id bytes (placed address q) = PlacedOne slabs p id bytes address q
AllocPlaces slabs p id bytes index_exhausted = ⊤
AllocPlaces slabs p id bytes heap_exhausted = ⊤

abbrev kind_in : Option Pool → Option PoolKind
kind_in found = option_map (λ (pool : Pool). pool.kind) found

module _ (slabs : ℕ) (p : Pools) (sound : SoundPools slabs p) (id : ℕ) (pool : Pool) (here : pool_at p id ≡ Some pool) where
  there : IsThere p id pool
  there = pool_there p id pool here

  kinds_of : (q : Pools) (next : Pool) → q.pools ≡ slice_set p.pools (id - 1) (Some next) → next.kind ≡ pool.kind → (other : ℕ) → kind_of q other ≡ kind_of p other
  kinds_of q next set kept other =
      elim (cases_eq other id) [
        | inl same ↦ subst (λ n. kind_of q n ≡ kind_of p n) (sym same) (ap kind_in (at_same p q id pool there (Some next) set) ∙ ap Some kept ∙ sym (ap kind_in here))
        | inr apart ↦ ap kind_in (at_other p q id pool there (Some next) set other apart)
      ]

  kinds_stay : (next : Pool) → next.kind ≡ pool.kind → AllByRecursion OfKind p.pools → AllByRecursion OfKind (slice_set p.pools (id - 1) (Some next))
  kinds_stay next kept kinds =
      let now : OfKind (Some pool) = subst OfKind there.at (all_or OfKind p.pools (id - 1) None kinds tt) in
      all_set OfKind p.pools (id - 1) (Some next) kinds (subst IsKind (sym kept) now)

  grown : (bytes address : ℕ) (s : PoolInSlabs) → Grown slabs pool bytes address s → PlacedOne slabs p id bytes address (with_change p id s)
  grown bytes address s more =
      let q = with_change p id s in
      let new : Object = object_of address (zeros more.size) in
      let at = at_same p q id pool there (Some s.pool) refl in
      record {
        sound = record { few = more.owners; all = all_set (SomeSound slabs) p.pools (id - 1) (Some s.pool) sound.all more.sound };
        pool = pool;
        there = here;
        size = more.size;
        enough = more.enough;
        inserted = more_in_part objects_of new p.pools (id - 1) None (Some s.pool) there.inside (subst (λ f. Inserted new (objects_of f) (objects_in s.pool)) (sym there.at) more.inserted);
        kinds = kinds_of q s.pool refl more.kind;
        of_kinds = kinds_stay s.pool more.kind;
        lives = subst (λ f. IsIn new (objects_of f)) (sym at) (new_in new (objects_in pool) (objects_in s.pool) more.inserted);
        kept = λ other o lives. elim (cases_eq other id) [
          | inl same ↦ subst (λ n. LivesIn q n o) (sym same) (subst (λ f. IsIn o (objects_of f)) (sym at) (old_in new o (objects_in pool) (objects_in s.pool) more.inserted (subst (λ f. IsIn o (objects_of f)) here (subst (λ n. LivesIn p n o) same lives))))
          | inr apart ↦ subst (λ f. IsIn o (objects_of f)) (sym (at_other p q id pool there (Some s.pool) refl other apart)) lives
        ];
      }

  allocated_places : (bytes : ℕ) (result : Allocation PoolInSlabs) → PlacedGrows slabs pool bytes result → AllocPlaces slabs p id bytes (allocated p id result)
  allocated_places bytes (placed address s) more = grown bytes address s more
  allocated_places bytes index_exhausted more = tt
  allocated_places bytes heap_exhausted more = tt

alloc_in_places : (slabs : ℕ) (p : Pools) → SoundPools slabs p → (id bytes : ℕ) → 1 ≤ bytes → (found : Option Pool) → pool_at p id ≡ found → SomeSound slabs found → AllocPlaces slabs p id bytes (alloc_in p id bytes found)
alloc_in_places slabs p sound id bytes some None here one = tt
alloc_in_places slabs p sound id bytes some (Some pool) here one =
    allocated_places slabs p sound id pool here bytes (placed_in p.index p.owners pool bytes) (placed_grows slabs p.owners pool sound.few one bytes some p.index)

pub sound_at : (slabs : ℕ) (p : Pools) → SoundPools slabs p → (id : ℕ) → SomeSound slabs (pool_at p id)
sound_at slabs p sound id = either (SomeSound slabs) (id == 0) None (slice_index_or p.pools (id - 1) None) (λ e. tt) (λ e. all_or (SomeSound slabs) p.pools (id - 1) None sound.all tt)

pub alloc_places : (slabs : ℕ) (p q : Pools) (id bytes address : ℕ) → SoundPools slabs p → 1 ≤ bytes → alloc_step p id bytes ≡ placed address q → PlacedOne slabs p id bytes address q
alloc_places slabs p q id bytes address sound some e =
    let more : alloc_step p id bytes ≡ alloc_in p id bytes (pool_at p id) = ap (λ b. if b then placed 0 p else alloc_in p id bytes (pool_at p id)) (ne_eqb bytes 0 (λ none. omega (arith, none, some))) in
    subst (AllocPlaces slabs p id bytes) (sym more ∙ e) (alloc_in_places slabs p sound id bytes some (pool_at p id) refl (sound_at slabs p sound id))

-- ---- an object freed

pub record FreedOne (slabs : ℕ) (p : Pools) (id address : ℕ) (q : Pools) : Type 0 where
  pub sound : SoundPools slabs q
  pub bytes : List ℕ
  pub lived : LivesIn p id (object_of address bytes)
  pub inserted : Inserted (object_of address bytes) (objects q) (objects p)
  pub kinds : (other : ℕ) → kind_of q other ≡ kind_of p other
  pub of_kinds : AllByRecursion OfKind p.pools → AllByRecursion OfKind q.pools
  pub kept : (other : ℕ) (o : Object) → LivesIn p other o → o.start ≢ address → LivesIn q other o

abbrev FreeFrees : ℕ → Pools → ℕ → ℕ → Option Pools → Type 0
FreeFrees slabs p id address None = ⊤
FreeFrees slabs p id address (Some q) = FreedOne slabs p id address q

module _ (slabs : ℕ) (p : Pools) (sound : SoundPools slabs p) (id : ℕ) (pool : Pool) (here : pool_at p id ≡ Some pool) where
  shrunk : (address : ℕ) (s : PoolInSlabs) → Shrunk slabs pool address s → FreedOne slabs p id address (with_change p id s)
  shrunk address s less =
      let q = with_change p id s in
      let is = pool_there p id pool here in
      let old : Object = object_of address less.bytes in
      let at = at_same p q id pool is (Some s.pool) refl in
      record {
        sound = record { few = less.owners; all = all_set (SomeSound slabs) p.pools (id - 1) (Some s.pool) sound.all less.sound };
        bytes = less.bytes;
        lived = subst (λ f. IsIn old (objects_of f)) (sym here) (new_in old (objects_in s.pool) (objects_in pool) less.inserted);
        inserted = less_in_part objects_of old p.pools (id - 1) None (Some s.pool) is.inside (subst (λ f. Inserted old (objects_in s.pool) (objects_of f)) (sym is.at) less.inserted);
        kinds = kinds_of slabs p sound id pool here q s.pool refl less.kind;
        of_kinds = kinds_stay slabs p sound id pool here s.pool less.kind;
        kept = λ other o lives apart. elim (cases_eq other id) [
          | inl same ↦ subst (λ n. LivesIn q n o) (sym same) (subst (λ f. IsIn o (objects_of f)) (sym at)
              (still o apart (new_or_old old o (objects_in s.pool) (objects_in pool) less.inserted (subst (λ f. IsIn o (objects_of f)) here (subst (λ n. LivesIn p n o) same lives)))))
          | inr other_one ↦ subst (λ f. IsIn o (objects_of f)) (sym (at_other p q id pool is (Some s.pool) refl other other_one)) lives
        ];
      }
    where
      still : (o : Object) → o.start ≢ address → (o ≡ object_of address less.bytes) ⊎ IsIn o (objects_in s.pool) → IsIn o (objects_in s.pool)
      still o apart (inl same) = absurd (apart (ap (λ (x : Object). x.start) same))
      still o apart (inr is) = is

  freed_frees : (address : ℕ) (result : Option PoolInSlabs) → FreedShrinks slabs pool address result → FreeFrees slabs p id address (option_map (with_change p id) result)
  freed_frees address None less = tt
  freed_frees address (Some s) less = shrunk address s less

free_in_frees : (slabs : ℕ) (p : Pools) → SoundPools slabs p → (id address : ℕ) (found : Option Pool) → pool_at p id ≡ found → SomeSound slabs found → FreeFrees slabs p id address (free_in p id address found)
free_in_frees slabs p sound id address None here one = tt
free_in_frees slabs p sound id address (Some pool) here one =
    freed_frees slabs p sound id pool here address (freed_in p.owners pool address) (freed_shrinks slabs p.owners pool sound.few one address)

pub free_frees : (slabs : ℕ) (p q : Pools) (id address : ℕ) → SoundPools slabs p → free_step p id address ≡ Some q → FreedOne slabs p id address q
free_frees slabs p q id address sound e = subst (FreeFrees slabs p id address) e (free_in_frees slabs p sound id address (pool_at p id) refl (sound_at slabs p sound id))

-- ---- bytes written

module _ (address width word : ℕ) where
  pub objects_written : (pools : List (Option Pool)) → flat_map objects_of (map (option_map (written_in address width word)) pools) ≡ map (writing address width word) (flat_map objects_of pools)
  objects_written [] = refl
  objects_written (None ∷ pools) = objects_written pools
  objects_written (Some pool ∷ pools) =
      let first = pool_written address width word pool in let rest = objects_written pools in
      (λ i. first i ++ rest i) ∙ sym (map-append (writing address width word) (objects_in pool) (flat_map objects_of pools))

  one_written : (slabs : ℕ) (found : Option Pool) → SomeSound slabs found → SomeSound slabs (option_map (written_in address width word) found)
  one_written slabs None one = tt
  one_written slabs (Some pool) one = pool_written_sound address width word slabs pool one

  -- the pools with that written
  abbrev pub with_written : Pools → Pools
  with_written p = record p { pools = map (option_map (written_in address width word)) p.pools }

  pub with_written_sound : (slabs : ℕ) (p : Pools) → SoundPools slabs p → SoundPools slabs (with_written p)
  with_written_sound slabs p sound = record { few = sound.few; all = all_mapped (SomeSound slabs) (option_map (written_in address width word)) p.pools (one_written slabs) sound.all }

  by_some : (p q : Pools) (b : Bool) → (if b then Some (with_written p) else None) ≡ Some q → q ≡ with_written p
  by_some p q true e = cc
  by_some p q false e = absurd cc

  pub store_is : (p q : Pools) → store_step p address width word ≡ Some q → q ≡ with_written p
  store_is p q e = by_some p q (is_some (object_at p address width)) e

-- ---- pools made and destroyed

no_objects : (kind : PoolKind) → objects_in (new_pool kind) ≡ []
no_objects (Homogeneous source cell indexed) = refl
no_objects Mixed = refl

pub init_objects : (p : Pools) (kind : PoolKind) → objects (init_step p kind) ≡ objects p
init_objects p kind =
    flat_map-append objects_of p.pools (Some (new_pool kind) ∷ [])
    ∙ ap (λ (os : List Object). flat_map objects_of p.pools ++ (os ++ [])) (no_objects kind) ∙ append-nil (flat_map objects_of p.pools)

pub init_sound : (slabs : ℕ) (p : Pools) (kind : PoolKind) → SoundPools slabs p → SoundPools slabs (init_step p kind)
init_sound slabs p kind sound = record { few = sound.few; all = all_push (SomeSound slabs) p.pools (Some (new_pool kind)) sound.all (new_sound slabs kind) }

destroyed_sound : (slabs : ℕ) (p : Pools) (id : ℕ) (found : Option Pool) → SoundPools slabs p → SomeSound slabs found → SoundPools slabs (destroyed p id found)
destroyed_sound slabs p id None sound one = sound
destroyed_sound slabs p id (Some pool) sound one = record { few = pool_given slabs pool p.owners one sound.few; all = all_set (SomeSound slabs) p.pools (id - 1) None sound.all tt }

-- ---- all calls

none_sound : (slabs index : ℕ) → SoundPools slabs (new_pools slabs index)
none_sound slabs index = record { few = omega (arith, length-replicate {A = Option ℕ} slabs None); all = tt }

placed_sound : (slabs : ℕ) (p : Pools) (id bytes : ℕ) (q : Pools) (address : ℕ) → SoundPools slabs p → alloc_step p id bytes ≡ placed address q → SoundPools slabs q
placed_sound slabs p id zero q address sound e = let same : p ≡ q = cc in subst (SoundPools slabs) same sound
placed_sound slabs p id (suc bytes) q address sound e = (alloc_places slabs p q id (suc bytes) address sound (omega arith) e).sound

pub all_sound : (slabs : ℕ) (p : Pools) (sizes : List ℕ) → HavePlaced slabs p sizes → SoundPools slabs p
all_sound slabs _ _ (at_start index) = none_sound slabs index
all_sound slabs _ sizes (after_init p _ kind placing) = init_sound slabs p kind (all_sound slabs p sizes placing)
all_sound slabs _ sizes (after_destroy p _ id placing) =
    let sound = all_sound slabs p sizes placing in destroyed_sound slabs p id (pool_at p id) sound (sound_at slabs p sound id)
all_sound slabs q _ (after_alloc p _ sizes id bytes address placing suits e) = placed_sound slabs p id bytes q address (all_sound slabs p sizes placing) e
all_sound slabs q sizes (after_free p _ _ id address placing e) = (free_frees slabs p q id address (all_sound slabs p sizes placing) e).sound
all_sound slabs q sizes (after_store p _ _ address width word placing e) =
    subst (SoundPools slabs) (sym (store_is address width word p q e)) (with_written_sound address width word slabs p (all_sound slabs p sizes placing))
