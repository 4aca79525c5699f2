-- Objects placed and freed: a new one lies apart from all that live, and all others stay with their bytes.
use Rattle.std.proofs.Common.{◌≡◌, ℕ, zero, suc, ◌+◌, ◌-◌, ◌^◌, ◌<◌, ◌≤◌, ◌⊎◌, ◌≢◌, Bool, true, false, List, [], ◌∷◌, ◌++◌, Option, Some, None, length, map, find, flat_map, refl, sym, ap, subst, ◌∙◌, inl, inr, arith, ne_eqb, eq-eqb}
use Rattle.std.specs.Prelude.{⊤, ◌==◌, ◌&&◌, ◌||◌, nat_le, nat_lt, is_some, slice_index_or, option_map, if◌then◌else◌}
use Rattle.std.specs.List.{AllByRecursion}
use Rattle.std.specs.Option.{IfSome}
use Rattle.std.proofs.lemmas.Bool.{cases_lt, cases_eq, and_from, le-leb, lt-ltb, eqb-true, eqb-false}
use Rattle.std.proofs.lemmas.List.{get_or_append_left}
use Rattle.run_theory.specs.Words.{zeros, word_at}
use Rattle.slab_space.specs.declared.kind.PoolKind.{PoolKind}
use Rattle.slab_space.specs.declared.kind.PoolKind.TheVariants.{Homogeneous, Mixed}
use Rattle.slab_space.specs.Runs.{need, lowest_run}
use Rattle.slab_space.specs.Pool.{Cells, Large, Pool, Object, IsKind, slab_address, no_cells, cell_address, made_in, live_cells, number_at, is_live, has_room, with_freed, large_object, large_at, class_for, objects_in, new_pool}
use Rattle.slab_space.specs.PoolSteps.{PoolInSlabs, Allocation, placed, index_exhausted, heap_exhausted, at_limit, placed_cell, placed_in_run, placed_in_class, placed_large, placed_as, placed_in, freed_among, freed_large, freed_as, freed_in, covers}
use Rattle.slab_space.specs.Pools.{Pools, pool_at, with_change, init_step, destroyed, destroy_step, allocated, alloc_in, alloc_step, free_in, free_step, objects_of, objects, object_at, load_step, kind_of, lives_of}
use Rattle.slab_space.proofs.Peaks.{either}
use Rattle.slab_space.proofs.Held.{total}
use Rattle.slab_space.specs.Needs.{NeedsItsCell, Suits, after_init, after_destroy, after_alloc, after_free}
use Rattle.pool_isa.specs.Machine.{fits_kind, fits_pool, number_of}
use Rattle.pool_ir.specs.States.{State, Same}
use Rattle.pool_ir.specs.Memory.{access}
use Rattle.tac_ir.specs.Events.{TacEvent}
use Rattle.pool_simulation.specs.Regions.{AreApart, IsIn, Lives, LivesIn, OfKind, SoundHeap}
use Rattle.pool_simulation.specs.Serving.{TakesSize, Takes}
use Rattle.pool_simulation.proofs.WrittenBytes.{zeros_read}
use Rattle.pool_simulation.proofs.Inserted.{Inserted, found_in, only_found, in_either, same_one, in_total, new_in, old_in, new_or_old, more_total}
use Rattle.pool_simulation.proofs.LiveCells.{all_push, all_set, length-zeros, SoundCells, covers_is}
use Rattle.pool_simulation.proofs.SoundPools.{SoundPool, HasSize, object_of}
use Rattle.pool_simulation.proofs.PoolObjects.{SomeSound, SoundPools, pool_there, at_other, lives_in_all, alloc_places, free_frees, all_sound, init_objects, sound_at}
use Rattle.pool_simulation.proofs.LiveObjects.{occupies, slab_of, cells_slabs, pool_slabs, some_slabs, slabs_once, bytes_once, one_cell, cell_is, lies_within, some_bytes}

-- ---- objects that live

abbrev once : (p : Pools) → SoundHeap p → (at : ℕ) → total (occupies at) (objects p) ≤ 1
once p heap at = bytes_once heap.slabs p heap.sizes heap.placed at

pub heap_sound : (p : Pools) (heap : SoundHeap p) → SoundPools heap.slabs p
heap_sound p heap = all_sound heap.slabs p heap.sizes heap.placed

-- a live object has a byte or more, all of them in the heap
pub live_inside : (p : Pools) (o : Object) → SoundHeap p → Lives p o → (1 ≤ length o.bytes) × (2 ^ 44 ≤ o.start) × (o.start + length o.bytes ≤ 2 ^ 45)
live_inside p o heap lives =
    let within = lies_within heap.slabs p o (heap_sound p heap) lives in
    (some_bytes heap.slabs p o (heap_sound p heap) heap.kinds lives, within.0, omega (arith, within.1, heap.few))

-- two that live are the same or lie apart
pub live_apart : (p : Pools) (o other : Object) → SoundHeap p → Lives p o → Lives p other → (o ≡ other) ⊎ AreApart o.start (length o.bytes) other.start (length other.bytes)
live_apart p o other heap lives lives_too =
    elim (cases_lt other.start (o.start + length o.bytes)) [
      | inl low ↦ elim (cases_lt o.start (other.start + length other.bytes)) [
        | inl high ↦ inl (by (cases_lt o.start other.start) low high)
        | inr above ↦ inr (inr above)
      ]
      | inr behind ↦ inr (inl behind)
    ]
  where
    some : 1 ≤ length o.bytes
    some = (live_inside p o heap lives).0

    some_too : 1 ≤ length other.bytes
    some_too = (live_inside p other heap lives_too).0

    by : (o.start < other.start) ⊎ (other.start ≤ o.start) → other.start < o.start + length o.bytes → o.start < other.start + length other.bytes → o ≡ other
    by (inl before) low high = same_one (occupies other.start) o other (objects p) (once p heap other.start) lives lives_too (omega (arith, before, low)) (omega (arith, some_too))
    by (inr before) low high = same_one (occupies o.start) o other (objects p) (once p heap o.start) lives lives_too (omega (arith, some)) (omega (arith, before, high))

-- one that begins where another does is that
pub same_start : (p : Pools) (o other : Object) → SoundHeap p → Lives p o → Lives p other → o.start ≡ other.start → o ≡ other
same_start p o other heap lives lives_too same =
    same_one (occupies o.start) o other (objects p) (once p heap o.start) lives lives_too (omega (arith, (live_inside p o heap lives).0)) (omega (arith, same, (live_inside p other heap lives_too).0))

covers_range : (o : Object) (address size : ℕ) → o.start ≤ address → address + size ≤ o.start + length o.bytes → covers address size o ≡ true
covers_range o address size low high = and_from (nat_le o.start address) (nat_le (address + size) (o.start + length o.bytes)) (le-leb o.start address low) (le-leb (address + size) (o.start + length o.bytes) high)

-- a range within a live object is found there
pub live_found : (p : Pools) (o : Object) (address size : ℕ) → SoundHeap p → Lives p o → o.start ≤ address → address + size ≤ o.start + length o.bytes → 1 ≤ size → object_at p address size ≡ Some o
live_found p o address size heap lives low high some =
    only_found (covers address size) (occupies address) o (objects p) (once p heap address) (λ z test. let both = covers_is address size z test in omega (arith, both.0, both.1, some)) lives (covers_range o address size low high)

pub live_loads : (p : Pools) (o : Object) (address size : ℕ) → SoundHeap p → Lives p o → o.start ≤ address → address + size ≤ o.start + length o.bytes → 1 ≤ size
    → load_step p address size ≡ Some (word_at o.bytes (address - o.start) size)
live_loads p o address size heap lives low high some = ap (option_map (λ (x : Object). word_at x.bytes (address - x.start) size)) (live_found p o address size heap lives low high some)

-- what is found lives, and has the range
pub found_lives : (p : Pools) (o : Object) (address size : ℕ) → object_at p address size ≡ Some o → Lives p o × (o.start ≤ address) × (address + size ≤ o.start + length o.bytes)
found_lives p o address size e = let found = found_in (covers address size) o (objects p) e in let both = covers_is address size o found.1 in (found.0, both.0, both.1)

-- ---- an object placed

pub record PlacedObject (p : Pools) (id bytes address : ℕ) (q : Pools) : Type 0 where
  pub heap : SoundHeap q
  pub object : Object
  pub start : object.start ≡ address
  pub kind : PoolKind
  pub of_kind : kind_of p id ≡ Some kind
  pub size : HasSize kind bytes (length object.bytes)
  pub some : 1 ≤ length object.bytes
  pub low : 2 ^ 44 ≤ address
  pub high : address + length object.bytes ≤ 2 ^ 45
  pub lives : LivesIn q id object
  pub apart : (o : Object) → Lives p o → AreApart address (length object.bytes) o.start (length o.bytes)
  pub kept : (other : ℕ) (o : Object) → LivesIn p other o → LivesIn q other o
  pub still : (o : Object) → Lives p o → Lives q o
  pub found : (other width : ℕ) (o : Object) → 1 ≤ width → object_at p other width ≡ Some o → object_at q other width ≡ Some o
  pub loads : (other width number : ℕ) → 1 ≤ width → load_step p other width ≡ Some number → load_step q other width ≡ Some number
  pub finds : (other width : ℕ) → 1 ≤ width → address ≤ other → other + width ≤ address + length object.bytes → object_at q other width ≡ Some object
  pub zero : (other width : ℕ) → 1 ≤ width → address ≤ other → other + width ≤ address + length object.bytes → load_step q other width ≡ Some 0
  pub kinds : (other : ℕ) → kind_of q other ≡ kind_of p other

zero_bytes : (count off width : ℕ) → word_at (zeros count) off width ≡ 0
unfolding zeros
zero_bytes count off width = zeros_read count off width

-- what is loaded is so in the object that is found
found_loads : (p q : Pools) (other width number : ℕ) → ((o : Object) → object_at p other width ≡ Some o → object_at q other width ≡ Some o) → load_step p other width ≡ Some number → load_step q other width ≡ Some number
found_loads p q other width number found e = by (object_at p other width) refl e
  where
    by : (o : Option Object) → object_at p other width ≡ o → option_map (λ (x : Object). word_at x.bytes (other - x.start) width) o ≡ Some number → load_step q other width ≡ Some number
    by None is none = absurd cc
    by (Some o) is some = ap (option_map (λ (x : Object). word_at x.bytes (other - x.start) width)) (found o is) ∙ some

pub placed_object : (p q : Pools) (id bytes address : ℕ) → SoundHeap p → Suits p id bytes → 1 ≤ bytes → alloc_step p id bytes ≡ placed address q → PlacedObject p id bytes address q
placed_object p q id bytes address heap suits some e =
    let one = alloc_places heap.slabs p q id bytes address (heap_sound p heap) some e in
    let after : SoundHeap q = record { slabs = heap.slabs; sizes = bytes ∷ heap.sizes; few = heap.few; placed = after_alloc p q heap.sizes id bytes address heap.placed suits e; kinds = one.of_kinds heap.kinds } in
    let new : Object = object_of address (zeros one.size) in
    let lives : Lives q new = new_in new (objects p) (objects q) one.inserted in
    let inside = live_inside q new after lives in
    let still : (o : Object) → Lives p o → Lives q o = λ o is. old_in new o (objects p) (objects q) one.inserted is in
    let found : (other width : ℕ) (o : Object) → 1 ≤ width → object_at p other width ≡ Some o → object_at q other width ≡ Some o =
    λ other width o least is. let was = found_lives p o other width is in live_found q o other width after (still o was.0) was.1 was.2 least in
    let finds : (other width : ℕ) → 1 ≤ width → address ≤ other → other + width ≤ address + length new.bytes → object_at q other width ≡ Some new =
    λ other width least from to. live_found q new other width after lives from to least in
    record {
      heap = after;
      object = new;
      start = refl;
      kind = one.pool.kind;
      of_kind = ap (option_map (λ (pool : Pool). pool.kind)) one.there;
      size = subst (HasSize one.pool.kind bytes) (sym (length-zeros one.size)) one.enough;
      some = inside.0;
      low = inside.1;
      high = inside.2;
      lives = one.lives;
      apart = λ o is. not_both q new o after lives (still o is) one.inserted is;
      kept = one.kept;
      still = still;
      found = found;
      loads = λ other width number least is. found_loads p q other width number (λ o. found other width o least) is;
      finds = finds;
      zero = λ other width least from to. ap (option_map (λ (x : Object). word_at x.bytes (other - x.start) width)) (finds other width least from to) ∙ ap Some (zero_bytes one.size (other - address) width);
      kinds = one.kinds;
    }
  where
    -- the new one and another that lives occupy no byte together
    not_both : (q : Pools) (new o : Object) (after : SoundHeap q) → Lives q new → Lives q o → Inserted new (objects p) (objects q) → Lives p o → AreApart new.start (length new.bytes) o.start (length o.bytes)
    not_both q new o after lives lives_too inserted was =
        elim (cases_lt o.start (new.start + length new.bytes)) [
          | inl low ↦ elim (cases_lt new.start (o.start + length o.bytes)) [
            | inl high ↦ absurd (elim (cases_lt new.start o.start) [
              | inl before ↦ (let sum = more_total new (occupies o.start) (objects p) (objects q) inserted in let is = in_total (occupies o.start) o (objects p) was in
                  let all = once q after o.start in let least = (live_inside q o after lives_too).0 in (omega (arith, sum, is, all, least, before, low)))
              | inr before ↦ (let sum = more_total new (occupies new.start) (objects p) (objects q) inserted in let is = in_total (occupies new.start) o (objects p) was in
                  let all = once q after new.start in let least = (live_inside q new after lives).0 in (omega (arith, sum, is, all, least, before, high)))
            ])
            | inr above ↦ inr above
          ]
          | inr behind ↦ inl behind
        ]

-- ---- pools that take objects of a size

pool_by : (found : Option Pool) (kind : PoolKind) → option_map (λ (pool : Pool). pool.kind) found ≡ Some kind → (pool : Pool) × (found ≡ Some pool) × (pool.kind ≡ kind)
pool_by None kind e = absurd cc
pool_by (Some pool) kind e = (pool, refl, (let same : pool.kind ≡ kind = cc in same))

-- a pool of a kind is there
pub pool_of_kind : (p : Pools) (id : ℕ) (kind : PoolKind) → kind_of p id ≡ Some kind → (pool : Pool) × (pool_at p id ≡ Some pool) × (pool.kind ≡ kind)
pool_of_kind p id kind e = pool_by (pool_at p id) kind e

or_second : (a b : Bool) → b ≡ true → (a || b) ≡ true
or_second true b is = refl
or_second false b is = is

kind_fits : (kind : PoolKind) (bytes : ℕ) → (1 ≤ bytes → TakesSize kind bytes) → fits_kind kind bytes ≡ true
kind_fits (Homogeneous source cell indexed) zero takes = refl
kind_fits (Homogeneous source cell indexed) (suc bytes) takes = or_second (suc bytes == 0) (suc bytes == source) (eq-eqb (suc bytes) source (takes (omega arith)).0)
kind_fits Mixed bytes takes = refl

kind_suits : (kind : PoolKind) (bytes : ℕ) → (1 ≤ bytes → TakesSize kind bytes) → NeedsItsCell kind bytes
kind_suits (Homogeneous source cell indexed) bytes takes = λ some. (takes some).2
kind_suits Mixed bytes takes = tt

kind_enough : (kind : PoolKind) (bytes size : ℕ) → TakesSize kind bytes → HasSize kind bytes size → bytes ≤ size
kind_enough (Homogeneous source cell indexed) bytes size takes has = omega (arith, takes.1, has)
kind_enough Mixed bytes size takes has = has

kind_unlimited : (index : ℕ) (kind : PoolKind) (bytes : ℕ) (c : Cells) → TakesSize kind bytes → at_limit index kind c ≡ false
kind_unlimited index (Homogeneous source cell indexed) bytes c takes = ap (λ (b : Bool). at_limit index (Homogeneous source cell b) c) takes.3
kind_unlimited index Mixed bytes c takes = refl

module _ (p : Pools) (id bytes : ℕ) (takes : Takes p id bytes) where
  pub takes_suits : Suits p id bytes
  takes_suits = subst (λ (k : Option PoolKind). IfSome k (λ kind. NeedsItsCell kind bytes)) (sym takes.is) (kind_suits takes.kind bytes takes.size)

  abbrev there : (pool : Pool) × (pool_at p id ≡ Some pool) × (pool.kind ≡ takes.kind)
  there = pool_of_kind p id takes.kind takes.is

  pub takes_fits : fits_pool (pool_at p id) bytes ≡ true
  takes_fits = ap (λ found. fits_pool found bytes) there.1 ∙ ap (λ kind. fits_kind kind bytes) there.2 ∙ kind_fits takes.kind bytes takes.size

  pub takes_lives : lives_of p id ≡ true
  takes_lives = ap is_some there.1

  -- an object that is placed has all the bytes that were asked for
  pub takes_enough : (address : ℕ) (q : Pools) → 1 ≤ bytes → (one : PlacedObject p id bytes address q) → bytes ≤ length one.object.bytes
  takes_enough address q some one =
      let same : one.kind ≡ takes.kind = (let both : Some one.kind ≡ Some takes.kind = sym one.of_kind ∙ takes.is in cc) in
      kind_enough takes.kind bytes (length one.object.bytes) (takes.size some) (subst (λ kind. HasSize kind bytes (length one.object.bytes)) same one.size)

abbrev NotIndex : {X : Type 0} → Allocation X → Type 0
NotIndex (placed address x) = ⊤
NotIndex index_exhausted = ⊥
NotIndex heap_exhausted = ⊤

module _ (index : ℕ) (owners : List (Option ℕ)) (pool : Pool) (unlimited : (c : Cells) → at_limit index pool.kind c ≡ false) (bytes : ℕ) where
  run_not_index : (k : ℕ) (c : Cells) (found : Option ℕ) → NotIndex (placed_in_run owners pool k c found)
  run_not_index k c None = tt
  run_not_index k c (Some first) = tt

  class_not_index : (k : ℕ) (c : Cells) → NotIndex (placed_in_class index owners pool k c)
  class_not_index k c =
      let fresh = placed_in_run owners pool k c (lowest_run owners (need c.size)) in
      either NotIndex (at_limit index pool.kind c) index_exhausted (if has_room c then placed_cell owners pool k c else fresh)
      (λ e. let both : false ≡ true = sym (unlimited c) ∙ e in absurd cc)
      (λ e. either NotIndex (has_room c) (placed_cell owners pool k c) fresh (λ room. tt) (λ room. run_not_index k c (lowest_run owners (need c.size))))

  large_not_index : (found : Option ℕ) → NotIndex (placed_large owners pool bytes found)
  large_not_index None = tt
  large_not_index (Some first) = tt

  as_not_index : (class : Option ℕ) → NotIndex (placed_as index owners pool bytes class)
  as_not_index None = large_not_index (lowest_run owners (need bytes))
  as_not_index (Some k) = class_not_index k (slice_index_or pool.classes k (no_cells 0))

allocated_not_index : (p : Pools) (id : ℕ) (result : Allocation PoolInSlabs) → NotIndex result → NotIndex (allocated p id result)
allocated_not_index p id (placed address s) is = tt
allocated_not_index p id index_exhausted is = is
allocated_not_index p id heap_exhausted is = tt

-- no index is exhausted in such a pool
pub takes_not_index : (p : Pools) (id bytes : ℕ) → Takes p id bytes → 1 ≤ bytes → alloc_step p id bytes ≡ index_exhausted → ⊥
takes_not_index p id bytes takes some e =
    let pool = pool_of_kind p id takes.kind takes.is in
    let unlimited : (c : Cells) → at_limit p.index pool.0.kind c ≡ false = λ c. ap (λ kind. at_limit p.index kind c) pool.2 ∙ kind_unlimited p.index takes.kind bytes c (takes.size some) in
    subst NotIndex e (either NotIndex (bytes == 0) (placed 0 p) (alloc_in p id bytes (pool_at p id)) (λ none. tt)
    (λ more. subst (λ found. NotIndex (alloc_in p id bytes found)) (sym pool.1) (allocated_not_index p id (placed_in p.index p.owners pool.0 bytes)
    (as_not_index p.index p.owners pool.0 unlimited bytes (class_for pool.0.kind pool.0.classes bytes)))))

-- 0 bytes take nothing
pub none_placed : (p : Pools) (id : ℕ) → alloc_step p id 0 ≡ placed 0 p
none_placed p id = refl

-- ---- an object freed

pub record FreedObject (p : Pools) (id : ℕ) (o : Object) (q : Pools) : Type 0 where
  pub heap : SoundHeap q
  pub kept : (other : ℕ) (x : Object) → LivesIn p other x → x.start ≢ o.start → LivesIn q other x
  pub still : (x : Object) → Lives p x → x.start ≢ o.start → Lives q x
  pub lived : (x : Object) → Lives q x → Lives p x
  pub apart : (x : Object) → Lives q x → AreApart o.start (length o.bytes) x.start (length x.bytes)
  pub found : (other width : ℕ) (x : Object) → 1 ≤ width → object_at p other width ≡ Some x → x.start ≢ o.start → object_at q other width ≡ Some x
  pub loads : (other width number : ℕ) → 1 ≤ width → AreApart o.start (length o.bytes) other width → load_step p other width ≡ Some number → load_step q other width ≡ Some number
  pub kinds : (other : ℕ) → kind_of q other ≡ kind_of p other

-- what a free takes away began at the address
pub freed_object : (p q : Pools) (id address : ℕ) → SoundHeap p → free_step p id address ≡ Some q → (o : Object) × (o.start ≡ address) × LivesIn p id o × FreedObject p id o q
freed_object p q id address heap e =
    let one = free_frees heap.slabs p q id address (heap_sound p heap) e in
    let old : Object = object_of address one.bytes in
    let after : SoundHeap q = record { slabs = heap.slabs; sizes = heap.sizes; few = heap.few; placed = after_free p q heap.sizes id address heap.placed e; kinds = one.of_kinds heap.kinds } in
    let lived : (x : Object) → Lives q x → Lives p x = λ x is. old_in old x (objects q) (objects p) one.inserted is in
    let still : (x : Object) → Lives p x → x.start ≢ address → Lives q x = λ x is other. remains x other (new_or_old old x (objects q) (objects p) one.inserted is) in
    let found : (other width : ℕ) (x : Object) → 1 ≤ width → object_at p other width ≡ Some x → x.start ≢ address → object_at q other width ≡ Some x =
    λ other width x least is differs. let was = found_lives p x other width is in live_found q x other width after (still x was.0 differs) was.1 was.2 least in (
      old,
      refl,
      one.lived,
      record {
        heap = after;
        kept = one.kept;
        still = still;
        lived = lived;
        apart = λ x is. gone old x one.inserted is (live_apart p old x heap (new_in old (objects q) (objects p) one.inserted) (lived x is));
        found = found;
        loads = λ other width number least differs is.
            found_loads p q other width number (λ x there. let was = found_lives p x other width there in
            found other width x least there (λ same. one_range old x other width least differs was.1 was.2 (same_start p x old heap was.0 (new_in old (objects q) (objects p) one.inserted) same))) is;
        kinds = one.kinds;
      },
    )
  where
    remains : (x : Object) {bytes : List ℕ} → x.start ≢ address → (x ≡ object_of address bytes) ⊎ IsIn x (objects q) → Lives q x
    remains x differs (inl same) = absurd (differs (ap (λ (y : Object). y.start) same))
    remains x differs (inr is) = is

    one_range : (old x : Object) (other width : ℕ) → 1 ≤ width → AreApart old.start (length old.bytes) other width → x.start ≤ other → other + width ≤ x.start + length x.bytes → x ≡ old → ⊥
    one_range old x other width least (inl behind) low high same = omega (arith, behind, low, high, least, ap (λ (y : Object). y.start) same, ap (λ (y : Object). length y.bytes) same)
    one_range old x other width least (inr before) low high same = omega (arith, before, low, high, least, ap (λ (y : Object). y.start) same, ap (λ (y : Object). length y.bytes) same)

    -- no other object like the old one is left
    gone : (old x : Object) → Inserted old (objects q) (objects p) → Lives q x → (old ≡ x) ⊎ AreApart old.start (length old.bytes) x.start (length x.bytes) → AreApart old.start (length old.bytes) x.start (length x.bytes)
    gone old x inserted is (inr apart) = apart
    gone old x inserted is (inl same) =
        let sum = more_total old (occupies old.start) (objects q) (objects p) inserted in let counted = in_total (occupies old.start) x (objects q) is in
        let all = once p heap old.start in let least = (live_inside p old heap (new_in old (objects q) (objects p) inserted)).0 in
        absurd (omega (arith, sum, counted, all, least, ap (λ (y : Object). y.start) same, ap (λ (y : Object). length y.bytes) same))

-- ---- what lives can be freed

-- the search finds the one cell at its address
found_at : (c : Cells) (number made : ℕ) → ((m : ℕ) → 1 ≤ m → m ≤ made → cell_address c m ≡ cell_address c number → m ≡ number) → 1 ≤ number → number ≤ made → number_at c made (cell_address c number) ≡ number
found_at c number zero alone least most = absurd (omega (arith, least, most))
found_at c number (suc made) alone least most =
    either (λ k. k ≡ number) (cell_address c (suc made) == cell_address c number) (suc made) (number_at c made (cell_address c number))
    (λ e. alone (suc made) (omega arith) (omega arith) (eqb-true (cell_address c (suc made)) (cell_address c number) e))
    (λ e. found_at c number made (λ m low high. alone m low (omega (arith, high))) least
    (elim (cases_lt made number) [
      | inl last ↦ (let is : suc made ≡ number = omega (arith, last, most) in absurd (eqb-false (cell_address c (suc made)) (cell_address c number) e (ap (cell_address c) is)))
      | inr before ↦ before
    ]))

cell_found : (slabs : ℕ) (c : Cells) (o : Object) → SoundCells slabs c → ((slab : ℕ) → cells_slabs slab c ≤ 1) → IsIn o (live_cells c) → 1 ≤ length o.bytes
    → (nat_lt 0 (number_at c (made_in c) o.start) && is_live c (number_at c (made_in c) o.start)) ≡ true
cell_found slabs c o sound few is some =
    let cell = cell_is slabs c o sound is in
    let at = cell_address c cell.number in
    let alone : (m : ℕ) → 1 ≤ m → m ≤ made_in c → cell_address c m ≡ at → m ≡ cell.number =
    λ m low high same. one_cell slabs c sound at (few (slab_of at)) m cell.number low high cell.least cell.most (omega (arith, same), omega (arith, same, some, cell.long)) (omega arith, omega (arith, some, cell.long)) in
    let number : number_at c (made_in c) o.start ≡ cell.number = ap (number_at c (made_in c)) (sym cell.start) ∙ found_at c cell.number (made_in c) alone cell.least cell.most in
    ap (λ n. nat_lt 0 n && is_live c n) number ∙ and_from (nat_lt 0 cell.number) (is_live c cell.number) (lt-ltb 0 cell.number (omega (arith, cell.least))) (ap is_some cell.live)

some_behind : (c : Cells) (found : Option (List Cells)) → is_some found ≡ true → is_some (option_map (λ (classes : List Cells). c ∷ classes) found) ≡ true
some_behind c None e = absurd cc
some_behind c (Some classes) e = refl

class_found : (slabs : ℕ) (classes : List Cells) (o : Object) → AllByRecursion (SoundCells slabs) classes → ((slab : ℕ) → total (cells_slabs slab) classes ≤ 1) → IsIn o (flat_map live_cells classes) → 1 ≤ length o.bytes
    → is_some (freed_among classes o.start) ≡ true
class_found slabs [] o sound few is some = absurd is
class_found slabs (c ∷ rest) o sound few is some =
    let number = number_at c (made_in c) o.start in
    either (λ found. is_some found ≡ true) (nat_lt 0 number && is_live c number) (Some (with_freed c number ∷ rest)) (option_map (λ classes. c ∷ classes) (freed_among rest o.start))
    (λ e. refl) (λ e. by (λ behind. class_found slabs rest o sound.1 (λ slab. omega (arith, few slab)) behind some) e (in_either o (live_cells c) (flat_map live_cells rest) is))
  where
    by : (IsIn o (flat_map live_cells rest) → is_some (freed_among rest o.start) ≡ true) → (nat_lt 0 (number_at c (made_in c) o.start) && is_live c (number_at c (made_in c) o.start)) ≡ false → IsIn o (live_cells c) ⊎ IsIn o (flat_map live_cells rest) → is_some (option_map (λ (classes : List Cells). c ∷ classes) (freed_among rest o.start)) ≡ true
    by later e (inl here) = let both : false ≡ true = sym e ∙ cell_found slabs c o sound.0 (λ slab. omega (arith, few slab)) here some in absurd cc
    by later e (inr behind) = some_behind c (freed_among rest o.start) (later behind)

large_found : (large : List Large) (o : Object) → IsIn o (map large_object large) → is_some (large_at o.start large) ≡ true
large_found [] o is = absurd is
large_found (l ∷ large) o (inl e) = ap (λ b. is_some (if b then Some l else large_at o.start large)) (eq-eqb (slab_address l.first) o.start (sym (ap (λ (x : Object). x.start) e)))
large_found (l ∷ large) o (inr is) =
    either (λ found. is_some found ≡ true) (slab_address l.first == o.start) (Some l) (large_at o.start large) (λ e. refl) (λ e. large_found large o is)

freed_by_large : (owners : List (Option ℕ)) (pool : Pool) (address : ℕ) (found : Option Large) → is_some found ≡ true → is_some (freed_large owners pool address found) ≡ true
freed_by_large owners pool address None e = absurd cc
freed_by_large owners pool address (Some l) e = refl

pool_found : (slabs : ℕ) (owners : List (Option ℕ)) (pool : Pool) (o : Object) → SoundPool slabs pool → ((slab : ℕ) → pool_slabs slab pool ≤ 1) → IsIn o (objects_in pool) → 1 ≤ length o.bytes → is_some (freed_in owners pool o.start) ≡ true
pool_found slabs owners pool o sound few is some = by (freed_among pool.classes o.start) refl (in_either o (flat_map live_cells pool.classes) (map large_object pool.large) is)
  where
    by : (found : Option (List Cells)) → freed_among pool.classes o.start ≡ found → IsIn o (flat_map live_cells pool.classes) ⊎ IsIn o (map large_object pool.large) → is_some (freed_as owners pool o.start found) ≡ true
    by (Some classes) e is = refl
    by None e (inl cells) = let both : false ≡ true = ap is_some (sym e) ∙ class_found slabs pool.classes o sound.classes (λ slab. omega (arith, few slab)) cells some in absurd cc
    by None e (inr large) = freed_by_large owners pool o.start (large_at o.start pool.large) (large_found pool.large o large)

some_changed : (p : Pools) (id : ℕ) (found : Option PoolInSlabs) → is_some found ≡ true → (q : Pools) × (option_map (with_change p id) found ≡ Some q)
some_changed p id None e = absurd cc
some_changed p id (Some s) e = (with_change p id s, refl)

in_index : {X : Type 0} (xs : List X) (i : ℕ) (d x : X) → i < length xs → slice_index_or xs i d ≡ x → IsIn x xs
in_index [] i d x inside e = absurd (omega (arith, inside))
in_index (y ∷ xs) zero d x inside e = inl (sym e)
in_index (y ∷ xs) (suc i) d x inside e = inr (in_index xs i d x (omega (arith, inside)) e)

pub can_free : (p : Pools) (id : ℕ) (o : Object) → SoundHeap p → LivesIn p id o → (q : Pools) × (free_step p id o.start ≡ Some q)
can_free p id o heap lives = by (pool_at p id) refl lives
  where
    some : 1 ≤ length o.bytes
    some = (live_inside p o heap (lives_in_all p id o lives)).0

    few : (pool : Pool) → pool_at p id ≡ Some pool → (slab : ℕ) → pool_slabs slab pool ≤ 1
    few pool here slab =
        let there = pool_there p id pool here in
        omega (arith, in_total (some_slabs slab) (Some pool) p.pools (in_index p.pools (id - 1) None (Some pool) there.inside there.at), slabs_once heap.slabs p heap.sizes heap.placed slab)

    by : (found : Option Pool) → pool_at p id ≡ found → IsIn o (objects_of found) → (q : Pools) × (free_in p id o.start found ≡ Some q)
    by None here is = absurd is
    by (Some pool) here is =
        some_changed p id (freed_in p.owners pool o.start)
        (pool_found heap.slabs p.owners pool o (subst (SomeSound heap.slabs) here (sound_at heap.slabs p (heap_sound p heap) id)) (few pool here) is some)

-- what lives in a pool can be freed there, and is what is freed
pub live_freed : (p : Pools) (id : ℕ) (o : Object) → SoundHeap p → LivesIn p id o → (q : Pools) × (free_step p id o.start ≡ Some q) × FreedObject p id o q
live_freed p id o heap lives =
    let found = can_free p id o heap lives in
    let freed = freed_object p found.0 id o.start heap found.1 in
    let same : freed.0 ≡ o = same_start p freed.0 o heap (lives_in_all p id freed.0 freed.2) (lives_in_all p id o lives) freed.1 in
    (found.0, found.1, subst (λ x. FreedObject p id x found.0) same freed.3)

-- ---- pools made and destroyed

pub opened_heap : (p : Pools) (kind : PoolKind) → SoundHeap p → IsKind kind → SoundHeap (init_step p kind)
opened_heap p kind heap is = record { slabs = heap.slabs; sizes = heap.sizes; few = heap.few; placed = after_init p heap.sizes kind heap.placed; kinds = all_push OfKind p.pools (Some (new_pool kind)) heap.kinds is }

pub opened_found : (p : Pools) (kind : PoolKind) (address size : ℕ) → object_at (init_step p kind) address size ≡ object_at p address size
opened_found p kind address size = ap (find (covers address size)) (init_objects p kind)

pub opened_loads : (p : Pools) (kind : PoolKind) (address size : ℕ) → load_step (init_step p kind) address size ≡ load_step p address size
opened_loads p kind address size = ap (option_map (λ (x : Object). word_at x.bytes (address - x.start) size)) (opened_found p kind address size)

closed_kinds : (p : Pools) (id : ℕ) (found : Option Pool) → AllByRecursion OfKind p.pools → AllByRecursion OfKind (destroyed p id found).pools
closed_kinds p id None kinds = kinds
closed_kinds p id (Some pool) kinds = all_set OfKind p.pools (id - 1) None kinds tt

pub closed_heap : (p : Pools) (id : ℕ) → SoundHeap p → SoundHeap (destroy_step p id)
closed_heap p id heap = record { slabs = heap.slabs; sizes = heap.sizes; few = heap.few; placed = after_destroy p heap.sizes id heap.placed; kinds = closed_kinds p id (pool_at p id) heap.kinds }

-- what lives in other pools stays
pub closed_kept : (p : Pools) (id other : ℕ) (o : Object) → other ≢ id → LivesIn p other o → LivesIn (destroy_step p id) other o
closed_kept p id other o apart lives = by (pool_at p id) refl
  where
    by : (found : Option Pool) → pool_at p id ≡ found → LivesIn (destroyed p id found) other o
    by None here = lives
    by (Some pool) here = subst (λ f. IsIn o (objects_of f)) (sym (at_other p (destroyed p id (Some pool)) id pool (pool_there p id pool here) None refl other apart)) lives

pub closed_loads : (p : Pools) (id other : ℕ) (o : Object) (address size : ℕ) → SoundHeap p → other ≢ id → LivesIn p other o → o.start ≤ address → address + size ≤ o.start + length o.bytes → 1 ≤ size
    → load_step (destroy_step p id) address size ≡ Some (word_at o.bytes (address - o.start) size)
closed_loads p id other o address size heap apart lives low high some =
    live_loads (destroy_step p id) o address size (closed_heap p id heap) (lives_in_all (destroy_step p id) other o (closed_kept p id other o apart lives)) low high some

-- a pool made leaves what lives in others
pub opened_kept : (p : Pools) (kind : PoolKind) (other : ℕ) (o : Object) → LivesIn p other o → LivesIn (init_step p kind) other o
opened_kept p kind other o lives = by (pool_at p other) refl lives
  where
    by : (found : Option Pool) → pool_at p other ≡ found → IsIn o (objects_of found) → LivesIn (init_step p kind) other o
    by None here is = absurd is
    by (Some pool) here is =
        let there = pool_there p other pool here in
        let still : slice_index_or (p.pools ++ Some (new_pool kind) ∷ []) (other - 1) None ≡ Some pool = get_or_append_left p.pools (Some (new_pool kind) ∷ []) None (other - 1) there.inside ∙ there.at in
        subst (λ f. IsIn o (objects_of f)) (sym (ap (λ b. if b then None else slice_index_or (p.pools ++ Some (new_pool kind) ∷ []) (other - 1) None) (ne_eqb other 0 (λ none. omega (arith, none, there.some))) ∙ still)) is

-- ---- numbers of objects

-- no later object was placed at the address
pub number_latest : (newer older : List ℕ) (address : ℕ) → AllByRecursion (λ other. other ≢ address) newer → number_of (newer ++ address ∷ older) address ≡ suc (length older)
number_latest [] older address others = ap (λ b. if b then suc (length older) else number_of older address) (eq-eqb address address refl)
number_latest (first ∷ newer) older address others =
    ap (λ b. if b then suc (length (newer ++ address ∷ older)) else number_of (newer ++ address ∷ older) address) (ne_eqb first address others.0) ∙ number_latest newer older address others.1

pub number_new : (starts : List ℕ) (address : ℕ) → number_of (address ∷ starts) address ≡ suc (length starts)
number_new starts address = number_latest [] starts address tt

pub number_other : (starts : List ℕ) (first address : ℕ) → first ≢ address → number_of (first ∷ starts) address ≡ number_of starts address
number_other starts first address other = ap (λ b. if b then suc (length starts) else number_of starts address) (ne_eqb first address other)

pub number_most : (starts : List ℕ) (address : ℕ) → number_of starts address ≤ length starts
number_most [] address = omega arith
number_most (first ∷ starts) address =
    either (λ n. n ≤ suc (length starts)) (first == address) (suc (length starts)) (number_of starts address) (λ e. omega arith) (λ e. omega (arith, number_most starts address))

-- a number tells its address
pub number_tells : (starts : List ℕ) (address other : ℕ) → 1 ≤ number_of starts address → number_of starts address ≡ number_of starts other → address ≡ other
number_tells [] address other some same = absurd (omega (arith, some))
number_tells (first ∷ starts) address other some same =
    elim (cases_eq first address) [
      | inl here ↦ elim (cases_eq first other) [
        | inl here_too ↦ omega (arith, here, here_too)
        | inr apart ↦ (let now = subst (λ a. number_of (first ∷ starts) a ≡ suc (length starts)) here (number_new starts first) in
            absurd (omega (arith, now, same, number_other starts first other apart, number_most starts other)))
      ]
      | inr apart ↦ elim (cases_eq first other) [
        | inl here ↦ (let now = subst (λ a. number_of (first ∷ starts) a ≡ suc (length starts)) here (number_new starts first) in
            absurd (omega (arith, now, same, number_other starts first address apart, number_most starts address)))
        | inr apart_too ↦ number_tells starts address other (omega (arith, some, number_other starts first address apart)) (sym (number_other starts first address apart) ∙ same ∙ number_other starts first other apart_too)
      ]
    ]

-- a new object changes no number of those that live
pub number_still : (p q : Pools) (id bytes address : ℕ) (older : List ℕ) (o : Object) → PlacedObject p id bytes address q → SoundHeap p → Lives p o → number_of (address ∷ older) o.start ≡ number_of older o.start
number_still p q id bytes address older o one heap lives =
    number_other older address o.start (λ same. by same (one.apart o lives))
  where
    by : address ≡ o.start → AreApart address (length one.object.bytes) o.start (length o.bytes) → ⊥
    by same (inl behind) = omega (arith, same, behind, one.some)
    by same (inr before) = omega (arith, same, before, (live_inside p o heap lives).0)

-- what is told of an access to a range within an object
pub access_tells : (event : ℕ → TacEvent) (state : State) (address size number : ℕ) (o : Object) → object_at state.pools address size ≡ Some o → number_of state.placed o.start ≡ number → access event state address size ≡ Same (event number) ∷ []
access_tells event state address size number o found is = rw found (ap (λ n. Same (event n) ∷ []) is)

pub access_none : (event : ℕ → TacEvent) (state : State) (address size : ℕ) → object_at state.pools address size ≡ None → access event state address size ≡ []
access_none event state address size none = rw none refl
