-- What is read at a place that lies in one live cell or object.
use Rattle.std.proofs.Common.{◌≡◌, ℕ, ◌+◌, ◌-◌, ◌*◌, ◌^◌, ◌/◌, ◌%◌, ◌≤◌, Bool, true, false, List, Option, Some, None, length, refl, sym, ap, subst, ◌∙◌, inl, inr, ◌⊎◌, arith}
use Rattle.std.specs.Prelude.{◌&&◌, nat_le, is_some, slice_get, slice_index, slice_index_or, option_map, find}
use Rattle.std.specs.BTreeMap.{get, is_at}
use Rattle.std.specs.Ordering.{nat_cmp}
use Rattle.std.specs.Cmp.{Equal-is}
use Rattle.std.specs.List.{AllByRecursion, list_any}
use Rattle.std.proofs.lemmas.Cmp.{nat_cmp_total}
use Rattle.std.proofs.lemmas.Map.Lookups.{exact_unsigned}
use Rattle.std.proofs.lemmas.Map.Entries.{place_from_lookup, btree_map_get_place}
use Rattle.std.proofs.lemmas.Bool.{leb-true, le-leb, false_from_ne_true}
use Rattle.std.proofs.lemmas.Option.{same_Some, slice_get-get_or}
use Rattle.std.proofs.Math.Nat.{mul_comm}
use Rattle.run_theory.specs.Words.{word_at}
use Rattle.slab_space.specs.Runs.{need}
use Rattle.slab_space.specs.Pool.{Object, cells_per_run, large_object}
use Rattle.slab_space.specs.PoolSteps.{covers}
use Rattle.slab_space.specs.Pools.{objects, object_at, load_step}
use Rattle.pool_runtime.specs.declared.cells.Cells.{Cells}
use Rattle.pool_runtime.specs.declared.pool.Pool.{Pool}
use Rattle.pool_runtime.specs.declared.pools.Pools.TheInside.{Inside}
use Rattle.pool_runtime.specs.declared.slabs.Found.{Found}
use Rattle.pool_runtime.specs.declared.slabs.Home.{Home}
use Rattle.pool_runtime.specs.declared.slabs.Held.{Held}
use Rattle.pool_runtime.specs.declared.slabs.Held.TheVariants as held
use Rattle.pool_runtime.specs.declared.slabs.Slabs.{Slabs}
use Rattle.pool_runtime.specs.Bytes.{range}
use Rattle.pool_runtime.specs.Seen.{place, large_seen, pools_of}
use Rattle.pool_runtime.specs.Tables.{IsSpace, AreHeld, AreRuns, IsClass, IsLarge, IsPools, of_class, of_large}
use Rattle.pool_runtime.specs.Lookup.{cell_in_run, cell_in_class, cell_of, live_covers, class_covers, large_covers, held_covers, is_covered}
use Rattle.pool_runtime.specs.Changes.{HaveSizes, IsCovered, CoversAt}
use Rattle.pool_runtime.proofs.Ranges.{held_inside, length-range, word_in_range}
use Rattle.pool_runtime.proofs.Places.{run_inside, place_high}
use Rattle.pool_runtime.proofs.CellsSteps.{cell_held}
use Rattle.pool_runtime.proofs.Fresh.{all_at}
use Rattle.pool_runtime.proofs.Lookups.{CellThere, cell_there, there_is, some_number, made_number, place_is, cell_is_there}
use Rattle.pool_runtime.proofs.Objects.{cell_object, address_is, all_objects, any_object, all_pool, any_pool_cell, any_pool_large, find_all, find_some, find_none}

both : (a b : Bool) → (a && b) ≡ true → (a ≡ true) × (b ≡ true)
both true b e = (refl, e)
both false b e = absurd cc

and_true : (a b : Bool) → a ≡ true → b ≡ true → (a && b) ≡ true
and_true true b e e' = e'
and_true false b e e' = absurd cc

-- ---- the two ways to lie in one

pub record IsInCell (pool : Pool) (found : Found) (width : ℕ) : Type 0 where
  pub class : ℕ
  pub run : ℕ
  pub number : ℕ
  pub off : ℕ
  pub home : found.home.held ≡ held.Cells class run
  pub there : CellThere pool.classes.items found class run number off
  pub live : slice_index_or there.cells.live.items (number - 1) false ≡ true
  pub fits : off + width ≤ there.cells.size

pub record IsInLarge (pool : Pool) (found : Found) (width : ℕ) : Type 0 where
  pub index : ℕ
  pub entry : ℕ × ℕ
  pub home : found.home.held ≡ held.Large
  pub at : slice_get pool.large.entries index ≡ Some entry
  pub first : entry.0 ≡ found.first
  pub fits : found.within + width ≤ entry.1

module _ (pool : Pool) (found : Found) (width : ℕ) where
  in_cell : (class run : ℕ) (c : Cells) (o : Option (ℕ × ℕ)) → found.home.held ≡ held.Cells class run → slice_get pool.classes.items class ≡ Some c → cell_of pool.classes.items found class run ≡ o → live_covers c width o ≡ true → IsInCell pool found width
  in_cell class run c None home at e h = absurd cc
  in_cell class run c (Some p) home at e h =
      let tests = both (slice_index_or c.live.items (p.0 - 1) false) (nat_le (p.1 + width) c.size) h in
      let there = cell_there pool.classes.items found class run p.0 p.1 e in
      let same : c ≡ there.cells = same_Some c there.cells (sym at ∙ there.at) in
      record {
        class = class;
        run = run;
        number = p.0;
        off = p.1;
        home = home;
        there = there;
        live = ap (λ (x : Cells). slice_index_or x.live.items (p.0 - 1) false) (sym same) ∙ tests.0;
        fits = subst (λ (x : Cells). p.1 + width ≤ x.size) same (leb-true (p.1 + width) c.size tests.1);
      }

  in_class : (class run : ℕ) (mc : Option Cells) → found.home.held ≡ held.Cells class run → slice_get pool.classes.items class ≡ mc → class_covers found width run mc ≡ true → IsInCell pool found width
  in_class class run None home at h = absurd cc
  in_class class run (Some c) home at h =
      let same : cell_of pool.classes.items found class run ≡ cell_in_run c found run (slice_get c.runs.items run) = ap (λ (mc : Option Cells). cell_in_class found run mc) at in
      in_cell class run c (cell_in_run c found run (slice_get c.runs.items run)) home at same h

  in_large : (o : Option ℕ) → found.home.held ≡ held.Large → get nat_cmp pool.large found.first ≡ o → large_covers found width o ≡ true → IsInLarge pool found width
  in_large None home at h = absurd cc
  in_large (Some bytes) home at h =
      let entry = place_from_lookup (is_at (nat_cmp found.first)) pool.large.entries bytes at in
      record {
        index = entry.0;
        entry = (entry.1, bytes);
        home = home;
        at = entry.2;
        first = sym (exact_unsigned found.first entry.1 ((Equal-is (nat_cmp found.first entry.1)).0 entry.3));
        fits = leb-true (found.within + width) bytes h;
      }

  by_home : (h : Held) → found.home.held ≡ h → held_covers pool found width h ≡ true → IsInCell pool found width ⊎ IsInLarge pool found width
  by_home (held.Cells class run) home e = inl (in_class class run (slice_get pool.classes.items class) home refl e)
  by_home held.Large home e = inr (in_large (get nat_cmp pool.large found.first) home refl e)

  pub covered_in : is_covered pool found width ≡ true → IsInCell pool found width ⊎ IsInLarge pool found width
  covered_in e = by_home found.home.held refl e

-- ---- where they lie

home_run : {id k i j : ℕ} → of_class id k i ≡ of_class id k j → i ≡ j
home_run {id} {k} {i} {j} e = ap (λ (h : Home). run_in h.held) e
  where
    run_in : Held → ℕ
    run_in (held.Cells class run) = run
    run_in held.Large = 0

pub class_runs : (slabs : Slabs) (id k : ℕ) (c : Cells) → IsClass slabs id k c → AreRuns slabs.space.owners c
class_runs slabs id k c is = record {
  held = λ j inside. (is.runs j inside).run;
  once = λ i j inside inside' same. home_run (same_Some (of_class id k i) (of_class id k j) (sym (is.runs i inside).noted ∙ ap (λ f. slice_get slabs.homes.items f) same ∙ (is.runs j inside').noted));
}

pub have_sizes : (s : Inside) → IsPools s → HaveSizes s.pools
have_sizes s is id pool there k c at =
    let class = (is.pools id pool there).classes k c at in let cells = class.cells in
    record {
      least = cells.least;
      most = cells.most;
      made = cells.made;
      few = cells.few;
      room = cells.room;
      inside = λ j in_runs. let run = (class.runs j in_runs).run in omega (arith, run.inside, run.some, is.space.small);
    }

module _ (slabs : Slabs) (space : IsSpace slabs.space) where
  pub class_cell_held : (id k : ℕ) (c : Cells) → IsClass slabs id k c → (n : ℕ) → 1 ≤ n → n ≤ c.made → AreHeld slabs.space.owners (place c n) c.size
  class_cell_held id k c class n one made = cell_held slabs.space space c class.cells (class_runs slabs id k c class) n one (omega (arith, made, class.cells.made))

  pub class_cell_inside : (id k : ℕ) (c : Cells) → IsClass slabs id k c → (n : ℕ) → 1 ≤ n → n ≤ c.made → place c n + c.size ≤ length slabs.space.bytes
  class_cell_inside id k c class n one made = held_inside slabs.space space (place c n) c.size (omega (arith, class.cells.least)) (class_cell_held id k c class n one made)

  pub large_inside : (id : ℕ) (e : ℕ × ℕ) → IsLarge slabs id e → 4096 * e.0 + e.1 ≤ length slabs.space.bytes
  large_inside id e large = omega (arith, large.run.run.inside, space.whole)

  pub large_held : (id : ℕ) (e : ℕ × ℕ) → IsLarge slabs id e → AreHeld slabs.space.owners (4096 * e.0) e.1
  large_held id e large at low high = ap is_some (large.run.run.held (at / 4096) (omega arith) (omega arith))

-- ---- an object's bytes lie in the space

pub record IsPlaced (bytes : List ℕ) (o : Object) : Type 0 where
  pub from : ℕ
  pub start : o.start ≡ 2 ^ 44 + from
  pub bytes_are : o.bytes ≡ range bytes from (length o.bytes)
  pub inside : from + length o.bytes ≤ length bytes

pub covers_from : (address width : ℕ) (o : Object) → o.start ≤ address → address + width ≤ o.start + length o.bytes → covers address width o ≡ true
covers_from address width o low high = and_true (nat_le o.start address) (nat_le (address + width) (o.start + length o.bytes)) (le-leb o.start address low) (le-leb (address + width) (o.start + length o.bytes) high)

pub covers_to : (address width : ℕ) (o : Object) → covers address width o ≡ true → (o.start ≤ address) × (address + width ≤ o.start + length o.bytes)
covers_to address width o e =
    let tests = both (nat_le o.start address) (nat_le (address + width) (o.start + length o.bytes)) e in
    (leb-true o.start address tests.0, leb-true (address + width) (o.start + length o.bytes) tests.1)

pub placed_word : (bytes : List ℕ) (address width : ℕ) (o : Object) → IsPlaced bytes o → covers address width o ≡ true → word_at o.bytes (address - o.start) width ≡ word_at bytes (address - 2 ^ 44) width
placed_word bytes address width o is e =
    let in_it = covers_to address width o e in
    let off = address - o.start in
    let there : is.from + (address - o.start) ≡ address - 2 ^ 44 = omega (arith, in_it.0, is.start) in
    ap (λ (bs : List ℕ). word_at bs off width) is.bytes_are
    ∙ word_in_range bytes is.from (length o.bytes) is.inside off width (omega (arith, in_it.0, in_it.1))
    ∙ ap (λ p. word_at bytes p width) there

module _ (s : Inside) (is : IsPools s) where
  placed_cell : (id k number : ℕ) (c : Cells) → IsClass s.slabs id k c → 1 ≤ number → number ≤ c.made → IsPlaced s.slabs.space.bytes (cell_object s.slabs.space.bytes c number)
  placed_cell id k number c class one made =
      let inside = class_cell_inside s.slabs is.space id k c class number one made in
      let long = length-range s.slabs.space.bytes (place c number) c.size inside in
      record {
        from = place c number;
        start = address_is s.slabs.space.bytes c number;
        bytes_are = ap (range s.slabs.space.bytes (place c number)) (sym long);
        inside = omega (arith, inside, long);
      }

  placed_large : (id : ℕ) (e : ℕ × ℕ) → IsLarge s.slabs id e → IsPlaced s.slabs.space.bytes (large_object (large_seen s.slabs.space.bytes e))
  placed_large id e large =
      let inside = large_inside s.slabs is.space id e large in
      let long = length-range s.slabs.space.bytes (4096 * e.0) e.1 inside in
      record {
        from = 4096 * e.0;
        start = refl;
        bytes_are = ap (range s.slabs.space.bytes (4096 * e.0)) (sym long);
        inside = omega (arith, inside, long);
      }

  pub all_placed : AllByRecursion (IsPlaced s.slabs.space.bytes) (objects (pools_of s))
  all_placed = all_objects s (IsPlaced s.slabs.space.bytes) (λ id pool there.
      let p = is.pools id pool there in
      all_pool s.slabs.space.bytes (IsPlaced s.slabs.space.bytes) pool
      (λ k number c at one made live. placed_cell id k number c (p.classes k c at) one made)
      (λ i e at. placed_large id e (all_at (IsLarge s.slabs id) pool.large.entries i e p.large at)))

  module _ (address width : ℕ) (some : 1 ≤ width) where
    module _ (covered : IsCovered s.pools address width) where
      pub in_one : list_any (covers address width) (objects (pools_of s)) ≡ true
      in_one =
          let f = covered.found in let pool = covered.pool in let p = is.pools f.home.pool pool covered.there in
          any_object s (covers address width) f.home.pool pool is covered.there (elim (covered_in pool f width covered.covered) [
            | inl cell ↦ (
                let c = cell.there.cells in
                let class = p.classes cell.class c cell.there.at in
                let one = some_number pool.classes.items f cell.class cell.run cell.number cell.off cell.there in
                let made = made_number pool.classes.items f cell.class cell.run cell.number cell.off cell.there in
                let here = place_is pool.classes.items f cell.class cell.run cell.number cell.off cell.there (omega (arith, class.cells.least)) in
                let inside = class_cell_inside s.slabs is.space f.home.pool cell.class c class cell.number one made in
                let long = length-range s.slabs.space.bytes (place c cell.number) c.size inside in
                let start = address_is s.slabs.space.bytes c cell.number in
                any_pool_cell s.slabs.space.bytes (covers address width) pool cell.class cell.number c cell.there.at one made cell.live
                (covers_from address width (cell_object s.slabs.space.bytes c cell.number) (omega (arith, start, here, covered.at)) (omega (arith, start, here, covered.at, long, cell.fits))))
            | inr large ↦ (
                let e = large.entry in
                let is_large = all_at (IsLarge s.slabs f.home.pool) pool.large.entries large.index e p.large large.at in
                let inside = large_inside s.slabs is.space f.home.pool e is_large in
                let long = length-range s.slabs.space.bytes (4096 * e.0) e.1 inside in
                any_pool_large s.slabs.space.bytes (covers address width) pool large.index e large.at
                (covers_from address width (large_object (large_seen s.slabs.space.bytes e)) (omega (arith, covered.at, large.first)) (omega (arith, covered.at, large.first, long, large.fits))))
          ])

      pub word_held : AreHeld s.slabs.space.owners (address - 2 ^ 44) width
      word_held =
          let f = covered.found in let pool = covered.pool in let p = is.pools f.home.pool pool covered.there in
          elim (covered_in pool f width covered.covered) [
            | inl cell ↦ (
                let c = cell.there.cells in
                let class = p.classes cell.class c cell.there.at in
                let one = some_number pool.classes.items f cell.class cell.run cell.number cell.off cell.there in
                let made = made_number pool.classes.items f cell.class cell.run cell.number cell.off cell.there in
                let here = place_is pool.classes.items f cell.class cell.run cell.number cell.off cell.there (omega (arith, class.cells.least)) in
                let held = class_cell_held s.slabs is.space f.home.pool cell.class c class cell.number one made in
                λ at low high. held at (omega (arith, low, here, covered.at)) (omega (arith, high, here, covered.at, cell.fits)))
            | inr large ↦ (
                let e = large.entry in
                let held = large_held s.slabs is.space f.home.pool e (all_at (IsLarge s.slabs f.home.pool) pool.large.entries large.index e p.large large.at) in
                λ at low high. held at (omega (arith, low, covered.at, large.first)) (omega (arith, high, covered.at, large.first, large.fits)))
          ]

      from_object : (o : Option Object) → find (covers address width) (objects (pools_of s)) ≡ o → is_some o ≡ true → Some (word_at s.slabs.space.bytes (address - 2 ^ 44) width) ≡ option_map (λ (x : Object). word_at x.bytes (address - x.start) width) o
      from_object None e has = absurd cc
      from_object (Some o) e has =
          let found = find_all (IsPlaced s.slabs.space.bytes) (covers address width) (objects (pools_of s)) o all_placed e in
          ap Some (sym (placed_word s.slabs.space.bytes address width o found.0 found.1))

      pub loaded : Some (word_at s.slabs.space.bytes (address - 2 ^ 44) width) ≡ load_step (pools_of s) address width
      loaded =
          let t = covers address width in let os = objects (pools_of s) in
          from_object (find t os) refl (find_some t os in_one)

    module _ (none : CoversAt s.slabs s.pools address width false) where
      not_cell : (id k number : ℕ) (pool : Pool) (c : Cells) → get nat_cmp s.pools id ≡ Some pool → slice_get pool.classes.items k ≡ Some c → IsClass s.slabs id k c → 1 ≤ number → number ≤ c.made
          → slice_index_or c.live.items (number - 1) false ≡ true → covers address width (cell_object s.slabs.space.bytes c number) ≡ true → ⊥
      not_cell id k number pool c there at class one made live e =
          let bytes = s.slabs.space.bytes in let o = cell_object bytes c number in
          let in_it = covers_to address width o e in
          let inside = class_cell_inside s.slabs is.space id k c class number one made in
          let long = length-range bytes (place c number) c.size inside in
          let start = address_is bytes c number in
          let per = cells_per_run c.size in let j = (number - 1) / per in let m = (number - 1) % per in
          let first = slice_index c.runs.items j in
          let off = address - (2 ^ 44 + place c number) in
          let within = address - (2 ^ 44 + 4096 * first) in
          let some_run = run_inside c number one (omega (arith, made, class.cells.made, class.cells.room)) in
          let run = class.runs j some_run in
          let home = of_class id k j in
          let here : Found = record { first = first; within = within; home = home } in
          let swap = mul_comm m c.size in
          let is_there = cell_is_there pool.classes.items k number off first c here at one made (omega (arith, class.cells.least)) (omega (arith, in_it.1, in_it.0, long, start, some))
          (slice_get-get_or c.runs.items j 0 some_run) (omega (arith, in_it.0, start, swap)) in
          let high = place_high c number (omega (arith, class.cells.least)) in
          let no_cover = none first (need c.size) home pool run (omega (arith, in_it.0, start)) (omega (arith, in_it.0, in_it.1, start, long, high, some)) there in
          let is = ap (λ (mc : Option Cells). class_covers here width j mc) at ∙ ap (live_covers c width) (sym (ap (λ (mc : Option Cells). cell_in_class here j mc) at) ∙ there_is pool.classes.items here k j number off is_there) in
          let yes = and_true (slice_index_or c.live.items (number - 1) false) (nat_le (off + width) c.size) live (le-leb (off + width) c.size (omega (arith, in_it.0, in_it.1, start, long))) in
          let both : false ≡ true = sym no_cover ∙ is ∙ yes in
          cc

      not_large : (id i : ℕ) (pool : Pool) (e : ℕ × ℕ) → get nat_cmp s.pools id ≡ Some pool → slice_get pool.large.entries i ≡ Some e → IsLarge s.slabs id e → covers address width (large_object (large_seen s.slabs.space.bytes e)) ≡ true → ⊥
      not_large id i pool e there at large covered =
          let bytes = s.slabs.space.bytes in let o = large_object (large_seen bytes e) in
          let in_it = covers_to address width o covered in
          let long = length-range bytes (4096 * e.0) e.1 (large_inside s.slabs is.space id e large) in
          let within = address - (2 ^ 44 + 4096 * e.0) in
          let here : Found = record { first = e.0; within = within; home = of_large id } in
          let no_cover = none e.0 (need e.1) (of_large id) pool large.run in_it.0 (omega (arith, in_it.0, in_it.1, long, some)) there in
          let found = btree_map_get_place nat_cmp_total pool.large i e.0 e.1 (is.pools id pool there).ordered at in
          let is = ap (large_covers here width) found in
          let yes = le-leb (within + width) e.1 (omega (arith, in_it.0, in_it.1, long)) in
          let both : false ≡ true = sym no_cover ∙ is ∙ yes in
          cc

      no_object : AllByRecursion (λ o. covers address width o ≡ false) (objects (pools_of s))
      no_object = all_objects s (λ o. covers address width o ≡ false) (λ id pool there.
          let p = is.pools id pool there in
          all_pool s.slabs.space.bytes (λ o. covers address width o ≡ false) pool
          (λ k number c at one made live. false_from_ne_true (covers address width (cell_object s.slabs.space.bytes c number)) (not_cell id k number pool c there at (p.classes k c at) one made live))
          (λ i e at. false_from_ne_true (covers address width (large_object (large_seen s.slabs.space.bytes e))) (not_large id i pool e there at (all_at (IsLarge s.slabs id) pool.large.entries i e p.large at))))

      pub in_none : object_at (pools_of s) address width ≡ None
      in_none = find_none (covers address width) (objects (pools_of s)) no_object

      pub not_loaded : None ≡ load_step (pools_of s) address width
      not_loaded = sym (ap (option_map (λ (o : Object). word_at o.bytes (address - o.start) width)) in_none)
