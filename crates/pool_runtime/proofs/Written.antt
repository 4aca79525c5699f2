-- All pools, after a word was written into one live cell or object.
use Rattle.std.proofs.Common.{◌≡◌, ℕ, zero, suc, ◌+◌, ◌-◌, ◌*◌, ◌^◌, ◌/◌, ◌≤◌, Bool, true, false, List, [], ◌∷◌, ◌++◌, Option, Some, None, length, map, refl, sym, ap, subst, ◌∙◌, inl, inr, ◌⊎◌, arith}
use Rattle.std.specs.Prelude.{if◌then◌else◌, is_some, slice_get, slice_index_or, option_map}
use Rattle.std.specs.BTreeMap.{get}
use Rattle.std.specs.Ordering.{nat_cmp}
use Rattle.std.proofs.lemmas.List.{map-append}
use Rattle.std.proofs.lemmas.Cmp.{nat_cmp_total}
use Rattle.std.proofs.lemmas.Map.Entries.{btree_map_get_place}
use Rattle.std.proofs.lemmas.Bool.{cases_eq}
use Rattle.std.proofs.lemmas.Option.{same_Some}
use Rattle.run_theory.specs.Words.{with_word}
use Rattle.raw_slab.proofs.WordsWritten.{length-with_word}
use Rattle.slab_space.specs.Runs.{need}
use Rattle.slab_space.specs.Pool.{cells_per_run}
use Rattle.slab_space.specs.Pool as one
use Rattle.slab_space.specs.PoolSteps.{covers, written_in}
use Rattle.slab_space.specs.Pools.{objects, object_at, store_step}
use Rattle.slab_space.specs.Pools as all
use Rattle.pool_runtime.specs.declared.cells.Cells.{Cells}
use Rattle.pool_runtime.specs.declared.pool.Pool.{Pool}
use Rattle.pool_runtime.specs.declared.pools.Pools.TheInside.{Inside}
use Rattle.pool_runtime.specs.declared.slabs.Held.{Held}
use Rattle.pool_runtime.specs.declared.slabs.Held.TheVariants as held
use Rattle.pool_runtime.specs.declared.slabs.Home.{Home}
use Rattle.pool_runtime.specs.Bytes.{Apart}
use Rattle.pool_runtime.specs.Seen.{place, pool_seen, pools_seen, pools_of}
use Rattle.pool_runtime.specs.Tables.{IsAtHome, IsClass, IsLarge, IsPools, of_class, of_large}
use Rattle.pool_runtime.specs.Changes.{IsCovered, CoversAt}
use Rattle.pool_runtime.proofs.Places.{run_inside, place_low, place_high, places_apart, run_of}
use Rattle.pool_runtime.proofs.Ranges.{held_inside}
use Rattle.pool_runtime.proofs.Fresh.{all_at}
use Rattle.pool_runtime.proofs.PoolsSeen.{one_seen}
use Rattle.pool_runtime.proofs.PoolsChanged.{same_pools}
use Rattle.pool_runtime.proofs.Lookups.{some_number, made_number, place_is}
use Rattle.pool_runtime.proofs.Objects.{find_some}
use Rattle.pool_runtime.proofs.Loads.{covered_in, class_runs, word_held, in_one, in_none}
use Rattle.pool_runtime.proofs.Stores.{with_bytes, pool_written, is_pool_written, aside_run, same_home}

abbrev class_in : Held → ℕ
class_in (held.Cells class run) = class
class_in held.Large = 0

abbrev is_cells : Held → Bool
is_cells (held.Cells class run) = true
is_cells held.Large = false

abbrev Lies : ℕ → ℕ → ℕ → ℕ → Type 0
Lies from count at width = Apart from count at width ⊎ ((from ≤ at) × (at + width ≤ from + count))

abbrev CellLies : Cells → ℕ → ℕ → ℕ → Type 0
CellLies c n at width = Apart (place c n) c.size at width ⊎ (((place c n ≤ at) × (at + width ≤ place c n + c.size)) × (slice_index_or c.live.items (n - 1) false ≡ true))

module _ (s : Inside) (is : IsPools s) where
  class_there : (id k : ℕ) (pool : Pool) (c : Cells) → get nat_cmp s.pools id ≡ Some pool → slice_get pool.classes.items k ≡ Some c → IsClass s.slabs id k c
  class_there id k pool c there at = (is.pools id pool there).classes k c at

  large_there : (id i : ℕ) (pool : Pool) (e : ℕ × ℕ) → get nat_cmp s.pools id ≡ Some pool → slice_get pool.large.entries i ≡ Some e → IsLarge s.slabs id e
  large_there id i pool e there at = all_at (IsLarge s.slabs id) pool.large.entries i e (is.pools id pool there).large at

  -- the word lies in a cell
  module _ (at width id0 k0 m : ℕ) (pool0 : Pool) (c0 : Cells) (there0 : get nat_cmp s.pools id0 ≡ Some pool0) (at0 : slice_get pool0.classes.items k0 ≡ Some c0) (some0 : 1 ≤ m) (made0 : m ≤ c0.made)
      (live0 : slice_index_or c0.live.items (m - 1) false ≡ true) (low : place c0 m ≤ at) (high : at + width ≤ place c0 m + c0.size) where
    class0 : IsClass s.slabs id0 k0 c0
    class0 = class_there id0 k0 pool0 c0 there0 at0

    size0 : 1 ≤ c0.size
    size0 = omega (arith, class0.cells.least)

    in0 : m ≤ length c0.runs.items * cells_per_run c0.size
    in0 = omega (arith, made0, class0.cells.made, class0.cells.room)

    run0 : IsAtHome s.slabs (run_of c0 m) (need c0.size) (of_class id0 k0 ((m - 1) / cells_per_run c0.size))
    run0 = class0.runs ((m - 1) / cells_per_run c0.size) (run_inside c0 m some0 in0)

    under : 4096 * run_of c0 m ≤ at
    under = omega (arith, low, place_low c0 m)

    over : at + width ≤ 4096 * (run_of c0 m + need c0.size)
    over = omega (arith, high, place_high c0 m size0)

    same_class : (n : ℕ) → 1 ≤ n → n ≤ c0.made → CellLies c0 n at width
    same_class n some made = elim (cases_eq n m) [
      | inl e ↦ inr (rw e ((low, high), live0))
      | inr differ ↦ inl (elim (places_apart c0 s.slabs.space.owners size0 (class_runs s.slabs id0 k0 c0 class0) n m some (omega (arith, made, class0.cells.made, class0.cells.room)) some0 in0 differ) [
        | inl before ↦ inl (omega (arith, low))
        | inr behind ↦ inr (omega (arith, high))
      ])
    ]

    pub cell_and_cell : (id k n : ℕ) (pool : Pool) (c : Cells) → get nat_cmp s.pools id ≡ Some pool → slice_get pool.classes.items k ≡ Some c → 1 ≤ n → n ≤ c.made → CellLies c n at width
    cell_and_cell id k n pool c there at_k some made =
        let class = class_there id k pool c there at_k in
        let size : 1 ≤ c.size = omega (arith, class.cells.least) in
        let run = class.runs ((n - 1) / cells_per_run c.size) (run_inside c n some (omega (arith, made, class.cells.made, class.cells.room))) in
        elim (cases_eq (run_of c n) (run_of c0 m)) [
          | inl e ↦ (
              let home = same_home s.slabs (run_of c0 m) (need c0.size) (of_class id0 k0 ((m - 1) / cells_per_run c0.size)) run0 at width under over (run_of c n) (need c.size) (of_class id k ((n - 1) / cells_per_run c.size)) run e in
              let pool_is : pool ≡ pool0 = same_Some pool pool0 (sym there ∙ ap (λ (h : Home). get nat_cmp s.pools h.pool) home ∙ there0) in
              let k_is : k ≡ k0 = ap (λ (h : Home). class_in h.held) home in
              let c_is : c ≡ c0 = same_Some c c0 (sym at_k ∙ ap (λ (p : Pool). slice_get p.classes.items k) pool_is ∙ ap (slice_get pool0.classes.items) k_is ∙ at0) in
              subst (λ (x : Cells). CellLies x n at width) (sym c_is) (same_class n some (subst (λ (x : Cells). n ≤ x.made) c_is made)))
          | inr differ ↦ inl (aside_run s.slabs (run_of c0 m) (need c0.size) (of_class id0 k0 ((m - 1) / cells_per_run c0.size)) run0 at width under over (run_of c n) (need c.size) (of_class id k ((n - 1) / cells_per_run c.size)) run differ
              (place c n) c.size (place_low c n) (place_high c n size))
        ]

    pub cell_and_large : (id i : ℕ) (pool : Pool) (e : ℕ × ℕ) → get nat_cmp s.pools id ≡ Some pool → slice_get pool.large.entries i ≡ Some e → Lies (4096 * e.0) e.1 at width
    cell_and_large id i pool e there at_i =
        let large = large_there id i pool e there at_i in
        elim (cases_eq e.0 (run_of c0 m)) [
          | inl same ↦ (
              let home = same_home s.slabs (run_of c0 m) (need c0.size) (of_class id0 k0 ((m - 1) / cells_per_run c0.size)) run0 at width under over e.0 (need e.1) (of_large id) large.run same in
              let both : false ≡ true = ap (λ (h : Home). is_cells h.held) home in absurd cc)
          | inr differ ↦ inl (aside_run s.slabs (run_of c0 m) (need c0.size) (of_class id0 k0 ((m - 1) / cells_per_run c0.size)) run0 at width under over e.0 (need e.1) (of_large id) large.run differ (4096 * e.0) e.1 (omega arith) (omega arith))
        ]

  -- the word lies in a large object
  module _ (at width id0 i0 : ℕ) (pool0 : Pool) (e0 : ℕ × ℕ) (there0 : get nat_cmp s.pools id0 ≡ Some pool0) (at0 : slice_get pool0.large.entries i0 ≡ Some e0) (low : 4096 * e0.0 ≤ at) (high : at + width ≤ 4096 * e0.0 + e0.1) where
    large0 : IsLarge s.slabs id0 e0
    large0 = large_there id0 i0 pool0 e0 there0 at0

    far : at + width ≤ 4096 * (e0.0 + need e0.1)
    far = omega (arith, high)

    pub large_and_cell : (id k n : ℕ) (pool : Pool) (c : Cells) → get nat_cmp s.pools id ≡ Some pool → slice_get pool.classes.items k ≡ Some c → 1 ≤ n → n ≤ c.made → CellLies c n at width
    large_and_cell id k n pool c there at_k some made =
        let class = class_there id k pool c there at_k in
        let size : 1 ≤ c.size = omega (arith, class.cells.least) in
        let run = class.runs ((n - 1) / cells_per_run c.size) (run_inside c n some (omega (arith, made, class.cells.made, class.cells.room))) in
        elim (cases_eq (run_of c n) e0.0) [
          | inl e ↦ (
              let home = same_home s.slabs e0.0 (need e0.1) (of_large id0) large0.run at width low far (run_of c n) (need c.size) (of_class id k ((n - 1) / cells_per_run c.size)) run e in
              let both : true ≡ false = ap (λ (h : Home). is_cells h.held) home in absurd cc)
          | inr differ ↦ inl (aside_run s.slabs e0.0 (need e0.1) (of_large id0) large0.run at width low far (run_of c n) (need c.size) (of_class id k ((n - 1) / cells_per_run c.size)) run differ (place c n) c.size (place_low c n) (place_high c n size))
        ]

    pub large_and_large : (id i : ℕ) (pool : Pool) (e : ℕ × ℕ) → get nat_cmp s.pools id ≡ Some pool → slice_get pool.large.entries i ≡ Some e → Lies (4096 * e.0) e.1 at width
    large_and_large id i pool e there at_i =
        let large = large_there id i pool e there at_i in
        elim (cases_eq e.0 e0.0) [
          | inl same ↦ (
              let home = same_home s.slabs e0.0 (need e0.1) (of_large id0) large0.run at width low far e.0 (need e.1) (of_large id) large.run same in
              let pool_is : pool ≡ pool0 = same_Some pool pool0 (sym there ∙ ap (λ (h : Home). get nat_cmp s.pools h.pool) home ∙ there0) in
              let one = btree_map_get_place nat_cmp_total pool.large i e.0 e.1 (is.pools id pool there).ordered at_i in
              let other = btree_map_get_place nat_cmp_total pool0.large i0 e0.0 e0.1 (is.pools id0 pool0 there0).ordered at0 in
              let size : e.1 ≡ e0.1 = same_Some e.1 e0.1 (sym one ∙ ap (λ (p : Pool). get nat_cmp p.large e.0) pool_is ∙ ap (get nat_cmp pool0.large) same ∙ other) in
              inr (omega (arith, low, same), omega (arith, high, same, size)))
          | inr differ ↦ inl (aside_run s.slabs e0.0 (need e0.1) (of_large id0) large0.run at width low far e.0 (need e.1) (of_large id) large.run differ (4096 * e.0) e.1 (omega arith) (omega arith))
        ]

  module _ (address width word : ℕ) (some : 1 ≤ width) (covered : IsCovered s.pools address width) where
    cells_lie : (id k n : ℕ) (pool : Pool) (c : Cells) → get nat_cmp s.pools id ≡ Some pool → slice_get pool.classes.items k ≡ Some c → 1 ≤ n → n ≤ c.made → CellLies c n (address - 2 ^ 44) width
    cells_lie id k n pool c there at_k one made =
        let f = covered.found in let pool0 = covered.pool in
        elim (covered_in pool0 f width covered.covered) [
          | inl cell ↦ (
              let c0 = cell.there.cells in let class = (is.pools f.home.pool pool0 covered.there).classes cell.class c0 cell.there.at in
              let here = place_is pool0.classes.items f cell.class cell.run cell.number cell.off cell.there (omega (arith, class.cells.least)) in
              cell_and_cell (address - 2 ^ 44) width f.home.pool cell.class cell.number pool0 c0 covered.there cell.there.at
              (some_number pool0.classes.items f cell.class cell.run cell.number cell.off cell.there) (made_number pool0.classes.items f cell.class cell.run cell.number cell.off cell.there) cell.live
              (omega (arith, here, covered.at)) (omega (arith, here, covered.at, cell.fits)) id k n pool c there at_k one made)
          | inr large ↦ large_and_cell (address - 2 ^ 44) width f.home.pool large.index pool0 large.entry covered.there large.at (omega (arith, covered.at, large.first)) (omega (arith, covered.at, large.first, large.fits)) id k n pool c there at_k one made
        ]

    larges_lie : (id i : ℕ) (pool : Pool) (e : ℕ × ℕ) → get nat_cmp s.pools id ≡ Some pool → slice_get pool.large.entries i ≡ Some e → Lies (4096 * e.0) e.1 (address - 2 ^ 44) width
    larges_lie id i pool e there at_i =
        let f = covered.found in let pool0 = covered.pool in
        elim (covered_in pool0 f width covered.covered) [
          | inl cell ↦ (
              let c0 = cell.there.cells in let class = (is.pools f.home.pool pool0 covered.there).classes cell.class c0 cell.there.at in
              let here = place_is pool0.classes.items f cell.class cell.run cell.number cell.off cell.there (omega (arith, class.cells.least)) in
              cell_and_large (address - 2 ^ 44) width f.home.pool cell.class cell.number pool0 c0 covered.there cell.there.at
              (some_number pool0.classes.items f cell.class cell.run cell.number cell.off cell.there) (made_number pool0.classes.items f cell.class cell.run cell.number cell.off cell.there) cell.live
              (omega (arith, here, covered.at)) (omega (arith, here, covered.at, cell.fits)) id i pool e there at_i)
          | inr large ↦ large_and_large (address - 2 ^ 44) width f.home.pool large.index pool0 large.entry covered.there large.at (omega (arith, covered.at, large.first)) (omega (arith, covered.at, large.first, large.fits)) id i pool e there at_i
        ]

    start : 2 ^ 44 + (address - 2 ^ 44) ≡ address
    start = omega (arith, covered.at)

    inside : address - 2 ^ 44 + width ≤ length s.slabs.space.bytes
    inside = held_inside s.slabs.space is.space (address - 2 ^ 44) width some (word_held s is address width some covered)

    one_pool : (id : ℕ) (pool : Pool) → get nat_cmp s.pools id ≡ Some pool → pool_seen (with_word s.slabs.space.bytes (address - 2 ^ 44) width word) pool ≡ written_in address width word (pool_seen s.slabs.space.bytes pool)
    one_pool id pool there =
        pool_written s.slabs is.space (address - 2 ^ 44) width word some inside id pool (is.pools id pool there) (λ k n c at_k one made. cells_lie id k n pool c there at_k one made) (λ i e at_i. larges_lie id i pool e there at_i)
        ∙ ap (λ a. written_in a width word (pool_seen s.slabs.space.bytes pool)) start

    one_by : (id : ℕ) (o : Option Pool) → get nat_cmp s.pools id ≡ o → option_map (pool_seen (with_word s.slabs.space.bytes (address - 2 ^ 44) width word)) o ≡ option_map (written_in address width word) (option_map (pool_seen s.slabs.space.bytes) o)
    one_by id None e = refl
    one_by id (Some pool) e = ap Some (one_pool id pool e)

    list_written : (made : ℕ) → pools_seen (with_word s.slabs.space.bytes (address - 2 ^ 44) width word) s.pools made ≡ map (option_map (written_in address width word)) (pools_seen s.slabs.space.bytes s.pools made)
    list_written zero = refl
    list_written (suc made) =
        let f = option_map (written_in address width word) in let old = pools_seen s.slabs.space.bytes s.pools made in
        ap (λ (ps : List (Option one.Pool)). ps ++ one_seen (with_word s.slabs.space.bytes (address - 2 ^ 44) width word) s.pools (suc made) ∷ []) (list_written made)
        ∙ ap (λ (o : Option one.Pool). map (option_map (written_in address width word)) (pools_seen s.slabs.space.bytes s.pools made) ++ o ∷ []) (one_by (suc made) (get nat_cmp s.pools (suc made)) refl)
        ∙ sym (map-append (option_map (written_in address width word)) (pools_seen s.slabs.space.bytes s.pools made) (one_seen s.slabs.space.bytes s.pools (suc made) ∷ []))

    pub stored : store_step (pools_of s) address width word ≡ Some (pools_of (record s { slabs = with_bytes s.slabs (with_word s.slabs.space.bytes (address - 2 ^ 44) width word) }))
    stored =
        let some_object : is_some (object_at (pools_of s) address width) ≡ true = find_some (covers address width) (objects (pools_of s)) (in_one s is address width some covered) in
        let whole : all.Pools = record (pools_of s) { pools = map (option_map (written_in address width word)) (pools_of s).pools } in
        ap (λ (b : Bool). if b then Some whole else None) some_object ∙ ap Some (sym (same_pools refl refl (list_written s.made)))

    pub is_stored : IsPools (record s { slabs = with_bytes s.slabs (with_word s.slabs.space.bytes (address - 2 ^ 44) width word) })
    is_stored =
        let size = length-with_word s.slabs.space.bytes (address - 2 ^ 44) width word inside in
        record {
          space = record { whole = omega (arith, size, is.space.whole); small = is.space.small };
          numbers = is.numbers;
          pools = λ id pool there. is_pool_written s.slabs is.space (address - 2 ^ 44) width word some inside id pool (is.pools id pool there) (λ k n c at_k one made. cells_lie id k n pool c there at_k one made) (λ i e at_i. larges_lie id i pool e there at_i);
          counted = is.counted;
        }

  pub not_stored : (address width word : ℕ) → 1 ≤ width → CoversAt s.slabs s.pools address width false → store_step (pools_of s) address width word ≡ None
  not_stored address width word some none =
      let whole : all.Pools = record (pools_of s) { pools = map (option_map (written_in address width word)) (pools_of s).pools } in
      ap (λ (o : Option one.Object). if is_some o then Some whole else None) (in_none s is address width some none)
