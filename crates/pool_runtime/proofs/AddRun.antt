-- A class of a pool takes another run, or none.
use Rattle.std.proofs.Common.{◌≡◌, ℕ, ◌+◌, ◌*◌, ◌<◌, ◌≤◌, Bool, false, List, [], ◌∷◌, ◌++◌, Option, Some, None, length, map, replicate, get_or, set, refl, sym, ap, subst, ◌∙◌, inl, inr, arith}
use Rattle.std.specs.Prelude.{slice_get, slice_index, slice_index_or, option_map, IsSome}
use Rattle.std.proofs.lemmas.List.{length-append, length-replicate, get_or_append_left, get_or_push, set-get_or, length_push}
use Rattle.std.proofs.lemmas.Option.{slice_get-map, slice_get-get_or, get_or_from_slice_get}
use Rattle.std.specs.Vec.{with_item}
use Rattle.std.specs.List.{AllByRecursion}
use Rattle.std.proofs.lemmas.Bool.{cases_lt}
use Rattle.slab_space.specs.Runs.{need, free_count, with_run, lowest_run, Full, IsLowestRun}
use Rattle.slab_space.specs.Space.{Space, with_taken}
use Rattle.slab_space.specs.Pool.{cells_per_run, no_cells}
use Rattle.slab_space.proofs.LowestRun.{lowest_run_found, full_from_none}
use Rattle.pool_runtime.specs.declared.cells.Cells.{Cells}
use Rattle.pool_runtime.specs.declared.pool.Pool.{Pool}
use Rattle.pool_runtime.specs.declared.slabs.Home.{Home}
use Rattle.pool_runtime.specs.declared.slabs.Slabs.{Slabs}
use Rattle.pool_runtime.specs.Seen.{class_seen, pool_seen}
use Rattle.pool_runtime.specs.Tables.{IsSpace, IsLarge, IsCells, IsAtHome, IsClass, IsPool, of_class}
use Rattle.pool_runtime.specs.Changes.{Keeps, KeepsNotes, Changes, Unchanged, RunAdded}
use Rattle.pool_runtime.proofs.Parts.{same_pool, same_cells}
use Rattle.std.proofs.Math.Nat.{mul-le-mul_left}
use Rattle.pool_runtime.proofs.Loads.{large_inside}
use Rattle.pool_runtime.proofs.Fresh.{all_at}
use Rattle.pool_runtime.proofs.Stores.{all_by_place}
use Rattle.pool_runtime.proofs.Places.{few_per_run}
use Rattle.pool_runtime.proofs.Sums.{fits, slabs_is, sum_at, class_need, lives_of}
use Rattle.pool_runtime.proofs.Extended.{KeepsHomes, extended_table, extended_seen, extended_lives, still_space, still_long, all_still, taken_keeps, taken_counted, taken_home, taken_space, taken_long, bytes_taken}
use Rattle.pool_runtime.proofs.ClassChanged.{not_class, others_kept, class_changed, class_changed_seen}

pub set_same : {X : Type 0} (xs : List X) (k : ℕ) (x : X) → slice_get xs k ≡ Some x → set xs k x ≡ xs
set_same xs k x at = ap (set xs k) (sym (get_or_from_slice_get xs k x x at)) ∙ set-get_or xs k x

-- a pool with another class at a place
abbrev pub pool_with : Pool → ℕ → Cells → ℕ → Pool
pool_with pool k c slabs = record pool { classes = with_item pool.classes k c; slabs = slabs }

abbrev any_run : ℕ → Home → Type 0
any_run first home = Unit {0}

some_there : (o : Option ℕ) → ¬ (o ≡ None) → IsSome o
some_there None never = absurd (never refl)
some_there (Some x) never = refl

pub not_full : (owners : List (Option ℕ)) (count : ℕ) → 1 ≤ count → ¬ Full owners count → IsSome (lowest_run owners count)
not_full owners count some full = some_there (lowest_run owners count) (λ e. full (full_from_none owners count some e))

pub larges_fit : (slabs : Slabs) (id : ℕ) (pool : Pool) → IsSpace slabs.space → IsPool slabs id pool → AllByRecursion (fits slabs.space.bytes) pool.large.entries
larges_fit slabs id pool space is = all_by_place (fits slabs.space.bytes) pool.large.entries (λ i e there. large_inside slabs space id e (all_at (IsLarge slabs id) pool.large.entries i e is.large there))

class_need_le : (slabs : Slabs) (id : ℕ) (pool : Pool) → IsSpace slabs.space → IsPool slabs id pool → (k : ℕ) (c : Cells) → slice_get pool.classes.items k ≡ Some c → class_need c ≤ pool.slabs
class_need_le slabs id pool space is k c at =
    let all = slabs_is slabs.space.bytes pool (larges_fit slabs id pool space is) in
    let one = sum_at class_need pool.classes.items k c at in
    omega (arith, is.slabs, all, one)

module _ (id k : ℕ) (old : Slabs) (pool : Pool) (r : Cells) (space : IsSpace old.space) (is : IsPool old id pool) (inside : k < length pool.classes.items) (r_is : r ≡ get_or pool.classes.items k r) where
  pub class_at : slice_get pool.classes.items k ≡ Some r
  class_at = slice_get-get_or pool.classes.items k r inside ∙ ap Some (sym r_is)

  pub class_is : IsClass old id k r
  class_is = is.classes k r class_at

  pub seen_at : slice_get (map (class_seen old.space.bytes) pool.classes.items) k ≡ Some (class_seen old.space.bytes r)
  seen_at = slice_get-map (class_seen old.space.bytes) pool.classes.items k ∙ ap (option_map (class_seen old.space.bytes)) class_at

  pub seen_is : slice_index_or (map (class_seen old.space.bytes) pool.classes.items) k (no_cells 0) ≡ class_seen old.space.bytes r
  seen_is = get_or_from_slice_get (map (class_seen old.space.bytes) pool.classes.items) k (class_seen old.space.bytes r) (no_cells 0) seen_at

  pub need_some : 1 ≤ need r.size
  need_some = let least = class_is.cells.least in omega arith

  pub few_cells : length r.live.items ≤ 2147483648
  few_cells =
      let per = mul-le-mul_left (length r.runs.items) (few_per_run r.size class_is.cells.least) in
      omega (arith, per, class_is.cells.few, class_is.cells.room)

  module _ (new : Slabs) (pool' : Pool) (c' : Cells) (kind : pool'.kind ≡ pool.kind) (classes' : pool'.classes.items ≡ set pool.classes.items k c') (large' : pool'.large.entries ≡ pool.large.entries)
      (live' : pool'.live ≡ pool.live) (peak' : pool'.peak ≡ pool.peak) (others : c' ≡ record r { runs = c'.runs; live = c'.live }) where
    size : c'.size ≡ r.size
    size = ap (λ (x : Cells). x.size) others

    made : c'.made ≡ r.made
    made = ap (λ (x : Cells). x.made) others

    freed : c'.freed ≡ r.freed
    freed = ap (λ (x : Cells). x.freed) others

    last : c'.last_freed ≡ r.last_freed
    last = ap (λ (x : Cells). x.last_freed) others

    -- nothing moved
    module _ (same : new.space ≡ old.space) (notes : KeepsHomes old new) (slabs' : pool'.slabs ≡ pool.slabs) (runs : c'.runs.items ≡ r.runs.items) (live : c'.live.items ≡ r.live.items) where
      bytes_same : new.space.bytes ≡ old.space.bytes
      bytes_same = ap (λ (s : Space). s.bytes) same

      count_runs : length c'.runs.items ≡ length r.runs.items
      count_runs = ap (λ (rs : List ℕ). length rs) runs

      room : length c'.live.items ≡ length c'.runs.items * cells_per_run c'.size
      room = ap (λ (bs : List Bool). length bs) live ∙ class_is.cells.room ∙ ap (λ n. n * cells_per_run r.size) (sym count_runs) ∙ ap (λ s. length c'.runs.items * cells_per_run s) (sym size)

      few : length c'.runs.items ≤ 1048576
      few = omega (arith, count_runs, class_is.cells.few)

      more : length r.live.items ≤ length c'.live.items
      more = let e = ap (λ (bs : List Bool). length bs) live in omega arith

      table : IsCells old.space.bytes c'
      table = extended_table old.space.bytes r c' class_is.cells size made freed last (λ j h. ap (λ (rs : List ℕ). slice_index rs j) runs) (λ i h. ap (λ (bs : List Bool). slice_index_or bs i false) live) room few more

      class' : IsClass new id k c'
      class' = record {
        cells = subst (λ (bs : List ℕ). IsCells bs c') (sym bytes_same) table;
        runs = λ j h.
            let home = (all_still old new space same notes any_run (slice_index r.runs.items j) (need r.size) (of_class id k j) tt (class_is.runs j (omega (arith, h, count_runs)))).0 in
            subst (λ f. IsAtHome new f (need c'.size) (of_class id k j)) (sym (ap (λ (rs : List ℕ). slice_index rs j) runs)) (subst (λ s. IsAtHome new (slice_index r.runs.items j) (need s) (of_class id k j)) (sym size) home);
      }

      lives : lives_of new.space.bytes c' ≡ lives_of old.space.bytes r
      lives = ap (λ (bs : List ℕ). lives_of bs c') bytes_same ∙ extended_lives old.space.bytes r c' class_is.cells size made freed last (λ j h. ap (λ (rs : List ℕ). slice_index rs j) runs) (λ i h. ap (λ (bs : List Bool). slice_index_or bs i false) live) room few more

      needs : class_need c' ≡ class_need r
      needs = ap (λ s. need s * length c'.runs.items) size ∙ ap (λ n. need r.size * n) count_runs

      cells_same : class_seen new.space.bytes c' ≡ class_seen old.space.bytes r
      cells_same =
          ap (λ (bs : List ℕ). class_seen bs c') bytes_same
          ∙ extended_seen old.space.bytes r c' class_is.cells size made freed last (λ j h. ap (λ (rs : List ℕ). slice_index rs j) runs) (λ i h. ap (λ (bs : List Bool). slice_index_or bs i false) live) room few more
          ∙ same_cells refl runs refl refl

      pub none_changes : Changes id old new pool pool'
      none_changes = record {
        space = still_space old new space same notes;
        long = still_long old new space same notes;
        is_pool = class_changed old new id k pool pool' r c' space (still_space old new space same notes) (still_long old new space same notes) is class_at (all_still old new space same notes (not_class id k)) kind classes' large' size class'
            (omega (arith, live', lives)) (omega (arith, slabs', needs));
        others = others_kept id k old new (all_still old new space same notes (not_class id k));
        counted = let free = ap (λ (s : Space). free_count s.owners) same in omega (arith, free, slabs');
      }

      pub none_seen : Unchanged old new pool pool'
      none_seen = (
        ap (λ (s : Space). s.owners) same,
        class_changed_seen old new id k pool pool' r c' space (still_space old new space same notes) (still_long old new space same notes) is class_at (all_still old new space same notes (not_class id k)) kind classes' large' size class'
            ∙ same_pool refl (ap (set (map (class_seen old.space.bytes) pool.classes.items) k) cells_same ∙ set_same (map (class_seen old.space.bytes) pool.classes.items) k (class_seen old.space.bytes r) seen_at) refl peak',
      )

    -- a run was taken
    module _ (first count : ℕ) (is_count : count ≡ need r.size) (lowest : IsLowestRun old.space.owners count first) (taken : new.space ≡ with_taken old.space first count)
        (noted : slice_get new.homes.items first ≡ Some (of_class id k (length r.runs.items))) (notes : KeepsNotes old.homes.items new.homes.items first) (slabs' : pool'.slabs ≡ pool.slabs + count)
        (counted : pool.slabs + free_count old.space.owners ≤ length old.space.owners)
        (runs : c'.runs.items ≡ r.runs.items ++ first ∷ []) (live : c'.live.items ≡ r.live.items ++ replicate (cells_per_run r.size) false) where
      some : 1 ≤ count
      some = omega (arith, is_count, need_some)

      count_runs' : length c'.runs.items ≡ length r.runs.items + 1
      count_runs' = ap (λ (rs : List ℕ). length rs) runs ∙ length_push r.runs.items first

      count_live : length c'.live.items ≡ length r.live.items + cells_per_run r.size
      count_live = ap (λ (bs : List Bool). length bs) live ∙ length-append r.live.items (replicate (cells_per_run r.size) false) ∙ ap (λ n. length r.live.items + n) (length-replicate (cells_per_run r.size) false)

      room' : length c'.live.items ≡ length c'.runs.items * cells_per_run c'.size
      room' =
          let all : length r.live.items + cells_per_run r.size ≡ (length r.runs.items + 1) * cells_per_run r.size = omega (arith, class_is.cells.room) in
          count_live ∙ all ∙ ap (λ n. n * cells_per_run r.size) (sym count_runs') ∙ ap (λ s. length c'.runs.items * cells_per_run s) (sym size)

      runs_before : (j : ℕ) → j < length r.runs.items → slice_index c'.runs.items j ≡ slice_index r.runs.items j
      runs_before j h = ap (λ (rs : List ℕ). slice_index rs j) runs ∙ get_or_append_left r.runs.items (first ∷ []) 0 j h

      run_last : (j : ℕ) → length r.runs.items ≡ j → slice_index c'.runs.items j ≡ first
      run_last j e = ap (λ (rs : List ℕ). slice_index rs j) runs ∙ get_or_push r.runs.items first 0 j e

      live_before : (i : ℕ) → i < length r.live.items → slice_index_or c'.live.items i false ≡ slice_index_or r.live.items i false
      live_before i h = ap (λ (bs : List Bool). slice_index_or bs i false) live ∙ get_or_append_left r.live.items (replicate (cells_per_run r.size) false) false i h

      few_slabs : length r.runs.items + 1 ≤ 1048576
      few_slabs =
          let free = taken_counted old new first count (of_class id k (length r.runs.items)) some space lowest taken noted notes in
          let held = class_need_le old id pool space is k r class_at in
          let one = mul-le-mul_left (length r.runs.items) need_some in
          omega (arith, free, held, one, counted, space.small, some)

      table' : IsCells old.space.bytes c'
      table' = extended_table old.space.bytes r c' class_is.cells size made freed last runs_before live_before room' (omega (arith, count_runs', few_slabs)) (omega (arith, count_live))

      space' : IsSpace new.space
      space' = taken_space old new first count (of_class id k (length r.runs.items)) some space lowest taken noted notes

      keeps : (kept : ℕ → Home → Type 0) → Keeps kept old new
      keeps kept = taken_keeps old new first count (of_class id k (length r.runs.items)) some space lowest taken noted notes kept

      bytes' : new.space.bytes ≡ old.space.bytes
      bytes' = bytes_taken old new first count (of_class id k (length r.runs.items)) some space lowest taken noted notes

      home_at : (j : ℕ) → j < length c'.runs.items → IsAtHome new (slice_index c'.runs.items j) (need r.size) (of_class id k j)
      home_at j h = elim (cases_lt j (length r.runs.items)) [
        | inl before ↦ subst (λ f. IsAtHome new f (need r.size) (of_class id k j)) (sym (runs_before j before)) (keeps any_run (slice_index r.runs.items j) (need r.size) (of_class id k j) tt (class_is.runs j before)).0
        | inr last_one ↦ (
            let e : length r.runs.items ≡ j = omega (arith, h, count_runs') in
            let there = taken_home old new first count (of_class id k (length r.runs.items)) some space lowest taken noted notes in
            subst (λ f. IsAtHome new f (need r.size) (of_class id k j)) (sym (run_last j e))
            (subst (λ n. IsAtHome new first n (of_class id k j)) is_count (subst (λ i. IsAtHome new first count (of_class id k i)) e there)))
      ]

      class'' : IsClass new id k c'
      class'' = record {
        cells = subst (λ (bs : List ℕ). IsCells bs c') (sym bytes') table';
        runs = λ j h. subst (λ s. IsAtHome new (slice_index c'.runs.items j) (need s) (of_class id k j)) (sym size) (home_at j h);
      }

      lives' : lives_of new.space.bytes c' ≡ lives_of old.space.bytes r
      lives' = ap (λ (bs : List ℕ). lives_of bs c') bytes' ∙ extended_lives old.space.bytes r c' class_is.cells size made freed last runs_before live_before room' (omega (arith, count_runs', few_slabs)) (omega (arith, count_live))

      needs' : class_need c' ≡ class_need r + count
      needs' =
          let all : need r.size * (length r.runs.items + 1) ≡ need r.size * length r.runs.items + need r.size = omega arith in
          ap (λ s. need s * length c'.runs.items) size ∙ ap (λ n. need r.size * n) count_runs' ∙ all ∙ ap (λ n. need r.size * length r.runs.items + n) (sym is_count)

      pub run_changes : Changes id old new pool pool'
      run_changes = record {
        space = space';
        long = taken_long old new first count (of_class id k (length r.runs.items)) some space lowest taken noted notes;
        is_pool = class_changed old new id k pool pool' r c' space space' (taken_long old new first count (of_class id k (length r.runs.items)) some space lowest taken noted notes) is class_at (keeps (not_class id k)) kind classes' large' size class''
            (omega (arith, live', lives')) (omega (arith, slabs', needs'));
        others = others_kept id k old new (keeps (not_class id k));
        counted = omega (arith, taken_counted old new first count (of_class id k (length r.runs.items)) some space lowest taken noted notes, slabs');
      }

      cells_now : class_seen new.space.bytes c' ≡ record (class_seen old.space.bytes r) { runs = r.runs.items ++ first ∷ [] }
      cells_now =
          ap (λ (bs : List ℕ). class_seen bs c') bytes'
          ∙ extended_seen old.space.bytes r c' class_is.cells size made freed last runs_before live_before room' (omega (arith, count_runs', few_slabs)) (omega (arith, count_live))
          ∙ same_cells refl runs refl refl

      run_seen : pool_seen new.space.bytes pool' ≡ record (pool_seen old.space.bytes pool) { classes = set (map (class_seen old.space.bytes) pool.classes.items) k (record (class_seen old.space.bytes r) { runs = r.runs.items ++ first ∷ [] }) }
      run_seen =
          class_changed_seen old new id k pool pool' r c' space space' (taken_long old new first count (of_class id k (length r.runs.items)) some space lowest taken noted notes) is class_at (keeps (not_class id k)) kind classes' large' size class''
          ∙ same_pool refl (ap (set (map (class_seen old.space.bytes) pool.classes.items) k) cells_now) refl peak'

      pub run_added : RunAdded k old new pool pool' (class_seen old.space.bytes r)
      run_added = record {
        first = first;
        lowest = ap (lowest_run old.space.owners) (sym is_count) ∙ lowest_run_found old.space.owners count first some lowest;
        owners = ap (λ (s : Space). s.owners) taken ∙ ap (λ n. with_run old.space.owners first n (Some first)) is_count;
        seen = run_seen;
      }
