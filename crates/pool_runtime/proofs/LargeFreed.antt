-- A large object of a pool is freed.
use Rattle.std.proofs.Common.{◌≡◌, ℕ, ◌+◌, ◌-◌, ◌*◌, ◌<◌, ◌≤◌, Bool, true, false, List, [], ◌∷◌, Option, Some, None, length, map, refl, sym, ap, subst, ◌∙◌, inl, inr, arith}
use Rattle.std.specs.Prelude.{if◌then◌else◌, ◌==◌, cond, slice_get, slice_index, sum_by}
use Rattle.std.specs.BTreeMap.{BTreeMap, IsOrdered, get, is_at}
use Rattle.std.specs.Map.{lookup, remove_entry}
use Rattle.std.specs.Ordering.{nat_cmp}
use Rattle.std.specs.Cmp.{Equal-is}
use Rattle.std.specs.List.{AllByRecursion}
use Rattle.std.proofs.lemmas.Bool.{eq-eqb, ne_eqb, cases_eq, false_from_ne_true}
use Rattle.std.proofs.lemmas.Cmp.{nat_cmp_total, tied_itself}
use Rattle.std.proofs.lemmas.List.Sums.{sum_by-cons}
use Rattle.std.proofs.lemmas.Map.Lookups.{exact_unsigned}
use Rattle.std.proofs.lemmas.Map.Entries.{place_from_lookup, btree_map_get_place}
use Rattle.std.proofs.lemmas.Option.{same_Some}
use Rattle.slab_space.specs.Runs.{need, with_run, free_count, IsHeldRun}
use Rattle.slab_space.specs.Space.{Space, with_given}
use Rattle.slab_space.specs.Pool.{slab_address, large_at, without_large, classes_of, live_cells}
use Rattle.slab_space.specs.Pool as seen
use Rattle.slab_space.specs.PoolSteps.{freed_among, freed_as, freed_large, freed_in}
use Rattle.slab_space.proofs.WithRun.{length-with_run, free_count_given}
use Rattle.pool_runtime.specs.declared.cells.Cells.{Cells}
use Rattle.pool_runtime.specs.declared.pool.Pool.{Pool}
use Rattle.pool_runtime.specs.declared.slabs.Held.{Held}
use Rattle.pool_runtime.specs.declared.slabs.Held.TheVariants as held
use Rattle.pool_runtime.specs.declared.slabs.Home.{Home}
use Rattle.pool_runtime.specs.declared.slabs.Slabs.{Slabs}
use Rattle.pool_runtime.specs.Seen.{class_seen, large_seen, pool_seen}
use Rattle.pool_runtime.specs.Tables.{IsSpace, IsAtHome, IsLarge, IsPool, of_class, of_large}
use Rattle.pool_runtime.specs.Changes.{Keeps, of_others, Changes}
use Rattle.pool_runtime.proofs.AddRun.{larges_fit}
use Rattle.pool_runtime.proofs.Apart.{held_apart, held_kept}
use Rattle.pool_runtime.proofs.Freed.{same_end}
use Rattle.pool_runtime.proofs.Fresh.{all_at}
use Rattle.pool_runtime.proofs.Kept.{map_same, class_kept, table_kept, larges_kept}
use Rattle.pool_runtime.proofs.Loads.{large_inside}
use Rattle.pool_runtime.proofs.Parts.{same_pool}
use Rattle.pool_runtime.proofs.Ranges.{length-range, same_below_run, same_above_run}
use Rattle.pool_runtime.proofs.Stores.{all_by_place}
use Rattle.pool_runtime.proofs.Sums.{lives_of, class_need, fits, live_is, slabs_is, sum_same}

abbrev needs_of : List (ℕ × ℕ) → ℕ
needs_of es = sum_by (λ (e : ℕ × ℕ). need e.1) es

-- ---- the list of large objects without one

module _ (first size : ℕ) where
  abbrev is_first : ℕ → Bool
  is_first key = is_at (nat_cmp first) key

  first_is : (key : ℕ) → is_first key ≡ true → key ≡ first
  first_is key e = sym (exact_unsigned first key ((Equal-is (nat_cmp first key)).0 e))

  -- the two ways to tell it
  told : (key : ℕ) → (slab_address key == slab_address first) ≡ is_first key
  told key = elim (cases_eq key first) [
    | inl e ↦ eq-eqb (slab_address key) (slab_address first) (ap slab_address e) ∙ sym (ap is_first e ∙ (Equal-is (nat_cmp first first)).1 (tied_itself nat_cmp_total first))
    | inr differ ↦ (
        ne_eqb (slab_address key) (slab_address first) (λ e. differ (let e' : key ≡ first = omega (arith, e) in e'))
        ∙ sym (false_from_ne_true (is_first key) (λ e. differ (first_is key e))))
  ]

  record IsRemoved (bytes : List ℕ) (es out : List (ℕ × ℕ)) : Type 0 where
    count : length out + 1 ≡ length es
    needs : needs_of out + need size ≡ needs_of es
    there : large_at (slab_address first) (map (large_seen bytes) es) ≡ Some (large_seen bytes (first, size))
    rest : without_large (slab_address first) (map (large_seen bytes) es) ≡ map (large_seen bytes) out

  by_test : (bytes : List ℕ) (b : Bool) (e : ℕ × ℕ) (es : List (ℕ × ℕ)) → is_first e.0 ≡ b → cond b (Some e.1) (lookup is_first es) ≡ Some size → (lookup is_first es ≡ Some size → IsRemoved bytes es (remove_entry is_first es))
      → IsRemoved bytes (e ∷ es) (cond b es (e ∷ remove_entry is_first es))
  by_test bytes true e es test is later =
      let key = first_is e.0 test in
      let long = same_Some e.1 size is in
      let same = told e.0 ∙ test in record {
        count = omega arith;
        needs = omega (arith, sum_by-cons (λ (x : ℕ × ℕ). need x.1) e es, ap need long);
        there = ap (λ (b : Bool). if b then Some (large_seen bytes e) else large_at (slab_address first) (map (large_seen bytes) es)) same
            ∙ ap (λ k. Some (large_seen bytes (k, e.1))) key ∙ ap (λ n. Some (large_seen bytes (first, n))) long;
        rest = ap (λ (b : Bool). if b then map (large_seen bytes) es else large_seen bytes e ∷ without_large (slab_address first) (map (large_seen bytes) es)) same;
      }
  by_test bytes false e es test is later =
      let done = later is in
      let other = told e.0 ∙ test in record {
        count = omega (arith, done.count);
        needs = omega (arith, sum_by-cons (λ (x : ℕ × ℕ). need x.1) e es, sum_by-cons (λ (x : ℕ × ℕ). need x.1) e (remove_entry is_first es), done.needs);
        there = ap (λ (b : Bool). if b then Some (large_seen bytes e) else large_at (slab_address first) (map (large_seen bytes) es)) other ∙ done.there;
        rest = ap (λ (b : Bool). if b then map (large_seen bytes) es else large_seen bytes e ∷ without_large (slab_address first) (map (large_seen bytes) es)) other
            ∙ ap (λ (ls : List seen.Large). large_seen bytes e ∷ ls) done.rest;
      }

  removed : (bytes : List ℕ) (es : List (ℕ × ℕ)) → lookup is_first es ≡ Some size → IsRemoved bytes es (remove_entry is_first es)
  removed bytes [] is = absurd cc
  removed bytes (e ∷ es) is = by_test bytes (is_first e.0) e es refl is (λ later. removed bytes es later)

  all_rest_by : (P : ℕ × ℕ → Type 0) (b : Bool) (e : ℕ × ℕ) (es rest : List (ℕ × ℕ)) → P e → AllByRecursion P es → AllByRecursion P rest → AllByRecursion P (cond b es (e ∷ rest))
  all_rest_by P true e es rest one all more = all
  all_rest_by P false e es rest one all more = (one, more)

  all_rest : (P : ℕ × ℕ → Type 0) (es : List (ℕ × ℕ)) → AllByRecursion P es → AllByRecursion P (remove_entry is_first es)
  all_rest P [] all = tt
  all_rest P (e ∷ es) all = all_rest_by P (is_first e.0) e es (remove_entry is_first es) all.0 all.1 (all_rest P es all.1)

-- ---- the run

-- the pool with this table of large objects, one object and so many slabs less
abbrev pub with_object_freed : Pool → BTreeMap ℕ ℕ → ℕ → Pool
with_object_freed pool large count = record pool { large = large; slabs = pool.slabs - count; live = pool.live - 1 }

abbrev is_cells : Held → Bool
is_cells (held.Cells class run) = true
is_cells held.Large = false

module _ (id : ℕ) (old : Slabs) (first size : ℕ) (pool : Pool) (space : IsSpace old.space) (is : IsPool old id pool) (here : get nat_cmp pool.large first ≡ Some size) where
  pub large_is : IsLarge old id (first, size)
  large_is =
      let at = place_from_lookup (is_at (nat_cmp first)) pool.large.entries size here in
      subst (λ k. IsLarge old id (k, size)) (first_is first size at.1 at.3) (all_at (IsLarge old id) pool.large.entries at.0 (at.1, size) is.large at.2)

  pub run_held : IsHeldRun old.space.owners first (need size)
  run_held = large_is.run.run

  pub few_needed : need size ≤ 1048576
  few_needed = omega (arith, run_held.inside, space.small)

  gone : IsRemoved first size old.space.bytes pool.large.entries (remove_entry (is_at (nat_cmp first)) pool.large.entries)
  gone = removed first size old.space.bytes pool.large.entries here

  pub slabs_enough : need size ≤ pool.slabs
  slabs_enough = omega (arith, gone.needs, is.slabs, slabs_is old.space.bytes pool (larges_fit old id pool space is))

  pub some_large_live : 1 ≤ pool.live
  some_large_live = omega (arith, gone.count, is.live, live_is old.space.bytes pool)

  module _ (new : Slabs) (pool' : Pool) (given : new.space ≡ with_given old.space first (need size)) (homes : new.homes.items ≡ old.homes.items)
      (kind : pool'.kind ≡ pool.kind) (classes' : pool'.classes.items ≡ pool.classes.items) (entries : pool'.large.entries ≡ remove_entry (is_at (nat_cmp first)) pool.large.entries) (ordered : IsOrdered nat_cmp pool'.large)
      (absent : get nat_cmp pool'.large first ≡ None) (slabs' : pool'.slabs + need size ≡ pool.slabs) (live' : pool'.live + 1 ≡ pool.live) (peak' : pool'.peak ≡ pool.peak) where
    owners' : new.space.owners ≡ with_run old.space.owners first (need size) None
    owners' = ap (λ (s : Space). s.owners) given

    bytes' : new.space.bytes ≡ with_run old.space.bytes (4096 * first) (4096 * need size) 0
    bytes' = ap (λ (s : Space). s.bytes) given

    bytes_inside : 4096 * first + 4096 * need size ≤ length old.space.bytes
    bytes_inside = omega (arith, run_held.inside, space.whole)

    long : length new.space.owners ≡ length old.space.owners
    long = ap (λ (os : List (Option ℕ)). length os) owners' ∙ length-with_run old.space.owners first (need size) None run_held.inside

    space' : IsSpace new.space
    space' =
        let count = ap (λ (bs : List ℕ). length bs) bytes' ∙ length-with_run old.space.bytes (4096 * first) (4096 * need size) 0 bytes_inside in
        record { whole = omega (arith, count, long, space.whole); small = omega (arith, long, space.small) }

    abbrev elsewhere : ℕ → Home → Type 0
    elsewhere f h = ¬ (f ≡ first)

    keeps : Keeps elsewhere old new
    keeps f n h other at =
        let apart = held_apart old.space.owners f n at.run first (need size) run_held other in (
          record {
            run = subst (λ (os : List (Option ℕ)). IsHeldRun os f n) (sym owners') (held_kept old.space.owners f n at.run first (need size) None run_held.inside apart);
            noted = ap (λ (hs : List Home). slice_get hs f) homes ∙ at.noted;
          },
          λ x low high. ap (λ (bs : List ℕ). slice_index bs x) bytes' ∙ (elim apart [
            | inl before ↦ same_below_run old.space.bytes (4096 * first) (4096 * need size) (4096 * f) (4096 * n) bytes_inside (omega (arith, before)) x low high
            | inr behind ↦ same_above_run old.space.bytes (4096 * first) (4096 * need size) (4096 * f) (4096 * n) bytes_inside (omega (arith, behind)) x low high
          ]),
        )

    noted_there : (f n : ℕ) (h : Home) → IsAtHome old f n h → f ≡ first → h ≡ of_large id
    noted_there f n h at e = same_Some h (of_large id) (sym at.noted ∙ ap (slice_get old.homes.items) e ∙ large_is.run.noted)

    others : Keeps (of_others id) old new
    others f n h other at = keeps f n h (λ e. other (ap (λ (x : Home). x.pool) (noted_there f n h at e))) at

    not_class_run : (k : ℕ) (c : Cells) → slice_get pool.classes.items k ≡ Some c → (j : ℕ) → j < length c.runs.items → elsewhere (slice_index c.runs.items j) (of_class id k j)
    not_class_run k c at j inside e =
        let both : true ≡ false = ap (λ (h : Home). is_cells h.held) (noted_there (slice_index c.runs.items j) (need c.size) (of_class id k j) ((is.classes k c at).runs j inside) e) in cc

    classes_kept : (k : ℕ) (c : Cells) → slice_get pool.classes.items k ≡ Some c → class_seen new.space.bytes c ≡ class_seen old.space.bytes c
    classes_kept k c at = class_kept elsewhere old new space space' long keeps id k c (is.classes k c at) (not_class_run k c at)

    all_old : AllByRecursion (IsLarge old id) pool'.large.entries
    all_old = subst (AllByRecursion (IsLarge old id)) (sym entries) (all_rest first size (IsLarge old id) pool.large.entries is.large)

    all_elsewhere : AllByRecursion (λ e. elsewhere e.0 (of_large id)) pool'.large.entries
    all_elsewhere = all_by_place (λ e. elsewhere e.0 (of_large id)) pool'.large.entries (λ i e at same.
        let both = sym (btree_map_get_place nat_cmp_total pool'.large i e.0 e.1 ordered at) ∙ ap (get nat_cmp pool'.large) same ∙ absent in cc)

    larges : AllByRecursion (IsLarge new id) pool'.large.entries × (map (large_seen new.space.bytes) pool'.large.entries ≡ map (large_seen old.space.bytes) pool'.large.entries)
    larges = larges_kept elsewhere old new space space' long keeps id pool'.large.entries all_old all_elsewhere

    is_pool : IsPool new id pool'
    is_pool =
        let b = old.space.bytes in let b' = new.space.bytes in
        let fit' = all_by_place (fits b') pool'.large.entries (λ i e there. large_inside new space' id e (all_at (IsLarge new id) pool'.large.entries i e larges.0 there)) in
        let lives = ap (sum_by (lives_of b')) classes' ∙ sum_same (lives_of b') (lives_of b) pool.classes.items (λ k c at. ap (λ (cs : seen.Cells). length (live_cells cs)) (classes_kept k c at)) in
        let needs = ap (sum_by class_need) classes' in
        let counts = ap (λ (es : List (ℕ × ℕ)). length es) entries in let large_needs = ap needs_of entries in
        record {
          kind = subst seen.IsKind (sym kind) is.kind;
          sizes = ap (map (λ (x : Cells). x.size)) classes' ∙ is.sizes ∙ ap (λ q. map (λ (x : seen.Cells). x.size) (classes_of q)) (sym kind);
          classes = λ k c at.
              let at' = sym (ap (λ (xs : List Cells). slice_get xs k) classes') ∙ at in
              table_kept elsewhere old new space space' long keeps id k c (is.classes k c at') (not_class_run k c at');
          ordered = ordered;
          large = larges.0;
          live = omega (arith, live', is.live, live_is b pool, live_is b' pool', lives, counts, gone.count);
          slabs = omega (arith, slabs', is.slabs, slabs_is b pool (larges_fit old id pool space is), slabs_is b' pool' fit', needs, large_needs, gone.needs);
        }

    pub large_freed_changes : Changes id old new pool pool'
    large_freed_changes = record {
      space = space';
      long = long;
      is_pool = is_pool;
      others = others;
      counted = let free = ap free_count owners' ∙ free_count_given old.space.owners first (need size) run_held in omega (arith, free, slabs');
    }

    seen_now : pool_seen new.space.bytes pool' ≡ record (pool_seen old.space.bytes pool) { large = without_large (slab_address first) (pool_seen old.space.bytes pool).large }
    seen_now =
        same_pool kind (ap (map (class_seen new.space.bytes)) classes' ∙ map_same (class_seen new.space.bytes) (class_seen old.space.bytes) pool.classes.items classes_kept)
        (larges.1 ∙ ap (map (large_seen old.space.bytes)) entries ∙ sym gone.rest) peak'

    pub large_freed : (address : ℕ) → address ≡ slab_address first → freed_among (pool_seen old.space.bytes pool).classes address ≡ None
        → freed_in old.space.owners (pool_seen old.space.bytes pool) address ≡ Some (record { owners = new.space.owners; pool = pool_seen new.space.bytes pool' })
    large_freed address at cells =
        let p = pool_seen old.space.bytes pool in let owners = old.space.owners in
        let size_is = length-range old.space.bytes (4096 * first) size (large_inside old space id (first, size) large_is) in
        ap (freed_as owners p address) cells ∙ ap (λ a. freed_large owners p a (large_at a p.large)) at
        ∙ ap (freed_large owners p (slab_address first)) gone.there
        ∙ same_end (ap (λ n. with_run owners first (need n) None) size_is ∙ sym owners') (sym seen_now)
