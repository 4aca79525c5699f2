-- A large object is placed in a pool.
use Rattle.std.proofs.Common.{Less, Equal, Greater, ◌≡◌, ℕ, ◌+◌, ◌*◌, ◌^◌, ◌<◌, ◌≤◌, Bool, true, false, List, [], ◌∷◌, Option, Some, None, length, map, max, replicate, refl, sym, ap, subst, ◌∙◌, arith}
use Rattle.std.specs.Prelude.{if◌then◌else◌, ◌==◌, nat_lt, slice_get, sum_by, IsSome}
use Rattle.std.specs.BTreeMap.{BTreeMap, IsOrdered, insert_entry}
use Rattle.std.specs.Ordering.{match_ordering, nat_cmp}
use Rattle.std.specs.List.{AllByRecursion}
use Rattle.std.proofs.lemmas.Bool.{ne_eqb}
use Rattle.std.proofs.lemmas.List.{same_lists, length-replicate, get_or-replicate, get_or_default}
use Rattle.std.proofs.lemmas.List.Sums.{sum_by-cons}
use Rattle.run_theory.specs.Words.{zeros}
use Rattle.slab_space.specs.Runs.{need, with_run, lowest_run, IsLowestRun}
use Rattle.slab_space.specs.Space.{Space, IsZero, with_taken}
use Rattle.slab_space.specs.Pool.{with_large, with_peak, live_in, classes_of}
use Rattle.slab_space.specs.Pool as seen
use Rattle.slab_space.specs.PoolSteps.{placed, placed_large}
use Rattle.slab_space.proofs.LowestRun.{lowest_run_found, free_from_found}
use Rattle.slab_space.proofs.WithRun.{free_count_taken}
use Rattle.pool_runtime.specs.declared.cells.Cells.{Cells}
use Rattle.pool_runtime.specs.declared.pool.Pool.{Pool}
use Rattle.pool_runtime.specs.declared.slabs.Home.{Home}
use Rattle.pool_runtime.specs.declared.slabs.Slabs.{Slabs}
use Rattle.pool_runtime.specs.Bytes.{range}
use Rattle.pool_runtime.specs.Seen.{class_seen, large_seen, pool_seen}
use Rattle.pool_runtime.specs.Tables.{IsSpace, IsAtHome, IsLarge, IsPool, of_large}
use Rattle.pool_runtime.specs.Changes.{Keeps, KeepsNotes, of_others, Changes, Unchanged, TakesSlabs}
use Rattle.pool_runtime.proofs.Ranges.{length-range, get_or-range}
use Rattle.pool_runtime.proofs.CellsTaken.{zeros_are}
use Rattle.pool_runtime.proofs.Fresh.{all_at}
use Rattle.pool_runtime.proofs.Parts.{same_pool}
use Rattle.pool_runtime.proofs.Loads.{large_inside}
use Rattle.pool_runtime.proofs.Sums.{lives_of, class_need, fits, live_is, slabs_is}
use Rattle.pool_runtime.proofs.Stores.{all_by_place}
use Rattle.pool_runtime.proofs.Kept.{pool_kept, pool_same}
use Rattle.pool_runtime.proofs.Taken.{same_step}
use Rattle.pool_runtime.proofs.Extended.{KeepsHomes, no_change, unchanged, taken_keeps, taken_counted, taken_home, taken_space, taken_long, not_first}
use Rattle.pool_runtime.proofs.AddRun.{larges_fit}

abbrev needs_of : List (ℕ × ℕ) → ℕ
needs_of es = sum_by (λ (e : ℕ × ℕ). need e.1) es

abbrev IsAbsent : ℕ → List (ℕ × ℕ) → Type 0
IsAbsent first es = AllByRecursion (λ e. ¬ (e.0 ≡ first)) es

module _ (first size : ℕ) (f : ℕ × ℕ → seen.Large) (bytes : List ℕ) (key : (e : ℕ × ℕ) → (f e).first ≡ e.0) (is_new : f (first, size) ≡ record { first = first; bytes = bytes }) (P : ℕ × ℕ → Type 0) (new : P (first, size)) where
  pub record IsInserted (es out : List (ℕ × ℕ)) : Type 0 where
    pub count : length out ≡ length es + 1
    pub needs : needs_of out ≡ needs_of es + need size
    pub seen_as : map f out ≡ with_large first bytes (map f es)
    pub all : AllByRecursion P es → AllByRecursion P out

  by_order : (lt : Bool) (e : ℕ × ℕ) (A B C : List (ℕ × ℕ)) → ¬ (e.0 ≡ first) → match_ordering (if lt then Less else (if first == e.0 then Equal else Greater)) A B C ≡ (if lt then A else C)
  by_order true e A B C differ = refl
  by_order false e A B C differ = ap (λ (q : Bool). match_ordering (if q then Equal else Greater) A B C) (ne_eqb first e.0 (λ same. differ (sym same)))

  by_test : (lt : Bool) (e : ℕ × ℕ) (es rest : List (ℕ × ℕ)) → nat_lt first e.0 ≡ lt → IsInserted es rest → IsInserted (e ∷ es) (if lt then (first, size) ∷ e ∷ es else e ∷ rest)
  by_test true e es rest test done = record {
    count = omega arith;
    needs = omega (arith, sum_by-cons (λ (x : ℕ × ℕ). need x.1) (first, size) (e ∷ es));
    seen_as =
        ap (λ (l : seen.Large). l ∷ f e ∷ map f es) is_new
        ∙ sym (ap (λ n. if nat_lt first n then record { first = first; bytes = bytes } ∷ f e ∷ map f es else f e ∷ with_large first bytes (map f es)) (key e)
        ∙ ap (λ (b : Bool). if b then record { first = first; bytes = bytes } ∷ f e ∷ map f es else f e ∷ with_large first bytes (map f es)) test);
    all = λ all. (new, all);
  }
  by_test false e es rest test done = record {
    count = omega (arith, done.count);
    needs = omega (arith, sum_by-cons (λ (x : ℕ × ℕ). need x.1) e rest, sum_by-cons (λ (x : ℕ × ℕ). need x.1) e es, done.needs);
    seen_as =
        ap (λ (ls : List seen.Large). f e ∷ ls) done.seen_as
        ∙ sym (ap (λ n. if nat_lt first n then record { first = first; bytes = bytes } ∷ f e ∷ map f es else f e ∷ with_large first bytes (map f es)) (key e)
        ∙ ap (λ (b : Bool). if b then record { first = first; bytes = bytes } ∷ f e ∷ map f es else f e ∷ with_large first bytes (map f es)) test);
    all = λ all. (all.0, done.all all.1);
  }

  pub inserted : (es : List (ℕ × ℕ)) → IsAbsent first es → IsInserted es (insert_entry nat_cmp es first size)
  inserted [] absent = record {
    count = refl;
    needs = omega (arith, sum_by-cons (λ (x : ℕ × ℕ). need x.1) (first, size) []);
    seen_as = ap (λ (l : seen.Large). l ∷ []) is_new;
    all = λ all. (new, tt);
  }
  inserted (e ∷ es) absent =
      let rest = insert_entry nat_cmp es first size in
      subst (λ (out : List (ℕ × ℕ)). IsInserted (e ∷ es) out) (sym (by_order (nat_lt first e.0) e ((first, size) ∷ e ∷ es) ((e.0, size) ∷ es) (e ∷ insert_entry nat_cmp es first size) absent.0))
      (by_test (nat_lt first e.0) e es (insert_entry nat_cmp es first size) refl (inserted es absent.1))

zero_range : (bytes : List ℕ) (from whole count : ℕ) → IsZero bytes from whole → count ≤ whole → from + whole ≤ length bytes → range bytes from count ≡ zeros count
zero_range bytes from whole count blank few inside =
    same_lists (range bytes from count) (replicate count 0) (length-range bytes from count (omega arith) ∙ sym (length-replicate count 0)) (λ k d h.
    let h' : k < count = omega (arith, h, length-range bytes from count (omega arith)) in
    get_or-range bytes from count k d h' ∙ get_or_default bytes (from + k) d 0 (omega arith) ∙ blank (from + k) (omega arith) (omega arith) ∙ sym (get_or-replicate count k 0 d h'))
    ∙ zeros_are count

-- ---- where memory is short

takes_by : (owners : List (Option ℕ)) (p : seen.Pool) (size : ℕ) (o : Option ℕ) → lowest_run owners (need size) ≡ o → 1 ≤ need size → IsSome o → TakesSlabs owners (placed_large owners p size o)
takes_by owners p size None e some has = absurd cc
takes_by owners p size (Some first) e some has = let taken = free_count_taken owners first (need size) (free_from_found owners (need size) first e) in omega (arith, taken, some)

pub takes_large : (owners : List (Option ℕ)) (p : seen.Pool) (size : ℕ) → 1 ≤ need size → IsSome (lowest_run owners (need size)) → TakesSlabs owners (placed_large owners p size (lowest_run owners (need size)))
takes_large owners p size some has = takes_by owners p size (lowest_run owners (need size)) refl some has

module _ (old new : Slabs) (space : IsSpace old.space) (same : new.space ≡ old.space) (notes : KeepsHomes old new) (id : ℕ) (pool : Pool) (is : IsPool old id pool) (large : BTreeMap ℕ ℕ) (e : large.entries ≡ pool.large.entries) (ordered : IsOrdered nat_cmp large) where
  with_table : pool_seen new.space.bytes (record pool { large = large }) ≡ pool_seen new.space.bytes pool
  with_table = same_pool refl refl (ap (map (large_seen new.space.bytes)) e) refl

  pub same_table : Changes id old new pool (record pool { large = large })
  same_table =
      let was = no_change old new space same notes id pool is in let p = was.is_pool in
      record {
        space = was.space;
        long = was.long;
        is_pool = record {
          kind = p.kind;
          sizes = p.sizes;
          classes = p.classes;
          ordered = ordered;
          large = subst (AllByRecursion (IsLarge new id)) (sym e) p.large;
          live = p.live ∙ sym (ap live_in with_table);
          slabs = p.slabs ∙ sym (ap seen.slabs_in with_table);
        };
        others = was.others;
        counted = was.counted;
      }

  pub same_table_seen : Unchanged old new pool (record pool { large = large })
  same_table_seen = let was = unchanged old new space same notes id pool is in (was.0, with_table ∙ was.1)

-- ---- the pool

module _ (id : ℕ) (old new : Slabs) (first count size : ℕ) (pool pool' : Pool) (some : 1 ≤ size) (is_count : count ≡ need size) (space : IsSpace old.space) (is : IsPool old id pool)
    (lowest : IsLowestRun old.space.owners count first) (taken : new.space ≡ with_taken old.space first count) (blank : IsZero new.space.bytes (4096 * first) (4096 * count))
    (noted : slice_get new.homes.items first ≡ Some (of_large id)) (notes : KeepsNotes old.homes.items new.homes.items first)
    (kind : pool'.kind ≡ pool.kind) (classes' : pool'.classes.items ≡ pool.classes.items) (entries : pool'.large.entries ≡ insert_entry nat_cmp pool.large.entries first size) (ordered : IsOrdered nat_cmp pool'.large)
    (slabs' : pool'.slabs ≡ pool.slabs + count) (live' : pool'.live ≡ pool.live + 1) (peak' : pool'.peak ≡ max pool.peak (pool.live + 1)) where
  some_count : 1 ≤ count
  some_count = omega (arith, is_count, some)

  space' : IsSpace new.space
  space' = taken_space old new first count (of_large id) some_count space lowest taken noted notes

  long : length new.space.owners ≡ length old.space.owners
  long = taken_long old new first count (of_large id) some_count space lowest taken noted notes

  abbrev any_run : ℕ → Home → Type 0
  any_run f h = Unit {0}

  keeps : (kept : ℕ → Home → Type 0) → Keeps kept old new
  keeps kept = taken_keeps old new first count (of_large id) some_count space lowest taken noted notes kept

  home : IsAtHome new first count (of_large id)
  home = taken_home old new first count (of_large id) some_count space lowest taken noted notes

  kept_pool : IsPool new id pool
  kept_pool = pool_kept any_run old new space space' long (keeps any_run) id pool is (λ k j f. tt) (λ f. tt)

  kept_seen : pool_seen new.space.bytes pool ≡ pool_seen old.space.bytes pool
  kept_seen = pool_same any_run old new space space' long (keeps any_run) id pool is (λ k j f. tt) (λ f. tt)

  absent : IsAbsent first pool.large.entries
  absent = all_by_place (λ e. ¬ (e.0 ≡ first)) pool.large.entries (λ i e there.
      not_first old new first count (of_large id) some_count space lowest taken noted notes e.0 (need e.1) (all_at (IsLarge old id) pool.large.entries i e is.large there).run.run)

  zero_bytes : range new.space.bytes (4096 * first) size ≡ zeros size
  zero_bytes = zero_range new.space.bytes (4096 * first) (4096 * count) size blank (omega (arith, is_count)) (omega (arith, home.run.inside, space'.whole))

  abbrev large_with : ℕ → List ℕ → seen.Large
  large_with f bs = record { first = f; bytes = bs }

  new_large : IsLarge new id (first, size)
  new_large = record { some = some; run = subst (λ n. IsAtHome new first n (of_large id)) is_count home }

  done : IsInserted first size (large_seen new.space.bytes) (zeros size) (λ e. refl) (ap (large_with first) zero_bytes) (IsLarge new id) new_large pool.large.entries (insert_entry nat_cmp pool.large.entries first size)
  done = inserted first size (large_seen new.space.bytes) (zeros size) (λ e. refl) (ap (large_with first) zero_bytes) (IsLarge new id) new_large pool.large.entries absent

  all_large : AllByRecursion (IsLarge new id) pool'.large.entries
  all_large = subst (AllByRecursion (IsLarge new id)) (sym entries) (done.all kept_pool.large)

  is_pool : IsPool new id pool'
  is_pool =
      let b = new.space.bytes in
      let fit' = all_by_place (fits b) pool'.large.entries (λ i e there. large_inside new space' id e (all_at (IsLarge new id) pool'.large.entries i e all_large there)) in
      let lives = ap (sum_by (lives_of b)) classes' in let needs = ap (sum_by class_need) classes' in
      let counts = ap (λ (es : List (ℕ × ℕ)). length es) entries in let larges = ap needs_of entries in
      record {
        kind = subst seen.IsKind (sym kind) is.kind;
        sizes = ap (map (λ (x : Cells). x.size)) classes' ∙ is.sizes ∙ ap (λ q. map (λ (x : seen.Cells). x.size) (classes_of q)) (sym kind);
        classes = λ k c at. kept_pool.classes k c (sym (ap (λ (xs : List Cells). slice_get xs k) classes') ∙ at);
        ordered = ordered;
        large = all_large;
        live = omega (arith, live', kept_pool.live, live_is b pool, live_is b pool', lives, counts, done.count);
        slabs = omega (arith, slabs', kept_pool.slabs, slabs_is b pool (larges_fit new id pool space' kept_pool), slabs_is b pool' fit', needs, larges, done.needs, is_count);
      }

  pub large_changes : Changes id old new pool pool'
  large_changes = record {
    space = space';
    long = long;
    is_pool = is_pool;
    others = keeps (of_others id);
    counted = omega (arith, slabs', taken_counted old new first count (of_large id) some_count space lowest taken noted notes);
  }

  seen_now : pool_seen new.space.bytes pool' ≡ record (pool_seen old.space.bytes pool) { large = with_large first (zeros size) (pool_seen old.space.bytes pool).large; peak = max pool.peak (pool.live + 1) }
  seen_now =
      same_pool kind (ap (map (class_seen new.space.bytes)) classes' ∙ ap (λ (p : seen.Pool). p.classes) kept_seen)
      (ap (map (large_seen new.space.bytes)) entries ∙ done.seen_as ∙ ap (λ (p : seen.Pool). with_large first (zeros size) p.large) kept_seen) peak'

  pub large_step : placed_large old.space.owners (pool_seen old.space.bytes pool) size (lowest_run old.space.owners (need size)) ≡ placed (2 ^ 44 + 4096 * first) (record { owners = new.space.owners; pool = pool_seen new.space.bytes pool' })
  large_step =
      let p = pool_seen old.space.bytes pool in let owners = old.space.owners in
      let found = ap (lowest_run owners) (sym is_count) ∙ lowest_run_found owners count first some_count lowest in
      let lives : live_in (record p { large = with_large first (zeros size) p.large }) ≡ pool.live + 1 = sym (ap live_in seen_now) ∙ sym is_pool.live ∙ live' in
      let peaked : with_peak (record p { large = with_large first (zeros size) p.large }) ≡ pool_seen new.space.bytes pool' = same_pool refl refl refl (ap (max pool.peak) lives) ∙ sym seen_now in
      let os : with_run owners first (need size) (Some first) ≡ new.space.owners = ap (λ n. with_run owners first n (Some first)) (sym is_count) ∙ sym (ap (λ (s : Space). s.owners) taken) in
      ap (placed_large owners p size) found ∙ same_step refl os peaked
