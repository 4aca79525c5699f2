-- Cells, objects and pools whose runs are left alone look as before.
use Rattle.std.proofs.Common.{◌≡◌, ℕ, suc, ◌+◌, ◌-◌, ◌*◌, ◌/◌, ◌<◌, ◌≤◌, false, List, [], ◌∷◌, Some, None, length, map, refl, sym, ap, subst, ◌∙◌, arith}
use Rattle.std.specs.Prelude.{if◌then◌else◌, slice_get, slice_index, slice_index_or}
use Rattle.std.specs.List.{AllByRecursion}
use Rattle.slab_space.specs.Runs.{need}
use Rattle.slab_space.specs.Pool.{cells_per_run, live_cells, live_in, slabs_in}
use Rattle.pool_runtime.specs.declared.cells.Cells.{Cells}
use Rattle.pool_runtime.specs.declared.pool.Pool.{Pool}
use Rattle.pool_runtime.specs.declared.slabs.Home.{Home}
use Rattle.pool_runtime.specs.declared.slabs.Slabs.{Slabs}
use Rattle.pool_runtime.specs.Bytes.{SameAt}
use Rattle.pool_runtime.specs.Changes.{Keeps}
use Rattle.pool_runtime.specs.Seen.{place, cell_seen, freed_seen, class_seen, large_seen, pool_seen}
use Rattle.pool_runtime.specs.Tables.{IsSpace, AllDead, EachOnce, IsAtHome, IsClass, IsLarge, IsPool, of_class, of_large}
use Rattle.pool_runtime.proofs.Ranges.{range-same}
use Rattle.pool_runtime.proofs.Places.{run_of, run_inside, place_low, place_high}
use Rattle.pool_runtime.proofs.CellsSeen.{cells_same, threaded_same, all_among}

pub map_same : {X Y : Type 0} (f g : X → Y) (xs : List X) → ((k : ℕ) (x : X) → slice_get xs k ≡ Some x → f x ≡ g x) → map f xs ≡ map g xs
map_same f g [] same = refl
map_same f g (x ∷ xs) same = rw (same 0 x refl, map_same f g xs (λ k y at. same (suc k) y at)) refl

module _ (kept : ℕ → Home → Type 0) (old new : Slabs) (space : IsSpace old.space) (space' : IsSpace new.space) (owners : length new.space.owners ≡ length old.space.owners) (keeps : Keeps kept old new) where
  long : length new.space.bytes ≡ length old.space.bytes
  long = omega (arith, space.whole, space'.whole, owners)

  module _ (id k : ℕ) (c : Cells) (class : IsClass old id k c) (all : (j : ℕ) → j < length c.runs.items → kept (slice_index c.runs.items j) (of_class id k j)) where
    in_runs : (n : ℕ) → n ≤ c.made → n ≤ length c.runs.items * cells_per_run c.size
    in_runs n made = omega (arith, made, class.cells.made, class.cells.room)

    some_size : 1 ≤ c.size
    some_size = omega (arith, class.cells.least)

    -- a cell lies inside its run, whose bytes are the same
    cell_kept : (n : ℕ) → 1 ≤ n → n ≤ c.made → SameAt old.space.bytes new.space.bytes (place c n) c.size
    cell_kept n some made at low high =
        let j = (n - 1) / cells_per_run c.size in
        let inside = run_inside c n some (in_runs n made) in
        (keeps (run_of c n) (need c.size) (of_class id k j) (all j inside) (class.runs j inside)).1 at (omega (arith, low, place_low c n)) (omega (arith, high, place_high c n some_size))

    cell_fits : (n : ℕ) → 1 ≤ n → n ≤ c.made → place c n + c.size ≤ length old.space.bytes
    cell_fits n some made =
        let run = (class.runs ((n - 1) / cells_per_run c.size) (run_inside c n some (in_runs n made))).run in
        omega (arith, run.inside, place_high c n some_size, space.whole)

    seen_kept : (n : ℕ) → 1 ≤ n → n ≤ c.made → cell_seen new.space.bytes c n ≡ cell_seen old.space.bytes c n
    seen_kept n some made =
        ap (λ (r : List ℕ). if slice_index_or c.live.items (n - 1) false then Some r else None) (range-same old.space.bytes new.space.bytes (place c n) c.size (cell_fits n some made) long (cell_kept n some made))

    freed_kept : freed_seen new.space.bytes c ≡ freed_seen old.space.bytes c
    freed_kept =
        threaded_same old.space.bytes new.space.bytes c c c.freed c.last_freed (all_among (freed_seen old.space.bytes c)
        (λ n dead. (refl, λ at low high. cell_kept n dead.some dead.made at low (omega (arith, high, class.cells.least)))) class.cells.dead)

    pub class_kept : class_seen new.space.bytes c ≡ class_seen old.space.bytes c
    class_kept = rw (cells_same old.space.bytes new.space.bytes c c c.made seen_kept, freed_kept) refl

    pub table_kept : IsClass new id k c
    table_kept = record {
      cells = record {
        least = class.cells.least;
        most = class.cells.most;
        room = class.cells.room;
        few = class.cells.few;
        made = class.cells.made;
        dead = subst (AllDead c) (sym freed_kept) class.cells.dead;
        once = subst EachOnce (sym freed_kept) class.cells.once;
        counted = ap (λ cs. length (live_cells cs) + c.freed) class_kept ∙ class.cells.counted;
      };
      runs = λ j inside. (keeps (slice_index c.runs.items j) (need c.size) (of_class id k j) (all j inside) (class.runs j inside)).0;
    }

  module _ (id : ℕ) (e : ℕ × ℕ) (large : IsLarge old id e) (is : kept e.0 (of_large id)) where
    large_both : IsAtHome new e.0 (need e.1) (of_large id) × SameAt old.space.bytes new.space.bytes (4096 * e.0) (4096 * need e.1)
    large_both = keeps e.0 (need e.1) (of_large id) is large.run

    pub large_kept : IsLarge new id e
    large_kept = record { some = large.some; run = large_both.0 }

    pub large_same : large_seen new.space.bytes e ≡ large_seen old.space.bytes e
    large_same =
        let same : SameAt old.space.bytes new.space.bytes (4096 * e.0) e.1 = λ at low high. large_both.1 at low (omega (arith, high)) in
        rw (range-same old.space.bytes new.space.bytes (4096 * e.0) e.1 (omega (arith, large.run.run.inside, space.whole)) long same) refl

  pub larges_kept : (id : ℕ) (es : List (ℕ × ℕ)) → AllByRecursion (IsLarge old id) es → AllByRecursion (λ e. kept e.0 (of_large id)) es
      → AllByRecursion (IsLarge new id) es × (map (large_seen new.space.bytes) es ≡ map (large_seen old.space.bytes) es)
  larges_kept id [] large is = (tt, refl)
  larges_kept id (e ∷ es) large is =
      let rest = larges_kept id es large.1 is.1 in
      ((large_kept id e large.0 is.0, rest.0), rw (large_same id e large.0 is.0, rest.1) refl)

  all_large : (id : ℕ) (es : List (ℕ × ℕ)) → ((first : ℕ) → kept first (of_large id)) → AllByRecursion (λ e. kept e.0 (of_large id)) es
  all_large id [] is = tt
  all_large id (e ∷ es) is = (is e.0, all_large id es is)

  module _ (id : ℕ) (pool : Pool) (is : IsPool old id pool) (classes : (k j first : ℕ) → kept first (of_class id k j)) (larges : (first : ℕ) → kept first (of_large id)) where
    kept_large : AllByRecursion (IsLarge new id) pool.large.entries × (map (large_seen new.space.bytes) pool.large.entries ≡ map (large_seen old.space.bytes) pool.large.entries)
    kept_large = larges_kept id pool.large.entries is.large (all_large id pool.large.entries larges)

    kept_classes : map (class_seen new.space.bytes) pool.classes.items ≡ map (class_seen old.space.bytes) pool.classes.items
    kept_classes = map_same (class_seen new.space.bytes) (class_seen old.space.bytes) pool.classes.items (λ k c at. class_kept id k c (is.classes k c at) (λ j inside. classes k j (slice_index c.runs.items j)))

    pub pool_same : pool_seen new.space.bytes pool ≡ pool_seen old.space.bytes pool
    pool_same = rw (kept_classes, kept_large.1) refl

    pub pool_kept : IsPool new id pool
    pool_kept = record {
      kind = is.kind;
      sizes = is.sizes;
      classes = λ k c at. table_kept id k c (is.classes k c at) (λ j inside. classes k j (slice_index c.runs.items j));
      ordered = is.ordered;
      large = kept_large.0;
      live = is.live ∙ ap live_in (sym pool_same);
      slabs = is.slabs ∙ ap slabs_in (sym pool_same);
    }
