-- A new pool has classes with no cells.
use Rattle.std.proofs.Common.{◌≡◌, ℕ, zero, suc, ◌*◌, ◌≤◌, Bool, List, [], ◌∷◌, ◌++◌, Some, length, map, refl, sym, ap, subst, ◌∙◌, arith}
use Rattle.std.specs.Prelude.{slice_get, option_map}
use Rattle.std.specs.BTreeMap.{IsOrdered}
use Rattle.std.specs.Ordering.{nat_cmp}
use Rattle.std.specs.List.{AllByRecursion}
use Rattle.std.proofs.lemmas.List.{map-append}
use Rattle.std.proofs.lemmas.Option.{slice_get-map}
use Rattle.slab_space.specs.declared.kind.PoolKind.{PoolKind}
use Rattle.slab_space.specs.declared.kind.PoolKind.TheVariants.{Homogeneous, Mixed}
use Rattle.slab_space.specs.Pool.{cells_per_run, no_cells, classes_of, new_pool, live_cells, live_in, slabs_in, IsKind}
use Rattle.slab_space.specs.Pool as one
use Rattle.pool_runtime.specs.declared.cells.Cells.{Cells}
use Rattle.pool_runtime.specs.declared.pool.Pool.{Pool}
use Rattle.pool_runtime.specs.Seen.{cells_seen, threaded, freed_seen, class_seen, large_seen, pool_seen}
use Rattle.pool_runtime.specs.Tables.{IsCells}
use Rattle.pool_runtime.specs.Changes.{HasNone, Added, IsNew}
use Rattle.pool_runtime.proofs.Parts.{same_cells, same_pool}

-- so many classes, of these sizes
pub record AreFresh (sizes : List ℕ) (classes : List Cells) : Type 0 where
  pub sizes_are : map (λ (c : Cells). c.size) classes ≡ sizes
  pub none : AllByRecursion HasNone classes

pub all_push : {X : Type 0} (P : X → Type 0) (xs : List X) (y : X) → AllByRecursion P xs → P y → AllByRecursion P (xs ++ y ∷ [])
all_push P [] y all one = (one, tt)
all_push P (x ∷ xs) y all one = (all.0, all_push P xs y all.1 one)

pub all_at : {X : Type 0} (P : X → Type 0) (xs : List X) (k : ℕ) (x : X) → AllByRecursion P xs → slice_get xs k ≡ Some x → P x
all_at P [] k x all at = absurd cc
all_at P (y ∷ xs) zero x all at = subst P (let e : y ≡ x = cc in e) all.0
all_at P (y ∷ xs) (suc k) x all at = all_at P xs k x all.1 at

pub fresh_none : (classes : List Cells) → classes ≡ [] → AreFresh [] classes
fresh_none classes e = record { sizes_are = ap (map (λ (c : Cells). c.size)) e; none = subst (AllByRecursion HasNone) (sym e) tt }

pub fresh_more : (sizes : List ℕ) (size : ℕ) (old new : List Cells) → AreFresh sizes old → Added size old new → AreFresh (sizes ++ size ∷ []) new
fresh_more sizes size old new fresh added = record {
  sizes_are = ap (map (λ (c : Cells). c.size)) added.items ∙ map-append (λ (c : Cells). c.size) old (added.cells ∷ []) ∙ ap (λ (ns : List ℕ). ns ++ added.cells.size ∷ []) fresh.sizes_are ∙ ap (λ n. sizes ++ n ∷ []) added.sized;
  none = subst (AllByRecursion HasNone) (sym added.items) (all_push HasNone old added.cells fresh.none added.none);
}

none_seen : (bytes : List ℕ) (c : Cells) → HasNone c → class_seen bytes c ≡ no_cells c.size
none_seen bytes c none =
    let cells : cells_seen bytes c c.made ≡ [] = ap (cells_seen bytes c) none.made in
    let freed : freed_seen bytes c ≡ [] = ap (λ k. threaded bytes c k c.last_freed) none.freed in
    same_cells refl none.runs cells freed

pub classes_seen : (bytes : List ℕ) (classes : List Cells) → AllByRecursion HasNone classes → map (class_seen bytes) classes ≡ map no_cells (map (λ (c : Cells). c.size) classes)
classes_seen bytes [] none = refl
classes_seen bytes (c ∷ classes) none = rw (none_seen bytes c none.0, classes_seen bytes classes none.1) refl

none_table : (bytes : List ℕ) (c : Cells) → HasNone c → 4 ≤ c.size → c.size ≤ 1048576 → IsCells bytes c
none_table bytes c none least most =
    let freed : freed_seen bytes c ≡ [] = ap (λ k. threaded bytes c k c.last_freed) none.freed in
    let seen : length (live_cells (class_seen bytes c)) ≡ 0 = ap (λ cs. length (live_cells cs)) (none_seen bytes c none) in
    let runs = ap length none.runs in let live = ap length none.live in
    record {
      least = least;
      most = most;
      room = live ∙ sym (ap (λ n. n * cells_per_run c.size) runs ∙ omega arith);
      few = omega (arith, runs);
      made = omega (arith, none.made);
      dead = rw freed tt;
      once = rw freed tt;
      counted = omega (arith, seen, none.freed, none.made);
    }

module _ (kind : PoolKind) (sizes : List ℕ) (pool : Pool) (is : pool.kind ≡ kind) (good : IsKind kind) (classes : classes_of kind ≡ map no_cells sizes) (fit : AllByRecursion (λ s. (4 ≤ s) × (s ≤ 1048576)) sizes)
    (same : map (λ (c : one.Cells). c.size) (map no_cells sizes) ≡ sizes) (fresh : AreFresh sizes pool.classes.items)
    (ordered : IsOrdered nat_cmp pool.large) (large : pool.large.entries ≡ []) (slabs : pool.slabs ≡ 0) (live : pool.live ≡ 0) (peak : pool.peak ≡ 0) (lives : live_in (new_pool kind) ≡ 0) (holds : slabs_in (new_pool kind) ≡ 0) where
  new_seen : (bytes : List ℕ) → pool_seen bytes pool ≡ new_pool kind
  new_seen bytes =
      let cs = classes_seen bytes pool.classes.items fresh.none ∙ ap (map no_cells) fresh.sizes_are ∙ sym classes in
      let ls = ap (map (large_seen bytes)) large in
      same_pool is cs ls peak

  sized : (k : ℕ) (c : Cells) → slice_get pool.classes.items k ≡ Some c → (4 ≤ c.size) × (c.size ≤ 1048576)
  sized k c at = all_at (λ s. (4 ≤ s) × (s ≤ 1048576)) sizes k c.size fit (sym (ap (λ (ns : List ℕ). slice_get ns k) fresh.sizes_are) ∙ slice_get-map (λ (x : Cells). x.size) pool.classes.items k ∙ ap (option_map (λ (x : Cells). x.size)) at)

  is_new : IsNew kind pool
  is_new = record {
    seen = new_seen;
    is_pool = λ tables id. record {
      kind = subst IsKind (sym is) good;
      sizes = fresh.sizes_are ∙ sym same ∙ ap (map (λ (c : one.Cells). c.size)) (sym classes) ∙ ap (λ (k : PoolKind). map (λ (c : one.Cells). c.size) (classes_of k)) (sym is);
      classes = λ k c at. record {
        cells = none_table tables.space.bytes c (all_at HasNone pool.classes.items k c fresh.none at) (sized k c at).0 (sized k c at).1;
        runs = λ j inside. let none = ap length (all_at HasNone pool.classes.items k c fresh.none at).runs in absurd (omega (arith, none));
      };
      ordered = ordered;
      large = rw large tt;
      live = live ∙ sym (ap live_in (new_seen tables.space.bytes) ∙ lives);
      slabs = slabs ∙ sym (ap slabs_in (new_seen tables.space.bytes) ∙ holds);
    };
    none = slabs;
  }

pub new_homogeneous : (kind : PoolKind) (source cell : ℕ) (indexed : Bool) (pool : Pool) → kind ≡ Homogeneous source cell indexed → pool.kind ≡ kind → IsKind kind → AreFresh (cell ∷ []) pool.classes.items
    → IsOrdered nat_cmp pool.large → pool.large.entries ≡ [] → pool.slabs ≡ 0 → pool.live ≡ 0 → pool.peak ≡ 0 → IsNew kind pool
new_homogeneous kind source cell indexed pool e is good fresh ordered large slabs live peak =
    let good' = subst IsKind e good in
    subst (λ k. IsNew k pool) (sym e)
    (is_new (Homogeneous source cell indexed) (cell ∷ []) pool (is ∙ e) good' refl ((good'.2, good'.3), tt) refl fresh ordered large slabs live peak refl (omega arith))

pub new_mixed : (kind : PoolKind) (pool : Pool) → kind ≡ Mixed → pool.kind ≡ kind → AreFresh (16 ∷ 32 ∷ 64 ∷ 128 ∷ 256 ∷ 512 ∷ 1024 ∷ 2048 ∷ []) pool.classes.items
    → IsOrdered nat_cmp pool.large → pool.large.entries ≡ [] → pool.slabs ≡ 0 → pool.live ≡ 0 → pool.peak ≡ 0 → IsNew kind pool
new_mixed kind pool e is fresh ordered large slabs live peak =
    let fit : AllByRecursion (λ s. (4 ≤ s) × (s ≤ 1048576)) (16 ∷ 32 ∷ 64 ∷ 128 ∷ 256 ∷ 512 ∷ 1024 ∷ 2048 ∷ []) =
    ((omega arith, omega arith), ((omega arith, omega arith), ((omega arith, omega arith), ((omega arith, omega arith), ((omega arith, omega arith), ((omega arith, omega arith), ((omega arith, omega arith), ((omega arith, omega arith), tt)))))))) in
    subst (λ k. IsNew k pool) (sym e)
    (is_new Mixed (16 ∷ 32 ∷ 64 ∷ 128 ∷ 256 ∷ 512 ∷ 1024 ∷ 2048 ∷ []) pool (is ∙ e) tt refl fit refl fresh ordered large slabs live peak refl refl)
