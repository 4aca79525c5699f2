-- A homogeneous pool takes a run only where all cells of its runs are made, and makes a cell only where all that it made
-- are live: so its slabs follow from its peak.
use Rattle.std.proofs.Common.{◌≡◌, ℕ, zero, suc, ◌+◌, ◌-◌, ◌*◌, ◌/◌, ◌<◌, ◌≤◌, Bool, true, false, List, [], ◌∷◌, ◌++◌, Option, Some, None, length, map, refl, sym, ap, subst, ◌∙◌, arith, length-append}
use Rattle.std.specs.Prelude.{⊤, ◌||◌, ◌&&◌, ◌==◌, if◌then◌else◌, max, nat_lt, is_some, sum_by, slice_get, slice_set, slice_index_or, option_map, unwrap_or}
use Rattle.std.specs.List.{AllByRecursion, flat_map}
use Rattle.std.proofs.lemmas.Bool.{ltb-true, ltb-false}
use Rattle.std.proofs.lemmas.List.{map-set, map-append, length-map, length-set}
use Rattle.std.proofs.lemmas.List.Sums.{sum_by-cons}
use Rattle.std.proofs.lemmas.Nat.{div-mul-add}
use Rattle.std.proofs.Math.Nat.{le-max_left}
use Rattle.run_theory.specs.Words.{zeros}
use Rattle.slab_space.specs.declared.kind.PoolKind.{PoolKind}
use Rattle.slab_space.specs.declared.kind.PoolKind.TheVariants.{Homogeneous}
use Rattle.slab_space.specs.Runs.{need, lowest_run}
use Rattle.slab_space.specs.Pool.{Cells, Large, Pool, no_cells, cells_per_run, made_in, live_from, live_cells, number_at, with_next, has_room, with_freed, is_live, large_object, large_at, new_pool, class_for, slabs_in, with_peak}
use Rattle.slab_space.specs.PoolSteps.{PoolInSlabs, Allocation, placed, index_exhausted, heap_exhausted, at_limit, placed_cell, placed_in_run, placed_in_class, placed_large, placed_as, placed_in, freed_among, freed_large, freed_as, freed_in, written_from, written_cells, written_large, written_in}
use Rattle.slab_space.specs.Pools.{Pools, pool_at, with_change, destroyed, allocated, alloc_in, alloc_step, free_in, object_at, store_step, peak_of, slabs_of}
use Rattle.slab_space.specs.Reached.{IsReached, at_start, after_init, after_destroy, after_alloc, after_free, after_store, runs_for, slabs_for_peak, PeakTellsSlabs}

-- ---- lists

pub either : {X : Type 0} (P : X → Type 0) (b : Bool) (x y : X) → (b ≡ true → P x) → (b ≡ false → P y) → P (if b then x else y)
either P true x y yes_case no_case = yes_case refl
either P false x y yes_case no_case = no_case refl

all_push : {X : Type 0} (P : X → Type 0) (xs : List X) (y : X) → AllByRecursion P xs → P y → AllByRecursion P (xs ++ y ∷ [])
all_push P [] y all one = (one, tt)
all_push P (x ∷ xs) y all one = (all.0, all_push P xs y all.1 one)

all_set : {X : Type 0} (P : X → Type 0) (xs : List X) (i : ℕ) (y : X) → AllByRecursion P xs → P y → AllByRecursion P (slice_set xs i y)
all_set P [] i y all one = tt
all_set P (x ∷ xs) zero y all one = (one, all.1)
all_set P (x ∷ xs) (suc i) y all one = (all.0, all_set P xs i y all.1 one)

all_or : {X : Type 0} (P : X → Type 0) (xs : List X) (i : ℕ) (d : X) → AllByRecursion P xs → P d → P (slice_index_or xs i d)
all_or P [] i d all one = one
all_or P (x ∷ xs) zero d all one = all.0
all_or P (x ∷ xs) (suc i) d all one = all_or P xs i d all.1 one

all_mapped : {X : Type 0} (P : X → Type 0) (f : X → X) (xs : List X) → ((x : X) → P x → P (f x)) → AllByRecursion P xs → AllByRecursion P (map f xs)
all_mapped P f [] each all = tt
all_mapped P f (x ∷ xs) each all = (each x all.0, all_mapped P f xs each all.1)

get_set : {X : Type 0} (xs : List X) (i : ℕ) (x y : X) → slice_get xs i ≡ Some x → slice_get (slice_set xs i y) i ≡ Some y
get_set [] i x y at = absurd cc
get_set (z ∷ xs) zero x y at = refl
get_set (z ∷ xs) (suc i) x y at = get_set xs i x y at

set_back : {X : Type 0} (xs : List X) (i : ℕ) (x y : X) → slice_get xs i ≡ Some x → slice_set (slice_set xs i y) i x ≡ xs
set_back [] i x y at = absurd cc
set_back (z ∷ xs) zero x y at = let e : x ≡ z = cc in ap (λ w. w ∷ xs) e
set_back (z ∷ xs) (suc i) x y at = ap (λ ws. z ∷ ws) (set_back xs i x y at)

-- ---- which cells live

abbrev lives : List (Option (List ℕ)) → List Bool
lives cells = map (λ (x : Option (List ℕ)). is_some x) cells

-- the cells that do not live are the freed ones, each once
abbrev AreFreed : List Bool → List ℕ → Type 0
AreFreed live [] = AllByRecursion (λ b. b ≡ true) live
AreFreed live (number ∷ rest) = (slice_get live (number - 1) ≡ Some false) × AreFreed (slice_set live (number - 1) true) rest

abbrev how_many : List Bool → ℕ
how_many [] = 0
how_many (true ∷ bs) = suc (how_many bs)
how_many (false ∷ bs) = how_many bs

length-live_from : (c : Cells) (number : ℕ) (cells : List (Option (List ℕ))) → length (live_from c number cells) ≡ how_many (lives cells)
length-live_from c number [] = refl
length-live_from c number (None ∷ cells) = length-live_from c (suc number) cells
length-live_from c number (Some bytes ∷ cells) = ap suc (length-live_from c (suc number) cells)

how_many_of_all : (bs : List Bool) → AllByRecursion (λ b. b ≡ true) bs → how_many bs ≡ length bs
how_many_of_all [] all = refl
how_many_of_all (true ∷ bs) all = ap suc (how_many_of_all bs all.1)
how_many_of_all (false ∷ bs) all = absurd cc

one_more : (bs : List Bool) (i : ℕ) → slice_get bs i ≡ Some false → how_many (slice_set bs i true) ≡ suc (how_many bs)
one_more [] i at = absurd cc
one_more (true ∷ bs) zero at = absurd cc
one_more (false ∷ bs) zero at = refl
one_more (true ∷ bs) (suc i) at = ap suc (one_more bs i at)
one_more (false ∷ bs) (suc i) at = one_more bs i at

counted : (bs : List Bool) (numbers : List ℕ) → AreFreed bs numbers → how_many bs + length numbers ≡ length bs
counted bs [] freed = omega (arith, how_many_of_all bs freed)
counted bs (number ∷ rest) freed =
    omega (arith, counted (slice_set bs (number - 1) true) rest freed.1, one_more bs (number - 1) freed.0, length-set bs (number - 1) true)

live_at : (cells : List (Option (List ℕ))) (i : ℕ) → is_some (slice_index_or cells i None) ≡ true → slice_get (lives cells) i ≡ Some true
live_at [] i live = absurd cc
live_at (x ∷ cells) zero live = ap Some live
live_at (x ∷ cells) (suc i) live = live_at cells i live

lives_written : (address width word : ℕ) (c : Cells) (number : ℕ) (cells : List (Option (List ℕ))) → lives (written_from address width word c number cells) ≡ lives cells
lives_written address width word c number [] = refl
lives_written address width word c number (None ∷ cells) = ap (λ bs. false ∷ bs) (lives_written address width word c (suc number) cells)
lives_written address width word c number (Some bytes ∷ cells) = ap (λ bs. true ∷ bs) (lives_written address width word c (suc number) cells)

length-lives : (cells : List (Option (List ℕ))) → length (lives cells) ≡ length cells
length-lives cells = length-map cells (λ (x : Option (List ℕ)). is_some x)

live_is : (c : Cells) → length (live_cells c) ≡ how_many (lives c.cells)
live_is c = length-live_from c 1 c.cells

-- ---- the cells of a homogeneous pool, and its peak

-- the peak is the number of cells made, and the runs are as many as these need
pub record FitPeak (cell : ℕ) (c : Cells) (peak : ℕ) : Type 0 where
  pub size : c.size ≡ cell
  pub freed : AreFreed (lives c.cells) c.freed
  pub peak_is : peak ≡ made_in c
  pub enough : made_in c ≤ length c.runs * cells_per_run cell
  pub few : length c.runs * cells_per_run cell < made_in c + cells_per_run cell

some_per_run : (cell : ℕ) → 1 ≤ cells_per_run cell
some_per_run cell = le-max_left 1 (4096 / cell)

max_of_more : (a b : ℕ) → b ≡ a + 1 → max a b ≡ b
max_of_more a b e = omega (arith)

max_of_less : (a b : ℕ) → b ≤ a → max a b ≡ a
max_of_less a b e = omega (arith)

next_fresh : (cell : ℕ) (c : Cells) (peak : ℕ) → c.size ≡ cell → c.freed ≡ [] → AreFreed (lives c.cells) [] → peak ≡ made_in c → made_in c < length c.runs * cells_per_run cell → length c.runs * cells_per_run cell ≤ made_in c + cells_per_run cell
    → FitPeak cell (with_next c []) (max peak (length (live_cells (with_next c []))))
next_fresh cell c peak size none all is enough few =
    let next = with_next c [] in
    let bits : lives next.cells ≡ lives c.cells ++ true ∷ [] = map-append (λ (x : Option (List ℕ)). is_some x) c.cells (Some (zeros c.size) ∷ []) in
    let freed : AreFreed (lives next.cells) [] = subst (λ bs. AreFreed bs []) (sym bits) (all_push (λ b. b ≡ true) (lives c.cells) true all refl) in
    let made : made_in next ≡ made_in c + 1 = length-append c.cells (Some (zeros c.size) ∷ []) in
    let live : length (live_cells next) ≡ made_in next = live_is next ∙ how_many_of_all (lives next.cells) freed ∙ length-lives next.cells in
    record {
      size = size;
      freed = subst (AreFreed (lives next.cells)) (sym none) freed;
      peak_is = max_of_more peak (length (live_cells next)) (omega (arith, live, made, is)) ∙ live;
      enough = omega (arith, made, enough);
      few = omega (arith, made, few);
    }

next_again : (cell : ℕ) (c : Cells) (peak number : ℕ) (rest : List ℕ) → c.freed ≡ number ∷ rest → FitPeak cell c peak → FitPeak cell (with_next c (number ∷ rest)) (max peak (length (live_cells (with_next c (number ∷ rest)))))
next_again cell c peak number rest some fit =
    let next = with_next c (number ∷ rest) in
    let was : AreFreed (lives c.cells) (number ∷ rest) = subst (AreFreed (lives c.cells)) some fit.freed in
    let bits : lives next.cells ≡ slice_set (lives c.cells) (number - 1) true = map-set (λ (x : Option (List ℕ)). is_some x) c.cells (number - 1) (Some (zeros c.size)) in
    let freed : AreFreed (lives next.cells) rest = subst (λ bs. AreFreed bs rest) (sym bits) was.1 in
    let made : made_in next ≡ made_in c = length-set c.cells (number - 1) (Some (zeros c.size)) in
    let count = counted (lives next.cells) rest freed in
    let live : length (live_cells next) ≤ peak = omega (arith, live_is next, count, length-lives next.cells, made, fit.peak_is) in
    record {
      size = fit.size;
      freed = freed;
      peak_is = max_of_less peak (length (live_cells next)) live ∙ fit.peak_is ∙ sym made;
      enough = omega (arith, made, fit.enough);
      few = omega (arith, made, fit.few);
    }

freed_fits : (cell : ℕ) (c : Cells) (peak number : ℕ) → is_live c number ≡ true → FitPeak cell c peak → FitPeak cell (with_freed c number) peak
freed_fits cell c peak number live fit =
    let next = with_freed c number in
    let at = live_at c.cells (number - 1) live in
    let bits : lives next.cells ≡ slice_set (lives c.cells) (number - 1) false = map-set (λ (x : Option (List ℕ)). is_some x) c.cells (number - 1) None in
    let made : made_in next ≡ made_in c = length-set c.cells (number - 1) None in
    let back = set_back (lives c.cells) (number - 1) true false at in
    let freed : AreFreed (slice_set (lives c.cells) (number - 1) false) (number ∷ c.freed) = (get_set (lives c.cells) (number - 1) true false at, subst (λ bs. AreFreed bs c.freed) (sym back) fit.freed) in
    record {
      size = fit.size;
      freed = subst (λ bs. AreFreed bs (number ∷ c.freed)) (sym bits) freed;
      peak_is = fit.peak_is ∙ sym made;
      enough = omega (arith, made, fit.enough);
      few = omega (arith, made, fit.few);
    }

written_fits : (cell : ℕ) (c : Cells) (peak address width word : ℕ) → FitPeak cell c peak → FitPeak cell (written_cells address width word c) peak
written_fits cell c peak address width word fit =
    let next = written_cells address width word c in
    let bits : lives next.cells ≡ lives c.cells = lives_written address width word c 1 c.cells in
    let made : made_in next ≡ made_in c = sym (length-lives next.cells) ∙ ap (λ (bs : List Bool). length bs) bits ∙ length-lives c.cells in
    record {
      size = fit.size;
      freed = subst (λ bs. AreFreed bs c.freed) (sym bits) fit.freed;
      peak_is = fit.peak_is ∙ sym made;
      enough = omega (arith, made, fit.enough);
      few = omega (arith, made, fit.few);
    }

-- ---- a homogeneous pool

pub record HoldsForPeak (cell : ℕ) (pool : Pool) : Type 0 where
  pub cells : Cells
  pub only : pool.classes ≡ cells ∷ []
  pub none_large : pool.large ≡ []
  pub fit : FitPeak cell cells pool.peak

new_holds : (source cell : ℕ) (indexed : Bool) → HoldsForPeak cell (new_pool (Homogeneous source cell indexed))
new_holds source cell indexed = record {
  cells = no_cells cell;
  only = refl;
  none_large = refl;
  fit = record { size = refl; freed = tt; peak_is = refl; enough = omega arith; few = omega (arith, some_per_run cell) };
}

live_one : (classes : List Cells) (large : List Large) (c : Cells) → classes ≡ c ∷ [] → large ≡ [] → length (flat_map live_cells classes ++ map large_object large) ≡ length (live_cells c)
live_one classes large c only none =
    ap (λ (cs : List Cells). length (flat_map live_cells cs ++ map large_object large)) only
    ∙ ap (λ (ls : List Large). length (flat_map live_cells (c ∷ []) ++ map large_object ls)) none
    ∙ length-append (flat_map live_cells (c ∷ [])) [] ∙ omega (arith, length-append (live_cells c) [])

-- the pool once its one kind of cells has become these
abbrev with_cells : Pool → Cells → Pool
with_cells pool next = with_peak (record pool { classes = slice_set pool.classes 0 next })

next_holds : (cell : ℕ) (pool : Pool) (c next : Cells) → pool.classes ≡ c ∷ [] → pool.large ≡ [] → FitPeak cell next (max pool.peak (length (live_cells next))) → HoldsForPeak cell (with_cells pool next)
next_holds cell pool c next only none fit =
    let classes : slice_set pool.classes 0 next ≡ next ∷ [] = ap (λ (cs : List Cells). slice_set cs 0 next) only in
    record {
      cells = next;
      only = classes;
      none_large = none;
      fit = subst (λ n. FitPeak cell next (max pool.peak n)) (sym (live_one (slice_set pool.classes 0 next) pool.large next classes none)) fit;
    }

slabs_one : (cell : ℕ) (pool : Pool) → HoldsForPeak cell pool → slabs_in pool ≡ slabs_for_peak cell pool.peak
slabs_one cell pool holds =
    let c = holds.cells in let per = cells_per_run cell in let some = some_per_run cell in let fit = holds.fit in
    let rest = made_in c + (per - 1) - length c.runs * per in
    let whole : pool.peak + (per - 1) ≡ length c.runs * per + rest = omega (arith, fit.peak_is, fit.few, some) in
    let runs : runs_for cell pool.peak ≡ length c.runs = ap (λ n. n / per) whole ∙ div-mul-add (length c.runs) per rest (omega (arith, fit.enough, fit.few, some)) in
    let one : sum_by (λ (x : Cells). need x.size * length x.runs) (c ∷ []) ≡ need c.size * length c.runs =
    sum_by-cons (λ (x : Cells). need x.size * length x.runs) c [] ∙ omega arith in
    let cells_slabs : sum_by (λ (x : Cells). need x.size * length x.runs) pool.classes ≡ need cell * length c.runs =
    ap (sum_by (λ (x : Cells). need x.size * length x.runs)) holds.only ∙ one ∙ ap (λ n. need n * length c.runs) fit.size in
    let large_slabs : sum_by (λ (l : Large). need (length l.bytes)) pool.large ≡ 0 = ap (sum_by (λ (l : Large). need (length l.bytes))) holds.none_large in
    omega (arith, cells_slabs, large_slabs) ∙ ap (λ n. need cell * n) (sym runs)

-- ---- placing

abbrev PlacedHolds : ℕ → Allocation PoolInSlabs → Type 0
PlacedHolds cell (placed address s) = HoldsForPeak cell s.pool
PlacedHolds cell index_exhausted = ⊤
PlacedHolds cell heap_exhausted = ⊤

module _ (cell : ℕ) (owners : List (Option ℕ)) (pool : Pool) (c : Cells) (only : pool.classes ≡ c ∷ []) (none : pool.large ≡ []) (fit : FitPeak cell c pool.peak) where
  by_next : (c' : Cells) (numbers : List ℕ) → c'.freed ≡ numbers → FitPeak cell (with_next c' numbers) (max pool.peak (length (live_cells (with_next c' numbers)))) → HoldsForPeak cell (with_cells pool (with_next c' c'.freed))
  by_next c' numbers e next = subst (λ ns. HoldsForPeak cell (with_cells pool (with_next c' ns))) (sym e) (next_holds cell pool c (with_next c' numbers) only none next)

  in_room : (numbers : List ℕ) → c.freed ≡ numbers → (is_some (slice_get numbers 0) || nat_lt (made_in c) (length c.runs * cells_per_run c.size)) ≡ true → HoldsForPeak cell (with_cells pool (with_next c c.freed))
  in_room [] e room =
      let more = subst (λ n. made_in c < length c.runs * cells_per_run n) fit.size (ltb-true (made_in c) (length c.runs * cells_per_run c.size) room) in
      by_next c [] e (next_fresh cell c pool.peak fit.size e (subst (AreFreed (lives c.cells)) e fit.freed) fit.peak_is more (omega (arith, fit.few)))
  in_room (number ∷ rest) e room = by_next c (number ∷ rest) e (next_again cell c pool.peak number rest e fit)

  in_run : (first : ℕ) (numbers : List ℕ) → c.freed ≡ numbers → (is_some (slice_get numbers 0) || nat_lt (made_in c) (length c.runs * cells_per_run c.size)) ≡ false
      → HoldsForPeak cell (with_cells pool (with_next (record c { runs = c.runs ++ first ∷ [] }) c.freed))
  in_run first [] e room =
      let c' : Cells = record c { runs = c.runs ++ first ∷ [] } in let per = cells_per_run cell in
      let full = subst (λ n. length c.runs * cells_per_run n ≤ made_in c) fit.size (ltb-false (made_in c) (length c.runs * cells_per_run c.size) room) in
      let runs : length c'.runs * per ≡ length c.runs * per + per = ap (λ n. n * per) (length-append c.runs (first ∷ [])) ∙ omega arith in
      by_next c' [] e (next_fresh cell c' pool.peak fit.size e (subst (AreFreed (lives c.cells)) e fit.freed) fit.peak_is (omega (arith, full, runs, fit.enough, some_per_run cell)) (omega (arith, runs, fit.enough, full)))
  in_run first (number ∷ rest) e room = absurd cc

  by_run : has_room c ≡ false → (found : Option ℕ) → PlacedHolds cell (placed_in_run owners pool 0 c found)
  by_run room None = tt
  by_run room (Some first) = in_run first c.freed refl room

  by_class : (index : ℕ) → PlacedHolds cell (placed_in_class index owners pool 0 c)
  by_class index =
      let fresh = placed_in_run owners pool 0 c (lowest_run owners (need c.size)) in
      either (PlacedHolds cell) (at_limit index pool.kind c) index_exhausted (if has_room c then placed_cell owners pool 0 c else fresh) (λ e. tt) (λ e.
      either (PlacedHolds cell) (has_room c) (placed_cell owners pool 0 c) fresh (λ room. in_room c.freed refl room) (λ room. by_run room (lowest_run owners (need c.size))))

placed_holds : (source cell : ℕ) (indexed : Bool) (index : ℕ) (owners : List (Option ℕ)) (pool : Pool) (bytes : ℕ) → pool.kind ≡ Homogeneous source cell indexed → HoldsForPeak cell pool → PlacedHolds cell (placed_in index owners pool bytes)
placed_holds source cell indexed index owners pool bytes kind holds =
    let class : class_for pool.kind pool.classes bytes ≡ Some 0 = ap (λ k. class_for k pool.classes bytes) kind in
    let cells : slice_index_or pool.classes 0 (no_cells 0) ≡ holds.cells = ap (λ (cs : List Cells). slice_index_or cs 0 (no_cells 0)) holds.only in
    subst (λ o. PlacedHolds cell (placed_as index owners pool bytes o)) (sym class)
    (subst (λ c. PlacedHolds cell (placed_in_class index owners pool 0 c)) (sym cells) (by_class cell owners pool holds.cells holds.only holds.none_large holds.fit index))

-- placing keeps the kind
abbrev IsOfKind : PoolKind → Allocation PoolInSlabs → Type 0
IsOfKind kind (placed address s) = s.pool.kind ≡ kind
IsOfKind kind index_exhausted = ⊤
IsOfKind kind heap_exhausted = ⊤

module _ (index : ℕ) (owners : List (Option ℕ)) (pool : Pool) (bytes : ℕ) where
  run_of_kind : (k : ℕ) (c : Cells) (found : Option ℕ) → IsOfKind pool.kind (placed_in_run owners pool k c found)
  run_of_kind k c None = tt
  run_of_kind k c (Some first) = refl

  large_of_kind : (found : Option ℕ) → IsOfKind pool.kind (placed_large owners pool bytes found)
  large_of_kind None = tt
  large_of_kind (Some first) = refl

  class_of_kind : (k : ℕ) (c : Cells) → IsOfKind pool.kind (placed_in_class index owners pool k c)
  class_of_kind k c =
      let fresh = placed_in_run owners pool k c (lowest_run owners (need c.size)) in
      either (IsOfKind pool.kind) (at_limit index pool.kind c) index_exhausted (if has_room c then placed_cell owners pool k c else fresh) (λ e. tt) (λ e.
      either (IsOfKind pool.kind) (has_room c) (placed_cell owners pool k c) fresh (λ room. refl) (λ room. run_of_kind k c (lowest_run owners (need c.size))))

  placed_of_kind : (class : Option ℕ) → IsOfKind pool.kind (placed_as index owners pool bytes class)
  placed_of_kind None = large_of_kind (lowest_run owners (need bytes))
  placed_of_kind (Some k) = class_of_kind k (slice_index_or pool.classes k (no_cells 0))

-- ---- freeing

abbrev FreedHolds : ℕ → Option PoolInSlabs → Type 0
FreedHolds cell None = ⊤
FreedHolds cell (Some s) = HoldsForPeak cell s.pool

and_right : (a b : Bool) → (a && b) ≡ true → b ≡ true
and_right true b e = e
and_right false b e = absurd cc

freed_holds : (cell : ℕ) (owners : List (Option ℕ)) (pool : Pool) (address : ℕ) → HoldsForPeak cell pool → FreedHolds cell (freed_in owners pool address)
freed_holds cell owners pool address holds =
    let c = holds.cells in let number = number_at c (made_in c) address in
    subst (λ (cs : List Cells). FreedHolds cell (freed_as owners pool address (freed_among cs address))) (sym holds.only)
    (either (λ o. FreedHolds cell (freed_as owners pool address o)) (nat_lt 0 number && is_live c number) (Some (with_freed c number ∷ [])) None
    (λ live. record { cells = with_freed c number; only = refl; none_large = holds.none_large; fit = freed_fits cell c pool.peak number (and_right (nat_lt 0 number) (is_live c number) live) holds.fit })
    (λ dead. subst (λ (ls : List Large). FreedHolds cell (freed_large owners pool address (large_at address ls))) (sym holds.none_large) tt))

abbrev FreedOfKind : PoolKind → Option PoolInSlabs → Type 0
FreedOfKind kind None = ⊤
FreedOfKind kind (Some s) = s.pool.kind ≡ kind

freed_large_of_kind : (owners : List (Option ℕ)) (pool : Pool) (address : ℕ) (found : Option Large) → FreedOfKind pool.kind (freed_large owners pool address found)
freed_large_of_kind owners pool address None = tt
freed_large_of_kind owners pool address (Some l) = refl

freed_of_kind : (owners : List (Option ℕ)) (pool : Pool) (address : ℕ) (classes : Option (List Cells)) → FreedOfKind pool.kind (freed_as owners pool address classes)
freed_of_kind owners pool address None = freed_large_of_kind owners pool address (large_at address pool.large)
freed_of_kind owners pool address (Some classes) = refl

-- ---- writing

written_holds : (cell : ℕ) (pool : Pool) (address width word : ℕ) → HoldsForPeak cell pool → HoldsForPeak cell (written_in address width word pool)
written_holds cell pool address width word holds = record {
  cells = written_cells address width word holds.cells;
  only = ap (map (written_cells address width word)) holds.only;
  none_large = ap (map (written_large address width word)) holds.none_large;
  fit = written_fits cell holds.cells pool.peak address width word holds.fit;
}

-- ---- all pools

abbrev pub OneHolds : Option Pool → Type 0
OneHolds None = ⊤
OneHolds (Some pool) = (source cell : ℕ) (indexed : Bool) → pool.kind ≡ Homogeneous source cell indexed → HoldsForPeak cell pool

abbrev pub AllHold : Pools → Type 0
AllHold p = AllByRecursion OneHolds p.pools

pub pool_holds : (p : Pools) (id : ℕ) → AllHold p → OneHolds (pool_at p id)
pool_holds p id all = either OneHolds (id == 0) None (slice_index_or p.pools (id - 1) None) (λ e. tt) (λ e. all_or OneHolds p.pools (id - 1) None all tt)

new_one : (kind : PoolKind) → OneHolds (Some (new_pool kind))
new_one kind = λ source cell indexed e. subst (λ k. HoldsForPeak cell (new_pool k)) (sym e) (new_holds source cell indexed)

all_destroyed : (p : Pools) (id : ℕ) (found : Option Pool) → AllHold p → AllHold (destroyed p id found)
all_destroyed p id None all = all
all_destroyed p id (Some pool) all = all_set OneHolds p.pools (id - 1) None all tt

abbrev AllocHolds : Allocation Pools → Type 0
AllocHolds (placed address q) = AllHold q
AllocHolds index_exhausted = ⊤
AllocHolds heap_exhausted = ⊤

allocated_holds : (p : Pools) (id : ℕ) (pool : Pool) (result : Allocation PoolInSlabs) → AllHold p → IsOfKind pool.kind result
    → ((source cell : ℕ) (indexed : Bool) → pool.kind ≡ Homogeneous source cell indexed → PlacedHolds cell result) → AllocHolds (allocated p id result)
allocated_holds p id pool (placed address s) all kept each = all_set OneHolds p.pools (id - 1) (Some s.pool) all (λ source cell indexed e. each source cell indexed (sym kept ∙ e))
allocated_holds p id pool index_exhausted all kept each = tt
allocated_holds p id pool heap_exhausted all kept each = tt

alloc_in_holds : (p : Pools) (id bytes : ℕ) (found : Option Pool) → AllHold p → OneHolds found → AllocHolds (alloc_in p id bytes found)
alloc_in_holds p id bytes None all one = tt
alloc_in_holds p id bytes (Some pool) all one =
    allocated_holds p id pool (placed_in p.index p.owners pool bytes) all (placed_of_kind p.index p.owners pool bytes (class_for pool.kind pool.classes bytes))
    (λ source cell indexed e. placed_holds source cell indexed p.index p.owners pool bytes e (one source cell indexed e))

alloc_holds : (p : Pools) (id bytes : ℕ) → AllHold p → AllocHolds (alloc_step p id bytes)
alloc_holds p id bytes all = either AllocHolds (bytes == 0) (placed 0 p) (alloc_in p id bytes (pool_at p id)) (λ e. all) (λ e. alloc_in_holds p id bytes (pool_at p id) all (pool_holds p id all))

abbrev SomeHold : Option Pools → Type 0
SomeHold None = ⊤
SomeHold (Some q) = AllHold q

changed_holds : (p : Pools) (id : ℕ) (pool : Pool) (result : Option PoolInSlabs) → AllHold p → FreedOfKind pool.kind result
    → ((source cell : ℕ) (indexed : Bool) → pool.kind ≡ Homogeneous source cell indexed → FreedHolds cell result) → SomeHold (option_map (with_change p id) result)
changed_holds p id pool None all kept each = tt
changed_holds p id pool (Some s) all kept each = all_set OneHolds p.pools (id - 1) (Some s.pool) all (λ source cell indexed e. each source cell indexed (sym kept ∙ e))

free_in_holds : (p : Pools) (id address : ℕ) (found : Option Pool) → AllHold p → OneHolds found → SomeHold (free_in p id address found)
free_in_holds p id address None all one = tt
free_in_holds p id address (Some pool) all one =
    changed_holds p id pool (freed_in p.owners pool address) all (freed_of_kind p.owners pool address (freed_among pool.classes address))
    (λ source cell indexed e. freed_holds cell p.owners pool address (one source cell indexed e))

written_one : (address width word : ℕ) (found : Option Pool) → OneHolds found → OneHolds (option_map (written_in address width word) found)
written_one address width word None one = tt
written_one address width word (Some pool) one = λ source cell indexed e. written_holds cell pool address width word (one source cell indexed e)

store_holds : (p : Pools) (address width word : ℕ) → AllHold p → SomeHold (store_step p address width word)
store_holds p address width word all =
    either SomeHold (is_some (object_at p address width)) (Some (record p { pools = map (option_map (written_in address width word)) p.pools })) None
    (λ e. all_mapped OneHolds (option_map (written_in address width word)) p.pools (written_one address width word) all) (λ e. tt)

pub all_hold : (p : Pools) → IsReached p → AllHold p
all_hold _ (at_start slabs index) = tt
all_hold _ (after_init p kind reached) = all_push OneHolds p.pools (Some (new_pool kind)) (all_hold p reached) (new_one kind)
all_hold _ (after_destroy p id reached) = all_destroyed p id (pool_at p id) (all_hold p reached)
all_hold _ (after_alloc p q id bytes address reached e) = subst AllocHolds e (alloc_holds p id bytes (all_hold p reached))
all_hold _ (after_free p q id address reached e) = subst SomeHold e (free_in_holds p id address (pool_at p id) (all_hold p reached) (pool_holds p id (all_hold p reached)))
all_hold _ (after_store p q address width word reached e) = subst SomeHold e (store_holds p address width word (all_hold p reached))

-- a living homogeneous pool holds just the slabs that its peak needs
pub peak_tells_slabs : PeakTellsSlabs
peak_tells_slabs p id source cell indexed pool reached at kind =
    let holds = subst OneHolds at (pool_holds p id (all_hold p reached)) source cell indexed kind in
    let slabs : slabs_of p id ≡ slabs_in pool = ap (λ o. unwrap_or (option_map slabs_in o) 0) at in
    let peak : peak_of p id ≡ pool.peak = ap (λ (o : Option Pool). unwrap_or (option_map (λ (x : Pool). x.peak) o) 0) at in
    slabs ∙ slabs_one cell pool holds ∙ ap (slabs_for_peak cell) (sym peak)
