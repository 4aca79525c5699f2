-- All runs of all pools are held, each slab in one of them at most: a sum over the runs is at most what the owner of the
-- slab tells.
use Rattle.std.proofs.Common.{◌≡◌, ℕ, zero, suc, ◌+◌, ◌-◌, ◌<◌, ◌≤◌, Bool, true, false, List, [], ◌∷◌, ◌++◌, Option, Some, None, length, map, refl, sym, ap, subst, ◌∙◌, inl, inr, arith}
use Rattle.std.specs.Prelude.{⊤, ◌&&◌, ◌==◌, if◌then◌else◌, nat_lt, nat_le, is_some, slice_set, slice_index_or, option_map}
use Rattle.std.proofs.lemmas.Bool.{cases_lt, leb-true, and_parts}
use Rattle.std.proofs.lemmas.List.{get_or_past}
use Rattle.run_theory.specs.Words.{zeros, with_word}
use Rattle.raw_slab.proofs.WordsWritten.{length-with_word}
use Rattle.slab_space.specs.declared.kind.PoolKind.{PoolKind}
use Rattle.slab_space.specs.declared.kind.PoolKind.TheVariants.{Homogeneous, Mixed}
use Rattle.slab_space.specs.Runs.{need, owner_at, with_run, lowest_run, IsFreeRun}
use Rattle.slab_space.specs.Pool.{Cells, Large, Pool, Object, slab_address, no_cells, made_in, number_at, with_next, has_room, with_freed, is_live, large_object, with_large, large_at, without_large, new_pool, class_for, given_runs, given_classes, given_large}
use Rattle.slab_space.specs.PoolSteps.{PoolInSlabs, Allocation, placed, index_exhausted, heap_exhausted, at_limit, placed_cell, placed_in_run, placed_in_class, placed_large, placed_as, placed_in, freed_among, freed_large, freed_as, freed_in, covers, written, written_cells, written_large, written_in}
use Rattle.slab_space.specs.Pools.{Pools, pool_at, with_change, destroyed, allocated, alloc_in, alloc_step, free_in, object_at, store_step}
use Rattle.slab_space.specs.Reached.{IsReached, at_start, after_init, after_destroy, after_alloc, after_free, after_store}
use Rattle.slab_space.proofs.WithRun.{get_or-with_run_in, get_or-with_run_below, get_or-with_run_above, with_run_none}
use Rattle.slab_space.proofs.LowestRun.{free_from_found}
use Rattle.slab_space.proofs.Tables.{length-zeros}
use Rattle.slab_space.proofs.Peaks.{either}

-- ---- sums

abbrev pub total : {X : Type 0} → (X → ℕ) → List X → ℕ
total f [] = 0
total f (x ∷ xs) = f x + total f xs

module _ {X : Type 0} (f : X → ℕ) where
  total_push : (xs : List X) (y : X) → total f (xs ++ y ∷ []) ≡ total f xs + f y
  total_push [] y = omega arith
  total_push (x ∷ xs) y = omega (arith, total_push xs y)

  total_set : (xs : List X) (i : ℕ) (d y : X) → f d ≡ 0 → total f (slice_set xs i y) + f (slice_index_or xs i d) ≤ total f xs + f y
  total_set [] i d y none = omega (arith, none)
  total_set (x ∷ xs) zero d y none = omega arith
  total_set (x ∷ xs) (suc i) d y none = omega (arith, total_set xs i d y none)

  one_or_none : (xs : List X) (i : ℕ) (d : X) → f d ≡ 0 → f (slice_index_or xs i d) ≤ total f xs
  one_or_none [] i d none = omega (arith, none)
  one_or_none (x ∷ xs) zero d none = omega arith
  one_or_none (x ∷ xs) (suc i) d none = omega (arith, one_or_none xs i d none)

  pub one_of : (xs : List X) (i : ℕ) (d : X) → i < length xs → f (slice_index_or xs i d) ≤ total f xs
  one_of [] i d inside = absurd (omega (arith, inside))
  one_of (x ∷ xs) zero d inside = omega arith
  one_of (x ∷ xs) (suc i) d inside = omega (arith, one_of xs i d (omega (arith, inside)))

  pub two_of : (xs : List X) (i j : ℕ) (d : X) → i < j → j < length xs → f (slice_index_or xs i d) + f (slice_index_or xs j d) ≤ total f xs
  two_of [] i j d order inside = absurd (omega (arith, inside))
  two_of (x ∷ xs) i zero d order inside = absurd (omega (arith, order))
  two_of (x ∷ xs) zero (suc j) d order inside = omega (arith, one_of xs j d (omega (arith, inside)))
  two_of (x ∷ xs) (suc i) (suc j) d order inside = omega (arith, two_of xs i j d (omega (arith, order)) (omega (arith, inside)))

  total_map : (g : X → X) (xs : List X) → ((x : X) → f (g x) ≡ f x) → total f (map g xs) ≡ total f xs
  total_map g [] same = refl
  total_map g (x ∷ xs) same = omega (arith, same x, total_map g xs same)

-- ---- runs and owners

-- 1 where the slab lies in the run of `count` slabs from `first` on and `first` is the owner, else 0: each term that is
-- taken away from 1 is 0 just where its condition holds
abbrev pub in_run : ℕ → ℕ → ℕ → ℕ → ℕ
in_run first count owner slab = 1 - ((first - owner) + (owner - first) + (first - slab) + (suc slab - (first + count)))

-- 1 where this is the owner, else 0
abbrev pub is_owner : ℕ → Option ℕ → ℕ
is_owner owner None = 0
is_owner owner (Some o) = 1 - ((o - owner) + (owner - o))

abbrev pub owned : List (Option ℕ) → ℕ → ℕ → ℕ
owned owners owner slab = is_owner owner (owner_at owners slab)

-- what is counted for each owner and slab is at most what the owners tell
abbrev pub Fits : List (Option ℕ) → (ℕ → ℕ → ℕ) → Type 0
Fits owners count = (owner slab : ℕ) → count owner slab ≤ owned owners owner slab

owner_is : (owner : ℕ) (o : Option ℕ) → 1 ≤ is_owner owner o → o ≡ Some owner
owner_is owner None some = absurd (omega (arith, some))
owner_is owner (Some o) some = let same : o ≡ owner = omega (arith, some) in ap Some same

pub one_owner : (a b : ℕ) (o : Option ℕ) → a < b → is_owner a o + is_owner b o ≤ 1
one_owner a b None order = omega arith
one_owner a b (Some o) order = omega (arith, order)

pub owner_once : (a : ℕ) (o : Option ℕ) → is_owner a o ≤ 1
owner_once a None = omega arith
owner_once a (Some o) = omega arith

module _ (owners : List (Option ℕ)) (first : ℕ) (w : ℕ → ℕ → ℕ) where
  -- a free run was taken
  taken_fits : (count : ℕ) → IsFreeRun owners first count → Fits owners w → Fits (with_run owners first count (Some first)) (λ owner slab. w owner slab + in_run first count owner slab)
  taken_fits count run fits owner slab =
      elim (cases_lt slab first) [
        | inl below ↦ (let same = ap (is_owner owner) (get_or-with_run_below owners first count slab (Some first) None run.inside below) in omega (arith, fits owner slab, same, below))
        | inr from ↦ elim (cases_lt slab (first + count)) [
          | inl within ↦ (let now = ap (is_owner owner) (get_or-with_run_in owners first count slab (Some first) None run.inside from within) in
              let was = ap (is_owner owner) (run.free slab from within) in omega (arith, fits owner slab, now, was))
          | inr above ↦ (let same = ap (is_owner owner) (get_or-with_run_above owners first count slab (Some first) None run.inside above) in omega (arith, fits owner slab, same, above))
        ]
      ]

  module _ (count : ℕ) (fits : Fits owners (λ owner slab. w owner slab + in_run first count owner slab)) where
    held_in : (slab : ℕ) → first ≤ slab → slab < first + count → owner_at owners slab ≡ Some first
    held_in slab low high = owner_is first (owner_at owners slab) (omega (arith, fits first slab, low, high))

    run_inside : 1 ≤ count → first + count ≤ length owners
    run_inside some =
        elim (cases_lt (first + count - 1) (length owners)) [
          | inl inside ↦ omega (arith, inside, some)
          | inr past ↦ (let both = sym (get_or_past owners (first + count - 1) None past) ∙ held_in (first + count - 1) (omega (arith, some)) (omega (arith, some)) in absurd cc)
        ]

    given_some : 1 ≤ count → Fits (with_run owners first count None) w
    given_some some owner slab =
        let inside = run_inside some in
        elim (cases_lt slab first) [
          | inl below ↦ (let same = ap (is_owner owner) (get_or-with_run_below owners first count slab None None inside below) in omega (arith, fits owner slab, same))
          | inr from ↦ elim (cases_lt slab (first + count)) [
            | inl within ↦ (let was = ap (is_owner owner) (held_in slab from within) in omega (arith, fits owner slab, was, from, within))
            | inr above ↦ (let same = ap (is_owner owner) (get_or-with_run_above owners first count slab None None inside above) in omega (arith, fits owner slab, same))
          ]
        ]

  -- a held run was given back
  given_fits : (count : ℕ) → Fits owners (λ owner slab. w owner slab + in_run first count owner slab) → Fits (with_run owners first count None) w
  given_fits zero fits owner slab = let same = ap (λ os. owned os owner slab) (with_run_none owners first None) in omega (arith, same, fits owner slab)
  given_fits (suc count) fits owner slab = given_some (suc count) fits (omega arith) owner slab

-- ---- the runs of a pool

abbrev pub cells_cover : ℕ → ℕ → Cells → ℕ
cells_cover owner slab c = total (λ first. in_run first (need c.size) owner slab) c.runs

abbrev large_cover : ℕ → ℕ → Large → ℕ
large_cover owner slab l = in_run l.first (need (length l.bytes)) owner slab

abbrev pub pool_cover : ℕ → ℕ → Pool → ℕ
pool_cover owner slab pool = total (cells_cover owner slab) pool.classes + total (large_cover owner slab) pool.large

given_runs_fit : (count : ℕ) (firsts : List ℕ) (owners : List (Option ℕ)) (w : ℕ → ℕ → ℕ) → Fits owners (λ owner slab. w owner slab + total (λ first. in_run first count owner slab) firsts) → Fits (given_runs count firsts owners) w
given_runs_fit count [] owners w fits = λ owner slab. omega (arith, fits owner slab)
given_runs_fit count (first ∷ rest) owners w fits =
    given_runs_fit count rest (with_run owners first count None) w
    (given_fits owners first (λ owner slab. w owner slab + total (λ f. in_run f count owner slab) rest) count (λ owner slab. omega (arith, fits owner slab)))

given_classes_fit : (classes : List Cells) (owners : List (Option ℕ)) (w : ℕ → ℕ → ℕ) → Fits owners (λ owner slab. w owner slab + total (cells_cover owner slab) classes) → Fits (given_classes classes owners) w
given_classes_fit [] owners w fits = λ owner slab. omega (arith, fits owner slab)
given_classes_fit (c ∷ rest) owners w fits =
    given_classes_fit rest (given_runs (need c.size) c.runs owners) w
    (given_runs_fit (need c.size) c.runs owners (λ owner slab. w owner slab + total (cells_cover owner slab) rest) (λ owner slab. omega (arith, fits owner slab)))

given_large_fit : (large : List Large) (owners : List (Option ℕ)) (w : ℕ → ℕ → ℕ) → Fits owners (λ owner slab. w owner slab + total (large_cover owner slab) large) → Fits (given_large large owners) w
given_large_fit [] owners w fits = λ owner slab. omega (arith, fits owner slab)
given_large_fit (l ∷ rest) owners w fits =
    given_large_fit rest (with_run owners l.first (need (length l.bytes)) None) w
    (given_fits owners l.first (λ owner slab. w owner slab + total (large_cover owner slab) rest) (need (length l.bytes)) (λ owner slab. omega (arith, fits owner slab)))

-- ---- what a step makes of the cells and objects

next_cover : (owner slab : ℕ) (c : Cells) (numbers : List ℕ) → cells_cover owner slab (with_next c numbers) ≡ cells_cover owner slab c
next_cover owner slab c [] = refl
next_cover owner slab c (number ∷ rest) = refl

more_large : (owner slab first : ℕ) (bytes : List ℕ) (large : List Large) → total (large_cover owner slab) (with_large first bytes large) ≡ total (large_cover owner slab) large + in_run first (need (length bytes)) owner slab
more_large owner slab first bytes [] = omega arith
more_large owner slab first bytes (l ∷ rest) =
    either (λ ls. total (large_cover owner slab) ls ≡ large_cover owner slab l + total (large_cover owner slab) rest + in_run first (need (length bytes)) owner slab) (nat_lt first l.first)
    (record { first = first; bytes = bytes } ∷ l ∷ rest) (l ∷ with_large first bytes rest) (λ e. omega arith) (λ e. omega (arith, more_large owner slab first bytes rest))

fewer_by : (owner slab : ℕ) (x l : Large) (rest others : List Large) (found : Option Large) (b : Bool) → (found ≡ Some l → total (large_cover owner slab) others + large_cover owner slab l ≡ total (large_cover owner slab) rest)
    → (if b then Some x else found) ≡ Some l → total (large_cover owner slab) (if b then rest else x ∷ others) + large_cover owner slab l ≡ large_cover owner slab x + total (large_cover owner slab) rest
fewer_by owner slab x l rest others found true behind e = let same : x ≡ l = cc in omega (arith, ap (large_cover owner slab) same)
fewer_by owner slab x l rest others found false behind e = omega (arith, behind e)

fewer_large : (owner slab address : ℕ) (large : List Large) (l : Large) → large_at address large ≡ Some l → total (large_cover owner slab) (without_large address large) + large_cover owner slab l ≡ total (large_cover owner slab) large
fewer_large owner slab address [] l e = absurd cc
fewer_large owner slab address (x ∷ rest) l e =
    fewer_by owner slab x l rest (without_large address rest) (large_at address rest) (slab_address x.first == address) (fewer_large owner slab address rest l) e

abbrev SameCover : ℕ → ℕ → ℕ → Option (List Cells) → Type 0
SameCover owner slab sum None = ⊤
SameCover owner slab sum (Some classes) = total (cells_cover owner slab) classes ≡ sum

same_behind : (owner slab sum : ℕ) (c : Cells) (found : Option (List Cells)) → SameCover owner slab sum found → SameCover owner slab (cells_cover owner slab c + sum) (option_map (λ classes. c ∷ classes) found)
same_behind owner slab sum c None same = tt
same_behind owner slab sum c (Some classes) same = ap (λ n. cells_cover owner slab c + n) same

freed_same : (owner slab address : ℕ) (classes : List Cells) → SameCover owner slab (total (cells_cover owner slab) classes) (freed_among classes address)
freed_same owner slab address [] = tt
freed_same owner slab address (c ∷ rest) =
    let number = number_at c (made_in c) address in
    either (SameCover owner slab (cells_cover owner slab c + total (cells_cover owner slab) rest)) (nat_lt 0 number && is_live c number) (Some (with_freed c number ∷ rest)) (option_map (λ classes. c ∷ classes) (freed_among rest address))
    (λ e. refl) (λ e. same_behind owner slab (total (cells_cover owner slab) rest) c (freed_among rest address) (freed_same owner slab address rest))

long_written : (address width word : ℕ) (o : Object) → length (written address width word o) ≡ length o.bytes
long_written address width word o =
    either (λ bs. length bs ≡ length o.bytes) (covers address width o) (with_word o.bytes (address - o.start) width word) o.bytes
    (λ e. let both = and_parts (nat_le o.start address) (nat_le (address + width) (o.start + length o.bytes)) e in
    length-with_word o.bytes (address - o.start) width word (omega (arith, leb-true o.start address both.0, leb-true (address + width) (o.start + length o.bytes) both.1)))
    (λ e. refl)

written_cover : (owner slab address width word : ℕ) (pool : Pool) → pool_cover owner slab (written_in address width word pool) ≡ pool_cover owner slab pool
written_cover owner slab address width word pool =
    let cells = total_map (cells_cover owner slab) (written_cells address width word) pool.classes (λ c. refl) in
    let large = total_map (large_cover owner slab) (written_large address width word) pool.large (λ l. ap (λ n. in_run l.first (need n) owner slab) (long_written address width word (large_object l))) in
    omega (arith, cells, large)

-- ---- what a step makes of a pool, beside what else is held

abbrev PoolFits : (ℕ → ℕ → ℕ) → PoolInSlabs → Type 0
PoolFits w s = Fits s.owners (λ owner slab. w owner slab + pool_cover owner slab s.pool)

abbrev PlacedFits : (ℕ → ℕ → ℕ) → Allocation PoolInSlabs → Type 0
PlacedFits w (placed address s) = PoolFits w s
PlacedFits w index_exhausted = ⊤
PlacedFits w heap_exhausted = ⊤

abbrev FreedFits : (ℕ → ℕ → ℕ) → Option PoolInSlabs → Type 0
FreedFits w None = ⊤
FreedFits w (Some s) = PoolFits w s

module _ (w : ℕ → ℕ → ℕ) (owners : List (Option ℕ)) (pool : Pool) (fits : PoolFits w (record { owners = owners; pool = pool })) where
  module _ (k : ℕ) (c : Cells) (here : slice_index_or pool.classes k (no_cells 0) ≡ c) where
    by_room : PlacedFits w (placed_cell owners pool k c)
    by_room owner slab =
        let set = total_set (cells_cover owner slab) pool.classes k (no_cells 0) (with_next c c.freed) refl in
        omega (arith, fits owner slab, set, ap (cells_cover owner slab) here, next_cover owner slab c c.freed)

    by_run : (found : Option ℕ) → lowest_run owners (need c.size) ≡ found → PlacedFits w (placed_in_run owners pool k c found)
    by_run None e = tt
    by_run (Some first) e = λ owner slab.
        let c' : Cells = record c { runs = c.runs ++ first ∷ [] } in
        let taken = taken_fits owners first (λ o s. w o s + pool_cover o s pool) (need c.size) (free_from_found owners (need c.size) first e) fits owner slab in
        let set = total_set (cells_cover owner slab) pool.classes k (no_cells 0) (with_next c' c'.freed) refl in
        let push = total_push (λ f. in_run f (need c.size) owner slab) c.runs first in
        omega (arith, taken, set, push, ap (cells_cover owner slab) here, next_cover owner slab c' c'.freed)

    by_class : (index : ℕ) → PlacedFits w (placed_in_class index owners pool k c)
    by_class index =
        let fresh = placed_in_run owners pool k c (lowest_run owners (need c.size)) in
        either (PlacedFits w) (at_limit index pool.kind c) index_exhausted (if has_room c then placed_cell owners pool k c else fresh) (λ e. tt) (λ e.
        either (PlacedFits w) (has_room c) (placed_cell owners pool k c) fresh (λ room. by_room) (λ room. by_run (lowest_run owners (need c.size)) refl))

  by_large : (bytes : ℕ) (found : Option ℕ) → lowest_run owners (need bytes) ≡ found → PlacedFits w (placed_large owners pool bytes found)
  by_large bytes None e = tt
  by_large bytes (Some first) e = λ owner slab.
      let taken = taken_fits owners first (λ o s. w o s + pool_cover o s pool) (need bytes) (free_from_found owners (need bytes) first e) fits owner slab in
      let more = more_large owner slab first (zeros bytes) pool.large in
      omega (arith, taken, more, ap (λ n. in_run first (need n) owner slab) (length-zeros bytes))

  placed_fits : (index bytes : ℕ) (class : Option ℕ) → PlacedFits w (placed_as index owners pool bytes class)
  placed_fits index bytes None = by_large bytes (lowest_run owners (need bytes)) refl
  placed_fits index bytes (Some k) = by_class k (slice_index_or pool.classes k (no_cells 0)) refl index

  by_object : (address : ℕ) (found : Option Large) → large_at address pool.large ≡ found → FreedFits w (freed_large owners pool address found)
  by_object address None e = tt
  by_object address (Some l) e =
      let others = without_large address pool.large in
      let rest = given_fits owners l.first (λ owner slab. w owner slab + (total (cells_cover owner slab) pool.classes + total (large_cover owner slab) others)) (need (length l.bytes))
      (λ owner slab. omega (arith, fits owner slab, fewer_large owner slab address pool.large l e)) in rest

  by_freed : (address : ℕ) (found : Option (List Cells)) → ((owner slab : ℕ) → SameCover owner slab (total (cells_cover owner slab) pool.classes) found) → FreedFits w (freed_as owners pool address found)
  by_freed address None same = by_object address (large_at address pool.large) refl
  by_freed address (Some classes) same = λ owner slab. omega (arith, fits owner slab, same owner slab)

  freed_fits : (address : ℕ) → FreedFits w (freed_in owners pool address)
  freed_fits address = by_freed address (freed_among pool.classes address) (λ owner slab. freed_same owner slab address pool.classes)

-- ---- all pools

abbrev some_cover : ℕ → ℕ → Option Pool → ℕ
some_cover owner slab None = 0
some_cover owner slab (Some pool) = pool_cover owner slab pool

abbrev all_cover : Pools → ℕ → ℕ → ℕ
all_cover p owner slab = total (some_cover owner slab) p.pools

abbrev pub AllFit : Pools → Type 0
AllFit p = Fits p.owners (all_cover p)

module _ (p : Pools) (id : ℕ) where
  changed : (owner slab : ℕ) (next : Option Pool) → total (some_cover owner slab) (slice_set p.pools (id - 1) next) + some_cover owner slab (pool_at p id) ≤ all_cover p owner slab + some_cover owner slab next
  changed owner slab next =
      let set = total_set (some_cover owner slab) p.pools (id - 1) None next refl in
      either (λ o. total (some_cover owner slab) (slice_set p.pools (id - 1) next) + some_cover owner slab o ≤ all_cover p owner slab + some_cover owner slab next)
      (id == 0) None (slice_index_or p.pools (id - 1) None) (λ e. omega (arith, set)) (λ e. set)

  one_pool : (owner slab : ℕ) → some_cover owner slab (pool_at p id) ≤ all_cover p owner slab
  one_pool owner slab =
      either (λ o. some_cover owner slab o ≤ all_cover p owner slab) (id == 0) None (slice_index_or p.pools (id - 1) None) (λ e. omega arith) (λ e. one_or_none (some_cover owner slab) p.pools (id - 1) None refl)

  module _ (pool : Pool) (here : pool_at p id ≡ Some pool) (all : AllFit p) where
    -- what the other pools hold
    abbrev others : ℕ → ℕ → ℕ
    others owner slab = all_cover p owner slab - pool_cover owner slab pool

    before : PoolFits others (record { owners = p.owners; pool = pool })
    before owner slab = omega (arith, all owner slab, one_pool owner slab, ap (some_cover owner slab) here)

    after : (s : PoolInSlabs) → PoolFits others s → AllFit (with_change p id s)
    after s fits owner slab = omega (arith, fits owner slab, changed owner slab (Some s.pool), ap (some_cover owner slab) here)

    pub pool_fits : Fits p.owners (λ owner slab. pool_cover owner slab pool)
    pool_fits owner slab = omega (arith, before owner slab)

    without : Fits p.owners (λ owner slab. total (some_cover owner slab) (slice_set p.pools (id - 1) None) + total (large_cover owner slab) pool.large + total (cells_cover owner slab) pool.classes)
    without owner slab = omega (arith, all owner slab, changed owner slab None, ap (some_cover owner slab) here)

  destroyed_fits : (found : Option Pool) → pool_at p id ≡ found → AllFit p → AllFit (destroyed p id found)
  destroyed_fits None here all = all
  destroyed_fits (Some pool) here all =
      given_large_fit pool.large (given_classes pool.classes p.owners) (λ owner slab. total (some_cover owner slab) (slice_set p.pools (id - 1) None))
      (given_classes_fit pool.classes p.owners (λ owner slab. total (some_cover owner slab) (slice_set p.pools (id - 1) None) + total (large_cover owner slab) pool.large) (without pool here all))

abbrev AllocFits : Allocation Pools → Type 0
AllocFits (placed address q) = AllFit q
AllocFits index_exhausted = ⊤
AllocFits heap_exhausted = ⊤

allocated_fits : (p : Pools) (id : ℕ) (pool : Pool) → (here : pool_at p id ≡ Some pool) → (all : AllFit p) → (result : Allocation PoolInSlabs) → PlacedFits (others p id pool here all) result → AllocFits (allocated p id result)
allocated_fits p id pool here all (placed address s) fits = after p id pool here all s fits
allocated_fits p id pool here all index_exhausted fits = tt
allocated_fits p id pool here all heap_exhausted fits = tt

alloc_in_fits : (p : Pools) (id bytes : ℕ) (found : Option Pool) → pool_at p id ≡ found → AllFit p → AllocFits (alloc_in p id bytes found)
alloc_in_fits p id bytes None here all = tt
alloc_in_fits p id bytes (Some pool) here all =
    allocated_fits p id pool here all (placed_in p.index p.owners pool bytes)
    (placed_fits (others p id pool here all) p.owners pool (before p id pool here all) p.index bytes (class_for pool.kind pool.classes bytes))

alloc_fits : (p : Pools) (id bytes : ℕ) → AllFit p → AllocFits (alloc_step p id bytes)
alloc_fits p id bytes all = either AllocFits (bytes == 0) (placed 0 p) (alloc_in p id bytes (pool_at p id)) (λ e. all) (λ e. alloc_in_fits p id bytes (pool_at p id) refl all)

abbrev SomeFit : Option Pools → Type 0
SomeFit None = ⊤
SomeFit (Some q) = AllFit q

changed_fits : (p : Pools) (id : ℕ) (pool : Pool) → (here : pool_at p id ≡ Some pool) → (all : AllFit p) → (result : Option PoolInSlabs) → FreedFits (others p id pool here all) result → SomeFit (option_map (with_change p id) result)
changed_fits p id pool here all None fits = tt
changed_fits p id pool here all (Some s) fits = after p id pool here all s fits

free_in_fits : (p : Pools) (id address : ℕ) (found : Option Pool) → pool_at p id ≡ found → AllFit p → SomeFit (free_in p id address found)
free_in_fits p id address None here all = tt
free_in_fits p id address (Some pool) here all =
    changed_fits p id pool here all (freed_in p.owners pool address) (freed_fits (others p id pool here all) p.owners pool (before p id pool here all) address)

written_same : (owner slab address width word : ℕ) (found : Option Pool) → some_cover owner slab (option_map (written_in address width word) found) ≡ some_cover owner slab found
written_same owner slab address width word None = refl
written_same owner slab address width word (Some pool) = written_cover owner slab address width word pool

store_fits : (p : Pools) (address width word : ℕ) → AllFit p → SomeFit (store_step p address width word)
store_fits p address width word all =
    either SomeFit (is_some (object_at p address width)) (Some (record p { pools = map (option_map (written_in address width word)) p.pools })) None
    (λ e. λ owner slab. omega (arith, all owner slab, total_map (some_cover owner slab) (option_map (written_in address width word)) p.pools (written_same owner slab address width word)))
    (λ e. tt)

new_cover : (owner slab : ℕ) (kind : PoolKind) → pool_cover owner slab (new_pool kind) ≡ 0
new_cover owner slab (Homogeneous source cell indexed) = refl
new_cover owner slab Mixed = refl

init_fits : (p : Pools) (kind : PoolKind) → AllFit p → Fits p.owners (λ owner slab. total (some_cover owner slab) (p.pools ++ Some (new_pool kind) ∷ []))
init_fits p kind all owner slab = omega (arith, all owner slab, total_push (some_cover owner slab) p.pools (Some (new_pool kind)), new_cover owner slab kind)

pub all_fit : (p : Pools) → IsReached p → AllFit p
all_fit _ (at_start slabs index) = λ owner slab. omega arith
all_fit _ (after_init p kind reached) = init_fits p kind (all_fit p reached)
all_fit _ (after_destroy p id reached) = destroyed_fits p id (pool_at p id) refl (all_fit p reached)
all_fit _ (after_alloc p q id bytes address reached e) = subst AllocFits e (alloc_fits p id bytes (all_fit p reached))
all_fit _ (after_free p q id address reached e) = subst SomeFit e (free_in_fits p id address (pool_at p id) refl (all_fit p reached))
all_fit _ (after_store p q address width word reached e) = subst SomeFit e (store_fits p address width word (all_fit p reached))
