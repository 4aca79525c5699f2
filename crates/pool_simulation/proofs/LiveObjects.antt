-- Each byte of the heap is in one live object at most, and live objects lie within the slabs.
use Rattle.std.proofs.Common.{◌≡◌, ℕ, zero, suc, ◌+◌, ◌-◌, ◌*◌, ◌/◌, ◌%◌, ◌^◌, ◌<◌, ◌≤◌, ◌⊎◌, List, [], ◌∷◌, ◌++◌, Option, Some, None, length, map, flat_map, refl, sym, ap, subst, ◌∙◌, inl, inr, arith}
use Rattle.std.specs.Prelude.{slice_index, slice_index_or}
use Rattle.std.specs.List.{AllByRecursion}
use Rattle.std.proofs.lemmas.Bool.{cases_lt}
use Rattle.std.proofs.lemmas.Nat.{div-add-mod', mod_below, mul-le}
use Rattle.slab_space.specs.declared.kind.PoolKind.{PoolKind}
use Rattle.slab_space.specs.declared.kind.PoolKind.TheVariants.{Homogeneous, Mixed}
use Rattle.slab_space.specs.Runs.{need, owner_at}
use Rattle.slab_space.specs.Pool.{Cells, Large, Pool, Object, IsKind, slab_address, cells_per_run, cell_address, made_in, live_from, live_cells, large_object, classes_of, objects_in}
use Rattle.slab_space.specs.Pools.{Pools, objects_of, objects}
use Rattle.slab_space.proofs.Held.{total, one_of, two_of, in_run, is_owner, owner_once, owned, cells_cover, pool_cover, all_fit}
use Rattle.slab_space.specs.Needs.{HavePlaced}
use Rattle.slab_space.proofs.Calls.{placed_reached}
use Rattle.slab_space.proofs.Cells.{sizes_of}
use Rattle.pool_simulation.specs.Regions.{IsIn, OfKind}
use Rattle.pool_simulation.proofs.Inserted.{in_either}
use Rattle.pool_simulation.proofs.LiveCells.{Whole, SoundCells, some_per_run, run_of}
use Rattle.pool_simulation.proofs.SoundPools.{SoundLarge, SoundPool, object_of}
use Rattle.pool_simulation.proofs.PoolObjects.{SomeSound, SoundPools, all_sound}

-- ---- sums

module _ {X : Type 0} (f : X → ℕ) where
  pub total_append : (xs ys : List X) → total f (xs ++ ys) ≡ total f xs + total f ys
  total_append [] ys = omega arith
  total_append (x ∷ xs) ys = omega (arith, total_append xs ys)

total_parts : {X A : Type 0} (g : X → List A) (f : A → ℕ) (h : X → ℕ) (P : X → Type 0) → ((x : X) → P x → h x ≤ 1 → total f (g x) ≤ h x) → (xs : List X) → AllByRecursion P xs → total h xs ≤ 1 → total f (flat_map g xs) ≤ total h xs
total_parts g f h P each [] all once = omega arith
total_parts g f h P each (x ∷ xs) all once =
    omega (arith, total_append f (g x) (flat_map g xs), each x all.0 (omega (arith, once)), total_parts g f h P each xs all.1 (omega (arith, once)))

-- ---- slabs and bytes

-- the slab of a byte
abbrev pub slab_of : ℕ → ℕ
slab_of at = (at - 2 ^ 44) / 4096

-- 1 where the slab is one of the run, else 0
abbrev pub in_slabs : ℕ → ℕ → ℕ → ℕ
in_slabs first count slab = 1 - ((first - slab) + (suc slab - (first + count)))

-- 1 where the byte is the object's, else 0
abbrev pub occupies : ℕ → Object → ℕ
occupies at o = 1 - ((o.start - at) + (suc at - (o.start + length o.bytes)))

abbrev pub cells_slabs : ℕ → Cells → ℕ
cells_slabs slab c = total (λ first. in_slabs first (need c.size) slab) c.runs

abbrev pub large_slabs : ℕ → Large → ℕ
large_slabs slab l = in_slabs l.first (need (length l.bytes)) slab

abbrev pub pool_slabs : ℕ → Pool → ℕ
pool_slabs slab pool = total (cells_slabs slab) pool.classes + total (large_slabs slab) pool.large

abbrev pub some_slabs : ℕ → Option Pool → ℕ
some_slabs slab None = 0
some_slabs slab (Some pool) = pool_slabs slab pool

-- ---- each slab is in one run at most

abbrev the : Option ℕ → ℕ
the None = 0
the (Some owner) = owner

-- what counts for the owner of the slab alone, counts for it
abbrev Counts : Option ℕ → (ℕ → ℕ) → ℕ → Type 0
Counts o f n = ((owner : ℕ) → f owner ≤ is_owner owner o) → n ≤ f (the o)

run_counts : (first count slab : ℕ) (o : Option ℕ) → Counts o (λ owner. in_run first count owner slab) (in_slabs first count slab)
run_counts first count slab None bound = omega (arith, bound first)
run_counts first count slab (Some owner) bound = omega (arith, bound first)

total_counts : {X : Type 0} (f : ℕ → X → ℕ) (g : X → ℕ) (o : Option ℕ) → ((x : X) → Counts o (λ owner. f owner x) (g x)) → (xs : List X) → Counts o (λ owner. total (f owner) xs) (total g xs)
total_counts f g o each [] bound = omega arith
total_counts f g o each (x ∷ xs) bound =
    omega (arith, each x (λ owner. omega (arith, bound owner)), total_counts f g o each xs (λ owner. omega (arith, bound owner)))

cells_counts : (slab : ℕ) (o : Option ℕ) (c : Cells) → Counts o (λ owner. cells_cover owner slab c) (cells_slabs slab c)
cells_counts slab o c = total_counts (λ owner first. in_run first (need c.size) owner slab) (λ first. in_slabs first (need c.size) slab) o (λ first. run_counts first (need c.size) slab o) c.runs

pool_counts : (slab : ℕ) (o : Option ℕ) (pool : Pool) → Counts o (λ owner. pool_cover owner slab pool) (pool_slabs slab pool)
pool_counts slab o pool bound =
    let cells = total_counts (λ owner c. cells_cover owner slab c) (cells_slabs slab) o (cells_counts slab o) pool.classes (λ owner. omega (arith, bound owner)) in
    let large = total_counts (λ owner (l : Large). in_run l.first (need (length l.bytes)) owner slab) (large_slabs slab) o (λ l. run_counts l.first (need (length l.bytes)) slab o) pool.large (λ owner. omega (arith, bound owner)) in
    omega (arith, cells, large)

-- the covers of all pools are told of by any function that is so at each pool
all_counts : (f : ℕ → ℕ → Option Pool → ℕ) (owners : List (Option ℕ)) (pools : List (Option Pool)) → ((owner slab : ℕ) → total (f owner slab) pools ≤ owned owners owner slab)
    → ((owner slab : ℕ) (pool : Pool) → pool_cover owner slab pool ≡ f owner slab (Some pool)) → (slab : ℕ) → total (some_slabs slab) pools ≤ 1
all_counts f owners pools fits is slab =
    let o = owner_at owners slab in
    let bound = total_counts (λ owner found. f owner slab found) (some_slabs slab) o each pools (λ owner. fits owner slab) in
    omega (arith, bound, fits (the o) slab, owner_once (the o) o)
  where
    each : (found : Option Pool) → Counts (owner_at owners slab) (λ owner. f owner slab found) (some_slabs slab found)
    each None bound = omega arith
    each (Some pool) bound = let counted = pool_counts slab (owner_at owners slab) pool (λ owner. omega (arith, bound owner, is owner slab pool)) in omega (arith, counted, is (the (owner_at owners slab)) slab pool)

pub slabs_once : (slabs : ℕ) (p : Pools) (sizes : List ℕ) → HavePlaced slabs p sizes → (slab : ℕ) → total (some_slabs slab) p.pools ≤ 1
slabs_once slabs p sizes placing slab = all_counts _ p.owners p.pools (all_fit p (placed_reached slabs p sizes placing)) (λ owner slab pool. refl) slab

-- ---- the bytes of cells

-- a cell lies in its run
pub cell_ends : (size at : ℕ) → at < cells_per_run size → size * at + size ≤ 4096 * need size
cell_ends size at inside =
    elim (cases_lt at (4096 / size)) [
      | inl many ↦ (let fits = mul-le (at + 1) size (4096 / size) size (omega (arith, many)) (omega arith) in
          let whole = div-add-mod' 4096 size in
          let next : (at + 1) * size ≡ size * at + size = omega arith in
          by size fits whole next)
      | inr none ↦ (let first : at ≡ 0 = omega (arith, inside, none) in let nothing : size * at ≡ 0 = ap (λ n. size * n) first ∙ omega arith in omega (arith, nothing))
    ]
  where
    by : (size : ℕ) → (at + 1) * size ≤ 4096 / size * size → 4096 / size * size + 4096 % size ≡ 4096 → (at + 1) * size ≡ size * at + size → size * at + size ≤ 4096 * need size
    by zero fits whole next = omega (arith, next)
    by (suc n) fits whole next = omega (arith, fits, whole, next)

same_place : (size a b at : ℕ) → size * a ≤ at → at < size * b + size → a ≤ b
same_place size a b at low high =
    elim (cases_lt b a) [
      | inl less ↦ (let more = mul-le size (b + 1) size a (omega arith) (omega (arith, less)) in let next : size * (b + 1) ≡ size * b + size = omega arith in absurd (omega (arith, more, next, low, high)))
      | inr enough ↦ enough
    ]

module _ (slabs : ℕ) (c : Cells) (sound : SoundCells slabs c) (at : ℕ) where
  abbrev per : ℕ
  per = cells_per_run c.size

  abbrev run_number : ℕ → ℕ
  run_number number = (number - 1) / per

  abbrev run_first : ℕ → ℕ
  run_first number = slice_index c.runs (run_number number)

  abbrev Has : ℕ → Type 0
  Has number = (cell_address c number ≤ at) × (at < cell_address c number + c.size)

  in_place : (number : ℕ) → (number - 1) % per < per
  in_place number = mod_below (number - 1) per (some_per_run c.size)

  slab_in_run : (number : ℕ) → Has number → in_slabs (run_first number) (need c.size) (slab_of at) ≡ 1
  slab_in_run number has =
      let ends = cell_ends c.size ((number - 1) % per) (in_place number) in
      omega (arith, ends, has.0, has.1)

  in_some_run : (number : ℕ) → 1 ≤ number → number ≤ made_in c → Has number → 1 ≤ cells_slabs (slab_of at) c
  in_some_run number least most has =
      let one = one_of (λ first. in_slabs first (need c.size) (slab_of at)) c.runs (run_number number) 0 (run_of slabs c sound number least most) in
      omega (arith, one, slab_in_run number has)

  module _ (once : cells_slabs (slab_of at) c ≤ 1) where
    no_earlier : (m n : ℕ) → 1 ≤ m → m ≤ made_in c → 1 ≤ n → n ≤ made_in c → Has m → Has n → run_number n ≤ run_number m
    no_earlier m n m_least m_most n_least n_most m_has n_has =
        elim (cases_lt (run_number m) (run_number n)) [
          | inl less ↦ (let both = two_of (λ first. in_slabs first (need c.size) (slab_of at)) c.runs (run_number m) (run_number n) 0 less (run_of slabs c sound n n_least n_most) in
              absurd (omega (arith, both, once, slab_in_run m m_has, slab_in_run n n_has)))
          | inr enough ↦ enough
        ]

    pub one_cell : (m n : ℕ) → 1 ≤ m → m ≤ made_in c → 1 ≤ n → n ≤ made_in c → Has m → Has n → m ≡ n
    one_cell m n m_least m_most n_least n_most m_has n_has =
        let run : run_number m ≡ run_number n = omega (arith, no_earlier m n m_least m_most n_least n_most m_has n_has, no_earlier n m n_least n_most m_least m_most n_has m_has) in
        let first : run_first m ≡ run_first n = ap (slice_index c.runs) run in
        let back = at - slab_address (run_first m) in
        let up = same_place c.size ((m - 1) % per) ((n - 1) % per) back (omega (arith, m_has.0)) (omega (arith, first, n_has.0, n_has.1)) in
        let down = same_place c.size ((n - 1) % per) ((m - 1) % per) back (omega (arith, first, n_has.0)) (omega (arith, m_has.0, m_has.1)) in
        omega (arith, up, down, ap (λ k. k * per) run, div-add-mod' (m - 1) per, div-add-mod' (n - 1) per, m_least, n_least)

    none_later : (m : ℕ) → 1 ≤ m → m ≤ made_in c → Has m → (number : ℕ) (cells : List (Option (List ℕ))) → m < number → number + length cells ≤ made_in c + 1 → AllByRecursion (Whole c.size) cells
        → total (occupies at) (live_from c number cells) ≡ 0
    none_later m least most has number [] order inside whole = refl
    none_later m least most has number (None ∷ cells) order inside whole = none_later m least most has (suc number) cells (omega (arith, order)) (omega (arith, inside)) whole.1
    none_later m least most has number (Some bytes ∷ cells) order inside whole =
        let rest = none_later m least most has (suc number) cells (omega (arith, order)) (omega (arith, inside)) whole.1 in
        elim (cases_lt 0 (occupies at (object_of (cell_address c number) bytes))) [
          | inl some ↦ (let same = one_cell m number least most (omega (arith, order)) (omega (arith, inside)) has (omega (arith, some), omega (arith, some, whole.0)) in absurd (omega (arith, same, order)))
          | inr none ↦ omega (arith, rest, none)
        ]

    live_once : (number : ℕ) (cells : List (Option (List ℕ))) → 1 ≤ number → number + length cells ≤ made_in c + 1 → AllByRecursion (Whole c.size) cells
        → total (occupies at) (live_from c number cells) ≤ cells_slabs (slab_of at) c
    live_once number [] least inside whole = omega arith
    live_once number (None ∷ cells) least inside whole = live_once (suc number) cells (omega arith) (omega (arith, inside)) whole.1
    live_once number (Some bytes ∷ cells) least inside whole =
        elim (cases_lt 0 (occupies at (object_of (cell_address c number) bytes))) [
          | inl some ↦ (let has : Has number = (omega (arith, some), omega (arith, some, whole.0)) in
              let most : number ≤ made_in c = omega (arith, inside) in
              let rest = none_later number least most has (suc number) cells (omega arith) (omega (arith, inside)) whole.1 in
              omega (arith, rest, in_some_run number least most has))
          | inr none ↦ (let rest = live_once (suc number) cells (omega arith) (omega (arith, inside)) whole.1 in omega (arith, rest, none))
        ]

    cells_once : total (occupies at) (live_cells c) ≤ cells_slabs (slab_of at) c
    cells_once = live_once 1 c.cells (omega arith) (omega arith) sound.whole

-- ---- the bytes of pools

large_once : (at : ℕ) (large : List Large) → total (occupies at) (map large_object large) ≤ total (large_slabs (slab_of at)) large
large_once at [] = omega arith
large_once at (l ∷ large) =
    let rest = large_once at large in
    elim (cases_lt 0 (occupies at (large_object l))) [
      | inl some ↦ (let there : in_slabs l.first (need (length l.bytes)) (slab_of at) ≡ 1 = omega (arith, some) in omega (arith, rest, there))
      | inr none ↦ omega (arith, rest, none)
    ]

pool_once : (slabs at : ℕ) (pool : Pool) → SoundPool slabs pool → pool_slabs (slab_of at) pool ≤ 1 → total (occupies at) (objects_in pool) ≤ pool_slabs (slab_of at) pool
pool_once slabs at pool sound once =
    let cells = total_parts live_cells (occupies at) (cells_slabs (slab_of at)) (SoundCells slabs) (λ c one few. cells_once slabs c one at few) pool.classes sound.classes (omega (arith, once)) in
    omega (arith, cells, large_once at pool.large, total_append (occupies at) (flat_map live_cells pool.classes) (map large_object pool.large))

some_once : (slabs at : ℕ) (found : Option Pool) → SomeSound slabs found → some_slabs (slab_of at) found ≤ 1 → total (occupies at) (objects_of found) ≤ some_slabs (slab_of at) found
some_once slabs at None sound once = omega arith
some_once slabs at (Some pool) sound once = pool_once slabs at pool sound once

-- each byte is in one live object at most
pub bytes_once : (slabs : ℕ) (p : Pools) (sizes : List ℕ) → HavePlaced slabs p sizes → (at : ℕ) → total (occupies at) (objects p) ≤ 1
bytes_once slabs p sizes placing at =
    let once = slabs_once slabs p sizes placing (slab_of at) in
    let sound = all_sound slabs p sizes placing in
    omega (arith, once, total_parts objects_of (occupies at) (some_slabs (slab_of at)) (SomeSound slabs) (some_once slabs at) p.pools sound.all once)

-- ---- where objects lie

-- a live cell by its number
pub record IsCell (c : Cells) (o : Object) : Type 0 where
  pub number : ℕ
  pub least : 1 ≤ number
  pub most : number ≤ made_in c
  pub start : cell_address c number ≡ o.start
  pub live : slice_index_or c.cells (number - 1) None ≡ Some o.bytes
  pub long : length o.bytes ≡ c.size

live_number : (c : Cells) (o : Object) (number : ℕ) (cells : List (Option (List ℕ))) → AllByRecursion (Whole c.size) cells → IsIn o (live_from c number cells)
    → (i : ℕ) × (i < length cells) × (cell_address c (number + i) ≡ o.start) × (slice_index_or cells i None ≡ Some o.bytes) × (length o.bytes ≡ c.size)
live_number c o number [] whole is = absurd is
live_number c o number (None ∷ cells) whole is =
    let found = live_number c o (suc number) cells whole.1 is in
    let same : number + suc found.0 ≡ suc number + found.0 = omega arith in
    (suc found.0, omega (arith, found.1), ap (cell_address c) same ∙ found.2, found.3, found.4)
live_number c o number (Some bytes ∷ cells) whole (inl e) =
    let same : number + 0 ≡ number = omega arith in
    (0, omega arith, ap (cell_address c) same ∙ sym (ap (λ (x : Object). x.start) e), sym (ap (λ (x : Object). Some x.bytes) e), ap (λ (x : Object). length x.bytes) e ∙ whole.0)
live_number c o number (Some bytes ∷ cells) whole (inr is) =
    let found = live_number c o (suc number) cells whole.1 is in
    let same : number + suc found.0 ≡ suc number + found.0 = omega arith in
    (suc found.0, omega (arith, found.1), ap (cell_address c) same ∙ found.2, found.3, found.4)

pub cell_is : (slabs : ℕ) (c : Cells) (o : Object) → SoundCells slabs c → IsIn o (live_cells c) → IsCell c o
cell_is slabs c o sound is =
    let found = live_number c o 1 c.cells sound.whole is in
    let back : 1 + found.0 - 1 ≡ found.0 = omega arith in
    record {
      number = 1 + found.0;
      least = omega arith;
      most = omega (arith, found.1);
      start = found.2;
      live = ap (λ n. slice_index_or c.cells n None) back ∙ found.3;
      long = found.4;
    }

pub in_flat : {X A : Type 0} (g : X → List A) (a : A) (xs : List X) → IsIn a (flat_map g xs) → (x : X) × IsIn x xs × IsIn a (g x)
in_flat g a [] is = absurd is
in_flat g a (x ∷ xs) is = elim (in_either a (g x) (flat_map g xs) is) [ inl left ↦ (x, inl refl, left) | inr right ↦ (let found = in_flat g a xs right in (found.0, inr found.1, found.2)) ]

pub in_map : {X A : Type 0} (g : X → A) (a : A) (xs : List X) → IsIn a (map g xs) → (x : X) × IsIn x xs × (a ≡ g x)
in_map g a [] is = absurd is
in_map g a (x ∷ xs) (inl e) = (x, inl refl, e)
in_map g a (x ∷ xs) (inr is) = let found = in_map g a xs is in (found.0, inr found.1, found.2)

pub one_in : {X : Type 0} (P : X → Type 0) (x : X) (xs : List X) → AllByRecursion P xs → IsIn x xs → P x
one_in P x [] all is = absurd is
one_in P x (y ∷ xs) all (inl e) = subst P (sym e) all.0
one_in P x (y ∷ xs) all (inr is) = one_in P x xs all.1 is

abbrev pub LiesWithin : ℕ → Object → Type 0
LiesWithin slabs o = (2 ^ 44 ≤ o.start) × (o.start + length o.bytes ≤ 2 ^ 44 + 4096 * slabs)

run_within : (slabs size : ℕ) (runs : List ℕ) (i : ℕ) → i < length runs → AllByRecursion (λ first. first + need size ≤ slabs) runs → slice_index runs i + need size ≤ slabs
run_within slabs size [] i inside all = absurd (omega (arith, inside))
run_within slabs size (first ∷ runs) zero inside all = all.0
run_within slabs size (first ∷ runs) (suc i) inside all = run_within slabs size runs i (omega (arith, inside)) all.1

cell_within : (slabs : ℕ) (c : Cells) (o : Object) → SoundCells slabs c → IsCell c o → LiesWithin slabs o
cell_within slabs c o sound is =
    let per = cells_per_run c.size in
    let ends = cell_ends c.size ((is.number - 1) % per) (mod_below (is.number - 1) per (some_per_run c.size)) in
    let run = run_within slabs c.size c.runs ((is.number - 1) / per) (run_of slabs c sound is.number is.least is.most) sound.inside in
    (omega (arith, is.start), omega (arith, is.start, is.long, ends, run))

large_within : (slabs : ℕ) (l : Large) → SoundLarge slabs l → LiesWithin slabs (large_object l)
large_within slabs l sound = (omega arith, omega (arith, sound.1))

pool_within : (slabs : ℕ) (pool : Pool) (o : Object) → SoundPool slabs pool → IsIn o (objects_in pool) → LiesWithin slabs o
pool_within slabs pool o sound is = by (in_either o (flat_map live_cells pool.classes) (map large_object pool.large) is)
  where
    by : IsIn o (flat_map live_cells pool.classes) ⊎ IsIn o (map large_object pool.large) → LiesWithin slabs o
    by (inl left) =
        let found = in_flat live_cells o pool.classes left in let one = one_in (SoundCells slabs) found.0 pool.classes sound.classes found.1 in
        cell_within slabs found.0 o one (cell_is slabs found.0 o one found.2)
    by (inr right) =
        let found = in_map large_object o pool.large right in
        subst (LiesWithin slabs) (sym found.2) (large_within slabs found.0 (one_in (SoundLarge slabs) found.0 pool.large sound.large found.1))

some_within : (slabs : ℕ) (found : Option Pool) (o : Object) → SomeSound slabs found → IsIn o (objects_of found) → LiesWithin slabs o
some_within slabs None o sound is = absurd is
some_within slabs (Some pool) o sound is = pool_within slabs pool o sound is

pub lies_within : (slabs : ℕ) (p : Pools) (o : Object) → SoundPools slabs p → IsIn o (objects p) → LiesWithin slabs o
lies_within slabs p o sound is =
    let found = in_flat objects_of o p.pools is in some_within slabs found.0 o (one_in (SomeSound slabs) found.0 p.pools sound.all found.1) found.2

-- ---- no object is empty

some_sizes : (kind : PoolKind) → IsKind kind → AllByRecursion (λ n. 1 ≤ n) (sizes_of (classes_of kind))
some_sizes (Homogeneous source cell indexed) is = (omega (arith, is.2), tt)
some_sizes Mixed is = (omega arith, (omega arith, (omega arith, (omega arith, (omega arith, (omega arith, (omega arith, (omega arith, tt))))))))

size_some : (classes : List Cells) (c : Cells) → AllByRecursion (λ n. 1 ≤ n) (sizes_of classes) → IsIn c classes → 1 ≤ c.size
size_some [] c all is = absurd is
size_some (x ∷ classes) c all (inl e) = omega (arith, all.0, ap (λ (y : Cells). y.size) e)
size_some (x ∷ classes) c all (inr is) = size_some classes c all.1 is

pool_some : (slabs : ℕ) (pool : Pool) (o : Object) → SoundPool slabs pool → IsKind pool.kind → IsIn o (objects_in pool) → 1 ≤ length o.bytes
pool_some slabs pool o sound kind is = by (in_either o (flat_map live_cells pool.classes) (map large_object pool.large) is)
  where
    by : IsIn o (flat_map live_cells pool.classes) ⊎ IsIn o (map large_object pool.large) → 1 ≤ length o.bytes
    by (inl left) =
        let found = in_flat live_cells o pool.classes left in let one = one_in (SoundCells slabs) found.0 pool.classes sound.classes found.1 in
        let size = size_some pool.classes found.0 (subst (AllByRecursion (λ n. 1 ≤ n)) (sym sound.sizes) (some_sizes pool.kind kind)) found.1 in
        omega (arith, size, (cell_is slabs found.0 o one found.2).long)
    by (inr right) =
        let found = in_map large_object o pool.large right in
        omega (arith, (one_in (SoundLarge slabs) found.0 pool.large sound.large found.1).0, ap (λ (x : Object). length x.bytes) found.2)

some_some : (slabs : ℕ) (found : Option Pool) (o : Object) → SomeSound slabs found → OfKind found → IsIn o (objects_of found) → 1 ≤ length o.bytes
some_some slabs None o sound kind is = absurd is
some_some slabs (Some pool) o sound kind is = pool_some slabs pool o sound kind is

pub some_bytes : (slabs : ℕ) (p : Pools) (o : Object) → SoundPools slabs p → AllByRecursion OfKind p.pools → IsIn o (objects p) → 1 ≤ length o.bytes
some_bytes slabs p o sound kinds is =
    let found = in_flat objects_of o p.pools is in
    some_some slabs found.0 o (one_in (SomeSound slabs) found.0 p.pools sound.all found.1) (one_in OfKind found.0 p.pools kinds found.1) found.2
