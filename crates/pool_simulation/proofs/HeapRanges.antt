-- Ranges in live cells and objects: bytes written there, and where they are read.
use Rattle.std.proofs.Common.{◌≡◌, ℕ, zero, suc, ◌+◌, ◌-◌, ◌*◌, ◌%◌, ◌^◌, ◌≤◌, ◌⊎◌, Bool, true, false, cond, List, [], ◌∷◌, Option, Some, None, length, map, find, refl, sym, ap, subst, ◌∙◌, inl, inr, arith}
use Rattle.std.specs.Prelude.{◌==◌, nat_le, nat_lt, ◌&&◌, is_some, slice_get, slice_index_or, option_map, if◌then◌else◌}
use Rattle.std.specs.List.{AllByRecursion}
use Rattle.std.proofs.lemmas.List.{length-map}
use Rattle.run_theory.specs.Words.{word_at, with_word}
use Rattle.slab_space.specs.declared.kind.PoolKind.{PoolKind}
use Rattle.slab_space.specs.declared.kind.PoolKind.TheVariants.{Homogeneous, Mixed}
use Rattle.slab_space.specs.Pool.{Cells, Pool, Object, objects_in, cell_address, made_in, number_at, numbered, address_in, number_in}
use Rattle.slab_space.specs.PoolSteps.{covers, written_cells, written_in}
use Rattle.slab_space.specs.Pools.{Pools, pool_at, objects_of, objects, object_at, load_step, cells_of, address_of, index_of, kind_of}
use Rattle.slab_space.proofs.Peaks.{either}
use Rattle.pool_simulation.specs.Regions.{AreApart, IsIn, LivesIn, OfKind}
use Rattle.pool_simulation.proofs.WrittenBytes.{word_reads, word_apart}
use Rattle.pool_simulation.proofs.Inserted.{found_in}
use Rattle.pool_simulation.proofs.LiveCells.{all_mapped, covers_is, long_written, written_object, made_written}
use Rattle.pool_simulation.proofs.SoundPools.{writing, pool_written}
use Rattle.pool_simulation.proofs.PoolObjects.{objects_written, with_written}
use Rattle.pool_simulation.proofs.LiveObjects.{in_map}

-- ---- objects after bytes were written

find_map : {X : Type 0} (test : X → Bool) (g : X → X) → ((x : X) → test (g x) ≡ test x) → (xs : List X) → find test (map g xs) ≡ option_map g (find test xs)
find_map test g same [] = refl
find_map test g same (x ∷ xs) = ap (λ b. cond b (Some (g x)) (find test (map g xs))) (same x) ∙ by (test x) (find_map test g same xs)
  where
    by : (b : Bool) → find test (map g xs) ≡ option_map g (find test xs) → cond b (Some (g x)) (find test (map g xs)) ≡ option_map g (cond b (Some x) (find test xs))
    by true rest = refl
    by false rest = rest

in_mapped : {X A : Type 0} (g : X → A) (x : X) (xs : List X) → IsIn x xs → IsIn (g x) (map g xs)
in_mapped g x [] is = absurd is
in_mapped g x (y ∷ xs) (inl e) = inl (ap g e)
in_mapped g x (y ∷ xs) (inr is) = inr (in_mapped g x xs is)

-- an object covers a range before and after
covers_still : (address width word other wide : ℕ) (o : Object) → covers other wide (written_object address width word o) ≡ covers other wide o
covers_still address width word other wide o = let long = long_written address width word o in (λ i. nat_le o.start other && nat_le (other + wide) (o.start + long i))

module _ (address width word : ℕ) (p : Pools) where
  pub written_at : (other wide : ℕ) → object_at (with_written address width word p) other wide ≡ option_map (writing address width word) (object_at p other wide)
  written_at other wide =
      ap (find (covers other wide)) (objects_written address width word p.pools)
      ∙ find_map (covers other wide) (writing address width word) (covers_still address width word other wide) (objects p)

  abbrev word_of_object : ℕ → ℕ → Object → ℕ
  word_of_object other wide o = word_at o.bytes (other - o.start) wide

  apart_in : (o : Object) (other wide : ℕ) → AreApart address width other wide → covers other wide o ≡ true → word_of_object other wide (writing address width word o) ≡ word_of_object other wide o
  apart_in o other wide apart there =
      either (λ bs. word_at bs (other - o.start) wide ≡ word_at o.bytes (other - o.start) wide) (covers address width o) (with_word o.bytes (address - o.start) width word) o.bytes
      (λ here. word_apart o.bytes (address - o.start) width word (let both = covers_is address width o here in omega (arith, both.0, both.1)) (other - o.start) wide (moved here apart))
      (λ e. refl)
    where
      moved : covers address width o ≡ true → AreApart address width other wide → (address - o.start + width ≤ other - o.start) ⊎ (other - o.start + wide ≤ address - o.start)
      moved here (inl behind) = let both = covers_is address width o here in inl (omega (arith, both.0, behind))
      moved here (inr before) = let both = covers_is other wide o there in inr (omega (arith, both.0, before))

  reads_in : (o : Object) → covers address width o ≡ true → word_of_object address width (writing address width word o) ≡ word % 2 ^ (8 * width)
  reads_in o here =
      ap (λ b. word_at (if b then with_word o.bytes (address - o.start) width word else o.bytes) (address - o.start) width) here
      ∙ word_reads o.bytes (address - o.start) width word (let both = covers_is address width o here in omega (arith, both.0, both.1))

  -- what is loaded of a range apart stays
  pub written_apart : (other wide : ℕ) → AreApart address width other wide → load_step (with_written address width word p) other wide ≡ load_step p other wide
  written_apart other wide apart = ap (option_map (word_of_object other wide)) (written_at other wide) ∙ by (object_at p other wide) refl
    where
      by : (found : Option Object) → object_at p other wide ≡ found → option_map (word_of_object other wide) (option_map (writing address width word) found) ≡ option_map (word_of_object other wide) found
      by None e = refl
      by (Some o) e = ap Some (apart_in o other wide apart (found_in (covers other wide) o (objects p) e).1)

  some_object : (found : Option Object) → is_some found ≡ true → (o : Object) × (found ≡ Some o)
  some_object None some = absurd cc
  some_object (Some o) some = (o, refl)

  -- what was written is loaded
  pub written_reads : is_some (object_at p address width) ≡ true → load_step (with_written address width word p) address width ≡ Some (word % 2 ^ (8 * width))
  written_reads some =
      let o = some_object (object_at p address width) some in
      ap (option_map (word_of_object address width)) (written_at address width)
      ∙ ap (λ (found : Option Object). option_map (word_of_object address width) (option_map (writing address width word) found)) o.1
      ∙ ap Some (reads_in o.0 (found_in (covers address width) o.0 (objects p) o.1).1)

  -- ---- what else pools tell stays

  some_at : (pools : List (Option Pool)) (i : ℕ) → slice_index_or (map (option_map (written_in address width word)) pools) i None ≡ option_map (written_in address width word) (slice_index_or pools i None)
  some_at [] i = refl
  some_at (found ∷ pools) zero = refl
  some_at (found ∷ pools) (suc i) = some_at pools i

  pub pool_at_written : (id : ℕ) → pool_at (with_written address width word p) id ≡ option_map (written_in address width word) (pool_at p id)
  pool_at_written id =
      let q = with_written address width word p in
      ap (λ (f : Option Pool). if id == 0 then None else f) (some_at p.pools (id - 1)) ∙ by (id == 0)
    where
      by : (b : Bool) → (if b then None else option_map (written_in address width word) (slice_index_or p.pools (id - 1) None)) ≡ option_map (written_in address width word) (if b then None else slice_index_or p.pools (id - 1) None)
      by true = refl
      by false = refl

  first_written : (classes : List Cells) → slice_get (map (written_cells address width word) classes) 0 ≡ option_map (written_cells address width word) (slice_get classes 0)
  first_written [] = refl
  first_written (c ∷ classes) = refl

  numbered_written : (kind : PoolKind) (classes : List Cells) → numbered kind (map (written_cells address width word) classes) ≡ option_map (written_cells address width word) (numbered kind classes)
  numbered_written (Homogeneous source cell indexed) classes = first_written classes
  numbered_written Mixed classes = refl

  cells_written : (found : Option Pool) → cells_of (option_map (written_in address width word) found) ≡ option_map (written_cells address width word) (cells_of found)
  cells_written None = refl
  cells_written (Some pool) = numbered_written pool.kind pool.classes

  address_written : (cells : Option Cells) (number : ℕ) → address_in (option_map (written_cells address width word) cells) number ≡ address_in cells number
  address_written None number = refl
  address_written (Some c) number = ap (λ n. if nat_lt 0 number && nat_le number n then cell_address c number else 0) (made_written address width word c)

  number_same : (c : Cells) (made at : ℕ) → number_at (written_cells address width word c) made at ≡ number_at c made at
  number_same c zero at = refl
  number_same c (suc made) at = ap (λ n. if cell_address c (suc made) == at then suc made else n) (number_same c made at)

  number_written : (cells : Option Cells) (at : ℕ) → number_in (option_map (written_cells address width word) cells) at ≡ number_in cells at
  number_written None at = refl
  number_written (Some c) at = ap (λ n. number_at (written_cells address width word c) n at) (made_written address width word c) ∙ number_same c (made_in c) at

  pub addresses_written : (id number : ℕ) → address_of (with_written address width word p) id number ≡ address_of p id number
  addresses_written id number =
      ap (λ f. address_in (cells_of f) number) (pool_at_written id) ∙ ap (λ c. address_in c number) (cells_written (pool_at p id)) ∙ address_written (cells_of (pool_at p id)) number

  pub indices_written : (id at : ℕ) → index_of (with_written address width word p) id at ≡ index_of p id at
  indices_written id at =
      ap (λ f. number_in (cells_of f) at) (pool_at_written id) ∙ ap (λ c. number_in c at) (cells_written (pool_at p id)) ∙ number_written (cells_of (pool_at p id)) at

  kind_written : (found : Option Pool) → option_map (λ (pool : Pool). pool.kind) (option_map (written_in address width word) found) ≡ option_map (λ (pool : Pool). pool.kind) found
  kind_written None = refl
  kind_written (Some pool) = refl

  pub kinds_written : (id : ℕ) → kind_of (with_written address width word p) id ≡ kind_of p id
  kinds_written id = ap (option_map (λ (pool : Pool). pool.kind)) (pool_at_written id) ∙ kind_written (pool_at p id)

  pub made_same : length (with_written address width word p).pools ≡ length p.pools
  made_same = length-map p.pools (option_map (written_in address width word))

  -- what lives, lives with its new bytes
  some_lives : (o : Object) (found : Option Pool) → IsIn o (objects_of found) → IsIn (writing address width word o) (objects_of (option_map (written_in address width word) found))
  some_lives o None is = is
  some_lives o (Some pool) is = subst (IsIn (writing address width word o)) (sym (pool_written address width word pool)) (in_mapped (writing address width word) o (objects_in pool) is)

  pub written_lives_in : (id : ℕ) (o : Object) → LivesIn p id o → LivesIn (with_written address width word p) id (writing address width word o)
  written_lives_in id o lives = subst (λ f. IsIn (writing address width word o) (objects_of f)) (sym (pool_at_written id)) (some_lives o (pool_at p id) lives)

  some_lived : (o : Object) (found : Option Pool) → IsIn o (objects_of (option_map (written_in address width word) found)) → (x : Object) × IsIn x (objects_of found) × (o ≡ writing address width word x)
  some_lived o None is = absurd is
  some_lived o (Some pool) is = in_map (writing address width word) o (objects_in pool) (subst (IsIn o) (pool_written address width word pool) is)

  pub written_lived_in : (id : ℕ) (o : Object) → LivesIn (with_written address width word p) id o → (x : Object) × LivesIn p id x × (o ≡ writing address width word x)
  written_lived_in id o lives = some_lived o (pool_at p id) (subst (λ f. IsIn o (objects_of f)) (pool_at_written id) lives)

  start_same : (found : Option Object) → option_map (λ (o : Object). o.start) (option_map (writing address width word) found) ≡ option_map (λ (o : Object). o.start) found
  start_same None = refl
  start_same (Some o) = refl

  -- an object that is found begins where it did
  pub written_starts : (other wide : ℕ) → option_map (λ (o : Object). o.start) (object_at (with_written address width word p) other wide) ≡ option_map (λ (o : Object). o.start) (object_at p other wide)
  written_starts other wide = ap (option_map (λ (o : Object). o.start)) (written_at other wide) ∙ start_same (object_at p other wide)

  one_kind : (found : Option Pool) → OfKind found → OfKind (option_map (written_in address width word) found)
  one_kind None is = tt
  one_kind (Some pool) is = is

  pub of_kinds_written : AllByRecursion OfKind p.pools → AllByRecursion OfKind (with_written address width word p).pools
  of_kinds_written kinds = all_mapped OfKind (option_map (written_in address width word)) p.pools one_kind kinds
