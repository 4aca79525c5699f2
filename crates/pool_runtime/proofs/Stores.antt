-- A word is written into one live cell or object, and all else stays.
use Rattle.std.proofs.Common.{◌≡◌, ℕ, zero, suc, ◌+◌, ◌-◌, ◌*◌, ◌^◌, ◌≤◌, Bool, true, false, List, [], ◌∷◌, ◌++◌, Option, Some, None, length, map, refl, sym, ap, subst, ◌∙◌, inl, inr, ◌⊎◌, arith}
use Rattle.std.specs.Prelude.{if◌then◌else◌, slice_get, slice_index_or}
use Rattle.std.specs.List.{AllByRecursion}
use Rattle.std.proofs.lemmas.Bool.{false_from_ne_true}
use Rattle.std.proofs.lemmas.Option.{same_Some}
use Rattle.run_theory.specs.Words.{with_word}
use Rattle.raw_slab.proofs.WordsWritten.{length-with_word}
use Rattle.slab_space.specs.Pool.{Object, live_cells, large_object}
use Rattle.slab_space.specs.Pool as seen
use Rattle.slab_space.specs.PoolSteps.{covers, written, written_from, written_cells, written_large, written_in}
use Rattle.pool_runtime.specs.declared.cells.Cells.{Cells}
use Rattle.pool_runtime.specs.declared.pool.Pool.{Pool}
use Rattle.pool_runtime.specs.declared.slabs.Home.{Home}
use Rattle.pool_runtime.specs.declared.slabs.Slabs.{Slabs}
use Rattle.pool_runtime.specs.Bytes.{range, SameAt, Apart}
use Rattle.pool_runtime.specs.Seen.{place, cell_seen, cells_seen, freed_seen, class_seen, large_seen, pool_seen}
use Rattle.pool_runtime.specs.Tables.{IsSpace, AllDead, EachOnce, IsDead, IsCells, IsAtHome, IsLarge, IsPool}
use Rattle.pool_runtime.proofs.Ranges.{length-range, range-same, range-written, same_below_word, same_above_word}
use Rattle.pool_runtime.proofs.CellsSeen.{length-cells_seen, threaded_same, all_among, somes, length-live_from}
use Rattle.pool_runtime.proofs.Apart.{held_apart}
use Rattle.pool_runtime.proofs.Sums.{lives_of, fits, live_is, slabs_is, sum_same}
use Rattle.pool_runtime.proofs.Fresh.{all_at}
use Rattle.pool_runtime.proofs.Parts.{same_cells, same_pool}
use Rattle.pool_runtime.proofs.Objects.{object_of, address_is}
use Rattle.pool_runtime.proofs.Loads.{covers_from, covers_to, class_cell_inside, large_inside}

-- ---- lists of cells

abbrev written_one : ℕ → ℕ → ℕ → seen.Cells → ℕ → Option (List ℕ) → Option (List ℕ)
written_one address width word c number None = None
written_one address width word c number (Some bytes) = Some (written address width word (object_of c number bytes))

written_push : (address width word : ℕ) (c : seen.Cells) (number : ℕ) (xs : List (Option (List ℕ))) (x : Option (List ℕ))
    → written_from address width word c number (xs ++ x ∷ []) ≡ written_from address width word c number xs ++ written_one address width word c (number + length xs) x ∷ []
written_push address width word c number [] None = refl
written_push address width word c number [] (Some b) =
    let e : number ≡ number + 0 = omega arith in ap (λ n. Some (written address width word (object_of c n b)) ∷ []) e
written_push address width word c number (None ∷ xs) x =
    let e : suc number + length xs ≡ number + suc (length xs) = omega arith in
    ap (λ (ys : List (Option (List ℕ))). None ∷ ys) (written_push address width word c (suc number) xs x ∙ ap (λ n. written_from address width word c (suc number) xs ++ written_one address width word c n x ∷ []) e)
written_push address width word c number (Some b ∷ xs) x =
    let e : suc number + length xs ≡ number + suc (length xs) = omega arith in
    ap (λ (ys : List (Option (List ℕ))). Some (written address width word (object_of c number b)) ∷ ys) (written_push address width word c (suc number) xs x ∙ ap (λ n. written_from address width word c (suc number) xs ++ written_one address width word c n x ∷ []) e)

somes_written : (address width word : ℕ) (c : seen.Cells) (number : ℕ) (xs : List (Option (List ℕ))) → somes (written_from address width word c number xs) ≡ somes xs
somes_written address width word c number [] = refl
somes_written address width word c number (None ∷ xs) = somes_written address width word c (suc number) xs
somes_written address width word c number (Some b ∷ xs) = ap (λ n. 1 + n) (somes_written address width word c (suc number) xs)

-- ---- one range

module _ (bytes : List ℕ) (at width word : ℕ) (some : 1 ≤ width) (inside : at + width ≤ length bytes) where
  abbrev after : List ℕ
  after = with_word bytes at width word

  abbrev pub IsAside : ℕ → ℕ → Type 0
  IsAside from count = Apart from count at width

  abbrev pub IsAround : ℕ → ℕ → Type 0
  IsAround from count = (from ≤ at) × (at + width ≤ from + count)

  pub aside_same : (from count : ℕ) → IsAside from count → SameAt bytes (with_word bytes at width word) from count
  aside_same from count aside = elim aside [
    | inl before ↦ same_below_word bytes at width word inside from count before
    | inr behind ↦ same_above_word bytes at width word inside from count behind
  ]

  long : length (with_word bytes at width word) ≡ length bytes
  long = length-with_word bytes at width word inside

  -- an object's bytes
  pub object_written : (from count : ℕ) (o : Object) → o.start ≡ 2 ^ 44 + from → o.bytes ≡ range bytes from count → from + count ≤ length bytes → IsAside from count ⊎ IsAround from count
      → range (with_word bytes at width word) from count ≡ written (2 ^ 44 + at) width word o
  object_written from count o start is fit (inl aside) =
      let size = ap length is ∙ length-range bytes from count fit in
      let none : covers (2 ^ 44 + at) width o ≡ false = false_from_ne_true (covers (2 ^ 44 + at) width o) (λ e.
      let in_it = covers_to (2 ^ 44 + at) width o e in elim aside [
        | inl before ↦ absurd (omega (arith, in_it.0, in_it.1, start, size, some))
        | inr behind ↦ absurd (omega (arith, in_it.0, in_it.1, start, size, some))
      ]) in
      range-same bytes (with_word bytes at width word) from count fit long (aside_same from count aside)
      ∙ sym (ap (λ (b : Bool). if b then with_word o.bytes (2 ^ 44 + at - o.start) width word else o.bytes) none ∙ is)
  object_written from count o start is fit (inr around) =
      let size = ap length is ∙ length-range bytes from count fit in
      let all : covers (2 ^ 44 + at) width o ≡ true = covers_from (2 ^ 44 + at) width o (omega (arith, start, around.0)) (omega (arith, start, around.1, size)) in
      let there : from + (at - from) ≡ at = omega (arith, around.0) in
      let off : 2 ^ 44 + at - o.start ≡ at - from = omega (arith, start, around.0) in
      ap (λ p. range (with_word bytes p width word) from count) (sym there) ∙ range-written bytes from count fit (at - from) width word (omega (arith, around.0, around.1))
      ∙ sym (ap (λ (b : Bool). if b then with_word o.bytes (2 ^ 44 + at - o.start) width word else o.bytes) all ∙ ap (λ k. with_word o.bytes k width word) off ∙ ap (λ (bs : List ℕ). with_word bs (at - from) width word) is)

  -- ---- one class

  module _ (c : Cells) (fit : (n : ℕ) → 1 ≤ n → n ≤ c.made → place c n + c.size ≤ length bytes)
      (where_it_is : (n : ℕ) → 1 ≤ n → n ≤ c.made → IsAside (place c n) c.size ⊎ (IsAround (place c n) c.size × (slice_index_or c.live.items (n - 1) false ≡ true))) where
    weaker : (n : ℕ) → 1 ≤ n → n ≤ c.made → IsAside (place c n) c.size ⊎ IsAround (place c n) c.size
    weaker n one made = elim (where_it_is n one made) [ inl aside ↦ inl aside | inr around ↦ inr around.0 ]

    cell_by : (n : ℕ) (b : Bool) → 1 ≤ n → n ≤ c.made
        → (if b then Some (range (with_word bytes at width word) (place c n) c.size) else None) ≡ written_one (2 ^ 44 + at) width word (class_seen bytes c) n (if b then Some (range bytes (place c n) c.size) else None)
    cell_by n false one made = refl
    cell_by n true one made = ap Some (object_written (place c n) c.size (object_of (class_seen bytes c) n (range bytes (place c n) c.size)) (address_is bytes c n) refl (fit n one made) (weaker n one made))

    cells_written : (made : ℕ) → made ≤ c.made → cells_seen (with_word bytes at width word) c made ≡ written_from (2 ^ 44 + at) width word (class_seen bytes c) 1 (cells_seen bytes c made)
    cells_written zero low = refl
    cells_written (suc made) low =
        let n : 1 + length (cells_seen bytes c made) ≡ suc made = omega (arith, length-cells_seen bytes c made) in
        let W = with_word bytes at width word in
        ap (λ (xs : List (Option (List ℕ))). xs ++ cell_seen W c (suc made) ∷ []) (cells_written made (omega arith))
        ∙ ap (λ (x : Option (List ℕ)). written_from (2 ^ 44 + at) width word (class_seen bytes c) 1 (cells_seen bytes c made) ++ x ∷ []) (cell_by (suc made) (slice_index_or c.live.items (suc made - 1) false) (omega arith) low)
        ∙ ap (λ k. written_from (2 ^ 44 + at) width word (class_seen bytes c) 1 (cells_seen bytes c made) ++ written_one (2 ^ 44 + at) width word (class_seen bytes c) k (cell_seen bytes c (suc made)) ∷ []) (sym n)
        ∙ sym (written_push (2 ^ 44 + at) width word (class_seen bytes c) 1 (cells_seen bytes c made) (cell_seen bytes c (suc made)))

    module _ (table : IsCells bytes c) where
      dead_same : (n : ℕ) → IsDead c n → (place c n ≡ place c n) × SameAt bytes (with_word bytes at width word) (place c n) 4
      dead_same n dead = elim (where_it_is n dead.some dead.made) [
        | inl aside ↦ (refl, λ k low high. aside_same (place c n) c.size aside k low (omega (arith, high, table.least)))
        | inr around ↦ (let both : true ≡ false = sym around.1 ∙ dead.dead in absurd cc)
      ]

      freed_written : freed_seen (with_word bytes at width word) c ≡ freed_seen bytes c
      freed_written = threaded_same bytes (with_word bytes at width word) c c c.freed c.last_freed (all_among (freed_seen bytes c) dead_same table.dead)

      pub class_written : class_seen (with_word bytes at width word) c ≡ written_cells (2 ^ 44 + at) width word (class_seen bytes c)
      class_written = same_cells refl refl (cells_written c.made (omega arith)) freed_written

      pub class_lives : length (live_cells (class_seen (with_word bytes at width word) c)) ≡ length (live_cells (class_seen bytes c))
      class_lives =
          let W = with_word bytes at width word in
          length-live_from (class_seen W c) 1 (cells_seen W c c.made) ∙ ap somes (cells_written c.made (omega arith)) ∙ somes_written (2 ^ 44 + at) width word (class_seen bytes c) 1 (cells_seen bytes c c.made)
          ∙ sym (length-live_from (class_seen bytes c) 1 (cells_seen bytes c c.made))

      pub table_written : IsCells (with_word bytes at width word) c
      table_written = record {
        least = table.least;
        most = table.most;
        room = table.room;
        few = table.few;
        made = table.made;
        dead = subst (AllDead c) (sym freed_written) table.dead;
        once = subst EachOnce (sym freed_written) table.once;
        counted = ap (λ n. n + c.freed) class_lives ∙ table.counted;
      }

-- ---- a pool

map_two : {X Y Z : Type 0} (f : X → Z) (g : X → Y) (h : Y → Z) (xs : List X) → ((k : ℕ) (x : X) → slice_get xs k ≡ Some x → f x ≡ h (g x)) → map f xs ≡ map h (map g xs)
map_two f g h [] same = refl
map_two f g h (x ∷ xs) same = rw (same 0 x refl, map_two f g h xs (λ k y at. same (suc k) y at)) refl

pub all_by_place : {X : Type 0} (P : X → Type 0) (xs : List X) → ((k : ℕ) (x : X) → slice_get xs k ≡ Some x → P x) → AllByRecursion P xs
all_by_place P [] each = tt
all_by_place P (x ∷ xs) each = (each 0 x refl, all_by_place P xs (λ k y at. each (suc k) y at))

abbrev pub with_bytes : Slabs → List ℕ → Slabs
with_bytes slabs bytes = record slabs { space = record slabs.space { bytes = bytes } }

abbrev large_with : ℕ → List ℕ → seen.Large
large_with first bytes = record { first = first; bytes = bytes }

module _ (slabs : Slabs) (space : IsSpace slabs.space) (at width word : ℕ) (some : 1 ≤ width) (inside : at + width ≤ length slabs.space.bytes) (id : ℕ) (pool : Pool) (is : IsPool slabs id pool)
    (cells_lie : (k n : ℕ) (c : Cells) → slice_get pool.classes.items k ≡ Some c → 1 ≤ n → n ≤ c.made → Apart (place c n) c.size at width ⊎ (((place c n ≤ at) × (at + width ≤ place c n + c.size)) × (slice_index_or c.live.items (n - 1) false ≡ true)))
    (larges_lie : (i : ℕ) (e : ℕ × ℕ) → slice_get pool.large.entries i ≡ Some e → Apart (4096 * e.0) e.1 at width ⊎ ((4096 * e.0 ≤ at) × (at + width ≤ 4096 * e.0 + e.1))) where
  fits_in : (k : ℕ) (c : Cells) → slice_get pool.classes.items k ≡ Some c → (n : ℕ) → 1 ≤ n → n ≤ c.made → place c n + c.size ≤ length slabs.space.bytes
  fits_in k c there n one made = class_cell_inside slabs space id k c (is.classes k c there) n one made

  large_fits : (i : ℕ) (e : ℕ × ℕ) → slice_get pool.large.entries i ≡ Some e → fits slabs.space.bytes e
  large_fits i e there = large_inside slabs space id e (all_at (IsLarge slabs id) pool.large.entries i e is.large there)

  one_large : (i : ℕ) (e : ℕ × ℕ) → slice_get pool.large.entries i ≡ Some e → large_seen (with_word slabs.space.bytes at width word) e ≡ written_large (2 ^ 44 + at) width word (large_seen slabs.space.bytes e)
  one_large i e there =
      ap (large_with e.0) (object_written slabs.space.bytes at width word some inside (4096 * e.0) e.1 (large_object (large_seen slabs.space.bytes e)) refl refl (large_fits i e there) (larges_lie i e there))

  pub pool_written : pool_seen (with_word slabs.space.bytes at width word) pool ≡ written_in (2 ^ 44 + at) width word (pool_seen slabs.space.bytes pool)
  pool_written =
      let old = slabs.space.bytes in let new = with_word slabs.space.bytes at width word in
      same_pool refl
      (map_two (class_seen new) (class_seen old) (written_cells (2 ^ 44 + at) width word) pool.classes.items (λ k c there. class_written old at width word some inside c (fits_in k c there) (λ n one made. cells_lie k n c there one made) (is.classes k c there).cells))
      (map_two (large_seen new) (large_seen old) (written_large (2 ^ 44 + at) width word) pool.large.entries one_large)
      refl

  pub is_pool_written : IsPool (with_bytes slabs (with_word slabs.space.bytes at width word)) id pool
  is_pool_written =
      let old = slabs.space.bytes in let new = with_word slabs.space.bytes at width word in
      let size = length-with_word old at width word inside in
      let lives = sum_same (lives_of new) (lives_of old) pool.classes.items (λ k c there. class_lives old at width word some inside c (fits_in k c there) (λ n one made. cells_lie k n c there one made) (is.classes k c there).cells) in
      let fit = all_by_place (fits old) pool.large.entries large_fits in
      let fit' = all_by_place (fits new) pool.large.entries (λ i e there. let f = large_fits i e there in omega (arith, size, f)) in
      record {
        kind = is.kind;
        sizes = is.sizes;
        classes = λ k c there. record {
          cells = table_written old at width word some inside c (fits_in k c there) (λ n one made. cells_lie k n c there one made) (is.classes k c there).cells;
          runs = λ j in_runs. let home = (is.classes k c there).runs j in_runs in record { run = home.run; noted = home.noted };
        };
        ordered = is.ordered;
        large = all_by_place (IsLarge (with_bytes slabs new) id) pool.large.entries (λ i e there. let large = all_at (IsLarge slabs id) pool.large.entries i e is.large there in record { some = large.some; run = record { run = large.run.run; noted = large.run.noted } });
        live = omega (arith, is.live, live_is old pool, live_is new pool, lives);
        slabs = omega (arith, is.slabs, slabs_is old pool fit, slabs_is new pool fit');
      }

-- ---- what lies in other runs

module _ (slabs : Slabs) (f0 n0 : ℕ) (h0 : Home) (home0 : IsAtHome slabs f0 n0 h0) (at width : ℕ) (low : 4096 * f0 ≤ at) (high : at + width ≤ 4096 * (f0 + n0)) where
  pub aside_run : (f n : ℕ) (h : Home) → IsAtHome slabs f n h → ¬ (f ≡ f0) → (from count : ℕ) → 4096 * f ≤ from → from + count ≤ 4096 * (f + n) → Apart from count at width
  aside_run f n h home differ from count under over = elim (held_apart slabs.space.owners f n home.run f0 n0 home0.run differ) [
    | inl before ↦ inl (omega arith)
    | inr behind ↦ inr (omega arith)
  ]

  pub same_home : (f n : ℕ) (h : Home) → IsAtHome slabs f n h → f ≡ f0 → h ≡ h0
  same_home f n h home e = same_Some h h0 (sym home.noted ∙ ap (λ k. slice_get slabs.homes.items k) e ∙ home0.noted)
