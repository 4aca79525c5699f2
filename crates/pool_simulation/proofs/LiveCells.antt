-- What holds of the cells of a pool at any time: each cell made lies in a run, each live one has the bytes of its size, and those to be
-- used again are dead; and what a step makes of the live ones.
use Rattle.std.proofs.Common.{◌≡◌, ℕ, zero, suc, ◌+◌, ◌-◌, ◌*◌, ◌/◌, ◌%◌, ◌<◌, ◌≤◌, Bool, true, false, List, [], ◌∷◌, ◌++◌, Option, Some, None, length, map, refl, sym, ap, subst, ◌∙◌, arith, length-append}
use Rattle.std.specs.Prelude.{⊤, nat_le, is_some, slice_get, slice_set, slice_index, slice_index_or}
use Rattle.std.specs.List.{AllByRecursion}
use Rattle.std.proofs.lemmas.Bool.{leb-true, and_parts}
use Rattle.std.proofs.lemmas.List.{length-replicate, map-set, length-set, get_or_append_left}
use Rattle.std.proofs.lemmas.Nat.{div_below, mul-le}
use Rattle.std.proofs.Math.Nat.{le-max_left}
use Rattle.run_theory.specs.Words.{zeros}
use Rattle.slab_space.specs.Runs.{need}
use Rattle.slab_space.specs.Pool.{Cells, Object, slab_address, no_cells, cells_per_run, cell_address, made_in, live_from, live_cells, with_next, next_number, with_freed}
use Rattle.slab_space.specs.PoolSteps.{covers, written, written_from, written_cells}
use Rattle.run_theory.specs.Words.{with_word}
use Rattle.raw_slab.proofs.WordsWritten.{length-with_word}
use Rattle.slab_space.proofs.Peaks.{either}
use Rattle.pool_simulation.proofs.Inserted.{Inserted, here, there, at_end}

-- ---- lists

module _ {X : Type 0} (P : X → Type 0) where
  pub all_push : (xs : List X) (y : X) → AllByRecursion P xs → P y → AllByRecursion P (xs ++ y ∷ [])
  all_push [] y all one = (one, tt)
  all_push (x ∷ xs) y all one = (all.0, all_push xs y all.1 one)

  pub all_set : (xs : List X) (i : ℕ) (y : X) → AllByRecursion P xs → P y → AllByRecursion P (slice_set xs i y)
  all_set [] i y all one = tt
  all_set (x ∷ xs) zero y all one = (one, all.1)
  all_set (x ∷ xs) (suc i) y all one = (all.0, all_set xs i y all.1 one)

  pub all_or : (xs : List X) (i : ℕ) (d : X) → AllByRecursion P xs → P d → P (slice_index_or xs i d)
  all_or [] i d all one = one
  all_or (x ∷ xs) zero d all one = all.0
  all_or (x ∷ xs) (suc i) d all one = all_or xs i d all.1 one

  pub all_mapped : (f : X → X) (xs : List X) → ((x : X) → P x → P (f x)) → AllByRecursion P xs → AllByRecursion P (map f xs)
  all_mapped f [] each all = tt
  all_mapped f (x ∷ xs) each all = (each x all.0, all_mapped f xs each all.1)

pub length-zeros : (n : ℕ) → length (zeros n) ≡ n
unfolding zeros
length-zeros n = length-replicate {A = ℕ} n 0

get_set : {X : Type 0} (xs : List X) (i : ℕ) (x y : X) → slice_get xs i ≡ Some x → slice_get (slice_set xs i y) i ≡ Some y
get_set [] i x y at = absurd cc
get_set (z ∷ xs) zero x y at = refl
get_set (z ∷ xs) (suc i) x y at = get_set xs i x y at

set_back : {X : Type 0} (xs : List X) (i : ℕ) (x y : X) → slice_get xs i ≡ Some x → slice_set (slice_set xs i y) i x ≡ xs
set_back [] i x y at = absurd cc
set_back (z ∷ xs) zero x y at = let e : x ≡ z = cc in ap (λ w. w ∷ xs) e
set_back (z ∷ xs) (suc i) x y at = ap (λ ws. z ∷ ws) (set_back xs i x y at)

-- ---- cells

abbrev pub lives : List (Option (List ℕ)) → List Bool
lives cells = map (λ (x : Option (List ℕ)). is_some x) cells

-- these cells do not live, each of them once
abbrev pub AreFreed : List Bool → List ℕ → Type 0
AreFreed live [] = ⊤
AreFreed live (number ∷ rest) = (1 ≤ number) × (slice_get live (number - 1) ≡ Some false) × AreFreed (slice_set live (number - 1) true) rest

abbrev pub Whole : ℕ → Option (List ℕ) → Type 0
Whole size None = ⊤
Whole size (Some bytes) = length bytes ≡ size

-- there are so many slabs
pub record SoundCells (slabs : ℕ) (c : Cells) : Type 0 where
  pub enough : made_in c ≤ length c.runs * cells_per_run c.size
  pub inside : AllByRecursion (λ first. first + need c.size ≤ slabs) c.runs
  pub whole : AllByRecursion (Whole c.size) c.cells
  pub freed : AreFreed (lives c.cells) c.freed

pub no_cells_sound : (slabs size : ℕ) → SoundCells slabs (no_cells size)
no_cells_sound slabs size = record { enough = omega arith; inside = tt; whole = tt; freed = tt }

pub some_per_run : (size : ℕ) → 1 ≤ cells_per_run size
some_per_run size = le-max_left 1 (4096 / size)

-- the cell that becomes live next
abbrev pub next_cell : Cells → Object
next_cell c = record { start = cell_address c (next_number c c.freed); bytes = zeros c.size }

-- ---- live cells in lists

-- cells of the same addresses
pub same_live : (c d : Cells) (number : ℕ) (cells : List (Option (List ℕ))) → ((m : ℕ) → number ≤ m → m < number + length cells → cell_address d m ≡ cell_address c m) → live_from d number cells ≡ live_from c number cells
same_live c d number [] same = refl
same_live c d number (None ∷ cells) same = same_live c d (suc number) cells (λ m low high. same m (omega arith) (omega arith))
same_live c d number (Some bytes ∷ cells) same =
    let first : cell_address d number ≡ cell_address c number = same number (omega arith) (omega arith) in
    let rest = same_live c d (suc number) cells (λ m low high. same m (omega arith) (omega arith)) in
    (λ i. record { start = first i; bytes = bytes } ∷ rest i)

module _ (c : Cells) where
  pushed_live : (number : ℕ) (cells : List (Option (List ℕ))) (bytes : List ℕ) (at : ℕ) → number + length cells ≡ at → live_from c number (cells ++ Some bytes ∷ []) ≡ live_from c number cells ++ record { start = cell_address c at; bytes = bytes } ∷ []
  pushed_live number [] bytes at e = let same : number ≡ at = omega (arith, e) in ap (λ (n : ℕ). record { start = cell_address c n; bytes = bytes } ∷ []) same
  pushed_live number (None ∷ cells) bytes at e = pushed_live (suc number) cells bytes at (omega (arith, e))
  pushed_live number (Some other ∷ cells) bytes at e = ap (λ (os : List Object). record { start = cell_address c number; bytes = other } ∷ os) (pushed_live (suc number) cells bytes at (omega (arith, e)))

  revived : (number : ℕ) (cells : List (Option (List ℕ))) (i : ℕ) (bytes : List ℕ) (at : ℕ) → slice_get (lives cells) i ≡ Some false → number + i ≡ at
      → Inserted (record { start = cell_address c at; bytes = bytes }) (live_from c number cells) (live_from c number (slice_set cells i (Some bytes)))
  revived number [] i bytes at dead e = absurd cc
  revived number (Some other ∷ cells) zero bytes at dead e = absurd cc
  revived number (None ∷ cells) zero bytes at dead e =
      let same : number ≡ at = omega (arith, e) in
      subst (λ (n : ℕ). Inserted (record { start = cell_address c at; bytes = bytes }) (live_from c (suc number) cells) (record { start = cell_address c n; bytes = bytes } ∷ live_from c (suc number) cells)) (sym same) (here (live_from c (suc number) cells))
  revived number (None ∷ cells) (suc i) bytes at dead e = revived (suc number) cells i bytes at dead (omega (arith, e))
  revived number (Some other ∷ cells) (suc i) bytes at dead e =
      there (record { start = cell_address c number; bytes = other }) (live_from c (suc number) cells) (live_from c (suc number) (slice_set cells i (Some bytes))) (revived (suc number) cells i bytes at dead (omega (arith, e)))

  pub killed : (number : ℕ) (cells : List (Option (List ℕ))) (i : ℕ) (bytes : List ℕ) (at : ℕ) → slice_index_or cells i None ≡ Some bytes → number + i ≡ at
      → Inserted (record { start = cell_address c at; bytes = bytes }) (live_from c number (slice_set cells i None)) (live_from c number cells)
  killed number [] i bytes at live e = absurd cc
  killed number (None ∷ cells) zero bytes at live e = absurd cc
  killed number (Some other ∷ cells) zero bytes at live e =
      let same : number ≡ at = omega (arith, e) in let is : other ≡ bytes = cc in
      subst (λ (p : ℕ × List ℕ). Inserted (record { start = cell_address c at; bytes = bytes }) (live_from c (suc number) cells) (record { start = cell_address c p.0; bytes = p.1 } ∷ live_from c (suc number) cells)) (λ i. (sym same i, sym is i)) (here (live_from c (suc number) cells))
  killed number (None ∷ cells) (suc i) bytes at live e = killed (suc number) cells i bytes at live (omega (arith, e))
  killed number (Some other ∷ cells) (suc i) bytes at live e =
      there (record { start = cell_address c number; bytes = other }) (live_from c (suc number) (slice_set cells i None)) (live_from c (suc number) cells) (killed (suc number) cells i bytes at live (omega (arith, e)))

-- ---- one more run

run_at : (runs : List ℕ) (first i : ℕ) → i < length runs → slice_index (runs ++ first ∷ []) i ≡ slice_index runs i
run_at runs first i inside = get_or_append_left runs (first ∷ []) 0 i inside

abbrev pub with_one_run : Cells → ℕ → Cells
with_one_run c first = record c { runs = c.runs ++ first ∷ [] }

module _ (slabs : ℕ) (c : Cells) (sound : SoundCells slabs c) where
  pub run_of : (number : ℕ) → 1 ≤ number → number ≤ made_in c → (number - 1) / cells_per_run c.size < length c.runs
  run_of number least most = div_below (number - 1) (cells_per_run c.size) (length c.runs) (omega (arith, some_per_run c.size)) (omega (arith, least, most, sound.enough))

  pub run_same_live : (first : ℕ) → live_cells (with_one_run c first) ≡ live_cells c
  run_same_live first =
      same_live c (with_one_run c first) 1 c.cells (λ m low high.
      ap (λ r. slab_address r + c.size * ((m - 1) % cells_per_run c.size)) (run_at c.runs first ((m - 1) / cells_per_run c.size) (run_of m low (omega (arith, high)))))

  pub run_sound : (first : ℕ) → first + need c.size ≤ slabs → SoundCells slabs (with_one_run c first)
  run_sound first room =
      let more = length-append c.runs (first ∷ []) in
      let least : length c.runs * cells_per_run c.size ≤ length (c.runs ++ first ∷ []) * cells_per_run c.size = mul-le (length c.runs) (cells_per_run c.size) (length (c.runs ++ first ∷ [])) (cells_per_run c.size) (omega (arith, more)) (omega arith) in
      record {
        enough = omega (arith, sound.enough, least);
        inside = all_push (λ f. f + need c.size ≤ slabs) c.runs first sound.inside room;
        whole = sound.whole;
        freed = sound.freed;
      }

  -- ---- the next cell

  next_is : (freed : List ℕ) → c.freed ≡ freed → (freed ≡ [] → made_in c < length c.runs * cells_per_run c.size)
      → SoundCells slabs (with_next c freed) × Inserted (record { start = cell_address c (next_number c freed); bytes = zeros c.size }) (live_cells c) (live_cells (with_next c freed))
  next_is [] is room =
      let new = zeros c.size in let next = with_next c [] in
      let made : made_in next ≡ made_in c + 1 = length-append c.cells (Some new ∷ []) in
      let seen : live_cells next ≡ live_cells c ++ record { start = cell_address c (made_in c + 1); bytes = new } ∷ [] =
      same_live c next 1 next.cells (λ m low high. refl) ∙ pushed_live c 1 c.cells new (made_in c + 1) (omega arith) in (
        record {
          enough = omega (arith, made, room refl);
          inside = sound.inside;
          whole = all_push (Whole c.size) c.cells (Some new) sound.whole (length-zeros c.size);
          freed = subst (AreFreed (lives next.cells)) (sym is) tt;
        },
        subst (Inserted (record { start = cell_address c (made_in c + 1); bytes = new }) (live_cells c)) (sym seen) (at_end (record { start = cell_address c (made_in c + 1); bytes = new }) (live_cells c)),
      )
  next_is (number ∷ rest) is room =
      let new = zeros c.size in let next = with_next c (number ∷ rest) in
      let was : AreFreed (lives c.cells) (number ∷ rest) = subst (AreFreed (lives c.cells)) is sound.freed in
      let bits : lives next.cells ≡ slice_set (lives c.cells) (number - 1) true = map-set (λ (x : Option (List ℕ)). is_some x) c.cells (number - 1) (Some new) in
      let made : made_in next ≡ made_in c = length-set c.cells (number - 1) (Some new) in
      let back : 1 + (number - 1) ≡ number = omega (arith, was.0) in (
        record {
          enough = omega (arith, made, sound.enough);
          inside = sound.inside;
          whole = all_set (Whole c.size) c.cells (number - 1) (Some new) sound.whole (length-zeros c.size);
          freed = subst (λ bs. AreFreed bs rest) (sym bits) was.2;
        },
        subst (Inserted (record { start = cell_address c number; bytes = new }) (live_cells c)) (sym (same_live c next 1 next.cells (λ m low high. refl))) (revived c 1 c.cells (number - 1) new number was.1 back),
      )

  pub next_sound : (c.freed ≡ [] → made_in c < length c.runs * cells_per_run c.size) → SoundCells slabs (with_next c c.freed) × Inserted (next_cell c) (live_cells c) (live_cells (with_next c c.freed))
  next_sound room = next_is c.freed refl room

-- ---- a cell freed

live_at : (cells : List (Option (List ℕ))) (i : ℕ) (bytes : List ℕ) → slice_index_or cells i None ≡ Some bytes → slice_get (lives cells) i ≡ Some true
live_at [] i bytes live = absurd cc
live_at (x ∷ cells) zero bytes live = ap Some (ap is_some live)
live_at (x ∷ cells) (suc i) bytes live = live_at cells i bytes live

pub freed_sound : (slabs : ℕ) (c : Cells) (number : ℕ) (bytes : List ℕ) → SoundCells slabs c → 1 ≤ number → slice_index_or c.cells (number - 1) None ≡ Some bytes
    → SoundCells slabs (with_freed c number) × Inserted (record { start = cell_address c number; bytes = bytes }) (live_cells (with_freed c number)) (live_cells c)
freed_sound slabs c number bytes sound least live =
    let next = with_freed c number in
    let at = live_at c.cells (number - 1) bytes live in
    let bits : lives next.cells ≡ slice_set (lives c.cells) (number - 1) false = map-set (λ (x : Option (List ℕ)). is_some x) c.cells (number - 1) None in
    let made : made_in next ≡ made_in c = length-set c.cells (number - 1) None in
    let back = set_back (lives c.cells) (number - 1) true false at in
    let freed : AreFreed (slice_set (lives c.cells) (number - 1) false) (number ∷ c.freed) = (least, get_set (lives c.cells) (number - 1) true false at, subst (λ bs. AreFreed bs c.freed) (sym back) sound.freed) in
    let there : 1 + (number - 1) ≡ number = omega (arith, least) in (
      record {
        enough = omega (arith, made, sound.enough);
        inside = sound.inside;
        whole = all_set (Whole c.size) c.cells (number - 1) None sound.whole tt;
        freed = subst (λ bs. AreFreed bs (number ∷ c.freed)) (sym bits) freed;
      },
      subst (λ xs. Inserted (record { start = cell_address c number; bytes = bytes }) xs (live_cells c)) (sym (same_live c next 1 next.cells (λ m low high. refl))) (killed c 1 c.cells (number - 1) bytes number live there),
    )

-- ---- bytes written

pub covers_is : (address width : ℕ) (o : Object) → covers address width o ≡ true → (o.start ≤ address) × (address + width ≤ o.start + length o.bytes)
covers_is address width o e =
    let both = and_parts (nat_le o.start address) (nat_le (address + width) (o.start + length o.bytes)) e in
    (leb-true o.start address both.0, leb-true (address + width) (o.start + length o.bytes) both.1)

pub long_written : (address width word : ℕ) (o : Object) → length (written address width word o) ≡ length o.bytes
long_written address width word o =
    either (λ bs. length bs ≡ length o.bytes) (covers address width o) (with_word o.bytes (address - o.start) width word) o.bytes
    (λ e. let both = covers_is address width o e in length-with_word o.bytes (address - o.start) width word (omega (arith, both.0, both.1)))
    (λ e. refl)

abbrev pub written_object : ℕ → ℕ → ℕ → Object → Object
written_object address width word o = record { start = o.start; bytes = written address width word o }

module _ (address width word : ℕ) (c : Cells) where
  written_from_live : (number : ℕ) (cells : List (Option (List ℕ))) → live_from (written_cells address width word c) number (written_from address width word c number cells) ≡ map (written_object address width word) (live_from c number cells)
  written_from_live number [] = refl
  written_from_live number (None ∷ cells) = written_from_live (suc number) cells
  written_from_live number (Some bytes ∷ cells) = ap (λ (os : List Object). written_object address width word (record { start = cell_address c number; bytes = bytes }) ∷ os) (written_from_live (suc number) cells)

  pub written_live : live_cells (written_cells address width word c) ≡ map (written_object address width word) (live_cells c)
  written_live = written_from_live 1 c.cells

  lives_written : (number : ℕ) (cells : List (Option (List ℕ))) → lives (written_from address width word c number cells) ≡ lives cells
  lives_written number [] = refl
  lives_written number (None ∷ cells) = ap (λ bs. false ∷ bs) (lives_written (suc number) cells)
  lives_written number (Some bytes ∷ cells) = ap (λ bs. true ∷ bs) (lives_written (suc number) cells)

  length-written_from : (number : ℕ) (cells : List (Option (List ℕ))) → length (written_from address width word c number cells) ≡ length cells
  length-written_from number [] = refl
  length-written_from number (None ∷ cells) = ap suc (length-written_from (suc number) cells)
  length-written_from number (Some bytes ∷ cells) = ap suc (length-written_from (suc number) cells)

  pub made_written : made_in (written_cells address width word c) ≡ made_in c
  made_written = length-written_from 1 c.cells

  whole_written : (size number : ℕ) (cells : List (Option (List ℕ))) → AllByRecursion (Whole size) cells → AllByRecursion (Whole size) (written_from address width word c number cells)
  whole_written size number [] all = tt
  whole_written size number (None ∷ cells) all = (tt, whole_written size (suc number) cells all.1)
  whole_written size number (Some bytes ∷ cells) all = (long_written address width word (record { start = cell_address c number; bytes = bytes }) ∙ all.0, whole_written size (suc number) cells all.1)

  pub written_sound : (slabs : ℕ) → SoundCells slabs c → SoundCells slabs (written_cells address width word c)
  written_sound slabs sound = record {
    enough = omega (arith, length-written_from 1 c.cells, sound.enough);
    inside = sound.inside;
    whole = whole_written c.size 1 c.cells sound.whole;
    freed = subst (λ bs. AreFreed bs c.freed) (sym (lives_written 1 c.cells)) sound.freed;
  }
