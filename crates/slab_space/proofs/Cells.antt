-- The sizes of a pool's cells stay those of its kind, and an object needs all the slabs that its cell takes.
use Rattle.std.proofs.Common.{◌≡◌, ℕ, zero, suc, ◌+◌, ◌%◌, ◌≤◌, Bool, List, [], ◌∷◌, Option, Some, None, All, length, map, refl, sym, ap, subst, ◌∙◌, inl, inr, arith}
use Rattle.std.specs.Prelude.{⊤, ◌&&◌, nat_lt, slice_index_or, slice_set, option_map}
use Rattle.std.proofs.lemmas.Bool.{cases_lt}
use Rattle.std.proofs.lemmas.List.{get_or_past}
use Rattle.std.proofs.lemmas.List.Elements.{All-get_or, All-from_recursion}
use Rattle.slab_space.specs.declared.kind.PoolKind.{PoolKind}
use Rattle.slab_space.specs.declared.kind.PoolKind.TheVariants.{Homogeneous, Mixed}
use Rattle.slab_space.specs.Runs.{need}
use Rattle.slab_space.specs.Pool.{Cells, Pool, no_cells, made_in, number_at, with_next, with_freed, is_live, classes_of, class_for}
use Rattle.slab_space.specs.PoolSteps.{freed_among, written_cells}
use Rattle.slab_space.proofs.Peaks.{either}
use Rattle.slab_space.specs.Needs.{NeedsItsCell}

abbrev pub sizes_of : List Cells → List ℕ
sizes_of classes = map (λ (c : Cells). c.size) classes

-- the cells are of the sizes that those of a new pool have
abbrev pub OfItsSizes : Pool → Type 0
OfItsSizes pool = sizes_of pool.classes ≡ sizes_of (classes_of pool.kind)

pub or_holds : {X : Type 0} (P : X → Type 0) (xs : List X) (i : ℕ) (d : X) → All P xs → P d → P (slice_index_or xs i d)
or_holds P xs i d all one = elim (cases_lt i (length xs)) [ inl inside ↦ All-get_or P xs i d inside all | inr past ↦ subst P (sym (get_or_past xs i d past)) one ]

-- ---- sizes stay

pub size_of_next : (c : Cells) (freed : List ℕ) → (with_next c freed).size ≡ c.size
size_of_next c [] = refl
size_of_next c (number ∷ rest) = refl

pub sizes_set : (classes : List Cells) (k : ℕ) (c : Cells) → c.size ≡ (slice_index_or classes k (no_cells 0)).size → sizes_of (slice_set classes k c) ≡ sizes_of classes
sizes_set [] k c same = refl
sizes_set (x ∷ classes) zero c same = ap (λ n. n ∷ sizes_of classes) same
sizes_set (x ∷ classes) (suc k) c same = ap (λ ns. x.size ∷ ns) (sizes_set classes k c same)

pub sizes_written : (address width word : ℕ) (classes : List Cells) → sizes_of (map (written_cells address width word) classes) ≡ sizes_of classes
sizes_written address width word [] = refl
sizes_written address width word (c ∷ classes) = ap (λ ns. c.size ∷ ns) (sizes_written address width word classes)

abbrev pub SizesStay : List ℕ → Option (List Cells) → Type 0
SizesStay sizes None = ⊤
SizesStay sizes (Some classes) = sizes_of classes ≡ sizes

stay_behind : (c : Cells) (sizes : List ℕ) (found : Option (List Cells)) → SizesStay sizes found → SizesStay (c.size ∷ sizes) (option_map (λ classes. c ∷ classes) found)
stay_behind c sizes None stay = tt
stay_behind c sizes (Some classes) stay = ap (λ ns. c.size ∷ ns) stay

pub sizes_freed : (classes : List Cells) (address : ℕ) → SizesStay (sizes_of classes) (freed_among classes address)
sizes_freed [] address = tt
sizes_freed (c ∷ rest) address =
    let number = number_at c (made_in c) address in
    either (SizesStay (sizes_of (c ∷ rest))) (nat_lt 0 number && is_live c number) (Some (with_freed c number ∷ rest)) (option_map (λ classes. c ∷ classes) (freed_among rest address))
    (λ e. refl) (λ e. stay_behind c (sizes_of rest) (freed_among rest address) (sizes_freed rest address))

-- ---- what a cell takes

size_at : (classes : List Cells) (k : ℕ) → (slice_index_or classes k (no_cells 0)).size ≡ slice_index_or (sizes_of classes) k 0
size_at [] k = refl
size_at (c ∷ classes) zero = refl
size_at (c ∷ classes) (suc k) = size_at classes k

small_classes : All (λ n. n ≤ 4096) (sizes_of (classes_of Mixed))
small_classes = All-from_recursion (λ n. n ≤ 4096) (sizes_of (classes_of Mixed)) (omega arith, (omega arith, (omega arith, (omega arith, (omega arith, (omega arith, (omega arith, (omega arith, tt))))))))

pub some_needed : (bytes : ℕ) → 1 ≤ bytes → 1 ≤ need bytes
some_needed bytes some = omega (arith, some)

one_slab : (cell : ℕ) → cell ≤ 4096 → need cell ≤ 1
one_slab cell small = omega (arith, small)

-- an object that goes to cells of a size needs all the slabs that one of them takes
pub cell_needed : (kind : PoolKind) (classes : List Cells) (bytes k : ℕ) → sizes_of classes ≡ sizes_of (classes_of kind) → class_for kind classes bytes ≡ Some k
    → 1 ≤ bytes → NeedsItsCell kind bytes → need (slice_index_or classes k (no_cells 0)).size ≤ need bytes
cell_needed (Homogeneous source cell indexed) classes bytes zero sizes class some needs =
    let size : (slice_index_or classes 0 (no_cells 0)).size ≡ cell = size_at classes 0 ∙ ap (λ ns. slice_index_or ns 0 0) sizes in subst (λ n. need n ≤ need bytes) (sym size) (needs some)
cell_needed (Homogeneous source cell indexed) classes bytes (suc k) sizes class some needs = absurd cc
cell_needed Mixed classes bytes k sizes class some needs =
    let size : (slice_index_or classes k (no_cells 0)).size ≡ slice_index_or (sizes_of (classes_of Mixed)) k 0 = size_at classes k ∙ ap (λ ns. slice_index_or ns k 0) sizes in
    let small = one_slab (slice_index_or (sizes_of (classes_of Mixed)) k 0) (or_holds (λ n. n ≤ 4096) (sizes_of (classes_of Mixed)) k 0 small_classes (omega arith)) in
    subst (λ n. need n ≤ need bytes) (sym size) (omega (arith, small, some_needed bytes some))

-- so does one whose bytes, rounded up to a multiple of 4, are those of the cell, or more
pub rounded_needs_its_cell : (source cell : ℕ) (indexed : Bool) → cell % 4 ≡ 0 → cell ≤ source + 3 → NeedsItsCell (Homogeneous source cell indexed) source
rounded_needs_its_cell source cell indexed whole least some = omega (arith, whole, least)
