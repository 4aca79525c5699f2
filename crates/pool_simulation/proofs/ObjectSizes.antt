-- How many bytes the live objects of a pool have by its kind, and where those of a mixed one begin.
use Rattle.std.proofs.Common.{◌≡◌, ℕ, suc, ◌+◌, ◌*◌, ◌/◌, ◌%◌, ◌-◌, ◌⊎◌, Bool, List, [], ◌∷◌, Option, Some, None, length, map, flat_map, refl, sym, ap, subst, ◌∙◌, inl, inr, arith, mul_assoc, ne_eqb}
use Rattle.std.specs.Prelude.{◌^◌, slice_index, slice_index_or, option_map, if◌then◌else◌}
use Rattle.std.specs.List.{AllByRecursion}
use Rattle.slab_space.specs.declared.kind.PoolKind.TheVariants.{Homogeneous, Mixed}
use Rattle.slab_space.specs.Pool.{Cells, Pool, Object, cells_per_run, live_cells, large_object, classes_of, objects_in}
use Rattle.slab_space.specs.Pools.{Pools, pool_at, objects_of, kind_of}
use Rattle.slab_space.proofs.Peaks.{OneHolds, pool_holds, all_hold}
use Rattle.slab_space.proofs.Calls.{placed_reached}
use Rattle.slab_space.proofs.Cells.{sizes_of}
use Rattle.pool_simulation.specs.Regions.{IsIn, Lives, LivesIn, SoundHeap}
use Rattle.pool_simulation.proofs.Inserted.{in_either}
use Rattle.pool_simulation.proofs.LiveCells.{SoundCells}
use Rattle.pool_simulation.proofs.SoundPools.{SoundPool}
use Rattle.pool_simulation.proofs.PoolObjects.{SomeSound, sound_at}
use Rattle.pool_simulation.proofs.LiveObjects.{cell_is, in_flat, in_map, one_in}
use Rattle.pool_simulation.proofs.Allocations.{heap_sound, pool_of_kind}

-- ---- pools of one kind of cells

one_class : (slabs cell : ℕ) (pool : Pool) (c : Cells) (o : Object) → SoundPool slabs pool → pool.classes ≡ c ∷ [] → pool.large ≡ [] → c.size ≡ cell → IsIn o (objects_in pool) → length o.bytes ≡ cell
one_class slabs cell pool c o sound only none size is = by (in_either o (flat_map live_cells pool.classes) (map large_object pool.large) is)
  where
    by : IsIn o (flat_map live_cells pool.classes) ⊎ IsIn o (map large_object pool.large) → length o.bytes ≡ cell
    by (inl left) =
        let found = in_flat live_cells o pool.classes left in
        let same = (subst (IsIn found.0) only found.1) in
        let is_c : found.0 ≡ c = elim same [ inl e ↦ e | inr none ↦ absurd none ] in
        (cell_is slabs found.0 o (one_in (SoundCells slabs) found.0 pool.classes sound.classes found.1) found.2).long ∙ ap (λ (x : Cells). x.size) is_c ∙ size
    by (inr right) = absurd (subst (λ ls. IsIn o (map large_object ls)) none right)

pub homogeneous_bytes : (p : Pools) (id source cell : ℕ) (indexed : Bool) (o : Object) → SoundHeap p → kind_of p id ≡ Some (Homogeneous source cell indexed) → LivesIn p id o → length o.bytes ≡ cell
homogeneous_bytes p id source cell indexed o heap kind lives = by (pool_at p id) refl kind lives
  where
    by : (found : Option Pool) → pool_at p id ≡ found → option_map (λ (pool : Pool). pool.kind) found ≡ Some (Homogeneous source cell indexed) → IsIn o (objects_of found) → length o.bytes ≡ cell
    by None here e is = absurd is
    by (Some pool) here e is =
        let same : pool.kind ≡ Homogeneous source cell indexed = cc in
        let holds = subst OneHolds here (pool_holds p id (all_hold p (placed_reached heap.slabs p heap.sizes heap.placed))) source cell indexed same in
        one_class heap.slabs cell pool holds.cells o (subst (SomeSound heap.slabs) here (sound_at heap.slabs p (heap_sound p heap) id)) holds.only holds.none_large holds.fit.size is

-- ---- mixed pools

size_is : (P : ℕ → Type 0) (classes : List Cells) (c : Cells) → AllByRecursion P (sizes_of classes) → IsIn c classes → P c.size
size_is P [] c all is = absurd is
size_is P (x ∷ classes) c all (inl e) = subst P (sym (ap (λ (y : Cells). y.size) e)) all.0
size_is P (x ∷ classes) c all (inr is) = size_is P classes c all.1 is

abbrev Even16 : ℕ → Type 0
Even16 n = n % 16 ≡ 0

sixteens : AllByRecursion Even16 (sizes_of (classes_of Mixed))
sixteens = (refl, (refl, (refl, (refl, (refl, (refl, (refl, (refl, tt))))))))

cell_aligned : (size place run at : ℕ) → size % 16 ≡ 0 → 2 ^ 44 + 4096 * run + size * place ≡ at → at % 16 ≡ 0
cell_aligned size place run at even e =
    let whole : size ≡ 16 * (size / 16) = omega (arith, even) in
    let parts : size * place ≡ 16 * (size / 16 * place) = ap (λ n. n * place) whole ∙ mul_assoc 16 (size / 16) place in
    omega (arith, e, parts)

-- objects of mixed pools begin at multiples of 16
pub mixed_aligned : (p : Pools) (id : ℕ) (o : Object) → SoundHeap p → kind_of p id ≡ Some Mixed → LivesIn p id o → o.start % 16 ≡ 0
mixed_aligned p id o heap mixed lives =
    let pool = pool_of_kind p id Mixed mixed in
    let sound = subst (SomeSound heap.slabs) pool.1 (sound_at heap.slabs p (heap_sound p heap) id) in
    by pool.0 pool.2 sound (in_either o (flat_map live_cells pool.0.classes) (map large_object pool.0.large) (subst (λ f. IsIn o (objects_of f)) pool.1 lives))
  where
    by : (pool : Pool) → pool.kind ≡ Mixed → SoundPool heap.slabs pool → IsIn o (flat_map live_cells pool.classes) ⊎ IsIn o (map large_object pool.large) → o.start % 16 ≡ 0
    by pool kind sound (inl left) =
        let found = in_flat live_cells o pool.classes left in
        let c = found.0 in
        let sizes : sizes_of pool.classes ≡ sizes_of (classes_of Mixed) = sound.sizes ∙ ap (λ k. sizes_of (classes_of k)) kind in
        let even = size_is Even16 pool.classes c (subst (AllByRecursion Even16) (sym sizes) sixteens) found.1 in
        let cell = cell_is heap.slabs c o (one_in (SoundCells heap.slabs) c pool.classes sound.classes found.1) found.2 in
        cell_aligned c.size ((cell.number - 1) % cells_per_run c.size) (slice_index c.runs ((cell.number - 1) / cells_per_run c.size)) o.start even cell.start
    by pool kind sound (inr right) =
        let found = in_map large_object o pool.large right in
        omega (arith, ap (λ (x : Object). x.start) found.2)

-- ---- which pool

-- what lives, lives in some pool
lives_at : (found : List (Option Pool)) (o : Object) → IsIn o (flat_map objects_of found) → (i : ℕ) × IsIn o (objects_of (slice_index_or found i None))
lives_at [] o is = absurd is
lives_at (first ∷ found) o is =
    elim (in_either o (objects_of first) (flat_map objects_of found) is) [ inl here ↦ (0, here) | inr behind ↦ (let later = lives_at found o behind in (suc later.0, later.1)) ]

next_number : (p : Pools) (i : ℕ) → pool_at p (suc i) ≡ slice_index_or p.pools i None
next_number p i =
    let back : suc i - 1 ≡ i = omega arith in
    ap (λ b. if b then None else slice_index_or p.pools (suc i - 1) None) (ne_eqb (suc i) 0 (λ none. omega (arith, none))) ∙ ap (λ n. slice_index_or p.pools n None) back

pub lives_somewhere : (p : Pools) (o : Object) → Lives p o → (id : ℕ) × LivesIn p id o
lives_somewhere p o lives = let found = lives_at p.pools o lives in (suc found.0, subst (λ f. IsIn o (objects_of f)) (sym (next_number p found.0)) found.1)
