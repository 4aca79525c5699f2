-- What holds of pools at any time: their cells are sound, their large objects have a byte or more, and no run reaches behind the last
-- slab; and which object each step places or takes away.
use Rattle.std.proofs.Common.{◌≡◌, ℕ, zero, suc, ◌+◌, ◌-◌, ◌*◌, ◌<◌, ◌≤◌, Bool, true, false, List, [], ◌∷◌, ◌++◌, Option, Some, None, length, map, take, drop, replicate, flat_map, refl, sym, ap, subst, ◌∙◌, arith, length-append, length-take, length-drop, eqb-true, leb-true}
use Rattle.std.specs.Prelude.{⊤, ◌||◌, ◌&&◌, ◌==◌, nat_lt, nat_le, is_some, slice_get, slice_set, slice_index_or, option_map, if◌then◌else◌}
use Rattle.std.specs.List.{AllByRecursion}
use Rattle.std.proofs.lemmas.Bool.{ltb-true, and_parts}
use Rattle.std.proofs.lemmas.List.{map-append, length-replicate}
use Rattle.std.proofs.lemmas.List.Quantifiers.{position-Some}
use Rattle.run_theory.specs.Words.{zeros}
use Rattle.slab_space.specs.declared.kind.PoolKind.{PoolKind}
use Rattle.slab_space.specs.declared.kind.PoolKind.TheVariants.{Homogeneous, Mixed}
use Rattle.slab_space.specs.Runs.{need, with_run, lowest_run}
use Rattle.slab_space.specs.Pool.{Cells, Large, Pool, Object, slab_address, no_cells, cells_per_run, cell_address, made_in, live_cells, number_at, with_next, next_number, has_room, with_freed, is_live, large_object, with_large, large_at, without_large, classes_of, new_pool, class_for, objects_in, given_runs, given_classes, given_large, given_pool}
use Rattle.slab_space.specs.PoolSteps.{PoolInSlabs, Allocation, placed, index_exhausted, heap_exhausted, at_limit, placed_cell, placed_in_run, placed_in_class, placed_large, placed_as, placed_in, freed_among, freed_large, freed_as, freed_in, written_cells, written_large, written_in}
use Rattle.slab_space.proofs.Peaks.{either}
use Rattle.slab_space.proofs.LowestRun.{free_from_found}
use Rattle.slab_space.proofs.WithRun.{length-with_run}
use Rattle.slab_space.proofs.Cells.{sizes_of, OfItsSizes, SizesStay, size_of_next, sizes_set, sizes_written, sizes_freed}
use Rattle.pool_simulation.proofs.Inserted.{Inserted, here, there, before_all, behind_all, more_in_part}
use Rattle.pool_simulation.proofs.LiveCells.{all_set, all_or, all_mapped, length-zeros, SoundCells, no_cells_sound, some_per_run, with_one_run, run_same_live, run_sound, next_sound, freed_sound, long_written, written_object, written_live, written_sound}

-- ---- one pool

abbrev pub SoundLarge : ℕ → Large → Type 0
SoundLarge slabs l = (1 ≤ length l.bytes) × (l.first + need (length l.bytes) ≤ slabs)

pub record SoundPool (slabs : ℕ) (pool : Pool) : Type 0 where
  pub classes : AllByRecursion (SoundCells slabs) pool.classes
  pub large : AllByRecursion (SoundLarge slabs) pool.large
  pub sizes : OfItsSizes pool

no_classes : (slabs : ℕ) (sizes : List ℕ) → AllByRecursion (SoundCells slabs) (map no_cells sizes)
no_classes slabs [] = tt
no_classes slabs (size ∷ sizes) = (no_cells_sound slabs size, no_classes slabs sizes)

pub new_sound : (slabs : ℕ) (kind : PoolKind) → SoundPool slabs (new_pool kind)
new_sound slabs (Homogeneous source cell indexed) = record { classes = (no_cells_sound slabs cell, tt); large = tt; sizes = refl }
new_sound slabs Mixed = record { classes = no_classes slabs (16 ∷ 32 ∷ 64 ∷ 128 ∷ 256 ∷ 512 ∷ 1024 ∷ 2048 ∷ []); large = tt; sizes = refl }

-- ---- placing

-- what a cell for an object of so many bytes has
abbrev pub HasSize : PoolKind → ℕ → ℕ → Type 0
HasSize (Homogeneous source cell indexed) bytes size = size ≡ cell
HasSize Mixed bytes size = bytes ≤ size

abbrev pub object_of : ℕ → List ℕ → Object
object_of start bytes = record { start = start; bytes = bytes }

pub record Grown (slabs : ℕ) (before : Pool) (bytes address : ℕ) (s : PoolInSlabs) : Type 0 where
  pub owners : length s.owners ≤ slabs
  pub sound : SoundPool slabs s.pool
  pub kind : s.pool.kind ≡ before.kind
  pub size : ℕ
  pub enough : HasSize before.kind bytes size
  pub inserted : Inserted (object_of address (zeros size)) (objects_in before) (objects_in s.pool)

abbrev pub PlacedGrows : ℕ → Pool → ℕ → Allocation PoolInSlabs → Type 0
PlacedGrows slabs before bytes (placed address s) = Grown slabs before bytes address s
PlacedGrows slabs before bytes index_exhausted = ⊤
PlacedGrows slabs before bytes heap_exhausted = ⊤

-- the class is there and its cells are large enough
ClassFits : PoolKind → List Cells → ℕ → ℕ → Type 0
ClassFits kind classes bytes k = (k < length classes) × HasSize kind bytes (slice_index_or classes k (no_cells 0)).size

first_class : (classes : List Cells) (cell : ℕ) → sizes_of classes ≡ cell ∷ [] → (0 < length classes) × ((slice_index_or classes 0 (no_cells 0)).size ≡ cell)
first_class [] cell e = absurd cc
first_class (c ∷ classes) cell e = (omega arith, (let same : c.size ≡ cell = cc in same))

class_fits : (kind : PoolKind) (classes : List Cells) (bytes k : ℕ) → sizes_of classes ≡ sizes_of (classes_of kind) → class_for kind classes bytes ≡ Some k → ClassFits kind classes bytes k
unfolding ClassFits
class_fits (Homogeneous source cell indexed) classes bytes zero sizes e = first_class classes cell sizes
class_fits (Homogeneous source cell indexed) classes bytes (suc k) sizes e = absurd cc
class_fits Mixed classes bytes k sizes e =
    let found = position-Some (λ (c : Cells). nat_le bytes c.size) classes k (no_cells 0) e in
    (found.0, leb-true bytes (slice_index_or classes k (no_cells 0)).size found.1)

-- a large object has its own size
large_fits : (kind : PoolKind) (classes : List Cells) (bytes : ℕ) → class_for kind classes bytes ≡ None → HasSize kind bytes bytes
large_fits (Homogeneous source cell indexed) classes bytes e = absurd cc
large_fits Mixed classes bytes e = omega arith

inserted_large : (first : ℕ) (bytes : List ℕ) (large : List Large) → Inserted (object_of (slab_address first) bytes) (map large_object large) (map large_object (with_large first bytes large))
inserted_large first bytes [] = here []
inserted_large first bytes (l ∷ rest) =
    either (λ ls. Inserted (object_of (slab_address first) bytes) (map large_object (l ∷ rest)) (map large_object ls)) (nat_lt first l.first)
    (record { first = first; bytes = bytes } ∷ l ∷ rest) (l ∷ with_large first bytes rest)
    (λ e. here (map large_object (l ∷ rest))) (λ e. there (large_object l) (map large_object rest) (map large_object (with_large first bytes rest)) (inserted_large first bytes rest))

large_sound : (slabs first : ℕ) (bytes : List ℕ) (large : List Large) → AllByRecursion (SoundLarge slabs) large → SoundLarge slabs (record { first = first; bytes = bytes }) → AllByRecursion (SoundLarge slabs) (with_large first bytes large)
large_sound slabs first bytes [] all one = (one, tt)
large_sound slabs first bytes (l ∷ rest) all one =
    either (AllByRecursion (SoundLarge slabs)) (nat_lt first l.first) (record { first = first; bytes = bytes } ∷ l ∷ rest) (l ∷ with_large first bytes rest)
    (λ e. (one, all)) (λ e. (all.0, large_sound slabs first bytes rest all.1 one))

module _ (slabs : ℕ) (owners : List (Option ℕ)) (pool : Pool) (few : length owners ≤ slabs) (sound : SoundPool slabs pool) (bytes : ℕ) (some : 1 ≤ bytes) where
  module _ (k : ℕ) (fits : ClassFits pool.kind pool.classes bytes k) where
    abbrev now : Cells
    now = slice_index_or pool.classes k (no_cells 0)

    by_cell : (after : List (Option ℕ)) (c : Cells) → length after ≤ slabs → SoundCells slabs c → c.size ≡ now.size → live_cells c ≡ live_cells now → (c.freed ≡ [] → made_in c < length c.runs * cells_per_run c.size)
        → PlacedGrows slabs pool bytes (placed_cell after pool k c)
    unfolding ClassFits
    by_cell after c few_after cells same live room =
        let next = next_sound slabs c cells room in
        let new : Object = object_of (cell_address c (next_number c c.freed)) (zeros c.size) in
        record {
          owners = few_after;
          sound = record {
            classes = all_set (SoundCells slabs) pool.classes k (with_next c c.freed) sound.classes next.0;
            large = sound.large;
            sizes = sizes_set pool.classes k (with_next c c.freed) (size_of_next c c.freed ∙ same) ∙ sound.sizes;
          };
          kind = refl;
          size = c.size;
          enough = subst (HasSize pool.kind bytes) (sym same) fits.1;
          inserted =
              before_all new (map large_object pool.large) (flat_map live_cells pool.classes) (flat_map live_cells (slice_set pool.classes k (with_next c c.freed)))
              (more_in_part live_cells new pool.classes k (no_cells 0) (with_next c c.freed) fits.0 (subst (λ xs. Inserted new xs (live_cells (with_next c c.freed))) live next.1));
        }

    there_sound : SoundCells slabs now
    there_sound = all_or (SoundCells slabs) pool.classes k (no_cells 0) sound.classes (no_cells_sound slabs 0)

    in_room : (freed : List ℕ) → now.freed ≡ freed → (is_some (slice_get freed 0) || nat_lt (made_in now) (length now.runs * cells_per_run now.size)) ≡ true → now.freed ≡ [] → made_in now < length now.runs * cells_per_run now.size
    in_room [] is room none = ltb-true (made_in now) (length now.runs * cells_per_run now.size) room
    in_room (number ∷ rest) is room none = absurd cc

    -- where there was no room, there is in one more run
    in_run : (first : ℕ) (freed : List ℕ) → (is_some (slice_get freed 0) || nat_lt (made_in now) (length now.runs * cells_per_run now.size)) ≡ false
        → made_in now < length (now.runs ++ first ∷ []) * cells_per_run now.size
    in_run first [] full =
        let per = cells_per_run now.size in
        let runs : length (now.runs ++ first ∷ []) * per ≡ length now.runs * per + per = ap (λ n. n * per) (length-append now.runs (first ∷ [])) ∙ omega arith in
        omega (arith, runs, there_sound.enough, some_per_run now.size)
    in_run first (number ∷ rest) full = absurd cc

    by_run : has_room now ≡ false → (found : Option ℕ) → lowest_run owners (need now.size) ≡ found → PlacedGrows slabs pool bytes (placed_in_run owners pool k now found)
    by_run full None e = tt
    by_run full (Some first) e =
        let run = free_from_found owners (need now.size) first e in
        by_cell (with_run owners first (need now.size) (Some first)) (with_one_run now first) (omega (arith, few, length-with_run owners first (need now.size) (Some first) run.inside))
        (run_sound slabs now there_sound first (omega (arith, run.inside, few))) refl (run_same_live slabs now there_sound first) (λ none. in_run first now.freed full)

    by_class : (index : ℕ) → PlacedGrows slabs pool bytes (placed_in_class index owners pool k now)
    by_class index =
        let fresh = placed_in_run owners pool k now (lowest_run owners (need now.size)) in
        either (PlacedGrows slabs pool bytes) (at_limit index pool.kind now) index_exhausted (if has_room now then placed_cell owners pool k now else fresh) (λ e. tt) (λ e.
        either (PlacedGrows slabs pool bytes) (has_room now) (placed_cell owners pool k now) fresh
        (λ room. by_cell owners now few there_sound refl refl (in_room now.freed refl room)) (λ full. by_run full (lowest_run owners (need now.size)) refl))

  by_large : HasSize pool.kind bytes bytes → (found : Option ℕ) → lowest_run owners (need bytes) ≡ found → PlacedGrows slabs pool bytes (placed_large owners pool bytes found)
  by_large fits None e = tt
  by_large fits (Some first) e =
      let run = free_from_found owners (need bytes) first e in
      let new : Object = object_of (slab_address first) (zeros bytes) in
      let long = length-zeros bytes in
      record {
        owners = omega (arith, few, length-with_run owners first (need bytes) (Some first) run.inside);
        sound = record {
          classes = sound.classes;
          large = large_sound slabs first (zeros bytes) pool.large sound.large (omega (arith, long, some), omega (arith, ap need long, run.inside, few));
          sizes = sound.sizes;
        };
        kind = refl;
        size = bytes;
        enough = fits;
        inserted = behind_all new (flat_map live_cells pool.classes) (map large_object pool.large) (map large_object (with_large first (zeros bytes) pool.large)) (inserted_large first (zeros bytes) pool.large);
      }

  as_class : (index : ℕ) (class : Option ℕ) → class_for pool.kind pool.classes bytes ≡ class → PlacedGrows slabs pool bytes (placed_as index owners pool bytes class)
  as_class index None e = by_large (large_fits pool.kind pool.classes bytes e) (lowest_run owners (need bytes)) refl
  as_class index (Some k) e = by_class k (class_fits pool.kind pool.classes bytes k sound.sizes e) index

  pub placed_grows : (index : ℕ) → PlacedGrows slabs pool bytes (placed_in index owners pool bytes)
  placed_grows index = as_class index (class_for pool.kind pool.classes bytes) refl

-- ---- freeing

pub record Shrunk (slabs : ℕ) (before : Pool) (address : ℕ) (s : PoolInSlabs) : Type 0 where
  pub owners : length s.owners ≤ slabs
  pub sound : SoundPool slabs s.pool
  pub kind : s.pool.kind ≡ before.kind
  pub bytes : List ℕ
  pub inserted : Inserted (object_of address bytes) (objects_in s.pool) (objects_in before)

abbrev pub FreedShrinks : ℕ → Pool → ℕ → Option PoolInSlabs → Type 0
FreedShrinks slabs before address None = ⊤
FreedShrinks slabs before address (Some s) = Shrunk slabs before address s

-- what the search finds is a cell at that address
by_test : (c : Cells) (made address number below : ℕ) (b : Bool) → (below ≡ number → (number ≤ made) × (cell_address c number ≡ address))
    → (cell_address c (suc made) == address) ≡ b → (if b then suc made else below) ≡ number → (number ≤ suc made) × (cell_address c number ≡ address)
by_test c made address number below true behind test is = (omega (arith, is), ap (cell_address c) (sym is) ∙ eqb-true (cell_address c (suc made)) address test)
by_test c made address number below false behind test is = let found = behind is in (omega (arith, found.0), found.1)

pub found_is : (c : Cells) (made address number : ℕ) → 1 ≤ number → number_at c made address ≡ number → (number ≤ made) × (cell_address c number ≡ address)
found_is c zero address number least e = absurd (omega (arith, least, e))
found_is c (suc made) address number least e = by_test c made address number (number_at c made address) (cell_address c (suc made) == address) (found_is c made address number least) refl e

pub record FewerCells (slabs : ℕ) (before : List Cells) (address : ℕ) (after : List Cells) : Type 0 where
  pub sound : AllByRecursion (SoundCells slabs) after
  pub bytes : List ℕ
  pub inserted : Inserted (object_of address bytes) (flat_map live_cells after) (flat_map live_cells before)

abbrev AmongFewer : ℕ → List Cells → ℕ → Option (List Cells) → Type 0
AmongFewer slabs before address None = ⊤
AmongFewer slabs before address (Some after) = FewerCells slabs before address after

fewer_behind : (slabs : ℕ) (c : Cells) (rest : List Cells) (address : ℕ) (found : Option (List Cells)) → SoundCells slabs c → AmongFewer slabs rest address found → AmongFewer slabs (c ∷ rest) address (option_map (λ classes. c ∷ classes) found)
fewer_behind slabs c rest address None one among = tt
fewer_behind slabs c rest address (Some after) one among =
    record { sound = (one, among.sound); bytes = among.bytes; inserted = behind_all (object_of address among.bytes) (live_cells c) (flat_map live_cells after) (flat_map live_cells rest) among.inserted }

some_bytes : (o : Option (List ℕ)) → is_some o ≡ true → (bytes : List ℕ) × (o ≡ Some bytes)
some_bytes None e = absurd cc
some_bytes (Some bytes) e = (bytes, refl)

among_fewer : (slabs : ℕ) (classes : List Cells) (address : ℕ) → AllByRecursion (SoundCells slabs) classes → AmongFewer slabs classes address (freed_among classes address)
among_fewer slabs [] address all = tt
among_fewer slabs (c ∷ rest) address all =
    let number = number_at c (made_in c) address in
    either (AmongFewer slabs (c ∷ rest) address) (nat_lt 0 number && is_live c number) (Some (with_freed c number ∷ rest)) (option_map (λ classes. c ∷ classes) (freed_among rest address))
    (λ e. let both = and_parts (nat_lt 0 number) (is_live c number) e in
    let least : 1 ≤ number = ltb-true 0 number both.0 in
    let live = some_bytes (slice_index_or c.cells (number - 1) None) both.1 in
    let less = freed_sound slabs c number live.0 all.0 least live.1 in
    let at = found_is c (made_in c) address number least refl in
    record {
      sound = (less.0, all.1);
      bytes = live.0;
      inserted = subst (λ a. Inserted (object_of a live.0) (flat_map live_cells (with_freed c number ∷ rest)) (flat_map live_cells (c ∷ rest))) at.1
          (before_all (object_of (cell_address c number) live.0) (flat_map live_cells rest) (live_cells (with_freed c number)) (live_cells c) less.1);
    })
    (λ e. fewer_behind slabs c rest address (freed_among rest address) all.0 (among_fewer slabs rest address all.1))

pub record FewerLarge (slabs : ℕ) (before : List Large) (address : ℕ) (l : Large) : Type 0 where
  pub sound : AllByRecursion (SoundLarge slabs) (without_large address before)
  pub one : SoundLarge slabs l
  pub inserted : Inserted (object_of address l.bytes) (map large_object (without_large address before)) (map large_object before)

large_by : (slabs address : ℕ) (l x : Large) (rest : List Large) (b : Bool) → (slab_address x.first == address) ≡ b → SoundLarge slabs x → AllByRecursion (SoundLarge slabs) rest → (large_at address rest ≡ Some l → FewerLarge slabs rest address l)
    → (if b then Some x else large_at address rest) ≡ Some l
    → AllByRecursion (SoundLarge slabs) (if b then rest else x ∷ without_large address rest) × SoundLarge slabs l × Inserted (object_of address l.bytes) (map large_object (if b then rest else x ∷ without_large address rest)) (map large_object (x ∷ rest))
large_by slabs address l x rest true test one all behind e =
    let same : x ≡ l = cc in let at = eqb-true (slab_address x.first) address test in
    (all, subst (SoundLarge slabs) same one, subst (λ (p : ℕ × List ℕ). Inserted (object_of p.0 p.1) (map large_object rest) (map large_object (x ∷ rest))) (λ i. (at i, (same i).bytes)) (here (map large_object rest)))
large_by slabs address l x rest false test one all behind e =
    let less = behind e in
    ((one, less.sound), less.one, there (large_object x) (map large_object (without_large address rest)) (map large_object rest) less.inserted)

fewer_large : (slabs : ℕ) (large : List Large) (address : ℕ) (l : Large) → AllByRecursion (SoundLarge slabs) large → large_at address large ≡ Some l → FewerLarge slabs large address l
fewer_large slabs [] address l all e = absurd cc
fewer_large slabs (x ∷ rest) address l all e =
    let parts = large_by slabs address l x rest (slab_address x.first == address) refl all.0 all.1 (fewer_large slabs rest address l all.1) e in
    record { sound = parts.0; one = parts.1; inserted = parts.2 }

-- giving back doesn't make more slabs
given_few : (slabs : ℕ) (owners : List (Option ℕ)) (first count : ℕ) → length owners ≤ slabs → first + count ≤ slabs → length (with_run owners first count None) ≤ slabs
given_few slabs owners first count few inside =
    let blank : List (Option ℕ) = replicate count None in
    omega (arith, length-append (take first owners ++ blank) (drop (first + count) owners), length-append (take first owners) blank, length-replicate {A = Option ℕ} count None, length-take first owners, length-drop (first + count) owners, few, inside)

module _ (slabs : ℕ) (owners : List (Option ℕ)) (pool : Pool) (few : length owners ≤ slabs) (sound : SoundPool slabs pool) (address : ℕ) where
  by_object : (found : Option Large) → large_at address pool.large ≡ found → FreedShrinks slabs pool address (freed_large owners pool address found)
  by_object None e = tt
  by_object (Some l) e =
      let less = fewer_large slabs pool.large address l sound.large e in
      record {
        owners = given_few slabs owners l.first (need (length l.bytes)) few less.one.1;
        sound = record { classes = sound.classes; large = less.sound; sizes = sound.sizes };
        kind = refl;
        bytes = l.bytes;
        inserted = behind_all (object_of address l.bytes) (flat_map live_cells pool.classes) (map large_object (without_large address pool.large)) (map large_object pool.large) less.inserted;
      }

  by_freed : (found : Option (List Cells)) → AmongFewer slabs pool.classes address found → SizesStay (sizes_of pool.classes) found → FreedShrinks slabs pool address (freed_as owners pool address found)
  by_freed None among stay = by_object (large_at address pool.large) refl
  by_freed (Some classes) among stay = record {
    owners = few;
    sound = record { classes = among.sound; large = sound.large; sizes = stay ∙ sound.sizes };
    kind = refl;
    bytes = among.bytes;
    inserted = before_all (object_of address among.bytes) (map large_object pool.large) (flat_map live_cells classes) (flat_map live_cells pool.classes) among.inserted;
  }

  pub freed_shrinks : FreedShrinks slabs pool address (freed_in owners pool address)
  freed_shrinks = by_freed (freed_among pool.classes address) (among_fewer slabs pool.classes address sound.classes) (sizes_freed pool.classes address)

-- ---- giving back

module _ (slabs : ℕ) where
  runs_given : (count : ℕ) (runs : List ℕ) (owners : List (Option ℕ)) → AllByRecursion (λ first. first + count ≤ slabs) runs → length owners ≤ slabs → length (given_runs count runs owners) ≤ slabs
  runs_given count [] owners inside few = few
  runs_given count (first ∷ rest) owners inside few = runs_given count rest (with_run owners first count None) inside.1 (given_few slabs owners first count few inside.0)

  classes_given : (classes : List Cells) (owners : List (Option ℕ)) → AllByRecursion (SoundCells slabs) classes → length owners ≤ slabs → length (given_classes classes owners) ≤ slabs
  classes_given [] owners all few = few
  classes_given (c ∷ rest) owners all few = classes_given rest (given_runs (need c.size) c.runs owners) all.1 (runs_given (need c.size) c.runs owners all.0.inside few)

  large_given : (large : List Large) (owners : List (Option ℕ)) → AllByRecursion (SoundLarge slabs) large → length owners ≤ slabs → length (given_large large owners) ≤ slabs
  large_given [] owners all few = few
  large_given (l ∷ rest) owners all few = large_given rest (with_run owners l.first (need (length l.bytes)) None) all.1 (given_few slabs owners l.first (need (length l.bytes)) few all.0.1)

  pub pool_given : (pool : Pool) (owners : List (Option ℕ)) → SoundPool slabs pool → length owners ≤ slabs → length (given_pool pool owners) ≤ slabs
  pool_given pool owners sound few = large_given pool.large (given_classes pool.classes owners) sound.large (classes_given pool.classes owners sound.classes few)

-- ---- writing

module _ (address width word : ℕ) where
  abbrev pub writing : Object → Object
  writing = written_object address width word

  cells_written : (classes : List Cells) → flat_map live_cells (map (written_cells address width word) classes) ≡ map writing (flat_map live_cells classes)
  cells_written [] = refl
  cells_written (c ∷ classes) =
      let first = written_live address width word c in let rest = cells_written classes in
      (λ i. first i ++ rest i) ∙ sym (map-append writing (live_cells c) (flat_map live_cells classes))

  all_large_written : (large : List Large) → map large_object (map (written_large address width word) large) ≡ map writing (map large_object large)
  all_large_written [] = refl
  all_large_written (l ∷ large) = ap (λ (os : List Object). writing (large_object l) ∷ os) (all_large_written large)

  pub pool_written : (pool : Pool) → objects_in (written_in address width word pool) ≡ map writing (objects_in pool)
  pool_written pool =
      let cells = cells_written pool.classes in let large = all_large_written pool.large in
      (λ i. cells i ++ large i) ∙ sym (map-append writing (flat_map live_cells pool.classes) (map large_object pool.large))

  large_written_sound : (slabs : ℕ) (l : Large) → SoundLarge slabs l → SoundLarge slabs (written_large address width word l)
  large_written_sound slabs l one =
      let long = long_written address width word (large_object l) in
      (omega (arith, one.0, long), omega (arith, one.1, ap need long))

  pub pool_written_sound : (slabs : ℕ) (pool : Pool) → SoundPool slabs pool → SoundPool slabs (written_in address width word pool)
  pool_written_sound slabs pool sound = record {
    classes = all_mapped (SoundCells slabs) (written_cells address width word) pool.classes (λ c. written_sound address width word c slabs) sound.classes;
    large = all_mapped (SoundLarge slabs) (written_large address width word) pool.large (large_written_sound slabs) sound.large;
    sizes = sizes_written address width word pool.classes ∙ sound.sizes;
  }
