-- A class that has another run, and the slabs from which it was taken.
use Rattle.std.proofs.Common.{◌≡◌, ℕ, ◌+◌, ◌-◌, ◌*◌, ◌/◌, ◌%◌, ◌<◌, ◌≤◌, Bool, false, List, Option, Some, None, length, refl, sym, ap, subst, ◌∙◌, arith}
use Rattle.std.specs.Prelude.{if◌then◌else◌, slice_get, slice_index, slice_index_or}
use Rattle.slab_space.specs.Runs.{free_count, with_run, owner_at, IsLowestRun, IsHeldRun}
use Rattle.slab_space.specs.Pool.{cells_per_run, live_cells}
use Rattle.slab_space.specs.Pool as seen
use Rattle.slab_space.specs.Space.{Space, with_taken}
use Rattle.slab_space.proofs.WithRun.{length-with_run, free_count_taken}
use Rattle.pool_runtime.specs.declared.cells.Cells.{Cells}
use Rattle.pool_runtime.specs.declared.pool.Pool.{Pool}
use Rattle.pool_runtime.specs.declared.slabs.Home.{Home}
use Rattle.pool_runtime.specs.declared.slabs.Slabs.{Slabs}
use Rattle.pool_runtime.specs.Bytes.{range}
use Rattle.pool_runtime.specs.Seen.{place, cell_seen, cells_seen, threaded, freed_seen, class_seen, pool_seen}
use Rattle.pool_runtime.specs.Tables.{IsSpace, IsDead, AllDead, EachOnce, IsCells, IsAtHome, IsPool}
use Rattle.pool_runtime.specs.Changes.{Keeps, KeepsNotes, of_others, Changes, Unchanged}
use Rattle.pool_runtime.proofs.Apart.{free_apart, held_kept, taken_run}
use Rattle.pool_runtime.proofs.Places.{run_inside}
use Rattle.pool_runtime.proofs.CellsSeen.{cells_same, threaded_same, all_among, somes, length-live_from}
use Rattle.pool_runtime.proofs.Parts.{same_cells}
use Rattle.pool_runtime.proofs.Kept.{pool_kept, pool_same}

-- ---- the same cells with more room

module _ (bytes : List ℕ) (c c' : Cells) (table : IsCells bytes c) (size : c'.size ≡ c.size) (made : c'.made ≡ c.made) (freed : c'.freed ≡ c.freed) (last : c'.last_freed ≡ c.last_freed)
    (runs : (j : ℕ) → j < length c.runs.items → slice_index c'.runs.items j ≡ slice_index c.runs.items j)
    (live : (i : ℕ) → i < length c.live.items → slice_index_or c'.live.items i false ≡ slice_index_or c.live.items i false)
    (room : length c'.live.items ≡ length c'.runs.items * cells_per_run c'.size) (few : length c'.runs.items ≤ 1048576) (more : length c.live.items ≤ length c'.live.items) where
  place_same : (n : ℕ) → 1 ≤ n → n ≤ c.made → place c' n ≡ place c n
  place_same n one inside =
      ap (λ s. 4096 * slice_index c'.runs.items ((n - 1) / cells_per_run s) + s * ((n - 1) % cells_per_run s)) size
      ∙ ap (λ f. 4096 * f + c.size * ((n - 1) % cells_per_run c.size)) (runs ((n - 1) / cells_per_run c.size) (run_inside c n one (omega (arith, inside, table.made, table.room))))

  live_same : (n : ℕ) → 1 ≤ n → n ≤ c.made → slice_index_or c'.live.items (n - 1) false ≡ slice_index_or c.live.items (n - 1) false
  live_same n one inside = live (n - 1) (omega (arith, inside, table.made))

  cell_same : (n : ℕ) → 1 ≤ n → n ≤ c.made → cell_seen bytes c' n ≡ cell_seen bytes c n
  cell_same n one inside =
      ap (λ (b : Bool). if b then Some (range bytes (place c' n) c'.size) else None) (live_same n one inside)
      ∙ ap (λ p. if slice_index_or c.live.items (n - 1) false then Some (range bytes p c'.size) else None) (place_same n one inside)
      ∙ ap (λ s. if slice_index_or c.live.items (n - 1) false then Some (range bytes (place c n) s) else None) size

  cells_are : cells_seen bytes c' c'.made ≡ cells_seen bytes c c.made
  cells_are = ap (cells_seen bytes c') made ∙ cells_same bytes bytes c c' c.made cell_same

  freed_are : freed_seen bytes c' ≡ freed_seen bytes c
  freed_are =
      ap (λ k. threaded bytes c' k c'.last_freed) freed ∙ ap (threaded bytes c' c.freed) last
      ∙ threaded_same bytes bytes c c' c.freed c.last_freed (all_among (freed_seen bytes c) (λ n dead. (place_same n dead.some dead.made, λ at low high. refl)) table.dead)

  pub extended_seen : class_seen bytes c' ≡ record (class_seen bytes c) { runs = c'.runs.items }
  extended_seen = same_cells size refl cells_are freed_are

  still_dead : (n : ℕ) → IsDead c n → IsDead c' n
  still_dead n dead = record { some = dead.some; made = omega (arith, dead.made, made); dead = live_same n dead.some dead.made ∙ dead.dead }

  lives : (cs cs' : List (Option (List ℕ))) (x y : seen.Cells) → cs ≡ cs' → length (seen.live_from x 1 cs) ≡ length (seen.live_from y 1 cs')
  lives cs cs' x y e = length-live_from x 1 cs ∙ ap somes e ∙ sym (length-live_from y 1 cs')

  pub extended_lives : length (live_cells (class_seen bytes c')) ≡ length (live_cells (class_seen bytes c))
  extended_lives = lives (cells_seen bytes c' c'.made) (cells_seen bytes c c.made) (class_seen bytes c') (class_seen bytes c) cells_are

  pub extended_table : IsCells bytes c'
  extended_table = record {
    least = subst (λ s. 4 ≤ s) (sym size) table.least;
    most = subst (λ s. s ≤ 1048576) (sym size) table.most;
    room = room;
    few = few;
    made = omega (arith, made, table.made, more);
    dead = subst (AllDead c') (sym freed_are) (all_among (freed_seen bytes c) still_dead table.dead);
    once = subst EachOnce (sym freed_are) table.once;
    counted = omega (arith, extended_lives, table.counted, freed, made);
  }

-- ---- slabs of which none moved

abbrev any_run : ℕ → Home → Type 0
any_run first home = Unit {0}

-- the notes of all held runs stay
abbrev pub KeepsHomes : Slabs → Slabs → Type 0
KeepsHomes old new = (f n : ℕ) (h : Home) → IsAtHome old f n h → slice_get new.homes.items f ≡ Some h

module _ (old new : Slabs) (space : IsSpace old.space) (same : new.space ≡ old.space) (notes : KeepsHomes old new) where
  owners_same : new.space.owners ≡ old.space.owners
  owners_same = ap (λ (s : Space). s.owners) same

  bytes_same : new.space.bytes ≡ old.space.bytes
  bytes_same = ap (λ (s : Space). s.bytes) same

  pub still_space : IsSpace new.space
  still_space = subst IsSpace (sym same) space

  pub still_long : length new.space.owners ≡ length old.space.owners
  still_long = ap length owners_same

  pub all_still : (kept : ℕ → Home → Type 0) → Keeps kept old new
  all_still kept first count home is at =
      (record { run = subst (λ (os : List (Option ℕ)). IsHeldRun os first count) (sym owners_same) at.run; noted = notes first count home at }, λ k low high. ap (λ (bs : List ℕ). slice_index bs k) bytes_same)

  module _ (id : ℕ) (pool : Pool) (is : IsPool old id pool) where
    pub still_seen : pool_seen new.space.bytes pool ≡ pool_seen old.space.bytes pool
    still_seen = pool_same any_run old new space still_space still_long (all_still any_run) id pool is (λ k j first. tt) (λ first. tt)

    pub still_pool : IsPool new id pool
    still_pool = pool_kept any_run old new space still_space still_long (all_still any_run) id pool is (λ k j first. tt) (λ first. tt)

    pub no_change : Changes id old new pool pool
    no_change = record { space = still_space; long = still_long; is_pool = still_pool; others = all_still (of_others id); counted = ap (λ n. pool.slabs + n) (ap free_count owners_same) }

    pub unchanged : Unchanged old new pool pool
    unchanged = (owners_same, still_seen)

-- ---- a run was taken

module _ (old new : Slabs) (first count : ℕ) (home : Home) (some : 1 ≤ count) (space : IsSpace old.space) (lowest : IsLowestRun old.space.owners count first) (taken : new.space ≡ with_taken old.space first count)
    (noted : slice_get new.homes.items first ≡ Some home) (notes : KeepsNotes old.homes.items new.homes.items first) where
  owners_taken : new.space.owners ≡ with_run old.space.owners first count (Some first)
  owners_taken = ap (λ (s : Space). s.owners) taken

  pub bytes_taken : new.space.bytes ≡ old.space.bytes
  bytes_taken = ap (λ (s : Space). s.bytes) taken

  pub taken_long : length new.space.owners ≡ length old.space.owners
  taken_long = ap length owners_taken ∙ length-with_run old.space.owners first count (Some first) lowest.free.inside

  pub taken_space : IsSpace new.space
  taken_space = let size = ap (λ (bs : List ℕ). length bs) bytes_taken in record { whole = omega (arith, size, space.whole, taken_long); small = omega (arith, taken_long, space.small) }

  pub taken_home : IsAtHome new first count home
  taken_home = record { run = subst (λ (os : List (Option ℕ)). IsHeldRun os first count) (sym owners_taken) (taken_run old.space.owners first count some lowest.free.inside); noted = noted }

  pub not_first : (f n : ℕ) → IsHeldRun old.space.owners f n → ¬ (f ≡ first)
  not_first f n run e =
      let held = run.held f (omega arith) (omega (arith, run.some)) in
      let free = lowest.free.free first (omega arith) (omega (arith, some)) in
      let both = sym held ∙ ap (owner_at old.space.owners) e ∙ free in absurd cc

  pub keeps_homes : KeepsHomes old new
  keeps_homes f n h at = notes f h (not_first f n at.run) at.noted

  pub taken_keeps : (kept : ℕ → Home → Type 0) → Keeps kept old new
  taken_keeps kept f n h is at = (
    record {
      run = subst (λ (os : List (Option ℕ)). IsHeldRun os f n) (sym owners_taken) (held_kept old.space.owners f n at.run first count (Some first) lowest.free.inside (free_apart old.space.owners f n at.run first count some lowest.free));
      noted = notes f h (not_first f n at.run) at.noted;
    },
    λ k low high. ap (λ (bs : List ℕ). slice_index bs k) bytes_taken,
  )

  pub taken_counted : free_count new.space.owners + count ≡ free_count old.space.owners
  taken_counted = ap (λ n. n + count) (ap free_count owners_taken) ∙ free_count_taken old.space.owners first count lowest.free
