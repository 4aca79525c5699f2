-- A cell of a pool becomes live.
use Rattle.std.proofs.Common.{◌≡◌, ℕ, zero, suc, ◌+◌, ◌-◌, ◌*◌, ◌^◌, ◌/◌, ◌<◌, ◌≤◌, Bool, true, List, [], ◌∷◌, Option, Some, length, map, max, get_or, set, refl, sym, ap, subst, ◌∙◌, inl, inr, arith}
use Rattle.std.specs.Prelude.{if◌then◌else◌, slice_get, slice_index}
use Rattle.std.proofs.lemmas.Bool.{eq-eqb, ne_eqb}
use Rattle.std.proofs.lemmas.Option.{same_Some}
use Rattle.std.proofs.lemmas.List.{length_push, length-set}
use Rattle.std.proofs.Math.Nat.{mul-le-mul_left}
use Rattle.slab_space.specs.Runs.{need, free_count, with_run, IsHeldRun}
use Rattle.run_theory.specs.Words.{word_at, zeros}
use Rattle.slab_space.specs.Space.{Space}
use Rattle.slab_space.specs.Pool.{cells_per_run, cell_address, next_number, with_next, has_room, with_peak, live_in}
use Rattle.slab_space.specs.Pool as seen
use Rattle.slab_space.specs.PoolSteps.{PoolInSlabs, Allocation, placed, placed_cell}
use Rattle.slab_space.proofs.WithRun.{length-with_run}
use Rattle.pool_runtime.specs.declared.cells.Cells.{Cells}
use Rattle.pool_runtime.specs.declared.pool.Pool.{Pool}
use Rattle.pool_runtime.specs.declared.slabs.Home.{Home}
use Rattle.pool_runtime.specs.declared.slabs.Slabs.{Slabs}
use Rattle.pool_runtime.specs.Bytes.{SameAt}
use Rattle.pool_runtime.specs.Seen.{place, threaded, freed_seen, class_seen, pool_seen, number_next}
use Rattle.pool_runtime.specs.Tables.{IsSpace, IsCells, IsAtHome, IsClass, IsLarge, IsPool, AreRuns, of_class}
use Rattle.pool_runtime.specs.Changes.{Keeps, Changes}
use Rattle.pool_runtime.proofs.Apart.{held_apart}
use Rattle.pool_runtime.proofs.Ranges.{same_below_run, same_above_run, held_inside}
use Rattle.pool_runtime.proofs.Places.{run_of, run_inside, place_low, place_high, few_per_run}
use Rattle.pool_runtime.proofs.CellsSeen.{length-cells_seen}
use Rattle.pool_runtime.proofs.CellsSteps.{next_inside, cell_held}
use Rattle.pool_runtime.proofs.Fresh.{all_at}
use Rattle.pool_runtime.proofs.Parts.{same_pool}
use Rattle.pool_runtime.proofs.Loads.{class_runs}
use Rattle.pool_runtime.proofs.Objects.{address_is}
use Rattle.pool_runtime.proofs.Sums.{lives_of, class_need, live_is, slabs_is, sum_scaled, each_needs}
use Rattle.pool_runtime.proofs.ClassChanged.{not_class, others_kept, class_changed, class_changed_seen}
use Rattle.pool_runtime.proofs.AddRun.{larges_fit, class_at, class_is}

-- ---- counts

pub length-threaded : (bytes : List ℕ) (c : Cells) (count number : ℕ) → length (threaded bytes c count number) ≡ count
length-threaded bytes c zero number = refl
length-threaded bytes c (suc count) number = ap (λ n. suc n) (length-threaded bytes c count (word_at bytes (place c number) 4))

counts_next : (cs : seen.Cells) (fs : List ℕ) → cs.freed ≡ fs → length (with_next cs fs).cells + length fs ≡ length cs.cells + length (with_next cs fs).freed + 1
counts_next cs [] e = let none = ap (λ (xs : List ℕ). length xs) e in omega (arith, length_push cs.cells (Some (zeros cs.size)), none)
counts_next cs (n ∷ rest) e = omega (arith, length-set cs.cells (n - 1) (Some (zeros cs.size)))

module _ (bytes bytes' : List ℕ) (c c' : Cells) (table : IsCells bytes c) (table' : IsCells bytes' c') (next : class_seen bytes' c' ≡ with_next (class_seen bytes c) (freed_seen bytes c)) where
  pub one_more : lives_of bytes' c' ≡ lives_of bytes c + 1
  one_more =
      let made = length-cells_seen bytes c c.made in let made' = length-cells_seen bytes' c' c'.made in
      let freed = length-threaded bytes c c.freed c.last_freed in let freed' = length-threaded bytes' c' c'.freed c'.last_freed in
      let cells = ap (λ (x : seen.Cells). length x.cells) next in let list = ap (λ (x : seen.Cells). length x.freed) next in
      let both = counts_next (class_seen bytes c) (freed_seen bytes c) refl in
      omega (arith, table.counted, table'.counted, made, made', freed, freed', cells, list, both)

number_by : (bytes : List ℕ) (c : Cells) (f : ℕ) → c.freed ≡ f → next_number (class_seen bytes c) (threaded bytes c f c.last_freed) ≡ number_next c
number_by bytes c zero e = ap (λ n. n + 1) (length-cells_seen bytes c c.made) ∙ sym (ap (λ (b : Bool). if b then c.made + 1 else c.last_freed) (eq-eqb c.freed 0 e))
number_by bytes c (suc f) e = sym (ap (λ (b : Bool). if b then c.made + 1 else c.last_freed) (ne_eqb c.freed 0 (λ z. absurd (omega (arith, e, z)))))

pub number_is : (bytes : List ℕ) (c : Cells) → next_number (class_seen bytes c) (freed_seen bytes c) ≡ number_next c
number_is bytes c = number_by bytes c c.freed refl

pub few_live : (slabs : Slabs) (id : ℕ) (pool : Pool) → IsSpace slabs.space → IsPool slabs id pool → pool.live ≤ 1024 * pool.slabs
few_live slabs id pool space is =
    let bytes = slabs.space.bytes in
    let cells = sum_scaled (lives_of bytes) class_need 1024 pool.classes.items (λ k c at.
    let t = (is.classes k c at).cells in
    let per = mul-le-mul_left (length c.runs.items) (few_per_run c.size t.least) in
    let some : 1 ≤ need c.size = (let least = t.least in omega arith) in
    let one = mul-le-mul_left (length c.runs.items) some in
    omega (arith, t.counted, t.made, t.room, per, one)) in
    let larges = each_needs pool.large.entries (λ i e at. (all_at (IsLarge slabs id) pool.large.entries i e is.large at).some) in
    omega (arith, is.live, is.slabs, live_is bytes pool, slabs_is bytes pool (larges_fit slabs id pool space is), cells, larges)

abbrev step_to : ℕ → List (Option ℕ) → seen.Pool → Allocation PoolInSlabs
step_to address owners pool = placed address (record { owners = owners; pool = pool })

pub same_step : {a a' : ℕ} {os os' : List (Option ℕ)} {p p' : seen.Pool} → a ≡ a' → os ≡ os' → p ≡ p' → step_to a os p ≡ step_to a' os' p'
same_step ea eos ep = rw (ea, eos, ep) refl

-- ---- the cell

module _ (id k : ℕ) (old : Slabs) (pool : Pool) (r : Cells) (space : IsSpace old.space) (is : IsPool old id pool) (inside : k < length pool.classes.items) (r_is : r ≡ get_or pool.classes.items k r)
    (room : has_room (class_seen old.space.bytes r) ≡ true) where
  pub runs_are : AreRuns old.space.owners r
  runs_are = class_runs old id k r (class_is id k old pool r space is inside r_is)

  number_in : (1 ≤ number_next r) × (number_next r ≤ length r.live.items)
  number_in = next_inside old.space.bytes r (class_is id k old pool r space is inside r_is).cells room

  pub cell_fits : place r (number_next r) + r.size ≤ length old.space.bytes
  cell_fits =
      let t = (class_is id k old pool r space is inside r_is).cells in
      held_inside old.space space (place r (number_next r)) r.size (omega (arith, t.least)) (cell_held old.space space r t runs_are (number_next r) number_in.0 number_in.1)

  module _ (new : Slabs) (pool' : Pool) (c' : Cells) (space' : new.space ≡ record old.space { bytes = with_run old.space.bytes (place r (number_next r)) r.size 0 }) (homes : new.homes.items ≡ old.homes.items)
      (kind : pool'.kind ≡ pool.kind) (classes' : pool'.classes.items ≡ set pool.classes.items k c') (large' : pool'.large.entries ≡ pool.large.entries) (slabs' : pool'.slabs ≡ pool.slabs)
      (live' : pool'.live ≡ pool.live + 1) (peak' : pool'.peak ≡ max pool.peak (pool.live + 1)) (size : c'.size ≡ r.size) (runs' : c'.runs.items ≡ r.runs.items)
      (next : class_seen new.space.bytes c' ≡ with_next (class_seen old.space.bytes r) (freed_seen old.space.bytes r)) (table' : IsCells new.space.bytes c') where
    owners' : new.space.owners ≡ old.space.owners
    owners' = ap (λ (s : Space). s.owners) space'

    bytes' : new.space.bytes ≡ with_run old.space.bytes (place r (number_next r)) r.size 0
    bytes' = ap (λ (s : Space). s.bytes) space'

    long : length new.space.owners ≡ length old.space.owners
    long = ap (λ (os : List (Option ℕ)). length os) owners'

    is_space : IsSpace new.space
    is_space =
        let count = ap (λ (bs : List ℕ). length bs) bytes' ∙ length-with_run old.space.bytes (place r (number_next r)) r.size 0 cell_fits in
        record { whole = omega (arith, count, long, space.whole); small = omega (arith, long, space.small) }

    at_home : (f n : ℕ) (h : Home) → IsAtHome old f n h → IsAtHome new f n h
    at_home f n h at = record { run = subst (λ (os : List (Option ℕ)). IsHeldRun os f n) (sym owners') at.run; noted = ap (λ (hs : List Home). slice_get hs f) homes ∙ at.noted }

    run : IsAtHome old (run_of r (number_next r)) (need r.size) (of_class id k ((number_next r - 1) / cells_per_run r.size))
    run =
        let t = class_is id k old pool r space is inside r_is in
        t.runs ((number_next r - 1) / cells_per_run r.size) (run_inside r (number_next r) number_in.0 (omega (arith, number_in.1, t.cells.room)))

    keeps : Keeps (not_class id k) old new
    keeps f n h differ at =
        let t = (class_is id k old pool r space is inside r_is).cells in
        let here = place_low r (number_next r) in let there = place_high r (number_next r) (omega (arith, t.least)) in
        let other : ¬ (f ≡ run_of r (number_next r)) = λ e. differ ((number_next r - 1) / cells_per_run r.size) (same_Some h (of_class id k ((number_next r - 1) / cells_per_run r.size)) (sym at.noted ∙ ap (λ x. slice_get old.homes.items x) e ∙ run.noted)) in
        let same : SameAt old.space.bytes (with_run old.space.bytes (place r (number_next r)) r.size 0) (4096 * f) (4096 * n) = elim (held_apart old.space.owners f n at.run (run_of r (number_next r)) (need r.size) run.run other) [
          | inl before ↦ same_below_run old.space.bytes (place r (number_next r)) r.size (4096 * f) (4096 * n) cell_fits (omega arith)
          | inr behind ↦ same_above_run old.space.bytes (place r (number_next r)) r.size (4096 * f) (4096 * n) cell_fits (omega arith)
        ] in
        (at_home f n h at, λ x low high. ap (λ (bs : List ℕ). slice_index bs x) bytes' ∙ same x low high)

    class' : IsClass new id k c'
    class' = record {
      cells = table';
      runs = λ i h.
          let t = class_is id k old pool r space is inside r_is in
          let count = ap (λ (rs : List ℕ). length rs) runs' in
          let home = at_home (slice_index r.runs.items i) (need r.size) (of_class id k i) (t.runs i (omega (arith, h, count))) in
          subst (λ f. IsAtHome new f (need c'.size) (of_class id k i)) (sym (ap (λ (rs : List ℕ). slice_index rs i) runs')) (subst (λ s. IsAtHome new (slice_index r.runs.items i) (need s) (of_class id k i)) (sym size) home);
    }

    at_k : slice_get pool.classes.items k ≡ Some r
    at_k = class_at id k old pool r space is inside r_is

    more : lives_of new.space.bytes c' ≡ lives_of old.space.bytes r + 1
    more = one_more old.space.bytes new.space.bytes r c' (class_is id k old pool r space is inside r_is).cells table' next

    needs : class_need c' ≡ class_need r
    needs = ap (λ s. need s * length c'.runs.items) size ∙ ap (λ (rs : List ℕ). need r.size * length rs) runs'

    is_pool : IsPool new id pool'
    is_pool = class_changed old new id k pool pool' r c' space is_space long is at_k keeps kind classes' large' size class' (omega (arith, live', more)) (omega (arith, slabs', needs))

    pub cell_changes : Changes id old new pool pool'
    cell_changes = record {
      space = is_space;
      long = long;
      is_pool = is_pool;
      others = others_kept id k old new keeps;
      counted = let free = ap free_count owners' in omega (arith, free, slabs');
    }

    seen_now : pool_seen new.space.bytes pool' ≡ record (pool_seen old.space.bytes pool) { classes = set (pool_seen old.space.bytes pool).classes k (with_next (class_seen old.space.bytes r) (freed_seen old.space.bytes r)); peak = max pool.peak (pool.live + 1) }
    seen_now =
        class_changed_seen old new id k pool pool' r c' space is_space long is at_k keeps kind classes' large' size class'
        ∙ same_pool refl (ap (set (map (class_seen old.space.bytes) pool.classes.items) k) next) refl peak'

    pub cell_step : placed_cell old.space.owners (pool_seen old.space.bytes pool) k (class_seen old.space.bytes r) ≡ placed (2 ^ 44 + place r (number_next r)) (record { owners = new.space.owners; pool = pool_seen new.space.bytes pool' })
    cell_step =
        let cs = class_seen old.space.bytes r in let p = pool_seen old.space.bytes pool in
        let lives : live_in (record p { classes = set p.classes k (with_next cs cs.freed) }) ≡ pool.live + 1 = sym (ap live_in seen_now) ∙ sym is_pool.live ∙ live' in
        let peaked : with_peak (record p { classes = set p.classes k (with_next cs cs.freed) }) ≡ pool_seen new.space.bytes pool' = same_pool refl refl refl (ap (max pool.peak) lives) ∙ sym seen_now in
        let address : cell_address cs (next_number cs cs.freed) ≡ 2 ^ 44 + place r (number_next r) = ap (cell_address cs) (number_is old.space.bytes r) ∙ address_is old.space.bytes r (number_next r) in
        same_step address (sym owners') peaked
