-- A cell of a pool is freed.
use Rattle.std.proofs.Common.{◌≡◌, ℕ, zero, suc, ◌+◌, ◌-◌, ◌*◌, ◌/◌, ◌<◌, ◌≤◌, Bool, true, false, List, [], ◌∷◌, Option, Some, None, length, map, set, refl, sym, ap, subst, ◌∙◌, inl, inr, ◌⊎◌, arith}
use Rattle.std.specs.Prelude.{if◌then◌else◌, ◌&&◌, nat_lt, slice_get, slice_index, option_map}
use Rattle.std.specs.Vec.{with_item}
use Rattle.std.proofs.lemmas.Bool.{lt-ltb, ltb-true, false_from_ne_true}
use Rattle.std.proofs.lemmas.Option.{same_Some}
use Rattle.std.proofs.lemmas.List.{length-set}
use Rattle.run_theory.specs.Words.{with_word}
use Rattle.raw_slab.proofs.WordsWritten.{length-with_word}
use Rattle.slab_space.specs.Runs.{need, free_count, IsHeldRun}
use Rattle.slab_space.specs.Space.{Space}
use Rattle.slab_space.specs.Pool.{cells_per_run, made_in, number_at, with_freed, is_live}
use Rattle.slab_space.specs.Pool as seen
use Rattle.slab_space.specs.PoolSteps.{PoolInSlabs, freed_among}
use Rattle.pool_runtime.specs.declared.cells.Cells.{Cells}
use Rattle.pool_runtime.specs.declared.pool.Pool.{Pool}
use Rattle.pool_runtime.specs.declared.slabs.Home.{Home}
use Rattle.pool_runtime.specs.declared.slabs.Slabs.{Slabs}
use Rattle.pool_runtime.specs.Bytes.{SameAt}
use Rattle.pool_runtime.specs.Seen.{place, class_seen, pool_seen}
use Rattle.pool_runtime.specs.Tables.{IsSpace, IsCells, IsAtHome, IsClass, IsPool, of_class}
use Rattle.pool_runtime.specs.Changes.{Keeps, Changes}
use Rattle.pool_runtime.proofs.Apart.{held_apart}
use Rattle.pool_runtime.proofs.Ranges.{same_below_word, same_above_word}
use Rattle.pool_runtime.proofs.Places.{run_of, run_inside, place_low, place_high}
use Rattle.pool_runtime.proofs.CellsSeen.{length-cells_seen}
use Rattle.pool_runtime.proofs.Parts.{same_pool}
use Rattle.pool_runtime.proofs.Loads.{class_cell_inside}
use Rattle.pool_runtime.proofs.Sums.{lives_of, class_need, live_is, sum_at}
use Rattle.pool_runtime.proofs.ClassChanged.{not_class, others_kept, class_changed, class_changed_seen}
use Rattle.pool_runtime.proofs.Taken.{length-threaded}

-- ---- the class that has the cell

abbrev freed_if : Bool → seen.Cells → ℕ → List seen.Cells → Option (List seen.Cells) → Option (List seen.Cells)
freed_if b c number rest behind = if b then Some (with_freed c number ∷ rest) else option_map (λ classes. c ∷ classes) behind

both_true : (a b : Bool) → a ≡ true → b ≡ true → (a && b) ≡ true
both_true true b ea eb = eb
both_true false b ea eb = absurd cc

one_false : (a b : Bool) → (a ≡ false) ⊎ (b ≡ false) → (a && b) ≡ false
one_false true b (inl e) = absurd cc
one_false true b (inr e) = e
one_false false b e = refl

pub freed_there : (cs : List seen.Cells) (address k number : ℕ) (c : seen.Cells) → slice_get cs k ≡ Some c → ((i : ℕ) (x : seen.Cells) → i < k → slice_get cs i ≡ Some x → number_at x (made_in x) address ≡ 0)
    → number_at c (made_in c) address ≡ number → 1 ≤ number → is_live c number ≡ true → freed_among cs address ≡ Some (set cs k (with_freed c number))
freed_there [] address k number c at before is some live = absurd cc
freed_there (x ∷ cs) address zero number c at before is some live =
    let same : x ≡ c = same_Some x c at in
    ap (λ (y : seen.Cells). freed_if (nat_lt 0 (number_at y (made_in y) address) && is_live y (number_at y (made_in y) address)) y (number_at y (made_in y) address) cs (freed_among cs address)) same
    ∙ ap (λ n. freed_if (nat_lt 0 n && is_live c n) c n cs (freed_among cs address)) is
    ∙ ap (λ (b : Bool). freed_if b c number cs (freed_among cs address)) (both_true (nat_lt 0 number) (is_live c number) (lt-ltb 0 number some) live)
freed_there (x ∷ cs) address (suc k) number c at before is some live =
    let none = before 0 x (omega arith) refl in
    let n = number_at x (made_in x) address in
    let test = one_false (nat_lt 0 n) (is_live x n) (inl (false_from_ne_true (nat_lt 0 n) (λ t. absurd (omega (arith, ltb-true 0 n t, none))))) in
    ap (λ (b : Bool). freed_if b x n cs (freed_among cs address)) test
    ∙ ap (option_map (λ (classes : List seen.Cells). x ∷ classes)) (freed_there cs address k number c at (λ i y low at_i. before (suc i) y (omega arith) at_i) is some live)

pub freed_nowhere : (cs : List seen.Cells) (address : ℕ) → ((i : ℕ) (x : seen.Cells) → slice_get cs i ≡ Some x → (number_at x (made_in x) address ≡ 0) ⊎ (is_live x (number_at x (made_in x) address) ≡ false)) → freed_among cs address ≡ None
freed_nowhere [] address each = refl
freed_nowhere (x ∷ cs) address each =
    let n = number_at x (made_in x) address in
    let test = one_false (nat_lt 0 n) (is_live x n) (elim (each 0 x refl) [
      | inl none ↦ inl (false_from_ne_true (nat_lt 0 n) (λ t. absurd (omega (arith, ltb-true 0 n t, none))))
      | inr dead ↦ inr dead
    ]) in
    ap (λ (b : Bool). freed_if b x n cs (freed_among cs address)) test
    ∙ ap (option_map (λ (classes : List seen.Cells). x ∷ classes)) (freed_nowhere cs address (λ i y at. each (suc i) y at))

-- ---- the pool

abbrev step_to : List (Option ℕ) → seen.Pool → Option PoolInSlabs
step_to owners pool = Some (record { owners = owners; pool = pool })

pub same_end : {os os' : List (Option ℕ)} {p p' : seen.Pool} → os ≡ os' → p ≡ p' → step_to os p ≡ step_to os' p'
same_end eos ep = rw (eos, ep) refl

module _ (bytes bytes' : List ℕ) (c c' : Cells) (number : ℕ) (table : IsCells bytes c) (table' : IsCells bytes' c') (next : class_seen bytes' c' ≡ with_freed (class_seen bytes c) number) where
  pub one_less : lives_of bytes' c' + 1 ≡ lives_of bytes c
  one_less =
      let made = length-cells_seen bytes c c.made in let made' = length-cells_seen bytes' c' c'.made in
      let freed = length-threaded bytes c c.freed c.last_freed in let freed' = length-threaded bytes' c' c'.freed c'.last_freed in
      let cells = ap (λ (x : seen.Cells). length x.cells) next in let list = ap (λ (x : seen.Cells). length x.freed) next in
      omega (arith, table.counted, table'.counted, made, made', freed, freed', cells, list, length-set (class_seen bytes c).cells (number - 1) None)

-- the cell that was live is counted
pub some_live : (id k : ℕ) (old : Slabs) (pool : Pool) (r c' : Cells) (bytes' : List ℕ) (number : ℕ) → IsPool old id pool → slice_get pool.classes.items k ≡ Some r → IsCells bytes' c' → class_seen bytes' c' ≡ with_freed (class_seen old.space.bytes r) number
    → 1 ≤ pool.live
some_live id k old pool r c' bytes' number is at table' next =
    let b = old.space.bytes in
    omega (arith, one_less b bytes' r c' number (is.classes k r at).cells table' next, sum_at (lives_of b) pool.classes.items k r at, live_is b pool, is.live)

-- the pool with a class changed and one cell less live
abbrev pub with_one_freed : Pool → ℕ → Cells → Pool
with_one_freed pool k c = record pool { classes = with_item pool.classes k c; live = pool.live - 1 }

module _ (id k : ℕ) (old : Slabs) (pool : Pool) (r : Cells) (space : IsSpace old.space) (is : IsPool old id pool) (at_k : slice_get pool.classes.items k ≡ Some r) (number word : ℕ) (some : 1 ≤ number) (made : number ≤ r.made) where
  cell_fits : place r number + r.size ≤ length old.space.bytes
  cell_fits = class_cell_inside old space id k r (is.classes k r at_k) number some made

  start_fits : place r number + 4 ≤ length old.space.bytes
  start_fits = omega (arith, cell_fits, (is.classes k r at_k).cells.least)

  module _ (new : Slabs) (pool' : Pool) (c' : Cells) (space' : new.space ≡ record old.space { bytes = with_word old.space.bytes (place r number) 4 word }) (homes : new.homes.items ≡ old.homes.items)
      (kind : pool'.kind ≡ pool.kind) (classes' : pool'.classes.items ≡ set pool.classes.items k c') (large' : pool'.large.entries ≡ pool.large.entries) (slabs' : pool'.slabs ≡ pool.slabs)
      (live' : pool'.live + 1 ≡ pool.live) (peak' : pool'.peak ≡ pool.peak) (size : c'.size ≡ r.size) (runs' : c'.runs.items ≡ r.runs.items)
      (next : class_seen new.space.bytes c' ≡ with_freed (class_seen old.space.bytes r) number) (table' : IsCells new.space.bytes c') where
    owners' : new.space.owners ≡ old.space.owners
    owners' = ap (λ (s : Space). s.owners) space'

    bytes' : new.space.bytes ≡ with_word old.space.bytes (place r number) 4 word
    bytes' = ap (λ (s : Space). s.bytes) space'

    long : length new.space.owners ≡ length old.space.owners
    long = ap (λ (os : List (Option ℕ)). length os) owners'

    is_space : IsSpace new.space
    is_space =
        let count = ap (λ (bs : List ℕ). length bs) bytes' ∙ length-with_word old.space.bytes (place r number) 4 word start_fits in
        record { whole = omega (arith, count, long, space.whole); small = omega (arith, long, space.small) }

    at_home : (f n : ℕ) (h : Home) → IsAtHome old f n h → IsAtHome new f n h
    at_home f n h at = record { run = subst (λ (os : List (Option ℕ)). IsHeldRun os f n) (sym owners') at.run; noted = ap (λ (hs : List Home). slice_get hs f) homes ∙ at.noted }

    run : IsAtHome old (run_of r number) (need r.size) (of_class id k ((number - 1) / cells_per_run r.size))
    run =
        let t = is.classes k r at_k in
        t.runs ((number - 1) / cells_per_run r.size) (run_inside r number some (omega (arith, made, t.cells.made, t.cells.room)))

    keeps : Keeps (not_class id k) old new
    keeps f n h differ at =
        let t = (is.classes k r at_k).cells in
        let here = place_low r number in let there = place_high r number (omega (arith, t.least)) in
        let other : ¬ (f ≡ run_of r number) = λ e. differ ((number - 1) / cells_per_run r.size) (same_Some h (of_class id k ((number - 1) / cells_per_run r.size)) (sym at.noted ∙ ap (λ x. slice_get old.homes.items x) e ∙ run.noted)) in
        let same : SameAt old.space.bytes (with_word old.space.bytes (place r number) 4 word) (4096 * f) (4096 * n) = elim (held_apart old.space.owners f n at.run (run_of r number) (need r.size) run.run other) [
          | inl before ↦ same_below_word old.space.bytes (place r number) 4 word start_fits (4096 * f) (4096 * n) (omega arith)
          | inr behind ↦ same_above_word old.space.bytes (place r number) 4 word start_fits (4096 * f) (4096 * n) (omega (arith, behind, there, t.least))
        ] in
        (at_home f n h at, λ x low high. ap (λ (bs : List ℕ). slice_index bs x) bytes' ∙ same x low high)

    class' : IsClass new id k c'
    class' = record {
      cells = table';
      runs = λ i h.
          let t = is.classes k r at_k in
          let count = ap (λ (rs : List ℕ). length rs) runs' in
          let home = at_home (slice_index r.runs.items i) (need r.size) (of_class id k i) (t.runs i (omega (arith, h, count))) in
          subst (λ f. IsAtHome new f (need c'.size) (of_class id k i)) (sym (ap (λ (rs : List ℕ). slice_index rs i) runs')) (subst (λ s. IsAtHome new (slice_index r.runs.items i) (need s) (of_class id k i)) (sym size) home);
    }

    less : lives_of new.space.bytes c' + 1 ≡ lives_of old.space.bytes r
    less = one_less old.space.bytes new.space.bytes r c' number (is.classes k r at_k).cells table' next

    needs : class_need c' ≡ class_need r
    needs = ap (λ s. need s * length c'.runs.items) size ∙ ap (λ (rs : List ℕ). need r.size * length rs) runs'

    pub freed_changes : Changes id old new pool pool'
    freed_changes = record {
      space = is_space;
      long = long;
      is_pool = class_changed old new id k pool pool' r c' space is_space long is at_k keeps kind classes' large' size class' (omega (arith, live', less)) (omega (arith, slabs', needs));
      others = others_kept id k old new keeps;
      counted = let free = ap free_count owners' in omega (arith, free, slabs');
    }

    pub freed_seen_now : pool_seen new.space.bytes pool' ≡ record (pool_seen old.space.bytes pool) { classes = set (pool_seen old.space.bytes pool).classes k (with_freed (class_seen old.space.bytes r) number) }
    freed_seen_now =
        class_changed_seen old new id k pool pool' r c' space is_space long is at_k keeps kind classes' large' size class'
        ∙ same_pool refl (ap (set (map (class_seen old.space.bytes) pool.classes.items) k) next) refl peak'
