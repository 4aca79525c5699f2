-- What is found of a pool at a place.
use Rattle.std.proofs.Common.{◌≡◌, ℕ, ◌+◌, ◌-◌, ◌*◌, ◌/◌, ◌%◌, ◌<◌, ◌≤◌, Bool, true, false, List, Option, Some, None, refl, sym, ap, subst, ◌∙◌, arith}
use Rattle.std.specs.Prelude.{◌&&◌, nat_lt, ◌==◌, if◌then◌else◌, slice_get, slice_index, slice_index_or}
use Rattle.std.proofs.lemmas.Bool.{eqb-true, eq-eqb, ltb-true, lt-ltb}
use Rattle.std.proofs.lemmas.Option.{get_or_from_slice_get, some_pair_parts}
use Rattle.std.proofs.Math.Nat.{mod-lt, div-add-mod, div-add-mod'}
use Rattle.std.proofs.lemmas.Nat.{div-mul-add, mod-mul-add}
use Rattle.slab_space.specs.Pool.{cells_per_run}
use Rattle.pool_runtime.specs.declared.cells.Cells.{Cells}
use Rattle.pool_runtime.specs.declared.pool.Pool.{Pool}
use Rattle.pool_runtime.specs.declared.slabs.Found.{Found}
use Rattle.pool_runtime.specs.declared.slabs.Held.TheVariants as held
use Rattle.pool_runtime.specs.Seen.{place, cell_found}
use Rattle.pool_runtime.specs.Lookup.{cell_in_run, cell_in_class, cell_of, live_covers, class_covers, held_covers, is_covered}
use Rattle.pool_runtime.proofs.Places.{some_per_run}

both_true : (a b : Bool) → (a && b) ≡ true → (a ≡ true) × (b ≡ true)
both_true true b e = (refl, e)
both_true false b e = absurd cc

abbrev pair_if : Bool → ℕ → ℕ → Option (ℕ × ℕ)
pair_if b number off = if b then Some (number, off) else None

-- the made cell `number` of a class, and a byte of it, was found
pub record CellThere (classes : List Cells) (found : Found) (class run number off : ℕ) : Type 0 where
  pub cells : Cells
  pub at : slice_get classes class ≡ Some cells
  pub first : slice_get cells.runs.items run ≡ Some found.first
  pub inside : found.within / cells.size < cells_per_run cells.size
  pub made : run * cells_per_run cells.size + found.within / cells.size < cells.made
  pub number_is : run * cells_per_run cells.size + found.within / cells.size + 1 ≡ number
  pub off_is : found.within % cells.size ≡ off

module _ (classes : List Cells) (found : Found) (class run number off : ℕ) where
  by_tests : (c : Cells) (b : Bool) → (nat_lt (found.within / c.size) (cells_per_run c.size) && nat_lt (run * cells_per_run c.size + found.within / c.size) c.made) ≡ b
      → slice_get classes class ≡ Some c → slice_get c.runs.items run ≡ Some found.first
      → pair_if b (run * cells_per_run c.size + found.within / c.size + 1) (found.within % c.size) ≡ Some (number, off) → CellThere classes found class run number off
  by_tests c false t at first e = absurd cc
  by_tests c true t at first e =
      let tests = both_true (nat_lt (found.within / c.size) (cells_per_run c.size)) (nat_lt (run * cells_per_run c.size + found.within / c.size) c.made) t in
      let parts = some_pair_parts (run * cells_per_run c.size + found.within / c.size + 1) number (found.within % c.size) off e in
      record {
        cells = c;
        at = at;
        first = first;
        inside = ltb-true (found.within / c.size) (cells_per_run c.size) tests.0;
        made = ltb-true (run * cells_per_run c.size + found.within / c.size) c.made tests.1;
        number_is = parts.0;
        off_is = parts.1;
      }

  by_run : (c : Cells) (first : ℕ) (b : Bool) → (first == found.first) ≡ b → slice_get classes class ≡ Some c → slice_get c.runs.items run ≡ Some first
      → (if b then cell_found c run found.within else None) ≡ Some (number, off) → CellThere classes found class run number off
  by_run c first false t at e h = absurd cc
  by_run c first true t at e h =
      by_tests c (nat_lt (found.within / c.size) (cells_per_run c.size) && nat_lt (run * cells_per_run c.size + found.within / c.size) c.made) refl at (e ∙ ap Some (eqb-true first found.first t)) h

  by_first : (c : Cells) (mf : Option ℕ) → slice_get classes class ≡ Some c → slice_get c.runs.items run ≡ mf → cell_in_run c found run mf ≡ Some (number, off) → CellThere classes found class run number off
  by_first c None at e h = absurd cc
  by_first c (Some first) at e h = by_run c first (first == found.first) refl at e h

  by_class : (mc : Option Cells) → slice_get classes class ≡ mc → cell_in_class found run mc ≡ Some (number, off) → CellThere classes found class run number off
  by_class None at h = absurd cc
  by_class (Some c) at h = by_first c (slice_get c.runs.items run) at refl h

  pub cell_there : cell_of classes found class run ≡ Some (number, off) → CellThere classes found class run number off
  cell_there h = by_class (slice_get classes class) refl h

  -- and the other way round
  pub there_is : CellThere classes found class run number off → cell_of classes found class run ≡ Some (number, off)
  there_is is =
      let c = is.cells in
      ap (cell_in_class found run) is.at ∙ ap (cell_in_run c found run) is.first
      ∙ ap (λ (b : Bool). if b then cell_found c run found.within else None) (eq-eqb found.first found.first refl)
      ∙ ap (λ (b : Bool). pair_if (b && nat_lt (run * cells_per_run c.size + found.within / c.size) c.made) (run * cells_per_run c.size + found.within / c.size + 1) (found.within % c.size)) (lt-ltb (found.within / c.size) (cells_per_run c.size) is.inside)
      ∙ ap (λ (b : Bool). pair_if b (run * cells_per_run c.size + found.within / c.size + 1) (found.within % c.size)) (lt-ltb (run * cells_per_run c.size + found.within / c.size) c.made is.made)
      ∙ ap (λ n. pair_if true n (found.within % c.size)) is.number_is ∙ ap (pair_if true number) is.off_is

-- where it lies
module _ (classes : List Cells) (found : Found) (class run number off : ℕ) (is : CellThere classes found class run number off) where
  pub some_number : 1 ≤ number
  some_number = omega (arith, is.number_is)

  pub made_number : number ≤ is.cells.made
  made_number = omega (arith, is.number_is, is.made)

  pub off_inside : 1 ≤ is.cells.size → off < is.cells.size
  off_inside some = subst (λ o. o < is.cells.size) is.off_is (mod-lt found.within some)

  pub off_within : off ≤ found.within
  off_within = omega (arith, is.off_is, div-add-mod found.within is.cells.size)

  before_is : number - 1 ≡ run * cells_per_run is.cells.size + found.within / is.cells.size
  before_is = omega (arith, is.number_is)

  run_is : (number - 1) / cells_per_run is.cells.size ≡ run
  run_is = ap (λ n. n / cells_per_run is.cells.size) before_is ∙ div-mul-add run (cells_per_run is.cells.size) (found.within / is.cells.size) is.inside

  pub place_is : 1 ≤ is.cells.size → place is.cells number + off ≡ 4096 * found.first + found.within
  place_is some =
      let c = is.cells in let per = cells_per_run c.size in
      let cell : (number - 1) % per ≡ found.within / c.size = ap (λ n. n % per) before_is ∙ mod-mul-add run per (found.within / c.size) is.inside in
      let first : slice_index c.runs.items ((number - 1) / per) ≡ found.first = ap (slice_index c.runs.items) run_is ∙ get_or_from_slice_get c.runs.items run found.first 0 is.first in
      let whole = div-add-mod found.within c.size in
      let one = ap (λ f. 4096 * f + c.size * ((number - 1) % per) + off) first in
      let two = ap (λ k. 4096 * found.first + c.size * k + off) cell in
      one ∙ two ∙ omega (arith, whole, is.off_is)

-- a made cell is found by each of its bytes
pub cell_is_there : (classes : List Cells) (class number off first : ℕ) (c : Cells) (found : Found) → slice_get classes class ≡ Some c → 1 ≤ number → number ≤ c.made → 1 ≤ c.size → off < c.size
    → slice_get c.runs.items ((number - 1) / cells_per_run c.size) ≡ Some found.first → found.within ≡ (number - 1) % cells_per_run c.size * c.size + off
    → CellThere classes found class ((number - 1) / cells_per_run c.size) number off
cell_is_there classes class number off first c found at one made some inside run within =
    let per = cells_per_run c.size in
    let cell : found.within / c.size ≡ (number - 1) % per = ap (λ w. w / c.size) within ∙ div-mul-add ((number - 1) % per) c.size off inside in
    let byte : found.within % c.size ≡ off = ap (λ w. w % c.size) within ∙ mod-mul-add ((number - 1) % per) c.size off inside in
    let whole = div-add-mod' (number - 1) per in
    let count : (number - 1) / per * per + found.within / c.size ≡ number - 1 = ap (λ k. (number - 1) / per * per + k) cell ∙ whole in
    record {
      cells = c;
      at = at;
      first = run;
      inside = subst (λ k. k < per) (sym cell) (mod-lt (number - 1) (omega (arith, some_per_run c.size)));
      made = omega (arith, count);
      number_is = omega (arith, count);
      off_is = byte;
    }

-- ---- ranges in one cell or object

covers_class : (classes : List Cells) (found : Found) (class run width : ℕ) (c : Cells) (at : ℕ × ℕ) (mc : Option Cells) → slice_get classes class ≡ mc → c ≡ slice_index_or classes class c → cell_in_class found run mc ≡ Some at
    → class_covers found width run mc ≡ live_covers c width (Some at)
covers_class classes found class run width c at None e same h = absurd cc
covers_class classes found class run width c at (Some c') e same h =
    let is : c ≡ c' = same ∙ get_or_from_slice_get classes class c' c e in
    ap (live_covers c' width) h ∙ ap (λ (x : Cells). live_covers x width (Some at)) (sym is)

pub covers_cell : (pool : Pool) (found : Found) (width class run : ℕ) (c : Cells) (at : ℕ × ℕ) → found.home.held ≡ held.Cells class run → c ≡ slice_index_or pool.classes.items class c → cell_of pool.classes.items found class run ≡ Some at
    → is_covered pool found width ≡ live_covers c width (Some at)
covers_cell pool found width class run c at home same h =
    ap (held_covers pool found width) home ∙ covers_class pool.classes.items found class run width c at (slice_get pool.classes.items class) refl same h
