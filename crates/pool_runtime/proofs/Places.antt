-- Where cells lie: inside their runs, and apart from one another.
use Rattle.std.proofs.Common.{◌≡◌, ℕ, ◌+◌, ◌-◌, ◌*◌, ◌/◌, ◌%◌, ◌<◌, ◌≤◌, List, Option, length, sym, ap, ◌∙◌, inl, inr, arith}
use Rattle.std.specs.Prelude.{slice_index, is_some}
use Rattle.std.proofs.Math.Nat.{div-eq_of_lt, mul-div-le, le-div_iff_mul-le, div-le_of_le-mul, div-lt_iff_lt-mul, mul-le-mul_left, mod-lt, div-add-mod'}
use Rattle.std.proofs.lemmas.Bool.{cases_lt, cases_eq}
use Rattle.slab_space.specs.Runs.{need}
use Rattle.slab_space.specs.Pool.{cells_per_run}
use Rattle.pool_runtime.specs.declared.cells.Cells.{Cells}
use Rattle.pool_runtime.specs.Bytes.{Apart}
use Rattle.pool_runtime.specs.Seen.{place}
use Rattle.pool_runtime.specs.Tables.{AreHeld, AreRuns}
use Rattle.pool_runtime.proofs.Apart.{held_apart}

-- ---- cells in a run

pub some_per_run : (size : ℕ) → 1 ≤ cells_per_run size
some_per_run size = omega arith

pub few_per_run : (size : ℕ) → 4 ≤ size → cells_per_run size ≤ 1024
few_per_run size least = let few : 4096 / size ≤ 1024 = div-le_of_le-mul size (omega arith) in omega arith

-- so many cells have room in a run
pub room_in_run : (size at : ℕ) → 1 ≤ size → at < cells_per_run size → size * at + size ≤ 4096 * need size
room_in_run size at some inside =
    elim (cases_lt 4096 size) [
      | inl large ↦ (
          let none : 4096 / size ≡ 0 = div-eq_of_lt large in
          let first : at ≡ 0 = omega arith in
          rw first (omega arith))
      | inr small ↦ (
          let one : 1 ≤ 4096 / size = (le-div_iff_mul-le some).1 (omega arith) in
          let below : at + 1 ≤ 4096 / size = omega arith in
          omega (arith, mul-le-mul_left size below, mul-div-le 4096 size))
    ]

-- ---- all cells of a class

module _ (c : Cells) where
  abbrev pub run_of : ℕ → ℕ
  run_of number = slice_index c.runs.items ((number - 1) / cells_per_run c.size)

  pub run_inside : (number : ℕ) → 1 ≤ number → number ≤ length c.runs.items * cells_per_run c.size → (number - 1) / cells_per_run c.size < length c.runs.items
  run_inside number some made = (div-lt_iff_lt-mul (omega (arith, some_per_run c.size))).1 (omega (arith, some, made))

  cell_inside : (number : ℕ) → (number - 1) % cells_per_run c.size < cells_per_run c.size
  cell_inside number = mod-lt (number - 1) (omega (arith, some_per_run c.size))

  pub place_low : (number : ℕ) → 4096 * run_of number ≤ place c number
  place_low number = omega arith

  pub place_high : (number : ℕ) → 1 ≤ c.size → place c number + c.size ≤ 4096 * (run_of number + need c.size)
  place_high number some = omega (arith, room_in_run c.size ((number - 1) % cells_per_run c.size) some (cell_inside number))

  pub number_from : (n m : ℕ) → 1 ≤ n → 1 ≤ m → (n - 1) / cells_per_run c.size ≡ (m - 1) / cells_per_run c.size → (n - 1) % cells_per_run c.size ≡ (m - 1) % cells_per_run c.size → n ≡ m
  number_from n m some some' run cell =
      let per = cells_per_run c.size in
      let same : n - 1 ≡ m - 1 =
      sym (div-add-mod' (n - 1) per) ∙ ap (λ q. q * per + (n - 1) % per) run ∙ ap (λ r. (m - 1) / per * per + r) cell ∙ div-add-mod' (m - 1) per in
      omega arith

  module _ (owners : List (Option ℕ)) (some : 1 ≤ c.size) (runs : AreRuns owners c) where
    pub place_held : (number : ℕ) → 1 ≤ number → number ≤ length c.runs.items * cells_per_run c.size → AreHeld owners (place c number) c.size
    place_held number one made at low high =
        let run = runs.held ((number - 1) / cells_per_run c.size) (run_inside number one made) in
        let under = place_low number in let over = place_high number some in
        ap is_some (run.held (at / 4096) (omega arith) (omega arith))

    -- two cells of one run
    cells_apart : (first i j : ℕ) → ¬ (i ≡ j) → Apart (4096 * first + c.size * i) c.size (4096 * first + c.size * j) c.size
    cells_apart first i j differ =
        elim (cases_lt i j) [
          | inl below ↦ inl (omega (arith, mul-le-mul_left c.size below))
          | inr above ↦ (let beyond : j + 1 ≤ i = omega arith in inr (omega (arith, mul-le-mul_left c.size beyond)))
        ]

    module _ (n m : ℕ) (one : 1 ≤ n) (made : n ≤ length c.runs.items * cells_per_run c.size) (one' : 1 ≤ m) (made' : m ≤ length c.runs.items * cells_per_run c.size) where
      runs_apart : ¬ ((n - 1) / cells_per_run c.size ≡ (m - 1) / cells_per_run c.size) → Apart (place c n) c.size (place c m) c.size
      runs_apart differ =
          let per = cells_per_run c.size in
          let i = (n - 1) / per in let j = (m - 1) / per in
          let inside = run_inside n one made in let inside' = run_inside m one' made' in
          let low = place_low n in let high = place_high n some in let low' = place_low m in let high' = place_high m some in
          elim (held_apart owners (run_of n) (need c.size) (runs.held i inside) (run_of m) (need c.size) (runs.held j inside') (λ e. differ (runs.once i j inside inside' e))) [
            | inl before ↦ inl (omega arith)
            | inr behind ↦ inr (omega arith)
          ]

      pub places_apart : ¬ (n ≡ m) → Apart (place c n) c.size (place c m) c.size
      places_apart differ =
          let per = cells_per_run c.size in
          elim (cases_eq ((n - 1) / per) ((m - 1) / per)) [
            | inl same ↦ (
                let there = ap (slice_index c.runs.items) same in
                let apart = cells_apart (run_of m) ((n - 1) % per) ((m - 1) % per) (λ e. differ (number_from n m one one' same e)) in
                rw there apart)
            | inr other ↦ runs_apart other
          ]
