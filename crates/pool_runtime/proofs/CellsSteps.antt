-- What taking and freeing a cell make of a class of cells, in its space.
use Rattle.std.proofs.Common.{◌≡◌, ℕ, zero, suc, ◌+◌, ◌-◌, ◌*◌, ◌/◌, ◌%◌, ◌^◌, ◌<◌, ◌≤◌, Bool, true, false, List, length, set, refl, sym, ap, subst, ◌∙◌, inl, inr, arith}
use Rattle.std.specs.Prelude.{if◌then◌else◌, ◌||◌, ◌==◌, nat_lt, is_some, slice_get, slice_index, slice_index_or}
use borrow.Author.Tests.{ltb-true, ne_eqb}
use Rattle.run_theory.specs.Words.{zeros, word_at, with_word}
use Rattle.raw_slab.proofs.WordsWritten.{length-with_word}
use Rattle.slab_space.specs.Runs.{with_run}
use Rattle.slab_space.specs.Space.{Space}
use Rattle.slab_space.specs.Pool.{cells_per_run, with_next, with_freed, made_in}
use Rattle.slab_space.specs.Pool as seen
use Rattle.slab_space.proofs.WithRun.{length-with_run}
use Rattle.pool_runtime.specs.declared.cells.Cells.{Cells}
use Rattle.pool_runtime.specs.Bytes.{range, SameAt}
use Rattle.pool_runtime.specs.Seen.{place, cells_seen, threaded, freed_seen, class_seen, after_next, number_next}
use Rattle.pool_runtime.specs.Tables.{IsSpace, AreHeld, AreRuns, IsDead, AllDead, IsCells}
use Rattle.pool_runtime.proofs.Ranges.{held_inside, range-cleared, same_below_word, same_above_word, same_below_run, same_above_run, written_back}
use Rattle.pool_runtime.proofs.Places.{run_inside, place_held, places_apart}
use Rattle.pool_runtime.proofs.CellsSeen.{length-cells_seen}
use Rattle.pool_runtime.proofs.CellsTaken.{zeros_are, fresh_seen, fresh_table, reused_seen, reused_table, given_seen, given_table}

module _ (bytes : List ℕ) (c : Cells) where
  -- what `after_next` is, by the test
  abbrev after : Bool → Cells
  after none = if none then record c { made = c.made + 1 } else record c { freed = c.freed - 1; last_freed = word_at bytes (place c c.last_freed) 4 }

  not_none : (k : ℕ) → c.freed ≡ suc k → (c.freed == 0) ≡ false
  not_none k some = ne_eqb c.freed 0 (λ none. absurd (omega arith))

  size_of : (none : Bool) → (after none).size ≡ c.size
  size_of true = refl
  size_of false = refl

  runs_of : (none : Bool) → (after none).runs.items ≡ c.runs.items
  runs_of true = refl
  runs_of false = refl

  live_of : (none : Bool) → (after none).live.items ≡ c.live.items
  live_of true = refl
  live_of false = refl

  module _ (next : Cells) (is : next ≡ after_next bytes c) where
    pub size_after : next.size ≡ c.size
    size_after = ap (λ (n : Cells). n.size) is ∙ size_of (c.freed == 0)

    pub runs_after : next.runs.items ≡ c.runs.items
    runs_after = ap (λ (n : Cells). n.runs.items) is ∙ runs_of (c.freed == 0)

    pub live_after : next.live.items ≡ c.live.items
    live_after = ap (λ (n : Cells). n.live.items) is ∙ live_of (c.freed == 0)

    pub place_after : (n : ℕ) → place next n ≡ place c n
    place_after n =
        ap (λ (rs : List ℕ). 4096 * slice_index rs ((n - 1) / cells_per_run next.size) + next.size * ((n - 1) % cells_per_run next.size)) runs_after
        ∙ ap (λ s. 4096 * slice_index c.runs.items ((n - 1) / cells_per_run s) + s * ((n - 1) % cells_per_run s)) size_after

    fresh_after : c.freed ≡ 0 → next ≡ record c { made = c.made + 1 }
    fresh_after none = is ∙ ap (λ f. after (f == 0)) none

    reused_after : (k : ℕ) → c.freed ≡ suc k → next ≡ record c { freed = c.freed - 1; last_freed = word_at bytes (place c c.last_freed) 4 }
    reused_after k some = is ∙ ap after (not_none k some)

  number_fresh : c.freed ≡ 0 → number_next c ≡ c.made + 1
  number_fresh none = ap (λ f. if f == 0 then c.made + 1 else c.last_freed) none

  number_reused : (k : ℕ) → c.freed ≡ suc k → number_next c ≡ c.last_freed
  number_reused k some = ap (λ b. if b then c.made + 1 else c.last_freed) (not_none k some)

  module _ (table : IsCells bytes c) where
    -- the last freed cell is one that was made
    head_dead : (f : ℕ) → c.freed ≡ f → 1 ≤ f → IsDead c c.last_freed
    head_dead zero e some = absurd (omega arith)
    head_dead (suc k) e some = (subst (AllDead c) (ap (λ f. threaded bytes c f c.last_freed) e) table.dead).0

    pub last_dead : 1 ≤ c.freed → IsDead c c.last_freed
    last_dead some = head_dead c.freed refl some

    next_at : (f : ℕ) → c.freed ≡ f → seen.has_room (class_seen bytes c) ≡ true → (1 ≤ number_next c) × (number_next c ≤ length c.live.items)
    next_at zero e room =
        let none = sym (ap (λ f. is_some (slice_get (threaded bytes c f c.last_freed) 0) || nat_lt (made_in (class_seen bytes c)) (length c.runs.items * cells_per_run c.size)) e) ∙ room in
        let more = ltb-true (length (cells_seen bytes c c.made)) (length c.runs.items * cells_per_run c.size) none in
        rw (number_fresh e) (omega arith, omega (arith, more, length-cells_seen bytes c c.made, table.room))
    next_at (suc k) e room =
        let dead = last_dead (omega (arith, e)) in
        rw (number_reused k e) (dead.some, omega (arith, dead.made, table.made))

    pub next_inside : seen.has_room (class_seen bytes c) ≡ true → (1 ≤ number_next c) × (number_next c ≤ length c.live.items)
    next_inside room = next_at c.freed refl room

module _ (space : Space) (is : IsSpace space) (c : Cells) (table : IsCells space.bytes c) (runs : AreRuns space.owners c) where
  some_size : 1 ≤ c.size
  some_size = omega (arith, table.least)

  pub cell_held : (n : ℕ) → 1 ≤ n → n ≤ length c.live.items → AreHeld space.owners (place c n) c.size
  cell_held n one inside = place_held c space.owners some_size runs n one (omega (arith, inside, table.room))

  pub start_held : (n : ℕ) → 1 ≤ n → n ≤ length c.live.items → AreHeld space.owners (place c n) 4
  start_held n one inside at low high = cell_held n one inside at low (omega (arith, high, table.least))

  pub in_run : (n : ℕ) → 1 ≤ n → n ≤ length c.live.items → (n - 1) / cells_per_run c.size < length c.runs.items
  in_run n one inside = run_inside c n one (omega (arith, inside, table.room))

  fit : (n : ℕ) → 1 ≤ n → n ≤ length c.live.items → place c n + c.size ≤ length space.bytes
  fit n one inside = held_inside space is (place c n) c.size some_size (cell_held n one inside)

  module _ (number : ℕ) (one : 1 ≤ number) (inside : number ≤ length c.live.items) where
    apart_cleared : (n : ℕ) → 1 ≤ n → n ≤ length c.live.items → ¬ (n ≡ number) → SameAt space.bytes (with_run space.bytes (place c number) c.size 0) (place c n) c.size
    apart_cleared n some within differ =
        elim (places_apart c space.owners some_size runs n number some (omega (arith, within, table.room)) one (omega (arith, inside, table.room)) differ) [
          | inl before ↦ same_below_run space.bytes (place c number) c.size (place c n) c.size (fit number one inside) before
          | inr behind ↦ same_above_run space.bytes (place c number) c.size (place c n) c.size (fit number one inside) behind
        ]

    four : place c number + 4 ≤ length space.bytes
    four = omega (arith, fit number one inside, table.least)

    apart_written : (word n : ℕ) → 1 ≤ n → n ≤ length c.live.items → ¬ (n ≡ number) → SameAt space.bytes (with_word space.bytes (place c number) 4 word) (place c n) c.size
    apart_written word n some within differ =
        elim (places_apart c space.owners some_size runs n number some (omega (arith, within, table.room)) one (omega (arith, inside, table.room)) differ) [
          | inl before ↦ same_below_word space.bytes (place c number) 4 word four (place c n) c.size before
          | inr behind ↦ same_above_word space.bytes (place c number) 4 word four (place c n) c.size (omega (arith, behind, table.least))
        ]

  abbrev pub Taken : List ℕ → Cells → Type 0
  Taken bytes' c' = (class_seen bytes' c' ≡ with_next (class_seen space.bytes c) (freed_seen space.bytes c)) × IsCells bytes' c'

  -- the tables and the bytes after a cell was taken
  module _ (next c' : Cells) (after : next ≡ after_next space.bytes c) (size : c'.size ≡ next.size) (runs' : c'.runs.items ≡ next.runs.items) (live : c'.live.items ≡ set next.live.items (number_next c - 1) true)
      (made : c'.made ≡ next.made) (freed : c'.freed ≡ next.freed) (last : c'.last_freed ≡ next.last_freed) (room : seen.has_room (class_seen space.bytes c) ≡ true) where
    inside : (1 ≤ number_next c) × (number_next c ≤ length c.live.items)
    inside = next_inside space.bytes c table room

    fits : place c (number_next c) + c.size ≤ length space.bytes
    fits = fit (number_next c) inside.0 inside.1

    long : length (with_run space.bytes (place c (number_next c)) c.size 0) ≡ length space.bytes
    long = length-with_run space.bytes (place c (number_next c)) c.size 0 fits

    same_size : c'.size ≡ c.size
    same_size = size ∙ size_after space.bytes c next after

    same_runs : c'.runs.items ≡ c.runs.items
    same_runs = runs' ∙ runs_after space.bytes c next after

    same_live : c'.live.items ≡ set c.live.items (number_next c - 1) true
    same_live = live ∙ ap (λ (bs : List Bool). set bs (number_next c - 1) true) (live_after space.bytes c next after)

    blank : range (with_run space.bytes (place c (number_next c)) c.size 0) (place c (number_next c)) c.size ≡ zeros c.size
    blank = range-cleared space.bytes (place c (number_next c)) c.size fits ∙ zeros_are c.size

    taken_by : (f : ℕ) → c.freed ≡ f → Taken (with_run space.bytes (place c (number_next c)) c.size 0) c'
    taken_by zero e =
        let new = with_run space.bytes (place c (number_next c)) c.size 0 in let number = number_next c in
        let fresh = fresh_after space.bytes c next after e in
        let made' : c'.made ≡ c.made + 1 = made ∙ ap (λ (n : Cells). n.made) fresh in
        let freed' : c'.freed ≡ 0 = freed ∙ ap (λ (n : Cells). n.freed) fresh ∙ e in (
          fresh_seen space.bytes new c c' number same_size same_runs table inside.0 inside.1 fit long (apart_cleared number inside.0 inside.1) same_live blank e (number_fresh space.bytes c e) made' freed',
          fresh_table space.bytes new c c' number same_size same_runs table inside.0 inside.1 fit long (apart_cleared number inside.0 inside.1) same_live blank e (number_fresh space.bytes c e) made' freed',
        )
    taken_by (suc k) e =
        let new = with_run space.bytes (place c (number_next c)) c.size 0 in let number = number_next c in
        let reused = reused_after space.bytes c next after k e in
        let is_last = number_reused space.bytes c k e in
        let made' : c'.made ≡ c.made = made ∙ ap (λ (n : Cells). n.made) reused in
        let less : c.freed - 1 ≡ k = omega (arith, e) in
        let freed' : c'.freed ≡ k = freed ∙ ap (λ (n : Cells). n.freed) reused ∙ less in
        let last' : c'.last_freed ≡ word_at space.bytes (place c number) 4 = last ∙ ap (λ (n : Cells). n.last_freed) reused ∙ ap (λ n. word_at space.bytes (place c n) 4) (sym is_last) in (
          reused_seen space.bytes new c c' number same_size same_runs table inside.0 inside.1 fit long (apart_cleared number inside.0 inside.1) same_live blank k e is_last made' freed' last',
          reused_table space.bytes new c c' number same_size same_runs table inside.0 inside.1 fit long (apart_cleared number inside.0 inside.1) same_live blank k e is_last made' freed' last',
        )

    pub taken : Taken (with_run space.bytes (place c (number_next c)) c.size 0) c'
    taken = taken_by c.freed refl

  -- the tables and the bytes after a cell was freed
  module _ (c' : Cells) (number : ℕ) (size : c'.size ≡ c.size) (runs' : c'.runs.items ≡ c.runs.items) (live : c'.live.items ≡ set c.live.items (number - 1) false) (made : c'.made ≡ c.made)
      (freed : c'.freed ≡ c.freed + 1) (last : c'.last_freed ≡ number) (one : 1 ≤ number) (was_made : number ≤ c.made) (was : slice_index_or c.live.items (number - 1) false ≡ true) (small : c.last_freed < 256 ^ 4) where
    within : number ≤ length c.live.items
    within = omega (arith, was_made, table.made)

    word : word_at (with_word space.bytes (place c number) 4 c.last_freed) (place c number) 4 ≡ c.last_freed
    word = written_back space.bytes (place c number) 4 c.last_freed (four number one within) small

    long_written : length (with_word space.bytes (place c number) 4 c.last_freed) ≡ length space.bytes
    long_written = length-with_word space.bytes (place c number) 4 c.last_freed (four number one within)

    pub given : class_seen (with_word space.bytes (place c number) 4 c.last_freed) c' ≡ with_freed (class_seen space.bytes c) number
    given = given_seen space.bytes (with_word space.bytes (place c number) 4 c.last_freed) c c' number size runs' table one within fit long_written (apart_written number one within c.last_freed) live was was_made made freed last word

    pub given_kept : IsCells (with_word space.bytes (place c number) 4 c.last_freed) c'
    given_kept = given_table space.bytes (with_word space.bytes (place c number) 4 c.last_freed) c c' number size runs' table one within fit long_written (apart_written number one within c.last_freed) live was was_made made freed last word
