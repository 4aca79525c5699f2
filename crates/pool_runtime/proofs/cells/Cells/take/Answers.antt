use Rattle.std.proofs.Common.{◌≡◌, ℕ, ◌-◌, ◌/◌, ◌<◌, ◌≤◌, true, List, length, set, refl, subst, sym, ap, ◌∙◌, arith}
use Rattle.std.specs.Vec.{with_item}
use Rattle.slab_space.specs.Runs.{with_run}
use Rattle.slab_space.specs.Space.{Space}
use Rattle.slab_space.specs.Pool.{cells_per_run}
use Rattle.pool_runtime.specs.declared.cells.Cells.{Cells}
use Rattle.pool_runtime.specs.Seen.{place, number_next, class_seen}
use Rattle.pool_runtime.specs.Tables.{AreHeld, IsCells}
use Rattle.pool_runtime.proofs.CellsSteps.{next_inside, size_after, runs_after, live_after, place_after, cell_held, in_run, taken, Taken}
use Rattle.pool_runtime.proofs.cells.Cells.take.Goals as goal
use Rattle.pool_runtime.proofs.cells.Cells.take.Goals.{After-next-number, After-clear}

inside : (c : After-next-number) → (1 ≤ number_next c.args.self.now) × (number_next c.args.self.now ≤ length c.args.self.now.live.items)
inside c = next_inside c.args.space.now.bytes c.args.self.now c.requires.cells c.requires.room

some : (c : After-next-number) → 1 ≤ c.next-number.result
some c = subst (λ n. 1 ≤ n) (sym c.next-number.ensures.number) (inside c).0

pub place-place-requires-clause-some : goal.place-place-requires-clause-some
place-place-requires-clause-some c' = some (goal.at.place-place-requires-clause-some c').After-next-number

pub place-place-requires-clause-inside : goal.place-place-requires-clause-inside
place-place-requires-clause-inside c' =
    let c = (goal.at.place-place-requires-clause-inside c').After-next-number in
    let s = c.args.self.now in let old = c.args.space.now in let next = c.next-number.new.self in
    let size = size_after old.bytes s next c.next-number.ensures.after in let runs = runs_after old.bytes s next c.next-number.ensures.after in
    let now = in_run old c.requires.space s c.requires.cells c.requires.runs (number_next s) (inside c).0 (inside c).1 in
    subst (λ n. (n - 1) / cells_per_run next.size < length next.runs.items) (sym c.next-number.ensures.number)
    (subst (λ z. (number_next s - 1) / cells_per_run z < length next.runs.items) (sym size) (subst (λ (rs : List ℕ). (number_next s - 1) / cells_per_run s.size < length rs) (sym runs) now))

-- the place that was found is that of the cell
there : (c : After-clear) → c.place-place.result ≡ place c.args.self.now (number_next c.args.self.now)
there c =
    let s = c.args.self.now in let next = c.next-number.new.self in
    c.place-place.ensures ∙ place_after c.args.space.now.bytes s next c.next-number.ensures.after c.next-number.result ∙ ap (place s) c.next-number.ensures.number

pub clear-requires-clause-held : goal.clear-requires-clause-held
clear-requires-clause-held c =
    let s = c.args.self.now in let old = c.args.space.now in let next = c.next-number.new.self in
    let after = (goal.at.clear-requires-clause-held c).After-next-number in
    let size = size_after old.bytes s next c.next-number.ensures.after in
    let here = c.place-place.ensures ∙ place_after old.bytes s next c.next-number.ensures.after c.next-number.result ∙ ap (place s) c.next-number.ensures.number in
    let now = cell_held old c.requires.space s c.requires.cells c.requires.runs (number_next s) (inside after).0 (inside after).1 in
    subst (λ p. AreHeld old.owners p next.size) (sym here) (subst (AreHeld old.owners (place s (number_next s))) (sym size) now)

pub overflow_sub-number : goal.overflow_sub-number
overflow_sub-number c' = some (goal.at.overflow_sub-number c').After-next-number

pub index_mut-requires : goal.index_mut-requires
index_mut-requires c' =
    let c = (goal.at.index_mut-requires c').After-next-number in
    let s = c.args.self.now in let next = c.next-number.new.self in
    let long = ap length (live_after c.args.space.now.bytes s next c.next-number.ensures.after) in
    omega (arith, long, next.live.ok.0, c.next-number.ensures.number, inside c)

-- the tables at the end
abbrev new : After-clear → Cells
new c = let next = c.next-number.new.self in record next { live = with_item next.live (c.next-number.result - 1) true }

bytes : (c : After-clear) → c.clear.new.space.bytes ≡ with_run c.args.space.now.bytes (place c.args.self.now (number_next c.args.self.now)) c.args.self.now.size 0
bytes c =
    let old = c.args.space.now in
    ap (λ (t : Space). t.bytes) c.clear.ensures ∙ ap (λ p. with_run old.bytes p c.next-number.new.self.size 0) (there c)
    ∙ ap (λ z. with_run old.bytes (place c.args.self.now (number_next c.args.self.now)) z 0) (size_after old.bytes c.args.self.now c.next-number.new.self c.next-number.ensures.after)

ends : (c : After-clear) → Taken c.args.space.now c.requires.space c.args.self.now c.requires.cells c.requires.runs (with_run c.args.space.now.bytes (place c.args.self.now (number_next c.args.self.now)) c.args.self.now.size 0) (new c)
ends c =
    let next = c.next-number.new.self in
    taken c.args.space.now c.requires.space c.args.self.now c.requires.cells c.requires.runs next (new c) c.next-number.ensures.after refl refl (ap (λ n. set next.live.items (n - 1) true) c.next-number.ensures.number) refl refl refl c.requires.room

pub returns-clause-seen : goal.returns-clause-seen
returns-clause-seen c' =
    let c = (goal.at.returns-clause-seen c').After-clear in
    ap (λ (b : List ℕ). class_seen b (new c)) (bytes c) ∙ (ends c).0

pub returns-clause-cells : goal.returns-clause-cells
returns-clause-cells c' =
    let c = (goal.at.returns-clause-cells c').After-clear in
    subst (λ (b : List ℕ). IsCells b (new c)) (sym (bytes c)) (ends c).1
