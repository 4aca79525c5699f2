use Rattle.std.proofs.Common.{◌≡◌, ℕ, ◌+◌, true, List, refl, sym, ap, subst, ◌∙◌, arith}
use Rattle.slab_space.specs.Runs.{with_run}
use Rattle.slab_space.specs.Space.{Space}
use Rattle.slab_space.specs.Pool.{has_room}
use Rattle.slab_space.specs.Pool as seen
use Rattle.slab_space.specs.PoolSteps.{placed_cell}
use Rattle.pool_runtime.specs.declared.pool.Pool.{Pool}
use Rattle.pool_runtime.specs.Seen.{place, number_next, class_seen, pool_seen}
use Rattle.pool_runtime.proofs.AddRun.{seen_is, class_is}
use Rattle.pool_runtime.proofs.Taken.{cell_changes, cell_step, cell_fits, runs_are, few_live, same_step}
use Rattle.pool_runtime.proofs.pool.Pool.take_cell.Goals as goal
use Rattle.pool_runtime.proofs.pool.Pool.take_cell.Goals.{After-count_one}

abbrev space_with : Space → List ℕ → Space
space_with s bytes = record s { bytes = bytes }

room : (c : After-count_one) → has_room (class_seen c.args.slabs.now.space.bytes c.index_mut.result.now) ≡ true
room c =
    subst (λ (x : seen.Cells). has_room x ≡ true) (seen_is c.args.id c.args.class c.args.slabs.now c.args.self.now c.index_mut.result.now c.requires.space c.requires.pool c.requires.class c.index_mut.ensures.value) c.requires.room

space_now : (c : After-count_one) → c.take-place.new.space ≡ record c.args.slabs.now.space { bytes = with_run c.args.slabs.now.space.bytes (place c.index_mut.result.now (number_next c.index_mut.result.now)) c.index_mut.result.now.size 0 }
space_now c =
    c.take-place.ensures.space ∙ ap (λ p. space_with c.args.slabs.now.space (with_run c.args.slabs.now.space.bytes p c.index_mut.result.now.size 0)) c.take-place.ensures.place

pub take-place-requires-clause-cells : goal.take-place-requires-clause-cells
take-place-requires-clause-cells c = (class_is c.args.id c.args.class c.args.slabs.now c.args.self.now c.index_mut.result.now c.requires.space c.requires.pool c.requires.class c.index_mut.ensures.value).cells

pub take-place-requires-clause-room : goal.take-place-requires-clause-room
take-place-requires-clause-room c =
    subst (λ (x : seen.Cells). has_room x ≡ true) (seen_is c.args.id c.args.class c.args.slabs.now c.args.self.now c.index_mut.result.now c.requires.space c.requires.pool c.requires.class c.index_mut.ensures.value) c.requires.room

pub take-place-requires-clause-runs : goal.take-place-requires-clause-runs
take-place-requires-clause-runs c =
    runs_are c.args.id c.args.class c.args.slabs.now c.args.self.now c.index_mut.result.now c.requires.space c.requires.pool c.requires.class c.index_mut.ensures.value
    (subst (λ (x : seen.Cells). has_room x ≡ true) (seen_is c.args.id c.args.class c.args.slabs.now c.args.self.now c.index_mut.result.now c.requires.space c.requires.pool c.requires.class c.index_mut.ensures.value) c.requires.room)

pub count_one-requires : goal.count_one-requires
count_one-requires c =
    omega (arith, few_live c.args.slabs.now c.args.id c.args.self.now c.requires.space c.requires.pool, c.requires.counted, c.requires.space.small)

pub overflow_add-result : goal.overflow_add-result
overflow_add-result c =
    let fits = cell_fits c.args.id c.args.class c.args.slabs.now c.args.self.now c.index_mut.result.now c.requires.space c.requires.pool c.requires.class c.index_mut.ensures.value (room c) in
    omega (arith, fits, c.take-place.ensures.place, c.requires.space.small, c.requires.space.whole)

pub returns-clause-changes : goal.returns-clause-changes
returns-clause-changes c =
    cell_changes c.args.id c.args.class c.args.slabs.now c.args.self.now c.index_mut.result.now c.requires.space c.requires.pool c.requires.class c.index_mut.ensures.value (room c)
    (record { space = c.take-place.new.space; homes = c.args.slabs.now.homes }) c.count_one.new.self c.take-place.new.self (space_now c) refl
    (ap (λ (p : Pool). p.kind) c.count_one.ensures) (ap (λ (p : Pool). p.classes.items) c.count_one.ensures) (ap (λ (p : Pool). p.large.entries) c.count_one.ensures) (ap (λ (p : Pool). p.slabs) c.count_one.ensures)
    (ap (λ (p : Pool). p.live) c.count_one.ensures) (ap (λ (p : Pool). p.peak) c.count_one.ensures) c.take-place.ensures.size c.take-place.ensures.same_runs c.take-place.ensures.seen c.take-place.ensures.cells

pub returns-clause-step : goal.returns-clause-step
returns-clause-step c =
    let owners = c.args.slabs.now.space.owners in let bytes = c.args.slabs.now.space.bytes in
    let is = seen_is c.args.id c.args.class c.args.slabs.now c.args.self.now c.index_mut.result.now c.requires.space c.requires.pool c.requires.class c.index_mut.ensures.value in
    ap (placed_cell owners (pool_seen bytes c.args.self.now) c.args.class) is
    ∙ cell_step c.args.id c.args.class c.args.slabs.now c.args.self.now c.index_mut.result.now c.requires.space c.requires.pool c.requires.class c.index_mut.ensures.value (room c)
    (record { space = c.take-place.new.space; homes = c.args.slabs.now.homes }) c.count_one.new.self c.take-place.new.self (space_now c) refl
    (ap (λ (p : Pool). p.kind) c.count_one.ensures) (ap (λ (p : Pool). p.classes.items) c.count_one.ensures) (ap (λ (p : Pool). p.large.entries) c.count_one.ensures) (ap (λ (p : Pool). p.slabs) c.count_one.ensures)
    (ap (λ (p : Pool). p.live) c.count_one.ensures) (ap (λ (p : Pool). p.peak) c.count_one.ensures) c.take-place.ensures.size c.take-place.ensures.same_runs c.take-place.ensures.seen c.take-place.ensures.cells
    ∙ same_step (ap (λ n. 17592186044416 + n) (sym c.take-place.ensures.place)) refl refl
