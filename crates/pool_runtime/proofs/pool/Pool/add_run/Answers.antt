use Rattle.std.proofs.Common.{◌≡◌, ℕ, List, ◌+◌, ◌*◌, ◌≤◌, Some, Err, slice_get, length, refl, sym, ap, subst, ◌∙◌, arith}
use Rattle.std.specs.Prelude.{is_some, IsSome}
use Rattle.slab_space.specs.Runs.{need, lowest_run, IsFreeRun}
use Rattle.slab_space.specs.Space.{Space, IsZero, with_given}
use Rattle.slab_space.specs.Pool as seen
use Rattle.slab_space.proofs.LowestRun.{lowest_run_full, lowest_run_found}
use Rattle.pool_runtime.specs.declared.slabs.Home.{Home}
use Rattle.pool_runtime.specs.Tables.{of_class}
use Rattle.pool_runtime.specs.Changes.{RunAdded}
use Rattle.pool_runtime.proofs.Undone.{given_back}
use Rattle.pool_runtime.proofs.Extended.{taken_home, keeps_homes}
use Rattle.pool_runtime.proofs.AddRun.{pool_with, none_changes, none_seen, run_changes, run_added, seen_is, not_full, need_some, few_cells}
use Rattle.pool_runtime.proofs.pool.Pool.add_run.Goals as goal
use Rattle.pool_runtime.proofs.pool.Pool.add_run.Goals.{After-give_run}

noted_as : (homes : List Home) (first id k n m : ℕ) → n ≡ m → slice_get homes first ≡ Some (of_class id k n) → slice_get homes first ≡ Some (of_class id k m)
noted_as homes first id k n m e at = at ∙ ap (λ j. Some (of_class id k j)) e

-- no run is free
pub returns-in-Err-Full-clause-changes : goal.returns-in-Err-Full-clause-changes
returns-in-Err-Full-clause-changes c =
    none_changes c.args.id c.args.class c.args.slabs.now c.args.self.now c.index_mut-cells.result.now c.requires.space c.requires.pool c.requires.class c.index_mut-cells.ensures.value c.take.new.self (pool_with c.args.self.now c.args.class c.index_mut-cells.result.now c.args.self.now.slabs) c.index_mut-cells.result.now refl refl refl refl refl refl
    c.in-Err-Full.ensures.err (λ f n h at. c.in-Err-Full.ensures.err_notes f h at.noted) refl refl refl

pub returns-in-Err-Full-clause-added : goal.returns-in-Err-Full-clause-added
returns-in-Err-Full-clause-added c =
    let r = c.index_mut-cells.result.now in let owners = c.args.slabs.now.space.owners in
    let is = seen_is c.args.id c.args.class c.args.slabs.now c.args.self.now r c.requires.space c.requires.pool c.requires.class c.index_mut-cells.ensures.value in (
      ap (λ (x : seen.Cells). lowest_run owners (need x.size)) is ∙ ap (lowest_run owners) (sym c.run_slabs-count.ensures) ∙ lowest_run_full owners c.run_slabs-count.result (c.in-Err-Full.ensures.full.0 (ap Err c.in-Err-Full.field-0-is)),
      none_seen c.args.id c.args.class c.args.slabs.now c.args.self.now r c.requires.space c.requires.pool c.requires.class c.index_mut-cells.ensures.value c.take.new.self (pool_with c.args.self.now c.args.class r c.args.self.now.slabs) r refl refl refl refl refl refl
          c.in-Err-Full.ensures.err (λ f n h at. c.in-Err-Full.ensures.err_notes f h at.noted) refl refl refl,
    )

-- the note found no memory
pub returns-in-Err-OutOfMemory-clause-changes : goal.returns-in-Err-OutOfMemory-clause-changes
returns-in-Err-OutOfMemory-clause-changes c =
    none_changes c.args.id c.args.class c.args.slabs.now c.args.self.now c.index_mut-cells.result.now c.requires.space c.requires.pool c.requires.class c.index_mut-cells.ensures.value c.take.new.self (pool_with c.args.self.now c.args.class c.index_mut-cells.result.now c.args.self.now.slabs) c.index_mut-cells.result.now refl refl refl refl refl refl
    c.in-Err-OutOfMemory.ensures.err (λ f n h at. c.in-Err-OutOfMemory.ensures.err_notes f h at.noted) refl refl refl

pub returns-in-Err-OutOfMemory-clause-added : goal.returns-in-Err-OutOfMemory-clause-added
returns-in-Err-OutOfMemory-clause-added c =
    let r = c.index_mut-cells.result.now in let owners = c.args.slabs.now.space.owners in
    let is = seen_is c.args.id c.args.class c.args.slabs.now c.args.self.now r c.requires.space c.requires.pool c.requires.class c.index_mut-cells.ensures.value in
    let some = need_some c.args.id c.args.class c.args.slabs.now c.args.self.now r c.requires.space c.requires.pool c.requires.class c.index_mut-cells.ensures.value in (
      subst (λ (x : seen.Cells). IsSome (lowest_run owners (need x.size))) (sym is) (not_full owners (need r.size) some (λ full. let e = c.in-Err-OutOfMemory.ensures.full.1 (λ first run. full first (subst (λ n. IsFreeRun owners first n) c.run_slabs-count.ensures run)) in let other = c.in-Err-OutOfMemory.field-0-is in cc)),
      none_seen c.args.id c.args.class c.args.slabs.now c.args.self.now r c.requires.space c.requires.pool c.requires.class c.index_mut-cells.ensures.value c.take.new.self (pool_with c.args.self.now c.args.class r c.args.self.now.slabs) r refl refl refl refl refl refl
          c.in-Err-OutOfMemory.ensures.err (λ f n h at. c.in-Err-OutOfMemory.ensures.err_notes f h at.noted) refl refl refl,
    )

-- the run is taken over
pub add_run-requires-clause-short : goal.add_run-requires-clause-short
add_run-requires-clause-short c = few_cells c.args.id c.args.class c.args.slabs.now c.args.self.now c.index_mut-cells.result.now c.requires.space c.requires.pool c.requires.class c.index_mut-cells.ensures.value

pub returns-in-Ok-add_run-clause-changes : goal.returns-in-Ok-add_run-clause-changes
returns-in-Ok-add_run-clause-changes c =
    run_changes c.args.id c.args.class c.args.slabs.now c.args.self.now c.index_mut-cells.result.now c.requires.space c.requires.pool c.requires.class c.index_mut-cells.ensures.value c.take.new.self (pool_with c.args.self.now c.args.class c.add_run.new.self (c.args.self.now.slabs + c.run_slabs-count.result)) c.add_run.new.self refl refl refl refl refl c.in-Ok-add_run.ensures.others
    c.in-Ok.first c.run_slabs-count.result c.run_slabs-count.ensures c.in-Ok.ensures.lowest c.in-Ok.ensures.taken (noted_as c.take.new.self.homes.items c.in-Ok.first c.args.id c.args.class c.len.result (length c.index_mut-cells.result.now.runs.items) (omega (arith, c.len.ensures, c.index_mut-cells.result.now.runs.ok.0)) c.in-Ok.ensures.noted) c.in-Ok.ensures.notes refl c.requires.counted c.in-Ok-add_run.ensures.runs c.in-Ok-add_run.ensures.live

pub returns-in-Ok-add_run-clause-added : goal.returns-in-Ok-add_run-clause-added
returns-in-Ok-add_run-clause-added c =
    let is = seen_is c.args.id c.args.class c.args.slabs.now c.args.self.now c.index_mut-cells.result.now c.requires.space c.requires.pool c.requires.class c.index_mut-cells.ensures.value in
    subst (λ (x : seen.Cells). RunAdded c.args.class c.args.slabs.now c.take.new.self c.args.self.now (pool_with c.args.self.now c.args.class c.add_run.new.self (c.args.self.now.slabs + c.run_slabs-count.result)) x) (sym is)
    (run_added c.args.id c.args.class c.args.slabs.now c.args.self.now c.index_mut-cells.result.now c.requires.space c.requires.pool c.requires.class c.index_mut-cells.ensures.value c.take.new.self (pool_with c.args.self.now c.args.class c.add_run.new.self (c.args.self.now.slabs + c.run_slabs-count.result)) c.add_run.new.self refl refl refl refl refl c.in-Ok-add_run.ensures.others
    c.in-Ok.first c.run_slabs-count.result c.run_slabs-count.ensures c.in-Ok.ensures.lowest c.in-Ok.ensures.taken (noted_as c.take.new.self.homes.items c.in-Ok.first c.args.id c.args.class c.len.result (length c.index_mut-cells.result.now.runs.items) (omega (arith, c.len.ensures, c.index_mut-cells.result.now.runs.ok.0)) c.in-Ok.ensures.noted) c.in-Ok.ensures.notes refl c.requires.counted c.in-Ok-add_run.ensures.runs c.in-Ok-add_run.ensures.live)

-- the table found no memory
pub give_run-requires : goal.give_run-requires
give_run-requires c =
    (taken_home c.args.slabs.now c.take.new.self c.in-Ok.first c.run_slabs-count.result (of_class c.args.id c.args.class (length c.index_mut-cells.result.now.runs.items)) (subst (λ n. 1 ≤ n) (sym c.run_slabs-count.ensures) (need_some c.args.id c.args.class c.args.slabs.now c.args.self.now c.index_mut-cells.result.now c.requires.space c.requires.pool c.requires.class c.index_mut-cells.ensures.value)) c.requires.space c.in-Ok.ensures.lowest c.in-Ok.ensures.taken (noted_as c.take.new.self.homes.items c.in-Ok.first c.args.id c.args.class c.len.result (length c.index_mut-cells.result.now.runs.items) (omega (arith, c.len.ensures, c.index_mut-cells.result.now.runs.ok.0)) c.in-Ok.ensures.noted) c.in-Ok.ensures.notes).run

back : (c : After-give_run) → c.give_run.new.self ≡ c.args.slabs.now.space
back c =
    let first = c.in-Ok.first in let count = c.run_slabs-count.result in
    c.give_run.ensures ∙ ap (λ (s : Space). with_given s first count) c.in-Ok.ensures.taken
    ∙ given_back c.args.slabs.now.space first count c.requires.space c.in-Ok.ensures.lowest.free (subst (λ (s : Space). IsZero s.bytes (4096 * first) (4096 * count)) c.in-Ok.ensures.taken c.in-Ok.ensures.zero)

pub returns-in-Err-clause-changes : goal.returns-in-Err-clause-changes
returns-in-Err-clause-changes c =
    none_changes c.args.id c.args.class c.args.slabs.now c.args.self.now c.index_mut-cells.result.now c.requires.space c.requires.pool c.requires.class c.index_mut-cells.ensures.value (record { space = c.give_run.new.self; homes = c.take.new.self.homes })
    (pool_with c.args.self.now c.args.class c.add_run.new.self c.args.self.now.slabs) c.add_run.new.self refl refl refl refl refl c.in-Err.ensures.others (back c)
    (keeps_homes c.args.slabs.now c.take.new.self c.in-Ok.first c.run_slabs-count.result (of_class c.args.id c.args.class (length c.index_mut-cells.result.now.runs.items)) (subst (λ n. 1 ≤ n) (sym c.run_slabs-count.ensures) (need_some c.args.id c.args.class c.args.slabs.now c.args.self.now c.index_mut-cells.result.now c.requires.space c.requires.pool c.requires.class c.index_mut-cells.ensures.value)) c.requires.space c.in-Ok.ensures.lowest c.in-Ok.ensures.taken (noted_as c.take.new.self.homes.items c.in-Ok.first c.args.id c.args.class c.len.result (length c.index_mut-cells.result.now.runs.items) (omega (arith, c.len.ensures, c.index_mut-cells.result.now.runs.ok.0)) c.in-Ok.ensures.noted) c.in-Ok.ensures.notes)
    refl c.in-Err.ensures.err_runs c.in-Err.ensures.err_live

pub returns-in-Err-clause-added : goal.returns-in-Err-clause-added
returns-in-Err-clause-added c =
    let owners = c.args.slabs.now.space.owners in
    let is = seen_is c.args.id c.args.class c.args.slabs.now c.args.self.now c.index_mut-cells.result.now c.requires.space c.requires.pool c.requires.class c.index_mut-cells.ensures.value in
    let found = lowest_run_found owners c.run_slabs-count.result c.in-Ok.first (subst (λ n. 1 ≤ n) (sym c.run_slabs-count.ensures) (need_some c.args.id c.args.class c.args.slabs.now c.args.self.now c.index_mut-cells.result.now c.requires.space c.requires.pool c.requires.class c.index_mut-cells.ensures.value)) c.in-Ok.ensures.lowest in (
      subst (λ (x : seen.Cells). IsSome (lowest_run owners (need x.size))) (sym is) (ap is_some (ap (lowest_run owners) (sym c.run_slabs-count.ensures) ∙ found)),
      none_seen c.args.id c.args.class c.args.slabs.now c.args.self.now c.index_mut-cells.result.now c.requires.space c.requires.pool c.requires.class c.index_mut-cells.ensures.value (record { space = c.give_run.new.self; homes = c.take.new.self.homes })
          (pool_with c.args.self.now c.args.class c.add_run.new.self c.args.self.now.slabs) c.add_run.new.self refl refl refl refl refl c.in-Err.ensures.others (back c)
          (keeps_homes c.args.slabs.now c.take.new.self c.in-Ok.first c.run_slabs-count.result (of_class c.args.id c.args.class (length c.index_mut-cells.result.now.runs.items)) (subst (λ n. 1 ≤ n) (sym c.run_slabs-count.ensures) (need_some c.args.id c.args.class c.args.slabs.now c.args.self.now c.index_mut-cells.result.now c.requires.space c.requires.pool c.requires.class c.index_mut-cells.ensures.value)) c.requires.space c.in-Ok.ensures.lowest c.in-Ok.ensures.taken (noted_as c.take.new.self.homes.items c.in-Ok.first c.args.id c.args.class c.len.result (length c.index_mut-cells.result.now.runs.items) (omega (arith, c.len.ensures, c.index_mut-cells.result.now.runs.ok.0)) c.in-Ok.ensures.noted) c.in-Ok.ensures.notes)
          refl c.in-Err.ensures.err_runs c.in-Err.ensures.err_live,
    )
