use Rattle.std.proofs.Common.{◌≡◌, ℕ, List, ◌*◌, ◌+◌, ◌≤◌, Err, refl, sym, ap, subst, ◌∙◌, arith}
use Rattle.std.specs.Prelude.{is_some}
use Rattle.std.specs.Map.{keys_of}
use Rattle.std.specs.List.Sorted.{IsStrictlySortedBy}
use Rattle.std.specs.Ordering.{nat_cmp}
use Rattle.slab_space.specs.Runs.{need, lowest_run, IsFreeRun, Full}
use Rattle.slab_space.specs.Space.{Space, IsZero, with_given}
use Rattle.slab_space.specs.PoolSteps.{placed_large}
use Rattle.slab_space.proofs.LowestRun.{lowest_run_full, lowest_run_found}
use Rattle.pool_runtime.specs.declared.pool.Pool.{Pool}
use Rattle.pool_runtime.specs.Seen.{pool_seen}
use Rattle.pool_runtime.specs.Tables.{of_large}
use Rattle.pool_runtime.proofs.Undone.{given_back}
use Rattle.pool_runtime.proofs.Extended.{KeepsHomes, no_change, unchanged, keeps_homes}
use Rattle.pool_runtime.proofs.AddRun.{not_full}
use Rattle.pool_runtime.proofs.Taken.{few_live, same_step}
use Rattle.pool_runtime.proofs.LargeTaken.{large_changes, large_step, takes_large, same_table, same_table_seen}
use Rattle.pool_runtime.proofs.pool.Pool.alloc_large.Goals as goal
use Rattle.pool_runtime.proofs.pool.Pool.alloc_large.Goals.{After-give_run}

pub returns-then-count-limit-clause-ends : goal.returns-then-count-limit-clause-ends
returns-then-count-limit-clause-ends c =
    let old = c.args.slabs.now.space in let p = pool_seen old.bytes c.args.self.now in
    let full : Full old.owners (need c.args.bytes) = λ first run. absurd (omega (arith, run.inside, c.need-count.ensures, c.limit.ensures, c.if-count-limit.true)) in
    (ap (placed_large old.owners p c.args.bytes) (lowest_run_full old.owners (need c.args.bytes) full), (refl, refl))

pub returns-in-Err-Full-clause-changes : goal.returns-in-Err-Full-clause-changes
returns-in-Err-Full-clause-changes c = no_change c.args.slabs.now c.take.new.self c.requires.space c.in-Err-Full.ensures.err (λ f n h at. c.in-Err-Full.ensures.err_notes f h at.noted) c.args.id c.args.self.now c.requires.pool

pub returns-in-Err-Full-clause-ends : goal.returns-in-Err-Full-clause-ends
returns-in-Err-Full-clause-ends c =
    let old = c.args.slabs.now.space in let p = pool_seen old.bytes c.args.self.now in (
      ap (placed_large old.owners p c.args.bytes) (ap (lowest_run old.owners) (sym c.need-count.ensures) ∙ lowest_run_full old.owners c.need-count.result (c.in-Err-Full.ensures.full.0 (ap Err c.in-Err-Full.field-0-is))),
      unchanged c.args.slabs.now c.take.new.self c.requires.space c.in-Err-Full.ensures.err (λ f n h at. c.in-Err-Full.ensures.err_notes f h at.noted) c.args.id c.args.self.now c.requires.pool,
    )

pub returns-in-Err-OutOfMemory-clause-changes : goal.returns-in-Err-OutOfMemory-clause-changes
returns-in-Err-OutOfMemory-clause-changes c = no_change c.args.slabs.now c.take.new.self c.requires.space c.in-Err-OutOfMemory.ensures.err (λ f n h at. c.in-Err-OutOfMemory.ensures.err_notes f h at.noted) c.args.id c.args.self.now c.requires.pool

pub count_one-requires : goal.count_one-requires
count_one-requires c = omega (arith, few_live c.args.slabs.now c.args.id c.args.self.now c.requires.space c.requires.pool, c.requires.counted, c.requires.space.small)

pub returns-in-Ok-insert-clause-changes : goal.returns-in-Ok-insert-clause-changes
returns-in-Ok-insert-clause-changes c =
    large_changes c.args.id c.args.slabs.now c.take.new.self c.in-Ok.first c.need-count.result c.args.bytes c.args.self.now c.count_one.new.self c.requires.some c.need-count.ensures c.requires.space c.requires.pool c.in-Ok.ensures.lowest c.in-Ok.ensures.taken c.in-Ok.ensures.zero
    c.in-Ok.ensures.noted c.in-Ok.ensures.notes (ap (λ (p : Pool). p.kind) c.count_one.ensures) (ap (λ (p : Pool). p.classes.items) c.count_one.ensures) (ap (λ (p : Pool). p.large.entries) c.count_one.ensures ∙ c.in-Ok-insert.ensures.entries) (subst (λ (es : List (ℕ × ℕ)). IsStrictlySortedBy nat_cmp (keys_of es)) (sym (ap (λ (p : Pool). p.large.entries) c.count_one.ensures)) c.in-Ok-insert.ensures.ordered)
    (ap (λ (p : Pool). p.slabs) c.count_one.ensures) (ap (λ (p : Pool). p.live) c.count_one.ensures) (ap (λ (p : Pool). p.peak) c.count_one.ensures)

pub returns-in-Ok-insert-clause-ends : goal.returns-in-Ok-insert-clause-ends
returns-in-Ok-insert-clause-ends c =
    large_step c.args.id c.args.slabs.now c.take.new.self c.in-Ok.first c.need-count.result c.args.bytes c.args.self.now c.count_one.new.self c.requires.some c.need-count.ensures c.requires.space c.requires.pool c.in-Ok.ensures.lowest c.in-Ok.ensures.taken c.in-Ok.ensures.zero
    c.in-Ok.ensures.noted c.in-Ok.ensures.notes (ap (λ (p : Pool). p.kind) c.count_one.ensures) (ap (λ (p : Pool). p.classes.items) c.count_one.ensures) (ap (λ (p : Pool). p.large.entries) c.count_one.ensures ∙ c.in-Ok-insert.ensures.entries) (subst (λ (es : List (ℕ × ℕ)). IsStrictlySortedBy nat_cmp (keys_of es)) (sym (ap (λ (p : Pool). p.large.entries) c.count_one.ensures)) c.in-Ok-insert.ensures.ordered)
    (ap (λ (p : Pool). p.slabs) c.count_one.ensures) (ap (λ (p : Pool). p.live) c.count_one.ensures) (ap (λ (p : Pool). p.peak) c.count_one.ensures)
    ∙ same_step (ap (λ n. 17592186044416 + n) (sym c.place_of.ensures)) refl refl

pub returns-in-Err-OutOfMemory-clause-ends : goal.returns-in-Err-OutOfMemory-clause-ends
returns-in-Err-OutOfMemory-clause-ends c =
    let owners = c.args.slabs.now.space.owners in
    let some : 1 ≤ need c.args.bytes = (let least = c.requires.some in omega arith) in
    let has = not_full owners (need c.args.bytes) some (λ full. let e = c.in-Err-OutOfMemory.ensures.full.1 (λ first run. full first (subst (λ n. IsFreeRun owners first n) c.need-count.ensures run)) in let other = c.in-Err-OutOfMemory.field-0-is in cc) in (
      takes_large owners (pool_seen c.args.slabs.now.space.bytes c.args.self.now) c.args.bytes some has,
      unchanged c.args.slabs.now c.take.new.self c.requires.space c.in-Err-OutOfMemory.ensures.err (λ f n h at. c.in-Err-OutOfMemory.ensures.err_notes f h at.noted) c.args.id c.args.self.now c.requires.pool,
    )

back : (c : After-give_run) → c.give_run.new.self ≡ c.args.slabs.now.space
back c =
    let first = c.in-Ok.first in let count = c.need-count.result in
    c.give_run.ensures ∙ ap (λ (s : Space). with_given s first count) c.in-Ok.ensures.taken
    ∙ given_back c.args.slabs.now.space first count c.requires.space c.in-Ok.ensures.lowest.free (subst (λ (s : Space). IsZero s.bytes (4096 * first) (4096 * count)) c.in-Ok.ensures.taken c.in-Ok.ensures.zero)

some_count : (c : After-give_run) → 1 ≤ c.need-count.result
some_count c = omega (arith, c.requires.some, c.need-count.ensures)

homes : (c : After-give_run) → KeepsHomes c.args.slabs.now (record { space = c.give_run.new.self; homes = c.take.new.self.homes })
homes c = keeps_homes c.args.slabs.now c.take.new.self c.in-Ok.first c.need-count.result (of_large c.args.id) (some_count c) c.requires.space c.in-Ok.ensures.lowest c.in-Ok.ensures.taken c.in-Ok.ensures.noted c.in-Ok.ensures.notes

pub returns-in-Err-clause-changes : goal.returns-in-Err-clause-changes
returns-in-Err-clause-changes c =
    same_table c.args.slabs.now (record { space = c.give_run.new.self; homes = c.take.new.self.homes }) c.requires.space (back c) (homes c) c.args.id c.args.self.now c.requires.pool c.insert.new.self c.in-Err.ensures.err c.in-Err.ensures.ordered

pub returns-in-Err-clause-ends : goal.returns-in-Err-clause-ends
returns-in-Err-clause-ends c =
    let owners = c.args.slabs.now.space.owners in
    let some : 1 ≤ need c.args.bytes = (let least = c.requires.some in omega arith) in
    let found = ap (lowest_run owners) (sym c.need-count.ensures) ∙ lowest_run_found owners c.need-count.result c.in-Ok.first (some_count c) c.in-Ok.ensures.lowest in (
      takes_large owners (pool_seen c.args.slabs.now.space.bytes c.args.self.now) c.args.bytes some (ap is_some found),
      same_table_seen c.args.slabs.now (record { space = c.give_run.new.self; homes = c.take.new.self.homes }) c.requires.space (back c) (homes c) c.args.id c.args.self.now c.requires.pool c.insert.new.self c.in-Err.ensures.err c.in-Err.ensures.ordered,
    )
