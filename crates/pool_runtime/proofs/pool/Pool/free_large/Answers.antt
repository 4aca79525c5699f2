use Rattle.std.proofs.Common.{Some, map, refl, sym, ap, subst, ◌∙◌, arith}
use Rattle.slab_space.specs.Runs.{IsHeldRun}
use Rattle.slab_space.specs.Space.{with_given}
use Rattle.pool_runtime.specs.Seen.{large_seen}
use Rattle.pool_runtime.proofs.Parts.{same_pool}
use Rattle.pool_runtime.proofs.Begun.{no_cell, middle_freed, gone_freed}
use Rattle.pool_runtime.proofs.LargeFreed.{run_held, few_needed, slabs_enough, some_large_live, with_object_freed, large_freed_changes, large_freed}
use Rattle.pool_runtime.proofs.pool.Pool.free_large.Goals as goal

pub returns-then-found-gt0-clause-frees : goal.returns-then-found-gt0-clause-frees
returns-then-found-gt0-clause-frees c = λ address finds.
    (middle_freed c.args.slabs.now c.args.self.now c.args.found.now.home.pool c.requires.pool address (Some c.args.found.now) finds c.args.found.now refl c.requires.held c.args.slabs.now.space.owners c.if-found-gt0.true, (refl, refl))

pub returns-in_default-clause-frees : goal.returns-in_default-clause-frees
returns-in_default-clause-frees c = λ address finds. (
  gone_freed c.args.slabs.now c.args.self.now c.args.found.now.home.pool c.requires.pool address (Some c.args.found.now) finds c.args.found.now refl c.requires.held c.args.slabs.now.space.owners (sym c.in_default.ensures.value),
  (refl, same_pool refl refl (ap (map (large_seen c.args.slabs.now.space.bytes)) c.in_default.ensures.unchanged) refl),
)

pub overflow_cast-count : goal.overflow_cast-count
overflow_cast-count c =
    let few = few_needed c.args.found.now.home.pool c.args.slabs.now c.args.found.now.first c.in-Some.bytes c.args.self.now c.requires.space c.requires.pool (sym c.in-Some.ensures.value) in
    omega (arith, few, c.need-count.ensures)

pub give_run-requires : goal.give_run-requires
give_run-requires c =
    subst (λ n. IsHeldRun c.args.slabs.now.space.owners c.args.found.now.first n) (sym c.need-count.ensures)
    (run_held c.args.found.now.home.pool c.args.slabs.now c.args.found.now.first c.in-Some.bytes c.args.self.now c.requires.space c.requires.pool (sym c.in-Some.ensures.value))

pub overflow_sub-self : goal.overflow_sub-self
overflow_sub-self c =
    let enough = slabs_enough c.args.found.now.home.pool c.args.slabs.now c.args.found.now.first c.in-Some.bytes c.args.self.now c.requires.space c.requires.pool (sym c.in-Some.ensures.value) in
    omega (arith, enough, c.need-count.ensures)

pub returns-clause-changes : goal.returns-clause-changes
returns-clause-changes c =
    let id = c.args.found.now.home.pool in let old = c.args.slabs.now in let first = c.args.found.now.first in let size = c.in-Some.bytes in let pool = c.args.self.now in
    let here = sym c.in-Some.ensures.value in
    let enough = slabs_enough id old first size pool c.requires.space c.requires.pool here in
    let live = some_large_live id old first size pool c.requires.space c.requires.pool here in
    large_freed_changes id old first size pool c.requires.space c.requires.pool here (record { space = c.give_run.new.self; homes = old.homes }) (with_object_freed pool c.remove.new.self c.need-count.result)
    (c.give_run.ensures ∙ ap (with_given old.space first) c.need-count.ensures) refl refl refl c.in-Some.ensures.entries c.in-Some.ensures.ordered c.in-Some.ensures.updates.1
    (omega (arith, enough, c.need-count.ensures)) (omega (arith, live)) refl

pub returns-clause-frees : goal.returns-clause-frees
returns-clause-frees c = λ address finds.
    let id = c.args.found.now.home.pool in let old = c.args.slabs.now in let first = c.args.found.now.first in let size = c.in-Some.bytes in let pool = c.args.self.now in
    let here = sym c.in-Some.ensures.value in
    let enough = slabs_enough id old first size pool c.requires.space c.requires.pool here in
    let live = some_large_live id old first size pool c.requires.space c.requires.pool here in
    large_freed id old first size pool c.requires.space c.requires.pool here (record { space = c.give_run.new.self; homes = old.homes }) (with_object_freed pool c.remove.new.self c.need-count.result)
    (c.give_run.ensures ∙ ap (with_given old.space first) c.need-count.ensures) refl refl refl c.in-Some.ensures.entries c.in-Some.ensures.ordered c.in-Some.ensures.updates.1
    (omega (arith, enough, c.need-count.ensures)) (omega (arith, live)) refl
    address (omega (arith, finds.at, c.if-found-gt0.false)) (no_cell old pool id c.requires.pool address (Some c.args.found.now) finds c.args.found.now refl c.requires.held)
