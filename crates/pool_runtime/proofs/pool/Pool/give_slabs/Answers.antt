use Rattle.std.proofs.Common.{ℕ, List, refl, sym, ap, subst, ◌∙◌, arith}
use Rattle.slab_space.specs.Space.{Space}
use Rattle.pool_runtime.specs.declared.cells.Cells.{Cells}
use Rattle.pool_runtime.specs.declared.pool.Pool.{Pool}
use Rattle.pool_runtime.specs.Tables.{IsSpace}
use Rattle.pool_runtime.specs.Given.{AreGivable, given_all, class_runs, large_runs, pool_runs}
use Rattle.pool_runtime.proofs.GivenRuns.{given_append, givable_append, given_space, all_given}
use Rattle.pool_runtime.proofs.PoolRuns.{large_turn, large_given, slabs_with}
use Rattle.pool_runtime.proofs.pool.Pool.give_slabs.Goals as goal

both : (pool : Pool) (space : Space) → AreGivable (pool_runs pool) space → AreGivable (class_runs pool.classes.items) space × AreGivable (large_runs pool.large.entries) (given_all (class_runs pool.classes.items) space)
both pool space able = givable_append (class_runs pool.classes.items) (large_runs pool.large.entries) space able

pub give_classes-requires : goal.give_classes-requires
give_classes-requires c =
    subst (λ (cs : List Cells). AreGivable (class_runs cs) c.args.slabs.now.space) (sym c.deref.ensures.value) (both c.args.self.now c.args.slabs.now.space c.requires.runs).0

pub loop-first-init : goal.loop-first-init
loop-first-init c =
    let pool = c.args.self.now in let old = c.args.slabs.now.space in
    let able = both pool old c.requires.runs in
    let done = c.give_classes.ensures ∙ ap (λ (cs : List Cells). given_all (class_runs cs) old) c.deref.ensures.value in
    record {
      space = subst IsSpace (sym done) (all_given (class_runs pool.classes.items) old c.requires.space able.0).space;
      givable = subst (λ (es : List (ℕ × ℕ)). AreGivable (large_runs es) c.give_classes.new.space) (sym c.into_iter-first-iterator.ensures.into_iter_gives.0) (subst (AreGivable (large_runs pool.large.entries)) (sym done) able.1);
      same = refl;
      homes = refl;
    }

pub overflow_cast-need : goal.overflow_cast-need
overflow_cast-need c =
    let run = (large_turn c.loop-first.first-iterator c.next.new.self c.in-Some.first.now c.in-Some.bytes.now c.need.result c.loop-first.slabs.space c.in-Some.ensures.steps c.need.ensures c.loop-first.invariant.givable).0 in
    omega (arith, run.inside, c.loop-first.invariant.space.small)

pub give_run-requires : goal.give_run-requires
give_run-requires c =
    (large_turn c.loop-first.first-iterator c.next.new.self c.in-Some.first.now c.in-Some.bytes.now c.need.result c.loop-first.slabs.space c.in-Some.ensures.steps c.need.ensures c.loop-first.invariant.givable).0

pub loop-first-preserved : goal.loop-first-preserved
loop-first-preserved c =
    let space = c.loop-first.slabs.space in
    let two = large_turn c.loop-first.first-iterator c.next.new.self c.in-Some.first.now c.in-Some.bytes.now c.need.result space c.in-Some.ensures.steps c.need.ensures c.loop-first.invariant.givable in
    record {
      space = subst IsSpace (sym c.give_run.ensures) (given_space space c.loop-first.invariant.space c.in-Some.first.now c.need.result two.0);
      givable = subst (AreGivable (large_runs c.next.new.self)) (sym c.give_run.ensures) two.1;
      same = ap (given_all (large_runs c.next.new.self)) c.give_run.ensures
          ∙ large_given c.loop-first.first-iterator c.next.new.self c.in-Some.first.now c.in-Some.bytes.now c.need.result space c.in-Some.ensures.steps c.need.ensures ∙ c.loop-first.invariant.same;
      homes = c.loop-first.invariant.homes;
    }

pub returns : goal.returns
returns c =
    let pool = c.args.self.now in let old = c.args.slabs.now.space in
    let done = c.give_classes.ensures ∙ ap (λ (cs : List Cells). given_all (class_runs cs) old) c.deref.ensures.value in
    let all = ap (λ (es : List (ℕ × ℕ)). given_all (large_runs es) c.loop-first.slabs.space) (sym c.in-None.ensures.steps.0) ∙ c.loop-first.invariant.same
    ∙ ap (λ (es : List (ℕ × ℕ)). given_all (large_runs es) c.give_classes.new.space) c.into_iter-first-iterator.ensures.into_iter_gives.0
    ∙ ap (given_all (large_runs pool.large.entries)) done ∙ sym (given_append (class_runs pool.classes.items) (large_runs pool.large.entries) old) in
    slabs_with c.loop-first.slabs c.args.slabs.now (given_all (pool_runs pool) old) all c.loop-first.invariant.homes
