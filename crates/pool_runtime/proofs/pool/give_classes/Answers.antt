use Rattle.std.proofs.Common.{◌+◌, ℕ, List, drop, sym, ap, subst, ◌∙◌}
use Rattle.pool_runtime.specs.Given.{AreGivable, given_all, runs_of, class_runs}
use Rattle.pool_runtime.proofs.GivenRuns.{given_append, givable_append}
use Rattle.pool_runtime.proofs.PoolRuns.{class_turn}
use Rattle.pool_runtime.proofs.pool.give_classes.Goals as goal

pub give_runs-requires : goal.give_runs-requires
give_runs-requires c =
    let runs = runs_of c.run_slabs.result c.deref.result.now in
    let more = class_runs (drop (c.loop-cells.cells-index + 1) c.args.classes.now) in
    let turn = class_turn c.args.classes.now c.loop-cells.cells-index c.cells-item.result c.run_slabs.result c.deref.result.now c.loop-cells-test.true c.cells-item.is c.run_slabs.ensures c.deref.ensures.value in
    (givable_append runs more c.loop-cells.space (subst (λ (rs : List (ℕ × ℕ)). AreGivable rs c.loop-cells.space) turn c.loop-cells.invariant.givable)).0

pub loop-cells-preserved : goal.loop-cells-preserved
loop-cells-preserved c =
    let runs = runs_of c.run_slabs.result c.deref.result.now in
    let more = class_runs (drop (c.loop-cells.cells-index + 1) c.args.classes.now) in
    let turn = class_turn c.args.classes.now c.loop-cells.cells-index c.cells-item.result c.run_slabs.result c.deref.result.now c.loop-cells-test.true c.cells-item.is c.run_slabs.ensures c.deref.ensures.value in
    let both = givable_append runs more c.loop-cells.space (subst (λ (rs : List (ℕ × ℕ)). AreGivable rs c.loop-cells.space) turn c.loop-cells.invariant.givable) in
    record {
      givable = subst (AreGivable more) (sym c.give_runs.ensures) both.1;
      same = ap (given_all more) c.give_runs.ensures ∙ sym (given_append runs more c.loop-cells.space) ∙ ap (λ (rs : List (ℕ × ℕ)). given_all rs c.loop-cells.space) (sym turn) ∙ c.loop-cells.invariant.same;
    }
