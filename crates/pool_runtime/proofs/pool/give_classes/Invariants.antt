use Rattle.std.proofs.Common.{◌≡◌, drop}
use Rattle.pool_runtime.specs.Given.{AreGivable, given_all, class_runs}
use Rattle.pool_runtime.proofs.pool.give_classes.Given as goal

abbrev pub invariant-loop-cells : goal.invariant-loop-cells
invariant-loop-cells l = record {
  givable : AreGivable (class_runs (drop l.cells-index l.classes)) l.space;
  same : given_all (class_runs (drop l.cells-index l.classes)) l.space ≡ given_all (class_runs l.classes) l.initial.space;
}
