use Rattle.std.proofs.Common.{◌≡◌, drop}
use Rattle.pool_runtime.specs.Given.{AreGivable, given_all, runs_of}
use Rattle.pool_runtime.proofs.pool.give_runs.Given as goal

abbrev pub invariant-loop-first : goal.invariant-loop-first
invariant-loop-first l = record {
  givable : AreGivable (runs_of l.count (drop l.first-index l.runs)) l.space;
  same : given_all (runs_of l.count (drop l.first-index l.runs)) l.space ≡ given_all (runs_of l.count l.runs) l.initial.space;
}
