use Rattle.std.proofs.Common.{◌≡◌}
use Rattle.pool_runtime.specs.Tables.{IsSpace}
use Rattle.pool_runtime.specs.Given.{AreGivable, given_all, large_runs}
use Rattle.pool_runtime.proofs.pool.Pool.give_slabs.Given as goal

abbrev pub invariant-loop-first : goal.invariant-loop-first
invariant-loop-first l = record {
  space : IsSpace l.slabs.space;
  givable : AreGivable (large_runs l.first-iterator) l.slabs.space;
  same : given_all (large_runs l.first-iterator) l.slabs.space ≡ given_all (large_runs l.initial.first-iterator) l.initial.slabs.space;
  homes : l.slabs.homes ≡ l.initial.slabs.homes;
}
