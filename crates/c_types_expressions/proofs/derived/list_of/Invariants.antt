use Rattle.std.proofs.Common.{◌≤◌, length, drop, Some}
use Rattle.c_rules.specs.Known.{give}
use Rattle.c_types_state.specs.Finding.{Finds, IsTypes}
use Rattle.c_types_expressions.specs.Passes.{list_in}
use Rattle.c_types_expressions.proofs.derived.list_of.Given as goal

abbrev pub invariant-loop-index : goal.invariant-loop-index
invariant-loop-index l = record {
  within : l.index ≤ length l.types;
  finds : Finds IsTypes (give (list_in l.fn.checker.table (drop l.index l.types))) l.fn.checker l.checker (Some l.list);
}

abbrev pub decreases-loop-index : goal.decreases-loop-index
decreases-loop-index l = l.index
