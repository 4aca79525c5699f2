use Rattle.std.proofs.Common.{◌≡◌, ◌≤◌}
use Rattle.c_typed.specs.Table.{ListStands, types_in}
use Rattle.c_types.specs.Limits.{greatest_sum, added, count_types}
use Rattle.c_types.proofs.Weights.{weights}
use Rattle.c_types.proofs.limits.count_parameters.Given as goal

-- The count so far and that of the rest are the whole.
abbrev pub invariant-loop-others : goal.invariant-loop-others
invariant-loop-others l = record {
  stands : ListStands l.types l.rest;
  fits : l.count ≤ greatest_sum;
  whole : added l.count (count_types (types_in l.types l.rest)) ≡ count_types (types_in l.types l.fn.parameters);
}

abbrev pub decreases-loop-others : goal.decreases-loop-others
decreases-loop-others l = weights (types_in l.types l.rest)
