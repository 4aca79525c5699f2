use Rattle.std.proofs.Common.{◌≤◌, length, drop}
use Rattle.dsa_bottom_up.specs.Counts.{VariableTypes}
use Rattle.dsa_bottom_up.proofs.names.variable_types.Given as goal

-- those from this number on have theirs
abbrev pub invariant-loop-number : goal.invariant-loop-number
invariant-loop-number l = record {
  within : l.number ≤ length l.globals;
  has : VariableTypes l.types (drop l.number l.globals);
}

abbrev pub decreases-loop-number : goal.decreases-loop-number
decreases-loop-number l = l.number
