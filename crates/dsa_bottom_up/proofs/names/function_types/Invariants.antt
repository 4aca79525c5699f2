use Rattle.std.proofs.Common.{◌≤◌, length, drop}
use Rattle.dsa_bottom_up.specs.Counts.{FunctionTypes}
use Rattle.dsa_bottom_up.proofs.names.function_types.Given as goal

-- those from this number on have theirs
abbrev pub invariant-loop-number : goal.invariant-loop-number
invariant-loop-number l = record {
  within : l.number ≤ length l.functions;
  has : FunctionTypes l.types (drop l.number l.functions);
}

abbrev pub decreases-loop-number : goal.decreases-loop-number
decreases-loop-number l = l.number
