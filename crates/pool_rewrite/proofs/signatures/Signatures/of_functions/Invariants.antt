use Rattle.std.proofs.Common.{◌≤◌, drop, length}
use Rattle.pool_rewrite.specs.Places.{NumbersTypes}
use Rattle.pool_rewrite.proofs.signatures.Signatures.of_functions.Given as goal

-- the types of the functions from this number on have theirs
abbrev pub invariant-loop-number : goal.invariant-loop-number
invariant-loop-number l = record {
  within : l.number ≤ length l.functions;
  has : NumbersTypes l.types l.firsts l.number (drop l.number l.functions);
}

abbrev pub decreases-loop-number : goal.decreases-loop-number
decreases-loop-number l = l.number
