use Rattle.std.proofs.Common.{◌≤◌, length, drop}
use Rattle.ref_meaning.specs.Numbers.{HasNumbers}
use Rattle.ref_meaning.proofs.run.by_name.Given as goal

-- the functions from this number on have theirs
abbrev pub invariant-loop-number : goal.invariant-loop-number
invariant-loop-number l = record {
  within : l.number ≤ length l.functions;
  has : HasNumbers l.numbers l.number (drop l.number l.functions);
}

abbrev pub decreases-loop-number : goal.decreases-loop-number
decreases-loop-number l = l.number
