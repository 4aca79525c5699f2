use Rattle.std.proofs.Common.{◌≤◌, length, drop}
use Rattle.heap_graph.specs.Numbers.{NumbersLiterals}
use Rattle.heap_graph.proofs.numbers.literal_numbers.Given as goal

-- the literals from this number on have theirs
abbrev pub invariant-loop-number : goal.invariant-loop-number
invariant-loop-number l = record {
  within : l.number ≤ length l.literals;
  has : NumbersLiterals l.numbers l.number (drop l.number l.literals);
}

abbrev pub decreases-loop-number : goal.decreases-loop-number
decreases-loop-number l = l.number
