use Rattle.std.proofs.Common.{◌≤◌, length, drop}
use Rattle.heap_graph.specs.Numbers.{NumbersGlobals}
use Rattle.heap_graph.proofs.numbers.global_numbers.Given as goal

-- the globals from this number on have theirs
abbrev pub invariant-loop-number : goal.invariant-loop-number
invariant-loop-number l = record {
  within : l.number ≤ length l.globals;
  has : NumbersGlobals l.numbers l.number (drop l.number l.globals);
}

abbrev pub decreases-loop-number : goal.decreases-loop-number
decreases-loop-number l = l.number
