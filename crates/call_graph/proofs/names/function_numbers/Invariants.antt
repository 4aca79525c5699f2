use Rattle.std.proofs.Common.{◌≤◌, length, drop}
use Rattle.call_graph.specs.TakenLists.{NumbersFunctions}
use Rattle.call_graph.proofs.names.function_numbers.Given as goal

-- the functions from this number on have theirs
abbrev pub invariant-loop-number : goal.invariant-loop-number
invariant-loop-number l = record {
  within : l.number ≤ length l.functions;
  has : NumbersFunctions l.numbers l.number (drop l.number l.functions);
}

abbrev pub decreases-loop-number : goal.decreases-loop-number
decreases-loop-number l = l.number
