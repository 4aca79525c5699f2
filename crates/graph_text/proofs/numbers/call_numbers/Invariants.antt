use Rattle.std.proofs.Common.{◌≡◌, ◌≤◌, ◌++◌, drop, map}
use Rattle.graph_text.specs.Adding.{mark_of}
use Rattle.graph_text.specs.ProgramLabels as L
use Rattle.graph_text.proofs.numbers.call_numbers.Given as goal

abbrev pub invariant-loop-mark : goal.invariant-loop-mark
invariant-loop-mark l = record {
  few : l.before ≤ l.mark-index;
  numbers : l.numbers.items ++ L.call_numbers l.before (map mark_of (drop l.mark-index l.marks)) ≡ L.call_numbers 0 (map mark_of l.marks);
}
