use Rattle.std.proofs.Common.{◌≡◌, ◌+◌, ◌-◌, ◌≤◌, length, drop, get_or}
use Rattle.c_lexer.specs.Fronts.{number_run}
use Rattle.c_lexer.proofs.numbers.number_run.Given as goal

abbrev pub invariant-loop-length : goal.invariant-loop-length
invariant-loop-length l = record {
  positive : 1 ≤ l.length;
  within : l.length ≤ length l.text;
  run : l.length + number_run (get_or l.text (l.length - 1) 0) (drop l.length l.text) ≡ 1 + number_run (get_or l.text 0 0) (drop 1 l.text);
}

abbrev pub decreases-loop-length : goal.decreases-loop-length
decreases-loop-length l = length l.text - l.length
