use Rattle.std.proofs.Common.{◌≡◌, ◌+◌, ◌-◌, ◌≤◌, length, drop}
use Rattle.std.specs.List.{prefix_len}
use Rattle.c_lexer.specs.Constants.{is_digit_of}
use Rattle.c_lexer.proofs.numbers.digit_run.Given as goal

abbrev pub invariant-loop-length : goal.invariant-loop-length
invariant-loop-length l = (l.length + prefix_len (is_digit_of l.base) (drop l.length l.bytes) ≡ prefix_len (is_digit_of l.base) l.bytes) × (l.length ≤ length l.bytes)

abbrev pub decreases-loop-length : goal.decreases-loop-length
decreases-loop-length l = length l.bytes - l.length
