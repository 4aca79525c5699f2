use Rattle.std.proofs.Common.{◌≡◌, ◌+◌, ◌-◌, ◌≤◌, length, drop}
use Rattle.std.specs.List.{prefix_len}
use Rattle.c_lexer.specs.Classes.{is_hexadecimal_digit}
use Rattle.c_lexer.proofs.characters.hexadecimal_run.Given as goal

abbrev pub invariant-loop-length : goal.invariant-loop-length
invariant-loop-length l = (l.length + prefix_len is_hexadecimal_digit (drop l.length l.text) ≡ prefix_len is_hexadecimal_digit l.text) × (l.length ≤ length l.text)

abbrev pub decreases-loop-length : goal.decreases-loop-length
decreases-loop-length l = length l.text - l.length
