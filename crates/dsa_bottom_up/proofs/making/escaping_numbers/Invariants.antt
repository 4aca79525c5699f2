use Rattle.std.proofs.Common.{◌≡◌, ◌++◌, drop}
use Rattle.dsa_bottom_up.proofs.Keeping.{marked_from}
use Rattle.dsa_bottom_up.proofs.making.escaping_numbers.Given as goal

abbrev pub invariant-loop-number : goal.invariant-loop-number
invariant-loop-number l = l.numbers.items ++ marked_from l.number (drop l.number l.is_marked-items) ≡ marked_from 0 l.is_marked-items
