use Rattle.std.proofs.Common.{◌≡◌, length}
use Rattle.dsa_bottom_up.proofs.making.Making.new.Given as goal

abbrev pub invariant-loop : goal.invariant-loop
invariant-loop l = length l.functions.items ≡ l.index
