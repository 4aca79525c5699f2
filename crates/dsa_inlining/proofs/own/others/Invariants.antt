use Rattle.dsa_inlining.proofs.Others.{AreOthersFirst}
use Rattle.dsa_inlining.proofs.own.others.Given as goal

abbrev pub invariant-loop-number : goal.invariant-loop-number
invariant-loop-number l = AreOthersFirst l.number-items l.told.keys l.numbers.items l.number-index
