use Rattle.dsa_bottom_up.proofs.Counted.{SoFar}
use Rattle.dsa_bottom_up.proofs.program.bottom_up.Given as goal

abbrev pub invariant-loop-number : goal.invariant-loop-number
invariant-loop-number l = SoFar l.fn.tac l.fn.groups l.fn.counts.functions.items l.making l.number
