use Rattle.dsa_inlining.proofs.MarkSteps.{MarksLeft}
use Rattle.dsa_inlining.proofs.marks.mark_all.Given as goal

-- the numbers that are left make up all
abbrev pub invariant-loop-number : goal.invariant-loop-number
invariant-loop-number l = MarksLeft l.numbers l.initial.marks.items l.number-index l.marks.items
