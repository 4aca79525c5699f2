use Rattle.dsa_inlining.proofs.MarkedNodes.{MarksFirst}
use Rattle.dsa_inlining.proofs.complete.mark_complete.Given as goal

abbrev pub invariant-loop-number : goal.invariant-loop-number
invariant-loop-number l = MarksFirst l.escaping l.initial.nodes.items l.nodes.items l.number
