use Rattle.dsa_inlining.proofs.OwnersListed.{NoFunction}
use Rattle.dsa_inlining.proofs.complete.has_function.Given as goal

abbrev pub invariant-loop-owner : goal.invariant-loop-owner
invariant-loop-owner l = NoFunction l.owners l.owner-index
