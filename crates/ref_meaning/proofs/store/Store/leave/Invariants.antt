use Rattle.ref_meaning.proofs.Leaving.{IsLeaving}
use Rattle.ref_meaning.proofs.store.Store.leave.Given as goal

abbrev pub invariant-loop-self : goal.invariant-loop-self
invariant-loop-self l = IsLeaving l.height l.initial.self l.self

abbrev pub decreases-loop-self : goal.decreases-loop-self
decreases-loop-self l = goal.left-loop-self l
