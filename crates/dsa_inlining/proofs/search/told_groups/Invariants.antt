use Rattle.dsa_inlining.specs.GroupStatics.Telling.{AreFromBases}
use Rattle.dsa_inlining.proofs.search.told_groups.Given as goal

abbrev pub invariant-loop-base : goal.invariant-loop-base
invariant-loop-base l = AreFromBases l.all l.bases l.told.keys
