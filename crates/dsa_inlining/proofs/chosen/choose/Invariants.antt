use Rattle.dsa_inlining.specs.Choices.{AreAmong}
use Rattle.dsa_inlining.proofs.chosen.choose.Given as goal

abbrev pub invariant-loop-group : goal.invariant-loop-group
invariant-loop-group l = AreAmong l.choice.bases.items l.groups
