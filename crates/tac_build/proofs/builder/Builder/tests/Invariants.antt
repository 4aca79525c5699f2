use Rattle.std.proofs.Common.{drop}
use Rattle.tac_build.proofs.SoFar.{TestsSoFar}
use Rattle.tac_build.proofs.builder.Builder.tests.Given as goal

abbrev pub invariant-loop-case : goal.invariant-loop-case
invariant-loop-case l = TestsSoFar l.switched l.cases (drop l.case-index l.cases) l.initial.self l.self
