use Rattle.tac_build.proofs.Parameters.{ParametersSoFar}
use Rattle.tac_build.proofs.builder.Builder.parameters.Given as goal

abbrev pub invariant-loop-number : goal.invariant-loop-number
invariant-loop-number l = ParametersSoFar l.source l.addressed l.scope.items l.parameters l.number l.fn.self l.self
