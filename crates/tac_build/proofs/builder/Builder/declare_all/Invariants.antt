use Rattle.std.proofs.Common.{drop}
use Rattle.tac_build.proofs.LocalsSoFar.{LocalsSoFar}
use Rattle.tac_build.proofs.builder.Builder.declare_all.Given as goal

abbrev pub invariant-loop-local : goal.invariant-loop-local
invariant-loop-local l = LocalsSoFar l.source l.addressed l.fn.scope.items l.scope.items l.locals (drop l.local-index l.locals) l.fn.self l.self
