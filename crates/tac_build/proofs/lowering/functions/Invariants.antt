use Rattle.std.proofs.Common.{drop}
use Rattle.tac_build.proofs.ProgramCodes.{FunctionsSoFar}
use Rattle.tac_build.proofs.lowering.functions.Given as goal

abbrev pub invariant-loop-definition : goal.invariant-loop-definition
invariant-loop-definition l = FunctionsSoFar l.source l.source.program.functions.items (drop l.definition-index l.source.program.functions.items) l.functions.items
