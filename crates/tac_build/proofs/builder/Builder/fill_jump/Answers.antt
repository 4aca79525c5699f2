use Rattle.std.proofs.Common.{subst}
use Rattle.tac_ir.specs.Code.{Jump}
use Rattle.tac_build.specs.Code.{HasOp}
use Rattle.tac_build.proofs.builder.Builder.fill_jump.Goals as goal

pub returns-clause-code : goal.returns-clause-code
returns-clause-code c = λ table points fills. subst (λ here. HasOp points c.args.at.0 (Jump here)) c.here-here.ensures (c.fill.ensures.code table points fills)
