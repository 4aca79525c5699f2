use Rattle.tac_build.proofs.Points.{if_ok}
use Rattle.tac_build.proofs.builder.Builder.get_char.Goals as goal

pub returns-clause-code : goal.returns-clause-code
returns-clause-code c = if_ok _ _ c.held.result (λ lowered is table points fills. (c.in_ok-append.ensures.code table points fills, is table)) c.held.ensures
