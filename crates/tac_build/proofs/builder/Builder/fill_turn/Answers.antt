use Rattle.std.proofs.Common.{◌∙◌, Some}
use Rattle.tac_build.specs.LoweringStatements.{turn_op}
use Rattle.tac_build.proofs.builder.Builder.fill_turn.Goals as goal

pub returns-clause-code : goal.returns-clause-code
returns-clause-code c = λ table points fills.
    let turned = c.turn.ensures.code table ∙ (λ i. turn_op c.args.condition (c.here-inside.ensures i) c.args.exit.0) in
    c.fill.ensures.code table points fills ∙ (λ i. Some (turned i))
