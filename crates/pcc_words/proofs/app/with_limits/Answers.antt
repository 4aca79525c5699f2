use Rattle.std.proofs.Common.{◌∙◌, ap}
use Rattle.std.proofs.lemmas.Result.{IfOk-weaker}
use Rattle.clap.specs.Simple.{App, with_rule}
use Rattle.pcc_words.specs.Line.{Index}
use Rattle.pcc_words.specs.Clap.{setting_rule}
use Rattle.pcc_words.proofs.app.with_limits.Goals as goal

pub returns : goal.returns
returns c = IfOk-weaker c.with_number-2.result _ _ (λ after h. (
  λ was. h.0 (c.in_ok-command.ensures.0 was),
  h.1 ∙ ap (λ (a : App). with_rule a (setting_rule Index)) c.in_ok-command.ensures.1,
)) c.with_number-2.ensures
