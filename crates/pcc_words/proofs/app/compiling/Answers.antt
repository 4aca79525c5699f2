use Rattle.std.proofs.Common.{◌∙◌, ap}
use Rattle.std.proofs.lemmas.Result.{IfOk-weaker}
use Rattle.clap.specs.Simple.{App, with_rule}
use Rattle.pcc_words.specs.Line.{OnePool, build_choices, flag_name}
use Rattle.pcc_words.specs.Clap.{flag_rule, with_choices}
use Rattle.pcc_words.proofs.app.compiling.Goals as goal

pub returns : goal.returns
returns c = IfOk-weaker c.with_flags.result _ _ (λ command h. (
  h.0 (c.in_ok-with_limits.ensures.0 c.in_ok-of_file.ensures.0),
  h.1 ∙ ap (λ (a : App). with_rule a (flag_rule (flag_name OnePool))) c.in_ok-with_limits.ensures.1
      ∙ ap (λ (a : App). with_choices a build_choices) c.in_ok-of_file.ensures.1,
)) c.with_flags.ensures
