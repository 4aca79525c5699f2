use Rattle.std.proofs.Common.{◌≡◌, ◌∙◌, ◌||◌, Bool, false, ap, ap₂, refl}
use Rattle.std.proofs.lemmas.Result.{IfOk-weaker}
use Rattle.clap.specs.Walk.{Rule, rule_of}
use Rattle.clap.specs.Simple.{app_of, with_rule}
use Rattle.clap.specs.declared.builder.arg.Arg.{Arg}
use Rattle.pcc_words.specs.Clap.{flag_rule}
use Rattle.pcc_words.proofs.FlagRule.{flag_local, flag_rule_is, range_is}
use Rattle.pcc_words.proofs.app.with_flag.Goals as goal

pub returns : goal.returns
returns c =
    let arg : Arg = c.default_missing_value-flag.result in
    let counted = c.num_args.ensures in
    let rule_is : rule_of arg ≡ flag_rule c.args.name.now =
    flag_rule_is arg c.num_args.result c.action.result c.long.result c.new.result c.args.name _ c.default_missing_value-flag.ensures counted.0 c.action.ensures c.long.ensures
    (range_is c.num_args.result.num_vals counted.1) refl c.new.ensures.rule in
    let local : arg.global ≡ false =
    flag_local arg c.num_args.result c.action.result c.long.result c.new.result c.args.name _ c.default_missing_value-flag.ensures counted.0 c.action.ensures c.long.ensures
    c.new.ensures.optional.1 in
    IfOk-weaker c.arg.result _ _ (λ after adds. (
      λ was. adds.globals ∙ ap₂ (λ (a b : Bool). a || b) was local,
      adds.shape local ∙ ap (λ (r : Rule). with_rule (app_of c.args.command) r) rule_is,
    )) c.arg.ensures
