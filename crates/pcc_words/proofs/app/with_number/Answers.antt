use Rattle.std.proofs.Common.{◌≡◌, ◌∙◌, ◌||◌, Bool, false, Some, ap, ap₂}
use Rattle.std.proofs.lemmas.Result.{IfOk-weaker}
use Rattle.clap.specs.Walk.{Rule, rule_of}
use Rattle.clap.specs.Simple.{app_of, with_rule}
use Rattle.clap.specs.declared.builder.arg.Arg.{Arg}
use Rattle.pcc_words.specs.Clap.{number_rule}
use Rattle.pcc_words.proofs.NumberRule.{number_rule_is, stays_local}
use Rattle.pcc_words.proofs.app.with_number.Goals as goal

pub returns : goal.returns
returns c =
    let arg : Arg = c.value_parser-number.result in
    let others = c.value_parser-number.ensures.others in
    let given = c.value_parser-number.ensures.given in
    let rule_is : rule_of arg ≡ number_rule c.args.name.now c.args.most =
    number_rule_is arg c.long.result c.new.result c.args.name others c.long.ensures c.args.most (given.1 ∙ ap Some (given.2 ∙ c.unsigned.ensures)) c.new.ensures.rule in
    let local : arg.global ≡ false = stays_local arg c.long.result c.new.result c.args.name others c.long.ensures c.new.ensures.optional.1 in
    IfOk-weaker c.arg.result _ _ (λ after adds. (
      λ was. adds.globals ∙ ap₂ (λ (a b : Bool). a || b) was local,
      adds.shape local ∙ ap (λ (r : Rule). with_rule (app_of c.args.command) r) rule_is,
    )) c.arg.ensures
