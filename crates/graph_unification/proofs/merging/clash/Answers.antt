use Rattle.std.proofs.Common.{◌∷◌, ap, ◌∙◌, rules}
use Rattle.std.proofs.lemmas.Result.{on_ok_weaker}
use Rattle.graph_unification.specs.declared.ask.Ask.TheVariants as A
use Rattle.graph_unification.proofs.merging.clash.Goals as goal

pub returns-in_err-push : goal.returns-in_err-push
returns-in_err-push c = search rules

pub returns-in_err-push-2 : goal.returns-in_err-push-2
returns-in_err-push-2 c = search rules

pub returns : goal.returns
returns c = on_ok_weaker c.push-3.result (λ e. e ∙ ap (λ w. A.Collapse c.args.a ∷ w) (c.in_ok-push-2.ensures ∙ ap (λ w. A.Collapse c.args.b ∷ w) c.in_ok-push.ensures)) c.push-3.ensures
