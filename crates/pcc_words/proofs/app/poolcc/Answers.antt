use Rattle.std.proofs.Common.{◌≡◌, ◌∙◌, true, codes, ap, ap₂}
use Rattle.std.proofs.lemmas.Result.{IfOk-weaker}
use Rattle.clap.specs.Simple.{App, Shape, app_of, app_of_fields, on_top, with_rule, with_subcommand}
use Rattle.pcc_words.specs.Line.{Steps, exec_choices, graph_choices, run_choices}
use Rattle.pcc_words.specs.Clap.{bare, leaf, setting_rule, with_choices}
use Rattle.pcc_words.proofs.app.poolcc.Goals as goal

pub returns : goal.returns
returns c =
    let bare_is : app_of c.disable_help_subcommand.result ≡ bare = ap app_of_fields c.disable_help_subcommand.ensures
    ∙ ap (on_top (λ (s : Shape). record s { disable_help_subcommand = true })) (ap app_of_fields c.disable_help_flag.ensures)
    ∙ ap (on_top (λ (s : Shape). record s { disable_help_flag = true; disable_help_subcommand = true })) (ap app_of_fields c.subcommand_required.ensures)
    ∙ ap (on_top (λ (s : Shape). record s { subcommand_required = true; disable_help_flag = true; disable_help_subcommand = true })) c.new.ensures.app in
    let exec_is : app_of c.in_ok-exec.exec ≡ leaf (codes "exec") exec_choices = c.in_ok-exec.ensures.1
    ∙ ap (λ (a : App). with_rule a (setting_rule Steps)) c.in_ok-compiling.ensures.1 in
    let run_is : app_of c.in_ok-run.run' ≡ leaf (codes "run") run_choices = c.in_ok-run.ensures.1
    ∙ ap (λ (a : App). with_choices a run_choices) c.in_ok-of_file.ensures.1 in
    let ref_is : app_of c.in_ok-reference.reference ≡ leaf (codes "ref") run_choices = c.in_ok-reference.ensures.1
    ∙ ap (λ (a : App). with_choices a run_choices) c.in_ok-of_file-2.ensures.1 in
    let graph_is : app_of c.in_ok-graph.graph ≡ leaf (codes "graph") graph_choices = c.in_ok-graph.ensures.1 in
    let with_build = c.in_ok-subcommand.ensures.shape c.in_ok-build.ensures.0
    ∙ ap₂ (λ (a b : App). with_subcommand a b.top) bare_is c.in_ok-build.ensures.1 in
    let with_exec = c.in_ok-subcommand-2.ensures.shape (c.in_ok-exec.ensures.0 c.in_ok-compiling.ensures.0)
    ∙ ap₂ (λ (a b : App). with_subcommand a b.top) with_build exec_is in
    let with_run = c.in_ok-subcommand-3.ensures.shape (c.in_ok-run.ensures.0 c.in_ok-of_file.ensures.0)
    ∙ ap₂ (λ (a b : App). with_subcommand a b.top) with_exec run_is in
    let with_ref = c.in_ok-subcommand-4.ensures.shape (c.in_ok-reference.ensures.0 c.in_ok-of_file-2.ensures.0)
    ∙ ap₂ (λ (a b : App). with_subcommand a b.top) with_run ref_is in
    IfOk-weaker c.subcommand-5.result _ _ (λ command adds. adds.shape c.in_ok-graph.ensures.0
    ∙ ap₂ (λ (a b : App). with_subcommand a b.top) with_ref graph_is) c.subcommand-5.ensures
