use Rattle.std.proofs.Common.{sym, ap, ◌∙◌, subst}
use Rattle.pcc_words.specs.Seen.{limits_seen, line_seen}
use Rattle.poolcc.specs.Build.{BuildGives}
use Rattle.poolcc.specs.Exec.{ExecGives}
use Rattle.poolcc.proofs.Commanding.{build_answers, exec_answers, graph_answers}
use Rattle.poolcc.proofs.top.command.Goals as goal

pub returns-in-Build-clause-answers : goal.returns-in-Build-clause-answers
returns-in-Build-clause-answers g c =
    let written' = g.O.Sink.written c.build_file.new.out in
    build_answers c.in-Build.file.now (limits_seen c.in-Build.limits) c.in-Build.one_pool (g.F.Files.contents c.args.files.now) (g.I.Source.left c.args.input.now) (g.O.Sink.written c.args.out.now) written' c.build_file.result
    (λ text base holds wrote. subst (λ l. BuildGives text l base c.build_file.result written') c.limits_of.ensures.is (c.build_file.ensures.gives text base holds wrote))
    c.build_file.ensures.missing _ (sym c.in-Ok.ensures.says ∙ ap line_seen c.in-Build.is)

pub returns-in-Exec-clause-answers : goal.returns-in-Exec-clause-answers
returns-in-Exec-clause-answers g c =
    let left' = g.I.Source.left c.exec.new.input in
    let written' = g.O.Sink.written c.exec.new.out in
    exec_answers c.in-Exec.file.now (limits_seen c.in-Exec.limits) c.in-Exec.one_pool c.in-Exec.steps (g.F.Files.contents c.args.files.now) (g.I.Source.left c.args.input.now) (g.O.Sink.written c.args.out.now) left' written' c.exec.result
    (λ text input base holds told wrote. subst (λ l. ExecGives text l c.in-Exec.steps input base c.exec.result left' written') c.limits_of-in-Exec.ensures.is (c.exec.ensures.gives text input base holds told wrote))
    c.exec.ensures.missing _ (sym c.in-Ok.ensures.says ∙ ap line_seen c.in-Exec.is)

pub returns-in-Graph-clause-answers : goal.returns-in-Graph-clause-answers
returns-in-Graph-clause-answers g c =
    let written' = g.O.Sink.written c.graph_file.new.out in
    graph_answers c.in-Graph.file.now (g.F.Files.contents c.args.files.now) (g.I.Source.left c.args.input.now) (g.O.Sink.written c.args.out.now) written' c.graph_file.result c.graph_file.ensures.gives c.graph_file.ensures.missing _
    (sym c.in-Ok.ensures.says ∙ ap line_seen c.in-Graph.is)
