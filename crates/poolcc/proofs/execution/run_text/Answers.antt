use Rattle.std.proofs.Common.{sym, subst}
use Rattle.pcc_words.specs.declared.status.Status.{Status}
use Rattle.image_form.specs.Form.{form_of}
use Rattle.poolcc.specs.Exec.{ExecGives}
use Rattle.poolcc.proofs.Executing.{exec_gives}
use Rattle.poolcc.proofs.execution.run_text.Goals as goal

pub returns-in-Ok-clause-gives : goal.returns-in-Ok-clause-gives
returns-in-Ok-clause-gives g c = λ left base l w.
    subst (λ (status : Status). ExecGives c.args.text.now c.args.limits c.args.steps left base status (g.I.Source.left c.run_image.new.input) (g.O.Sink.written c.run_image.new.out)) (sym c.status_of.ensures.same)
    (exec_gives c.args.text.now c.args.limits c.args.steps left base (g.I.Source.left c.run_image.new.input) (g.O.Sink.written c.run_image.new.out) (form_of c.in-Ok.image) c.in-Ok.ensures.compiled c.requires.short c.run_image.result (c.run_image.ensures.gives left base l w))
