use Rattle.std.proofs.Common.{sym, subst}
use Rattle.ref_meaning.specs.Running.{behaviour_of}
use Rattle.pcc_words.specs.declared.status.Status.{Status}
use Rattle.poolcc.specs.Ref.{ProgramGives, RefGives}
use Rattle.poolcc.proofs.Referring.{ref_gives}
use Rattle.poolcc.proofs.reference.ref_text.Goals as goal

pub returns-in-Ok-clause-gives : goal.returns-in-Ok-clause-gives
returns-in-Ok-clause-gives g c = λ left base l w.
    let written' = g.O.Sink.written c.ref_program.new.out in
    let found = c.in-Ok.ensures.found in
    subst (λ (status : Status). RefGives c.args.text.now c.args.steps left base status (g.I.Source.left c.ref_program.new.input) written') (sym c.status_of.ensures.same)
    (ref_gives c.args.text.now c.args.steps left base (g.I.Source.left c.ref_program.new.input) written' found.0 found.1 c.requires c.ref_program.result
    (subst (λ program. ProgramGives (behaviour_of program left c.args.steps) base c.ref_program.result (g.I.Source.left c.ref_program.new.input) written') found.2 (c.ref_program.ensures.gives left base l w)))
