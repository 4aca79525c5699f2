use Rattle.std.proofs.Common.{[], ◌∙◌, sym, ap}
use Rattle.std.specs.Prelude.{Some}
use Rattle.std.proofs.lemmas.List.{append-nil}
use Rattle.c_typed.specs.DefinitionViews.{program_of}
use Rattle.ref_meaning.specs.Running.{behaviour_of}
use Rattle.poolcc.proofs.Referring.{does}
use Rattle.poolcc.proofs.reference.ref_program.Goals as goal

pub returns-clause-gives : goal.returns-clause-gives
returns-clause-gives g c = λ left base l w.
    does c.in-Ok.run' c.run.new.self (behaviour_of (program_of c.args.program.now)) base left c.args.steps c.run.result (g.I.Source.left c.run.new.input) (g.O.Sink.written c.run.new.out)
    (c.run.ensures.answers [] (behaviour_of (program_of c.args.program.now)) base left c.in-Ok.ensures.stands l (w ∙ ap Some (sym (append-nil base))))
