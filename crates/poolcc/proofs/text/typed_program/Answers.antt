use Rattle.c_syntax.specs.Views.{program_tree}
use Rattle.poolcc.proofs.Typing.{accepted_compilable}
use Rattle.poolcc.proofs.text.typed_program.Goals as goal

pub returns-in-Ok-elaborate-clause-found : goal.returns-in-Ok-elaborate-clause-found
returns-in-Ok-elaborate-clause-found c = (program_tree c.in-Ok.program, c.in-Ok-elaborate.ensures.accepted c.args.text.now c.in-Ok.ensures.found, c.in-Ok-elaborate.ensures.typed, c.in-Ok-elaborate.ensures.first)

pub returns-in-Ok-elaborate-clause-compilable : goal.returns-in-Ok-elaborate-clause-compilable
returns-in-Ok-elaborate-clause-compilable c =
    let accepted = c.in-Ok-elaborate.ensures.accepted c.args.text.now c.in-Ok.ensures.found in
    accepted_compilable c.args.text.now (program_tree c.in-Ok.program) _ c.requires accepted c.in-Ok-elaborate.ensures.typed
