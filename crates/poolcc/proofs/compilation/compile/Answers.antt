use Rattle.c_typed.specs.DefinitionViews.{program_of}
use Rattle.poolcc.proofs.compilation.compile.Goals as goal

pub returns-in-Ok-emitted_image-clause-image : goal.returns-in-Ok-emitted_image-clause-image
returns-in-Ok-emitted_image-clause-image c =
    c.in-Ok-emitted_image.ensures
    (record { program = program_of c.args.typed.program; compilable = c.requires.compilable; code = c.in-Ok.ensures.code; literals = c.in-Ok.ensures.literals })
