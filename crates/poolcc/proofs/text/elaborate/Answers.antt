use Rattle.c_syntax.specs.Views.{program_tree}
use Rattle.poolcc.proofs.FirstValues.{first_listed}
use Rattle.poolcc.proofs.text.elaborate.Goals as goal

pub returns-in-None-clause-first : goal.returns-in-None-clause-first
returns-in-None-clause-first c = first_listed (program_tree c.args.program.now) c.in-Ok.typed c.in-Ok.ensures.first
