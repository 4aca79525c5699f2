use Rattle.c_typed.proofs.Kept.{integer_object}
use Rattle.frontend_tests.proofs.typed.integer.Goals as goal

pub returns : goal.returns
returns c = λ table. integer_object table c.integer.result c.args.int_type c.integer.ensures
