use Rattle.c_types_expressions.proofs.Deriving.{not_void_alone}
use Rattle.c_types_expressions.proofs.words.is_void_alone.Goals as goal

pub returns-in_default-4 : goal.returns-in_default-4
returns-in_default-4 c = not_void_alone c.args.parameters.now c.in_default.len_at_least
