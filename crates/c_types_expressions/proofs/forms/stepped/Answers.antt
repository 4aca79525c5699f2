use Rattle.c_types_expressions.proofs.Deriving.{operand-known}
use Rattle.c_types_expressions.proofs.forms.stepped.Goals as goal

pub returns : goal.returns
returns c = operand-known c.in_ok-postfixed.ensures c.into_known.ensures.stands c.into_known.ensures.known
