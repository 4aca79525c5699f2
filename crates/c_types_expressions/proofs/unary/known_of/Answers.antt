use Rattle.c_types_expressions.proofs.ObjectRules.{shown-some, shown-none}
use Rattle.c_types_expressions.proofs.unary.known_of.Goals as goal

pub returns-in-Some : goal.returns-in-Some
returns-in-Some c = shown-some c.args.operand c.in-Some.operand c.into_known.result c.in-Some.is c.into_known.ensures

pub returns-in-None : goal.returns-in-None
returns-in-None c = shown-none c.args.operand c.in-None.is
