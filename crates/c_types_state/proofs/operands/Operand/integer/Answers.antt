use Rattle.c_types_state.proofs.IntegerOperands.{integer_operand}
use Rattle.c_types_state.proofs.operands.Operand.integer.Goals as goal

pub returns : goal.returns
returns c = λ table. integer_operand table c.integer.result c.args.int_type c.args.constness c.is_zero.result c.args.value c.of_type.result c.integer.ensures c.is_zero.ensures (c.of_type.ensures table)
