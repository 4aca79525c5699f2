use Rattle.std.proofs.Common.{arith}
use Rattle.machine.proofs.Results.{negated}
use Rattle.machine.proofs.operators.negated_word.Goals as goal

pub returns : goal.returns
returns c = let e = negated c.args.int_type c.args.operand (omega arith) in cc
