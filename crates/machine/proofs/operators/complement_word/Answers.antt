use Rattle.std.proofs.Common.{arith}
use Rattle.machine.proofs.Results.{complemented}
use Rattle.machine.proofs.operators.complement_word.Goals as goal

pub returns : goal.returns
returns c = let e = complemented c.args.int_type c.args.operand (omega arith) in cc
