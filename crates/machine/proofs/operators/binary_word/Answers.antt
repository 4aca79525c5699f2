use Rattle.std.proofs.Common.{refl, arith}
use Rattle.c_num.specs.declared.BinOp.TheVariants.{Div, Rem}
use Rattle.machine.proofs.Results.{on_values, added, subtracted, multiplied, anded, ored, xored, shifted_left, shifted_right}
use Rattle.machine.proofs.operators.binary_word.Goals as goal

pub returns-in-Add : goal.returns-in-Add
returns-in-Add c = let e = added c.args.int_type c.args.left c.args.right in cc

pub returns-in-Sub : goal.returns-in-Sub
returns-in-Sub c = let e = subtracted c.args.int_type c.args.left c.args.right (omega arith) in cc

pub returns-in-Mul : goal.returns-in-Mul
returns-in-Mul c = let e = multiplied c.args.int_type c.args.left c.args.right in cc

pub returns-in-Div : goal.returns-in-Div
returns-in-Div c = let e = on_values Div c.args.int_type c.args.left c.args.right refl in cc

pub returns-in-Rem : goal.returns-in-Rem
returns-in-Rem c = let e = on_values Rem c.args.int_type c.args.left c.args.right refl in cc

pub returns-in-Shl : goal.returns-in-Shl
returns-in-Shl c = let e = shifted_left c.args.int_type c.args.left c.args.right in cc

pub returns-in-Shr : goal.returns-in-Shr
returns-in-Shr c = let e = shifted_right c.args.int_type c.args.left c.args.right in cc

pub returns-in-And : goal.returns-in-And
returns-in-And c = let e = anded c.args.int_type c.args.left c.args.right in cc

pub returns-in-Or : goal.returns-in-Or
returns-in-Or c = let e = ored c.args.int_type c.args.left c.args.right in cc

pub returns-in-Xor : goal.returns-in-Xor
returns-in-Xor c = let e = xored c.args.int_type c.args.left c.args.right in cc
