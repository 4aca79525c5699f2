use Rattle.tac_ir.specs.declared.op.Op.TheVariants as M
use Rattle.tac_ir.specs.Code as C
use Rattle.c_num.specs.declared.IntType.TheVariants as I
use Rattle.tac_build.proofs.Points.{gives_integer}
use Rattle.tac_build.proofs.builder.Builder.test_pointer.Goals as goal

pub returns-clause-code : goal.returns-clause-code
returns-clause-code c = gives_integer c.args.self.now c.integer_value.new.self I.Int (M.Test c.temporary.result c.args.from.register) (λ table register. C.Test register c.args.from.register) (λ table i. C.Test (c.temporary.ensures i) c.args.from.register) c.integer_value.result c.integer_value.ensures.code
