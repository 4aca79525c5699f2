use Rattle.tac_ir.specs.declared.op.Op.TheVariants as M
use Rattle.tac_ir.specs.Code as C
use Rattle.tac_ir.specs.Views.{path_in, scalar_in, operand_of}
use Rattle.tac_build.proofs.Points.{emits_as}
use Rattle.tac_build.proofs.builder.Builder.store_operand.Goals as goal

pub returns-clause-code : goal.returns-clause-code
returns-clause-code c = emits_as c.args.self.now c.append.new.self (M.Store c.into_inner.result c.args.scalar c.args.value) (λ table. C.Store (path_in table c.args.path.value) (scalar_in table c.args.scalar) (operand_of c.args.value))
    (λ table i. C.Store (path_in table (c.into_inner.ensures i)) (scalar_in table c.args.scalar) (operand_of c.args.value)) c.append.result c.append.ensures.code
