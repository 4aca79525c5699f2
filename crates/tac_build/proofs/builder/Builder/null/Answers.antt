use Rattle.tac_ir.specs.declared.op.Op.TheVariants as M
use Rattle.tac_ir.specs.Code as C
use Rattle.tac_build.proofs.Points.{gives_pointer}
use Rattle.tac_build.proofs.builder.Builder.null.Goals as goal

pub returns-clause-code : goal.returns-clause-code
returns-clause-code c = gives_pointer c.args.self.now c.pointer_value.new.self c.args.target (M.Null c.expression-to.result) (λ table. C.Null) (λ table i. C.Null (c.expression-to.ensures i)) c.pointer_value.result c.pointer_value.ensures.code
