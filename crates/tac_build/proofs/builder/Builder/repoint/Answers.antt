use Rattle.tac_ir.specs.declared.op.Op.TheVariants as M
use Rattle.tac_ir.specs.Code as C
use Rattle.c_typed.specs.Table.{type_in}
use Rattle.tac_build.proofs.Points.{gives_pointer}
use Rattle.tac_build.proofs.builder.Builder.repoint.Goals as goal

pub returns-clause-code : goal.returns-clause-code
returns-clause-code c = gives_pointer c.args.self.now c.pointer_value.new.self c.args.target (M.Repoint c.expression.result c.args.target c.args.from.register) (λ table register. C.Repoint register (type_in table c.args.target) c.args.from.register) (λ table i. C.Repoint (c.expression.ensures i) (type_in table c.args.target) c.args.from.register) c.pointer_value.result c.pointer_value.ensures.code
