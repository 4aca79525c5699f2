use Rattle.tac_ir.specs.declared.op.Op.TheVariants as M
use Rattle.tac_ir.specs.Code as C
use Rattle.tac_ir.specs.Views.{path_in}
use Rattle.tac_build.proofs.Points.{gives_pointer}
use Rattle.tac_build.proofs.builder.Builder.address.Goals as goal

pub returns-clause-code : goal.returns-clause-code
returns-clause-code c = gives_pointer c.args.self.now c.pointer_value.new.self c.args.place.c_type (M.Address c.expression.result c.into_inner.result) (λ table register. C.AddressOf register (path_in table c.args.place.path.value)) (λ table i. C.AddressOf (c.expression.ensures i) (path_in table (c.into_inner.ensures i))) c.pointer_value.result c.pointer_value.ensures.code
