use Rattle.tac_ir.specs.declared.op.Op.TheVariants as M
use Rattle.tac_ir.specs.Code as C
use Rattle.c_typed.specs.Table.{type_in}
use Rattle.tac_ir.specs.Views.{tree_of}
use Rattle.tac_build.proofs.Points.{gives_given}
use Rattle.tac_build.proofs.builder.Builder.move_pointer.Goals as goal

pub returns-clause-code : goal.returns-clause-code
returns-clause-code c = gives_given c.args.self.now c.give_pointer.new.self c.args.from.target (M.Move c.expression.result c.args.from.register c.args.from.target c.args.is_minus c.into_inner.result) (λ table register. C.Move register c.args.from.register (type_in table c.args.from.target) c.args.is_minus (tree_of c.args.number.value)) (λ table i. C.Move (c.expression.ensures i) c.args.from.register (type_in table c.args.from.target) c.args.is_minus (tree_of (c.into_inner.ensures i))) c.give_pointer.result c.give_pointer.ensures.code
