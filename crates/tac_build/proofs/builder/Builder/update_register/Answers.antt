use Rattle.std.proofs.Common.{ap, ◌∙◌}
use Rattle.tac_ir.specs.declared.op.Op.TheVariants as M
use Rattle.tac_ir.specs.Code as C
use Rattle.tac_ir.specs.Views.{tree_of}
use Rattle.tac_build.specs.Code.{compound_tree}
use Rattle.tac_build.proofs.Points.{emits_as}
use Rattle.tac_build.proofs.builder.Builder.update_register.Goals as goal

pub returns-clause-code : goal.returns-clause-code
returns-clause-code c = emits_as c.args.self.now c.append.new.self (M.Assign c.args.local c.into_inner.result)
    (λ table. C.Assign c.args.local (compound_tree c.args.update.operator c.args.update.object_type c.args.update.int_type c.args.local (tree_of c.args.operand.value)))
    (λ table. ap (λ tree. C.Assign c.args.local (tree_of tree)) c.into_inner.ensures ∙ ap (C.Assign c.args.local) c.in_ok-tree.ensures) c.append.result c.append.ensures.code
