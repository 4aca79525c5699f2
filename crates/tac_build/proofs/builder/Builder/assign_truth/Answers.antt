use Rattle.tac_ir.specs.declared.op.Op.TheVariants as M
use Rattle.tac_ir.specs.Code as C
use Rattle.tac_ir.specs.Views.{tree_of}
use Rattle.tac_build.specs.Code.{truth_tree}
use Rattle.tac_build.proofs.Points.{emits_as}
use Rattle.tac_build.proofs.builder.Builder.assign_truth.Goals as goal

pub returns-clause-code : goal.returns-clause-code
returns-clause-code c = emits_as c.args.self.now c.append.new.self (M.Assign c.args.to c.in_ok-tree.tree) (λ table. C.Assign c.args.to (truth_tree c.args.value.int_type (tree_of c.args.value.tree.value))) (λ table i. C.Assign c.args.to (c.in_ok-tree.ensures i)) c.append.result c.append.ensures.code
