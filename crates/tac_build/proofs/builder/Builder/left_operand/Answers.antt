use Rattle.std.proofs.Common.{ap, subst}
use Rattle.std.specs.Prelude.{not}
use Rattle.tac_ir.specs.Views.{tree_of}
use Rattle.tac_build.specs.Code.{KeepsTree}
use Rattle.tac_build.specs.Building.{spot_of}
use Rattle.tac_build.proofs.builder.Builder.left_operand.Goals as goal

pub returns-clause-code : goal.returns-clause-code
returns-clause-code c = λ points fills.
    let table = c.args.types.now in
    let tree = tree_of c.integer-int_type.result.tree.value in (
      tree,
      c.integer-int_type.ensures table,
      subst (λ followed. KeepsTree points followed tree (spot_of table c.args.self.now) (spot_of table c.keep.new.self) (tree_of c.in_ok-tree.tree.value)) (ap not c.is_pure-is_followed.ensures) (c.in_ok-tree.ensures.code table points fills),
    )
