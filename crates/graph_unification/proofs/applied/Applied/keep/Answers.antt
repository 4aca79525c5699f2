use Rattle.std.proofs.Common.{false, ap}
use Rattle.tac_ir.specs.Views.{path_in, scalar_in, operand_of, tree_of}
use Rattle.graph_unification.specs.Applying.{code_of, owner_of, shown}
use Rattle.graph_unification.proofs.ObjectSteps.{integer_kept}
use Rattle.graph_unification.proofs.applied.Applied.keep.Goals as goal

pub returns-in-Integer-clause-applies : goal.returns-in-Integer-clause-applies
returns-in-Integer-clause-applies c =
    let own = c.args.self in
    let old = shown own c.args.graph.now in
    integer_kept (code_of own) c.requires.known.made (owner_of own) (path_in own.tac.now.types c.args.path.now) old old false c.requires.graph.sound (scalar_in own.tac.now.types c.args.scalar) (operand_of c.args.value.now)
    (tree_of c.in-Integer.field-0) (ap operand_of c.in-Integer.is)
