use Rattle.std.proofs.Common.{Some, ap}
use Rattle.tac_ir.specs.Views.{tree_of, operand_of}
use Rattle.graph_unification.specs.Memory.{name_of}
use Rattle.graph_unification.specs.Applying.{code_of, owner_of, shown}
use Rattle.graph_unification.proofs.NamedSteps.{if_ok}
use Rattle.graph_unification.proofs.PointSteps.{integer_returned, pointer_returned}
use Rattle.graph_unification.proofs.applied.Applied.give.Goals as goal

pub returns-in-Integer-clause-applies : goal.returns-in-Integer-clause-applies
returns-in-Integer-clause-applies c =
    let own = c.args.self in
    integer_returned (code_of own) c.requires.known.made (owner_of own) (shown own c.args.graph.now) c.requires.graph.sound (Some (operand_of c.args.operand.now)) (tree_of c.in-Integer.field-0)
    (ap (λ o. Some (operand_of o)) c.in-Integer.is)

pub returns-in-Pointer-clause-applies : goal.returns-in-Pointer-clause-applies
returns-in-Pointer-clause-applies c =
    let own = c.args.self in
    if_ok c.take.result c.take.ensures.applies
    (λ changed its.
    pointer_returned (code_of own) c.requires.known.made (owner_of own) (shown own c.args.graph.now) c.requires.graph.sound (Some (operand_of c.args.operand.now)) changed (shown own c.take.new.graph)
    c.in-Pointer.register (name_of c.returned.result) c.returned.ensures (ap (λ o. Some (operand_of o)) c.in-Pointer.is) its)
