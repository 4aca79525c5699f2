use Rattle.std.proofs.Common.{◌≡◌, true, sym, ap, subst}
use Rattle.tac_ir.specs.Views.{optional_operand}
use Rattle.heap_graph.specs.Points.{return_closed}
use Rattle.graph_unification.specs.Applying.{code_of, owner_of, shown, Applies}
use Rattle.graph_unification.proofs.NamedSteps.{if_ok}
use Rattle.graph_unification.proofs.PointSteps.{none_returned}
use Rattle.graph_unification.proofs.applied.Applied.give_back.Goals as goal

pub returns-in-None-clause-applies : goal.returns-in-None-clause-applies
returns-in-None-clause-applies c =
    let own = c.args.self in
    none_returned (code_of own) c.requires.known.made (owner_of own) (shown own c.args.graph.now) c.requires.graph.sound (optional_operand c.args.value.now) (ap optional_operand c.in-None.is)

pub returns-in-Some-clause-applies : goal.returns-in-Some-clause-applies
returns-in-Some-clause-applies c =
    let own = c.args.self in
    if_ok c.give.result c.give.ensures.applies
    (λ changed its.
    subst (λ v. Applies (code_of own).structs changed (shown own c.args.graph.now) (shown own c.give.new.graph) (λ graph. return_closed (code_of own) graph (owner_of own) v ≡ true)) (sym (ap optional_operand c.in-Some.is)) its)
