use Rattle.std.proofs.Common.{sym, ◌∙◌}
use Rattle.graph_unification.specs.Memory.{name_of}
use Rattle.graph_unification.specs.Applying.{code_of, owner_of, shown}
use Rattle.graph_unification.proofs.NamedSteps.{if_ok}
use Rattle.graph_unification.proofs.PointSteps.{null_taken, taken}
use Rattle.graph_unification.proofs.applied.Applied.take.Goals as goal

pub returns-then-is_marked-clause-applies : goal.returns-then-is_marked-clause-applies
returns-then-is_marked-clause-applies c =
    let own = c.args.self in
    null_taken (code_of own) c.requires.known.made (owner_of own) (shown own c.args.graph.now) c.requires.graph.sound (name_of c.args.taker) c.args.from
    (sym (c.requires.known.nulls c.args.from) ∙ sym c.if-is_marked.ensures)

pub returns-clause-applies : goal.returns-clause-applies
returns-clause-applies c =
    let own = c.args.self in
    if_ok c.join.result c.join.ensures.applies
    (λ changed its.
    taken (code_of own) c.requires.known.made (owner_of own) (shown own c.args.graph.now) c.requires.graph.sound changed (shown own c.join.new.graph) (name_of c.args.taker) (name_of c.own.result) c.args.from
    c.own.ensures (sym (c.requires.known.nulls c.args.from) ∙ sym c.if-is_marked.ensures) its)
