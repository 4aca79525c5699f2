use Rattle.std.proofs.Common.{sym, ap, ◌∙◌}
use Rattle.graph_unification.specs.Memory.{name_of}
use Rattle.heap_graph.specs.Asks.{is_certain}
use Rattle.graph_unification.specs.Applying.{code_of, owner_of, shown}
use Rattle.graph_unification.proofs.PointSteps.{null_array, uncertain_array, array_behind}
use Rattle.graph_unification.proofs.applied.Applied.mark_array.Goals as goal

pub returns-then-is_marked-clause-applies : goal.returns-then-is_marked-clause-applies
returns-then-is_marked-clause-applies c =
    let own = c.args.self in
    null_array (code_of own) c.requires.known.made (owner_of own) (shown own c.args.graph.now) c.requires.graph.sound c.args.from (sym (c.requires.known.nulls c.args.from) ∙ sym c.if-is_marked.ensures)

pub returns-then-not-is_certain-clause-applies : goal.returns-then-not-is_certain-clause-applies
returns-then-not-is_certain-clause-applies c =
    let own = c.args.self in
    let graph = shown own c.args.graph.now in
    uncertain_array (code_of own) c.requires.known.made (owner_of own) graph c.requires.graph.sound c.args.from
    (ap (λ n. is_certain graph (graph.targets n)) (sym c.own-name.ensures) ∙ sym (c.if-not-is_certain.ensures own.tac.now.types c.requires.graph))

pub returns-clause-applies : goal.returns-clause-applies
returns-clause-applies c =
    let own = c.args.self in
    let graph = shown own c.args.graph.now in
    array_behind (code_of own) c.requires.known.made (owner_of own) graph c.requires.graph.sound c.mark.result (shown own c.mark.new.graph) (name_of c.own-name.result) c.args.from c.own-name.ensures
    (sym (c.requires.known.nulls c.args.from) ∙ sym c.if-is_marked.ensures)
    (ap (λ n. is_certain graph (graph.targets n)) (sym c.own-name.ensures) ∙ sym (c.if-not-is_certain.ensures own.tac.now.types c.requires.graph)) c.mark.ensures.applies
