use Rattle.c_typed.specs.Table.{structs_in}
use Rattle.graph_unification.specs.Memory.{name_of, graph_in}
use Rattle.graph_unification.proofs.NamedSteps.{unmarked, marked_asked}
use Rattle.graph_unification.proofs.name_steps.mark_if.Goals as goal

pub returns-then-asked-clause-applies : goal.returns-then-asked-clause-applies
returns-then-asked-clause-applies c =
    let table = c.args.types.now in
    marked_asked (structs_in table) c.mark.result (graph_in table c.args.graph.now) (graph_in table c.mark.new.graph) c.args.asked (name_of c.args.name) c.args.flag c.if-asked.true c.mark.ensures.applies

pub returns-else-asked-clause-applies : goal.returns-else-asked-clause-applies
returns-else-asked-clause-applies c =
    let table = c.args.types.now in
    unmarked (structs_in table) c.requires.made (graph_in table c.args.graph.now) c.requires.graph.sound c.args.asked (name_of c.args.name) c.args.flag c.if-asked.false
