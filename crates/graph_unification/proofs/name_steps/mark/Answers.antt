use Rattle.std.proofs.Common.{sym}
use Rattle.c_typed.specs.Table.{structs_in}
use Rattle.heap_graph.specs.Memory.{target_of}
use Rattle.graph_unification.specs.Memory.{name_of, graph_in}
use Rattle.graph_unification.proofs.NamedSteps.{marked_at}
use Rattle.graph_unification.proofs.name_steps.mark.Goals as goal

pub returns-clause-applies : goal.returns-clause-applies
returns-clause-applies c =
    let table = c.args.types.now in
    let fine = c.requires.graph in
    let target = target_of c.in-Some.target in
    let name = name_of c.args.name in
    let at = sym (c.in-Some.ensures table fine) in
    let slot = fine.sound.names name target at in
    marked_at (structs_in table) c.requires.made (graph_in table c.args.graph.now) (graph_in table c.mark.new.graph) fine.sound c.mark.result (c.mark.ensures.names table) name target c.args.mark at
    (c.mark.ensures.least table c.requires.made fine (slot.node, slot.is)) (c.mark.ensures.done table fine (slot.node, slot.is))
