use Rattle.std.proofs.Common.{ap, ◌∙◌}
use Rattle.heap_graph.specs.Memory.{target_of}
use Rattle.graph_unification.specs.Memory.{graph_in}
use Rattle.heap_graph.specs.Asks.{is_certain}
use Rattle.graph_unification.proofs.NamedSteps.{uncertain, certain_read}
use Rattle.graph_unification.proofs.name_steps.is_certain.Goals as goal

pub returns-in_default-node : goal.returns-in_default-node
returns-in_default-node c = λ table fine.
    let graph = graph_in table c.args.graph.now in
    uncertain table graph (target_of c.in-Some.target) (c.in_default-node.ensures.tells table) ∙ ap (is_certain graph) (c.in-Some.ensures table fine)

pub returns : goal.returns
returns c = λ table fine.
    let graph = graph_in table c.args.graph.now in
    certain_read table graph (target_of c.in-Some.target) c.in-Some-node.field-0-0 c.in-Some-node.flags (c.in-Some-node.ensures.tells table) ∙ ap (is_certain graph) (c.in-Some.ensures table fine)
