use Rattle.std.proofs.lemmas.Bool.{not-true, not-false}
use Rattle.heap_graph.specs.Graphs.{node_at}
use Rattle.graph_unification.specs.Memory.{graph_in}
use Rattle.graph_unification.proofs.FrozenNodes.{none_there, node_left_out, node_kept}
use Rattle.graph_unification.proofs.node_graphs.frozen_node.Goals as goal

pub returns-then-not-flags : goal.returns-then-not-flags
returns-then-not-flags c = λ table fine.
    let graph = graph_in table c.args.graph.now in
    node_left_out table graph (node_at graph c.args.number) c.in-Some.element c.in-Some.flags (c.in-Some.ensures.tells table) (search (not-true, c.if-not-flags.true))

pub returns-in_ok-edges-in-Some : goal.returns-in_ok-edges-in-Some
returns-in_ok-edges-in-Some c = λ table fine.
    node_kept table (graph_in table c.args.graph.now) c.args.number (record { element = c.in-Some.element; flags = c.in-Some.flags; edges = c.in_ok-edges-in-Some.edges }) (c.in-Some.ensures.tells table) (search (not-false, c.if-not-flags.false)) (c.in_ok-edges-in-Some.ensures table fine)

pub returns-in-None : goal.returns-in-None
returns-in-None c = λ table fine.
    let graph = graph_in table c.args.graph.now in
    none_there table graph (node_at graph c.args.number) (c.in-None.ensures.tells table)
