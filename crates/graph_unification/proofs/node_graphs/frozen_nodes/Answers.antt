use Rattle.std.proofs.Common.{◌≤◌, length, arith}
use Rattle.heap_graph.specs.Graphs.{node_at}
use Rattle.graph_unification.specs.Memory.{graph_in}
use Rattle.heap_graph.specs.Frozen.{optional_node, inner}
use Rattle.graph_unification.specs.Freezing.{Freezes}
use Rattle.graph_unification.proofs.ToldLists.{each_all}
use Rattle.graph_unification.proofs.FrozenNodes.{none_beyond}
use Rattle.graph_unification.proofs.node_graphs.frozen_nodes.Goals as goal

pub returns : goal.returns
returns c = λ table fine.
    let graph = graph_in table c.args.graph.now in
    each_all (λ n o. Freezes graph (node_at graph n) (optional_node table (inner o))) c.loop-number.nodes.items c.loop-number.number c.loop-number.invariant.long (c.loop-number.invariant.told table fine)
    (λ n over. let beyond : length graph.nodes ≤ n = omega (arith, c.node_count-number-end.ensures table) in none_beyond graph n beyond)
