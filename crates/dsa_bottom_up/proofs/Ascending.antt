-- In a graph that is only read the edges of each node stand in the order of their slots.
use Rattle.std.proofs.Common.{ℕ, List, [], ◌∷◌, Option, Some, None, ap, subst, ◌∙◌}
use Rattle.tac_ir.specs.declared.register.FunctionId.{FunctionId}
use Rattle.heap_graph.specs.Graphs.{Node, Graph, node_at}
use Rattle.heap_graph.specs.declared.frozen.Edge as memory_edge
use Rattle.heap_graph.specs.declared.frozen.FrozenGraph.{FrozenGraph}
use Rattle.heap_graph.specs.Frozen.{edges_of, optional_node}
use Rattle.heap_graph.specs.declared.program.FunctionGraph.{FunctionGraph}
use Rattle.graph_unification.specs.Freezing as plain
use Rattle.graph_unification.proofs.FrozenNodes.{node_of_bare}
use Rattle.dsa_inlining.specs.Kept.{KeepsIf}
use Rattle.heap_graph.specs.Orders.{SlotsAscend, EdgesAscend}
use Rattle.dsa_inlining.specs.Before.{GraphsBefore}
use Rattle.dsa_bottom_up.specs.Assembled.{IsAssembled}

slots_ascend : (edges : List memory_edge.Edge) → plain.EdgesAscend (edges_of edges) → SlotsAscend edges
slots_ascend [] ascend = tt
slots_ascend (edge ∷ []) ascend = tt
slots_ascend (edge ∷ next ∷ others) ascend = (ascend.0, slots_ascend (next ∷ others) ascend.1)

kept_ascends : (made : Graph) (found : Option Node) (kept : Node) → KeepsIf made found (Some kept) → plain.EdgesAscend kept.edges
kept_ascends made None kept keeps = absurd keeps
kept_ascends made (Some node) kept keeps = keeps.ascend

pub assembled_ascends : (before : GraphsBefore) (group : Option ℕ) (owners : List (Option FunctionId)) (begun : Graph) (graph : FrozenGraph) (functions : List FunctionGraph) → IsAssembled before group owners begun graph functions
    → EdgesAscend graph.nodes.items
assembled_ascends before group owners begun graph functions assembled = λ number node is.
    let made = assembled.made in
    slots_ascend node.edges.items
    (kept_ascends made (node_at made number) _
    (subst (KeepsIf made (node_at made number)) (node_of_bare before.tac.types graph number ∙ ap (optional_node before.tac.types) is) (assembled.frozen.nodes number)))
