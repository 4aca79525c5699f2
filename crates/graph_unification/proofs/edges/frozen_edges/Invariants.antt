use Rattle.std.proofs.Common.{drop}
use Rattle.c_typed.specs.Table.{Interned}
use Rattle.graph_unification.specs.Memory.{graph_in, IsGraph}
use Rattle.heap_graph.specs.Frozen.{edges_of}
use Rattle.graph_unification.proofs.GatheredEdges.{edges_at, Gathers}
use Rattle.graph_unification.proofs.edges.frozen_edges.Given as goal

abbrev pub invariant-loop-index : goal.invariant-loop-index
invariant-loop-index l = (table : Interned) → IsGraph table l.graph
    → Gathers (graph_in table l.graph) (edges_at (graph_in table l.graph) l.number) (drop l.index (edges_at (graph_in table l.graph) l.number)) (edges_of l.edges.items)
