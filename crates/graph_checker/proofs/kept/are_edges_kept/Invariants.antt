use Rattle.std.proofs.Common.{◌≡◌, drop, Some}
use Rattle.c_typed.specs.Table.{Interned}
use Rattle.tac_ir.specs.States.{Owner}
use Rattle.heap_graph.specs.Graphs.{Embedding}
use Rattle.heap_graph.specs.Memory.{target_of}
use Rattle.heap_graph.specs.Closed.{Family, edges_kept}
use Rattle.heap_graph.specs.Frozen.{edges_of, static_in}
use Rattle.heap_graph.specs.Shows.{ShowsGraph}
use Rattle.heap_graph.specs.Embeddings.{AreImages}
use Rattle.graph_checker.proofs.kept.are_edges_kept.Given as goal

-- the edges that are left are kept where all are
abbrev pub invariant-loop-edge : goal.invariant-loop-edge
invariant-loop-edge l =
    (table : Interned) (family : Family) (owner : Owner) (images : Embedding) → ShowsGraph table family owner l.graph → AreImages images (static_in l.embedding)
    → edges_kept family owner images (Some (target_of l.at)) (edges_of (drop l.edge-index l.edge-items)) ≡ edges_kept family owner images (Some (target_of l.at)) (edges_of l.node.edges.items)
