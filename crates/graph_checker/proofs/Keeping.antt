-- What is kept of a node and of its edges, in a function's graph and in the graph in memory.
use Rattle.std.proofs.Common.{◌≡◌, ℕ, ◌+◌, Bool, true, ◌&&◌, List, ◌∷◌, drop, Option, Some, unwrap_or, sym, ap, subst, ◌∙◌}
use Rattle.c_typed.specs.Table.{Interned, structs_in}
use Rattle.tac_ir.specs.States.{Owner}
use Rattle.heap_graph.specs.Graphs.{Target, Node, Embedding}
use Rattle.heap_graph.specs.Memory.{target_of}
use Rattle.heap_graph.specs.Targets.{same_target, at_target, shifted, edge_at}
use Rattle.heap_graph.specs.Closed.{Family, graph_of, node_kept, edges_kept, IsKept}
use Rattle.heap_graph.specs.declared.frozen.Edge as memory_edge
use Rattle.heap_graph.specs.declared.frozen.FrozenGraph.{FrozenGraph}
use Rattle.heap_graph.specs.Frozen.{edges_of, bare}
use Rattle.heap_graph.specs.Shows.{ShowsGraph}
use Rattle.heap_graph.proofs.Showing.{shown_at, shown_shifted, shown_edge}
use Rattle.graph_checker.specs.Images.{placed}
use Rattle.heap_graph.specs.Embeddings.{AreImages, keeps}
use Rattle.graph_checker.proofs.Placing.{shown_image}

module _ (table : Interned) (family : Family) (owner : Owner) (graph : FrozenGraph) (shows : ShowsGraph table family owner graph) where
  pub shown_kept : (at : Target) (node : Node) → at_target (graph_of family owner) (Some at) (node_kept family owner node) ≡ at_target (bare table graph) (Some at) (keeps (structs_in table) node)
  shown_kept at node = shown_at table family owner graph shows (Some at) (node_kept family owner node) ∙ ap (λ structs. at_target (bare table graph) (Some at) (keeps structs node)) shows.structs

  shown_shifted_edge : (slots : ℕ) (at : Option Target) → edge_at (graph_of family owner) (shifted (graph_of family owner) slots at) ≡ edge_at (bare table graph) (shifted (bare table graph) slots at)
  shown_shifted_edge slots at =
      shown_edge table family owner graph shows (shifted (graph_of family owner) slots at) ∙ ap (edge_at (bare table graph)) (shown_shifted table family owner graph shows slots at)

  pub one_edge : (images embedding : Embedding) → AreImages images embedding → (at : Option Target) (edge : memory_edge.Edge) (edges : List memory_edge.Edge) (index : ℕ) (test : Bool)
      → drop index edges ≡ edge ∷ drop (index + 1) edges → test ≡ same_target (edge_at (bare table graph) (shifted (bare table graph) edge.slot at)) (placed (bare table graph) embedding (Some (target_of edge.to)))
      → edges_kept family owner images at (edges_of (drop index edges)) ≡ (test && edges_kept family owner images at (edges_of (drop (index + 1) edges)))
  one_edge images embedding same at edge edges index test item tested =
      ap (λ left. edges_kept family owner images at (edges_of left)) item
      ∙ ap (λ kept. kept && edges_kept family owner images at (edges_of (drop (index + 1) edges)))
      ((λ i. same_target (shown_shifted_edge edge.slot at i) (shown_image table family owner graph shows images embedding same (Some (target_of edge.to)) i)) ∙ sym tested)

-- the edges of the one image are kept
pub kept_edges : (family : Family) (owner : Owner) (images : Embedding) (number : ℕ) (node : Node) (at : Target) → images number ≡ Some at → IsKept family owner images number node
    → (at_target (graph_of family owner) (Some at) (node_kept family owner node) ≡ true) × (edges_kept family owner images (Some at) node.edges ≡ true)
kept_edges family owner images number node at is kept =
    let same : kept.at ≡ at = ap (λ found. unwrap_or found at) (sym kept.is ∙ is) in (
      subst (λ place. at_target (graph_of family owner) (Some place) (node_kept family owner node) ≡ true) same kept.kept,
      subst (λ place. edges_kept family owner images (Some place) node.edges ≡ true) same kept.edges,
    )
