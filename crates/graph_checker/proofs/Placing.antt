-- Images of targets in a function's graph are those in the graph in memory.
use Rattle.std.proofs.Common.{◌≡◌, ℕ, Option, Some, None, refl, ap, ◌∙◌}
use Rattle.c_typed.specs.Table.{Interned}
use Rattle.tac_ir.specs.States.{Owner}
use Rattle.heap_graph.specs.Graphs.{Target, Embedding}
use Rattle.heap_graph.specs.Targets.{shifted}
use Rattle.heap_graph.specs.Closed.{Family, graph_of, image}
use Rattle.heap_graph.specs.Frozen.{bare}
use Rattle.heap_graph.specs.declared.frozen.FrozenGraph.{FrozenGraph}
use Rattle.heap_graph.specs.Shows.{ShowsGraph}
use Rattle.heap_graph.proofs.Showing.{shown_shifted}
use Rattle.graph_checker.specs.Images.{placed}

module _ (table : Interned) (family : Family) (owner : Owner) (graph : FrozenGraph) (shows : ShowsGraph table family owner graph) (images embedding : Embedding)
    (same : (node : ℕ) → images node ≡ embedding node) where
  pub shown_image : (target : Option Target) → image family owner images target ≡ placed (bare table graph) embedding target
  shown_image None = refl
  shown_image (Some target) = ap (shifted (graph_of family owner) target.shift) (same target.node) ∙ shown_shifted table family owner graph shows target.shift (embedding target.node)
