-- Maps into a family and into the one with all flags are the same.
use Rattle.std.proofs.Common.{◌≡◌, ℕ, Option, Some, None, refl, sym, ap, ◌∙◌}
use Rattle.tac_ir.specs.States.{Owner, InFunction}
use Rattle.heap_graph.specs.Graphs.{Target, Node, Crossing}
use Rattle.heap_graph.specs.Targets.{at_target, shifted, edge_at, element_kept}
use Rattle.heap_graph.specs.Closed.{Family, graph_of}
use Rattle.heap_graph.specs.Least.{NodeMap, mapped, embedded, IsMap}
use Rattle.heap_graph.specs.Saturated.{saturated}
use Rattle.heap_graph.proofs.SaturatedNodes.{element_flagless}
use Rattle.heap_graph.proofs.SaturatedFamilies.{targets_same, at_same, shifted_same, edge_same}

mapped_same : (other : Family) (map : NodeMap) (owner : Owner) (target : Target) → mapped (saturated other) map owner target ≡ mapped other map owner target
mapped_same other map owner target = shifted_same other owner target.shift (Some (map owner target.node))

embedded_same : (other : Family) (at : Crossing) (target : Option Target) → embedded (saturated other) at target ≡ embedded other at target
embedded_same other at None = refl
embedded_same other at (Some target) = shifted_same other at.owner target.shift (other.graphs.embedding at target.node)

place_same : (other : Family) (map : NodeMap) (owner : Owner) (number slot : ℕ)
    → edge_at (graph_of (saturated other) owner) (shifted (graph_of (saturated other) owner) slot (Some (map owner number)))
    ≡ edge_at (graph_of other owner) (shifted (graph_of other owner) slot (Some (map owner number)))
place_same other map owner number slot =
    ap (edge_at (graph_of (saturated other) owner)) (shifted_same other owner slot (Some (map owner number))) ∙ edge_same other owner (shifted (graph_of other owner) slot (Some (map owner number)))

element_same : (other : Family) (map : NodeMap) (owner : Owner) (number : ℕ) (node : Node)
    → at_target (graph_of (saturated other) owner) (Some (map owner number)) (element_kept other.tac.structs node.element)
    ≡ at_target (graph_of other owner) (Some (map owner number)) (element_kept other.tac.structs node.element)
element_same other map owner number node = at_same other owner (Some (map owner number)) (element_kept other.tac.structs node.element) (element_flagless other.tac.structs node.element)

pub map_to_saturated : (family other : Family) (map : NodeMap) → IsMap family (saturated other) map → IsMap family other map
map_to_saturated family other map is = record {
  names = λ owner name target e. sym (targets_same other owner name) ∙ (is.names owner name target e ∙ mapped_same other map owner target);
  elements = λ owner number node e. sym (element_same other map owner number node) ∙ is.elements owner number node e;
  edges = λ owner number slot node to e edge. sym (place_same other map owner number slot) ∙ (is.edges owner number slot node to e edge ∙ mapped_same other map owner to);
  embeddings = λ at number target e.
      sym (embedded_same other at (Some (map (InFunction at.called) number))) ∙ (is.embeddings at number target e ∙ mapped_same other map at.owner target);
}

pub map_from_saturated : (family other : Family) (map : NodeMap) → IsMap family other map → IsMap family (saturated other) map
map_from_saturated family other map is = record {
  names = λ owner name target e. targets_same other owner name ∙ (is.names owner name target e ∙ sym (mapped_same other map owner target));
  elements = λ owner number node e. element_same other map owner number node ∙ is.elements owner number node e;
  edges = λ owner number slot node to e edge. place_same other map owner number slot ∙ (is.edges owner number slot node to e edge ∙ sym (mapped_same other map owner to));
  embeddings = λ at number target e. embedded_same other at (Some (map (InFunction at.called) number)) ∙ (is.embeddings at number target e ∙ sym (mapped_same other map at.owner target));
}
