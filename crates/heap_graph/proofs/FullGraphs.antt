-- Into a graph of whose objects all is told each map keeps flags.
use Rattle.std.proofs.Common.{◌≡◌, ℕ, Bool, true, List, Some, sym, ap, subst, ◌∙◌}
use Rattle.std.proofs.lemmas.Bool.{and_parts, and_from}
use Rattle.c_typed.specs.Layouts.{StructDef}
use Rattle.tac_ir.specs.States.{Owner}
use Rattle.heap_graph.specs.Graphs.{Element, Edge, Flags, Node, Graph, edge_in, node_at}
use Rattle.heap_graph.specs.Targets.{at_target, implies, flags_kept, marks_kept, element_kept}
use Rattle.heap_graph.specs.Closed.{Family, graph_of}
use Rattle.heap_graph.specs.Merging.{GraphMap, Maps}
use Rattle.heap_graph.proofs.MapsCompose.{at_there, at_from}
use Rattle.heap_graph.specs.Saturated.{all_flags, saturated_graph, saturated}
use Rattle.heap_graph.specs.Places.{MapsPlaces, IsFull, SamePlaces}
use Rattle.heap_graph.proofs.SaturatedNodes.{implies_true, node_was}
use Rattle.heap_graph.proofs.SaturatedFamilies.{graph_saturated}

-- ---- graphs with all flags

pub told_kept : (few : Flags) (certain : Bool) → flags_kept few (record all_flags { certain = certain }) ≡ true
told_kept few certain =
    and_from _ _ (implies_true few.heap)
    (and_from _ _ (implies_true few.stack)
    (and_from _ _ (implies_true few.global)
    (and_from _ _ (implies_true few.array)
    (and_from _ _ (implies_true few.modified) (implies_true few.read)))))

-- a node with all flags keeps those of each other
pub saturated_marks : (graph : Graph) (number : ℕ) (node : Node) → node_at (saturated_graph graph) number ≡ Some node → (few : Flags) → marks_kept few node.flags ≡ true
saturated_marks graph number node e few =
    let was = node_was graph number node e in
    subst (λ (n : Node). marks_kept few n.flags ≡ true) was.2 (and_from _ _ (implies_true few.certain) (told_kept few true))

pub saturated_full : (graph : Graph) → IsFull (saturated_graph graph)
saturated_full graph number node e few = (and_parts _ _ (saturated_marks graph number node e few)).1

pub family_full : (family : Family) (owner : Owner) → IsFull (graph_of (saturated family) owner)
family_full family owner = subst (λ graph. IsFull graph) (sym (graph_saturated family owner)) (saturated_full (graph_of family owner))

-- ---- maps

module _ (structs : List StructDef) (other : Graph) (into : GraphMap) where
  pub places_of : (graph : Graph) → Maps structs graph other into → MapsPlaces structs graph other into
  places_of graph maps = record {
    names = maps.names;
    elements = maps.elements;
    certain = λ number node e.
        let image = at_there other (into number) (λ image shift. marks_kept node.flags image.flags) (maps.flags number node e) in
        at_from other (into number) (λ image shift. implies node.flags.certain image.flags.certain) image.node image.is (and_parts _ _ image.so).0;
    edges = maps.edges;
  }

  -- into a graph with all flags a map of names, elements, edges and certain nodes keeps flags
  pub flags_free : IsFull other → (graph : Graph) → MapsPlaces structs graph other into → Maps structs graph other into
  flags_free full graph maps = record {
    names = maps.names;
    elements = maps.elements;
    flags = λ number node e.
        let image = at_there other (into number) (λ image shift. implies node.flags.certain image.flags.certain) (maps.certain number node e) in
        at_from other (into number) (λ image shift. marks_kept node.flags image.flags) image.node image.is (and_from _ _ image.so (full (into number).node image.node image.is node.flags));
    edges = maps.edges;
  }

  places_same : (old new : Graph) → SamePlaces old new → MapsPlaces structs old other into → MapsPlaces structs new other into
  places_same old new same maps = record {
    names = λ name target e. maps.names name target (sym (same.names name) ∙ e);
    elements = λ number node e.
        let place = same.nodes number node e in
        ap (λ (element : Element). at_target other (Some (into number)) (element_kept structs element)) place.element ∙ maps.elements number place.was place.is;
    certain = λ number node e.
        let place = same.nodes number node e in
        ap (λ certain. at_target other (Some (into number)) (λ image shift. implies certain image.flags.certain)) place.certain ∙ maps.certain number place.was place.is;
    edges = λ number slot node to e edge.
        let place = same.nodes number node e in
        maps.edges number slot place.was to place.is (ap (λ (edges : List Edge). edge_in edges slot) (sym place.edges) ∙ edge);
  }

  -- what is told of objects doesn't matter to maps into a graph with all flags
  pub only_flags : IsFull other → (old new : Graph) → SamePlaces old new → Maps structs old other into → Maps structs new other into
  only_flags full old new same maps = flags_free full new (places_same old new same (places_of old maps))
