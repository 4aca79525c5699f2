-- What escapes a function comes by a map to what escapes it in the other graph.
use Rattle.std.proofs.Common.{◌≡◌, ℕ, ◌+◌, List, Some, sym, ap, ◌∙◌}
use Rattle.c_typed.specs.Layouts.{StructDef}
use Rattle.tac_ir.specs.States.{Owner}
use Rattle.heap_graph.specs.Graphs.{Target, Node, Graph, edge_in, node_at}
use Rattle.heap_graph.specs.Targets.{edge_at, element_kept}
use Rattle.heap_graph.specs.Escaping.{Reaches, here, along, Escapes}
use Rattle.heap_graph.specs.Merging.{GraphMap}
use Rattle.heap_graph.proofs.MapsCompose.{There, at_there, shift_in, shifted_there, edge_there, target_in, mapped_there}
use Rattle.dsa_bottom_up.specs.Mapping.{MapsShape}

abbrev pub IsThere : Graph → ℕ → Type 0
IsThere graph number = (node : Node) × (node_at graph number ≡ Some node)

-- the edges of a graph lead to its nodes
abbrev pub EndsThere : Graph → Type 0
EndsThere graph = (number slot : ℕ) (node : Node) (to : Target) → node_at graph number ≡ Some node → edge_in node.edges slot ≡ Some to → IsThere graph to.node

module _ (structs : List StructDef) (graph other : Graph) (map : GraphMap) (maps : MapsShape structs graph other map) where
  pub node_image : (number : ℕ) (node : Node) → node_at graph number ≡ Some node → There other (map number) (element_kept structs node.element)
  node_image number node is = at_there other (map number) (element_kept structs node.element) (maps.elements number node is)

  -- an edge comes to an edge
  pub edge_image : (number slot : ℕ) (node : Node) (to : Target) (is : node_at graph number ≡ Some node) → edge_in node.edges slot ≡ Some to → (image : Node) → node_at other (map to.node).node ≡ Some image
      → edge_in (node_image number node is).node.edges (shift_in (node_image number node is).node ((map number).shift + slot)) ≡ Some (target_in map to image)
  edge_image number slot node to is edge image image_is =
      let from = node_image number node is in
      let at : Target = record { node = (map number).node; shift = shift_in from.node ((map number).shift + slot) } in
      sym (edge_there other at from.node from.is)
      ∙ (ap (edge_at other) (sym (shifted_there other slot (map number) from.node from.is)) ∙ (maps.edges number slot node to is edge ∙ mapped_there other map to image image_is))

  module _ (ends : EndsThere graph) where
    pub reaches_mapped : (from last : ℕ) → Reaches graph from last → Reaches other (map from).node (map last).node
    reaches_mapped from last (here node) = here (map node).node
    reaches_mapped from last (along first end node slot to is edge rest) =
        let there = ends first slot node to is edge in
        let image = node_image to.node there.0 there.1 in
        let start = node_image first node is in
        along (map first).node (map end).node start.node (shift_in start.node ((map first).shift + slot)) (target_in map to image.node) start.is (edge_image first slot node to is edge image.node image.is)
        (reaches_mapped to.node end rest)

    pub escapes_mapped : (owner : Owner) (number : ℕ) (escapes : Escapes graph owner number) → IsThere graph escapes.target.node → Escapes other owner (map number).node
    escapes_mapped owner number escapes there =
        let image = node_image escapes.target.node there.0 there.1 in
        record {
          name = escapes.name;
          outside = escapes.outside;
          target = target_in map escapes.target image.node;
          is = maps.names escapes.name escapes.target escapes.is ∙ mapped_there other map escapes.target image.node image.is;
          reaches = reaches_mapped escapes.target.node number escapes.reaches;
        }
