-- Nodes of graphs that are only read.
use Rattle.std.proofs.Common.{◌≡◌, ℕ, ◌≤◌, true, false, length, Option, Some, None, refl, sym, ap, subst, ◌∙◌}
use Rattle.std.specs.Prelude.{slice_get, option_map}
use Rattle.std.proofs.lemmas.Option.{slice_get-map, slice_get_past}
use Rattle.c_typed.specs.Table.{Interned}
use Rattle.heap_graph.specs.declared.graph.Element as memory_element
use Rattle.heap_graph.specs.declared.graph.Flags as memory_flags
use Rattle.heap_graph.specs.Graphs.{Node, Graph, there, node_at}
use Rattle.graph_unification.specs.Changes.{edge_of_node, TellsNode}
use Rattle.heap_graph.specs.declared.frozen.Node as memory_node
use Rattle.heap_graph.specs.declared.frozen.FrozenGraph.{FrozenGraph}
use Rattle.heap_graph.specs.Frozen.{optional_node, inner, node_in, node_there, edges_of, bare}
use Rattle.heap_graph.specs.Restricted.{if_certain}
use Rattle.graph_unification.specs.Freezing.{TellsEdges, Freezes}

pub node_of_bare : (table : Interned) (frozen : FrozenGraph) (number : ℕ) → node_at (bare table frozen) number ≡ optional_node table (node_there frozen.nodes.items number)
node_of_bare table frozen number = ap there (slice_get-map (optional_node table) frozen.nodes.items number) ∙ by (slice_get frozen.nodes.items number)
  where
    by : (o : Option (Option memory_node.Node)) → there (option_map (optional_node table) o) ≡ optional_node table (inner o)
    by None = refl
    by (Some node) = refl

pub none_there : (table : Interned) (graph : Graph) (o : Option Node) → TellsNode table o None → Freezes graph o None
none_there table graph None h = tt
none_there table graph (Some node) h = absurd h

pub none_beyond : (graph : Graph) (number : ℕ) → length graph.nodes ≤ number → Freezes graph (node_at graph number) None
none_beyond graph number over = subst (λ o. Freezes graph (there o) None) (sym (slice_get_past graph.nodes number over)) tt

pub node_left_out : (table : Interned) (graph : Graph) (o : Option Node) (element : memory_element.Element) (flags : memory_flags.Flags) → TellsNode table o (Some (element, flags)) → flags.certain ≡ false → Freezes graph o None
node_left_out table graph None element flags h uncertain = absurd h
node_left_out table graph (Some node) element flags h uncertain = ap (λ f. f.certain) (sym h.1) ∙ uncertain

pub node_kept : (table : Interned) (graph : Graph) (number : ℕ) (node : memory_node.Node) → TellsNode table (node_at graph number) (Some (node.element, node.flags)) → node.flags.certain ≡ true
    → TellsEdges graph number (edges_of node.edges.items) → Freezes graph (node_at graph number) (Some (node_in table node))
node_kept table graph number node told certain edges = by (node_at graph number) refl told
  where
    by : (o : Option Node) → node_at graph number ≡ o → TellsNode table o (Some (node.element, node.flags)) → Freezes graph o (Some (node_in table node))
    by None e h = absurd h
    by (Some was) e h = record {
      certain = ap (λ f. f.certain) (sym h.1) ∙ certain;
      element = h.0;
      flags = h.1;
      edges = λ slot. edges.found slot ∙ ap (λ o. if_certain graph (edge_of_node slot o)) e;
      ascend = edges.ascend;
    }
