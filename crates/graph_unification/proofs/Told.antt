-- What is told of a graph in memory is so.
use Rattle.std.proofs.Common.{◌≡◌, ℕ, true, false, List, length, get_or, Option, Some, None, refl, sym, ap, subst, ◌∙◌}
use Rattle.std.specs.Prelude.{nat_lt, option_map, slice_get}
use Rattle.std.proofs.lemmas.Option.{none-some, slice_get-map}
use Rattle.indexmap.specs.IndexMap.{get_by}
use Rattle.c_typed.specs.Table.{Interned}
use Rattle.heap_graph.specs.declared.graph.Element as memory_element
use Rattle.heap_graph.specs.Graphs.{Name, node_at}
use Rattle.graph_unification.specs.declared.name.NameKey.{NameKey}
use Rattle.graph_unification.specs.declared.node.Node as memory_node
use Rattle.graph_unification.specs.declared.graph.Graph as memory_graph
use Rattle.graph_unification.specs.Memory.{held, node_in, content, edge_of, node_there, key_of, same_key, set_for, graph_in, made_edge}
use Rattle.graph_unification.specs.Turns.{IsThere, element_of, element_at, edges_of_held, edges_in}
use Rattle.graph_unification.specs.Changes.{edge_of_node, edge_found, numbered_edge, edge_numbered, TellsNode}
use Rattle.graph_unification.specs.contracts.name.NameKeyPartialEq.TheImpl.{eq-value}
use Rattle.graph_unification.proofs.CellLists.{read_item, read_past}
use Rattle.graph_unification.proofs.HeldNodes.{node_at_in, held_some, at_held, gone_in, edge_made}
use Rattle.graph_unification.proofs.SetNames.{get_key}

pub set_by_key : (graph : memory_graph.Graph) (name : Name) (key : NameKey) → key ≡ key_of name → get_by (λ b. eq-value.it key b) graph.names ≡ set_for graph name
set_by_key graph name key e = get_key graph.names key ∙ ap (λ k. get_by (same_key k) graph.names) e

-- ---- nodes that were read

-- a node that has an element is there
pub element_there : (list : List (Option memory_node.Node)) (n : ℕ) (element : memory_element.Element) → Some element ≡ element_at list n → IsThere list n
element_there list n element is = by (node_in list n) refl is
  where
    by : (o : Option memory_node.Node) → node_in list n ≡ o → Some element ≡ option_map element_of o → IsThere list n
    by None e h = absurd (none-some element (sym h))
    by (Some node) e h = (node, held_some (slice_get list n) node e)

pub no_element : (list : List (Option memory_node.Node)) (n : ℕ) → None ≡ element_at list n → node_in list n ≡ None
no_element list n is = by (node_in list n) is
  where
    by : (o : Option memory_node.Node) → None ≡ option_map element_of o → o ≡ None
    by None h = refl
    by (Some node) h = absurd (none-some node.element h)

pub node_read : (seen list : List (Option memory_node.Node)) (n : ℕ) (x : Option memory_node.Node) → seen ≡ list → nat_lt n (length seen) ≡ true → x ≡ get_or seen n x → node_in list n ≡ x
node_read seen list n x same lt is = ap held (read_item seen list n x same lt is)

pub none_read : (seen list : List (Option memory_node.Node)) (n : ℕ) → seen ≡ list → nat_lt n (length seen) ≡ false → node_in list n ≡ None
none_read seen list n same over = ap held (read_past seen list n same over)

module _ (table : Interned) (graph : memory_graph.Graph) (n : ℕ) where
  pub tells_none : node_in graph.nodes.list.items n ≡ None → TellsNode table (node_at (graph_in table graph) n) None
  tells_none none = subst (λ o. TellsNode table o None) (sym (gone_in table graph n none)) tt

  pub tells_node : (node : memory_node.Node) → node_in graph.nodes.list.items n ≡ Some node → TellsNode table (node_at (graph_in table graph) n) (Some (node.element, node.flags))
  tells_node node is = subst (λ o. TellsNode table o (Some (node.element, node.flags))) (sym (at_held table graph n node is)) (refl, refl)

  -- ---- edges

  pub found_edge : (slot : ℕ) → edge_found (graph_in table graph) n slot ≡ option_map (content graph.nodes) (made_edge (edges_in graph.nodes.list.items n) slot)
  found_edge slot = ap (edge_of_node slot) (node_at_in table graph n) ∙ by (node_in graph.nodes.list.items n)
    where
      by : (o : Option memory_node.Node) → edge_of_node slot (option_map (node_there table (content graph.nodes)) o) ≡ option_map (content graph.nodes) (made_edge (edges_of_held o) slot)
      by None = refl
      by (Some node) = edge_made (content graph.nodes) node.edges.items slot

  pub none_numbered : (index : ℕ) → node_in graph.nodes.list.items n ≡ None → edge_numbered (graph_in table graph) n index ≡ None
  none_numbered index none = ap (numbered_edge index) (gone_in table graph n none)

  pub numbered : (index : ℕ) (node : memory_node.Node) → node_in graph.nodes.list.items n ≡ Some node
      → edge_numbered (graph_in table graph) n index ≡ option_map (edge_of (content graph.nodes)) (slice_get node.edges.items index)
  numbered index node is = ap (numbered_edge index) (at_held table graph n node is) ∙ slice_get-map (edge_of (content graph.nodes)) node.edges.items index
