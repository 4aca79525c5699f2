-- Edges in memory lead where those of the graph do.
use Rattle.std.proofs.Common.{◌≡◌, ℕ, ◌==◌, Bool, true, false, if◌then◌else◌, List, [], ◌∷◌, map, Contains, Option, Some, refl, sym, ap, subst, ◌∙◌, arith}
use Rattle.std.proofs.lemmas.Option.{none-some, same_Some}
use Rattle.std.proofs.lemmas.List.Elements.{Contains-get_or, Contains-append_right}
use Rattle.c_typed.specs.Table.{Interned}
use Rattle.heap_graph.specs.Graphs.{Target, Node, Graph, edge_in}
use Rattle.heap_graph.specs.Escaping.{Reaches, here, along}
use Rattle.heap_graph.specs.Memory.{target_of}
use Rattle.heap_graph.specs.Frozen.{edges_of, node_in, optional_node}
use Rattle.heap_graph.specs.declared.frozen.Edge as memory_edge
use Rattle.heap_graph.specs.declared.frozen.FrozenGraph.{FrozenGraph}
use Rattle.heap_graph.specs.Edges.{EdgesAreFound, Comes, stays, goes}
use Rattle.heap_graph.proofs.Nodes.{node_behind, node_before}

-- an edge that is found is one of the list
pub edge_behind : (edges : List memory_edge.Edge) (slot : ℕ) (to : Target) → edge_in (edges_of edges) slot ≡ Some to → (edge : memory_edge.Edge) × Contains edges edge × (target_of edge.to ≡ to)
edge_behind [] slot to is = absurd (none-some to is)
edge_behind (first ∷ edges) slot to is = by (first.slot == slot) refl (edge_behind edges slot to)
  where
    chosen : (test : Bool) → (first.slot == slot) ≡ test → ◌≡◌ {A = Option Target} (if test then Some (target_of first.to) else edge_in (edges_of edges) slot) (Some to)
    chosen test found = sym (ap (λ t. if t then Some (target_of first.to) else edge_in (edges_of edges) slot) found) ∙ is

    by : (test : Bool) → (first.slot == slot) ≡ test → (edge_in (edges_of edges) slot ≡ Some to → (edge : memory_edge.Edge) × Contains edges edge × (target_of edge.to ≡ to))
        → (edge : memory_edge.Edge) × Contains (first ∷ edges) edge × (target_of edge.to ≡ to)
    by true found later = (first, Contains-get_or (first ∷ edges) 0 first (omega arith), same_Some (target_of first.to) to (chosen true found))
    by false found later =
        let behind = later (chosen false found) in
        (behind.0, Contains-append_right (first ∷ []) edges behind.0 behind.1, behind.2)

module _ (table : Interned) (graph : FrozenGraph) (shown : Graph) (same : shown.nodes ≡ map (optional_node table) graph.nodes.items) where
  pub reaches_from_comes : EdgesAreFound graph → (from last : ℕ) → Comes graph.nodes.items from last → Reaches shown from last
  reaches_from_comes found from last (stays n) = here n
  reaches_from_comes found from last (goes n next end leads rest) =
      along n end (node_in table leads.node) leads.edge.slot (target_of leads.edge.to) (node_before table graph.nodes.items shown same n leads.node leads.there)
      (found n leads.node leads.edge leads.there leads.has) (subst (λ m. Reaches shown m end) (sym leads.leads) (reaches_from_comes found next end rest))

  pub comes_from_reaches : (from last : ℕ) → Reaches shown from last → Comes graph.nodes.items from last
  comes_from_reaches from last (here n) = stays n
  comes_from_reaches from last (along n end node slot to is edge rest) =
      let own = node_behind table graph.nodes.items shown same n node is in
      let behind = edge_behind own.0.edges.items slot to (ap (λ (m : Node). edge_in m.edges slot) own.2 ∙ edge) in
      goes n to.node end (record { node = own.0; there = own.1; edge = behind.0; has = behind.1; leads = ap (λ t. t.node) behind.2 }) (comes_from_reaches to.node end rest)
