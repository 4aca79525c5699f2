-- What edges lead to.
use Rattle.std.proofs.Common.{◌≡◌, ℕ, ◌<◌, ◌≤◌, List, length, Contains, Option, Some, None, refl, sym, ap, subst, ◌∙◌, arith}
use Rattle.std.specs.Prelude.{slice_get}
use Rattle.std.proofs.lemmas.Option.{none-some, same_Some, slice_get_within, slice_get_read, get_or_from_slice_get}
use Rattle.heap_graph.specs.Graphs.{Target}
use Rattle.heap_graph.specs.Memory.{target_of}
use Rattle.heap_graph.specs.Frozen.{node_there}
use Rattle.heap_graph.specs.declared.frozen.Edge.{Edge}
use Rattle.heap_graph.specs.declared.frozen.Node.{Node}
use Rattle.heap_graph.specs.Marks.{IsNodeOf}
use Rattle.heap_graph.specs.Edges.{LeadsTo, Comes, stays, goes}
use Rattle.heap_graph.proofs.Adding.{IsAmongFirst}
use Rattle.heap_graph.proofs.Nodes.{node_within}

-- ---- the edges of a node

abbrev pub edge_target : Option Edge → Option Target
edge_target None = None
edge_target (Some edge) = Some (target_of edge.to)

abbrev pub edge_to : List Edge → ℕ → Option Target
edge_to edges place = edge_target (slice_get edges place)

module _ (nodes : List (Option Node)) (number : ℕ) where
  pub leads_nowhere : node_there nodes number ≡ None → (other : ℕ) → LeadsTo nodes number other → ⊥
  leads_nowhere none other leads = none-some leads.node (sym none ∙ leads.there)

  module _ (node : Node) (there : node_there nodes number ≡ Some node) where
    pub leads_from_place : (count other : ℕ) → IsAmongFirst count (edge_to node.edges.items) other → LeadsTo nodes number other
    leads_from_place count other found = by (slice_get node.edges.items found.0) refl
      where
        by : (edge : Option Edge) → slice_get node.edges.items found.0 ≡ edge → LeadsTo nodes number other
        by None none = absurd (subst (λ t. IsNodeOf t other) (ap edge_target none) found.2)
        by (Some edge) is =
            record {
              node = node;
              there = there;
              edge = edge;
              has = (found.0, slice_get_within node.edges.items found.0 edge is, get_or_from_slice_get node.edges.items found.0 edge edge is);
              leads = subst (λ t. IsNodeOf t other) (ap edge_target is) found.2;
            }

    pub place_from_leads : (count other : ℕ) → length node.edges.items ≤ count → LeadsTo nodes number other → IsAmongFirst count (edge_to node.edges.items) other
    place_from_leads count other long leads =
        let same : leads.node ≡ node = same_Some leads.node node (sym leads.there ∙ there) in
        let has = subst (λ (n : Node). Contains n.edges.items leads.edge) same leads.has in
        let at = slice_get_read node.edges.items (length node.edges.items) has.0 leads.edge refl has.1 (sym has.2) in
        (has.0, omega (arith, has.1, long), subst (λ t. IsNodeOf t other) (sym (ap edge_target at)) leads.leads)

-- ---- further

-- one edge further
pub comes_further : (nodes : List (Option Node)) (from last next : ℕ) → Comes nodes from last → LeadsTo nodes last next → Comes nodes from next
comes_further nodes from last next (stays n) leads = goes n next next leads (stays next)
comes_further nodes from last next (goes n mid end first rest) leads = goes n mid next first (comes_further nodes mid last next rest leads)

-- edges that lead to one of the graph's numbers come from one
pub comes_within : (nodes : List (Option Node)) (from last : ℕ) → Comes nodes from last → last < length nodes → from < length nodes
comes_within nodes from last (stays n) within = within
comes_within nodes from last (goes n mid end first rest) within = node_within nodes from first.node first.there
