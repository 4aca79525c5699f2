-- Where edges lead in graphs whose edges lead from slots to slots.
use Rattle.std.proofs.Common.{◌≡◌, ℕ, zero, suc, ◌<◌, ◌==◌, Bool, true, false, cond, List, [], ◌∷◌, length, Option, Some, None, refl, subst, arith, eqb-true}
use Rattle.std.specs.Prelude.{slice_get, get_or}
use Rattle.std.proofs.lemmas.Bool.{false≢true, and_parts}
use Rattle.std.proofs.lemmas.List.Elements.{All-contains}
use Rattle.std.proofs.lemmas.Option.{none-some, same_Some, slice_get_within}
use Rattle.heap_graph.specs.Graphs.{Target, Edge, Node, Name, Graph, edge_in, there, node_at}
use Rattle.heap_graph.specs.Targets.{same_target, is_collapsed, implies}
use Rattle.heap_graph.specs.Escaping.{Reaches, here, along, Escapes}
use Rattle.heap_graph.specs.Memory.{target_of}
use Rattle.heap_graph.specs.Closed.{is_slot, edges_sound}
use Rattle.tac_ir.specs.States.{Owner}
use Rattle.heap_graph.specs.Frozen.{edges_of, node_in, bare}
use Rattle.heap_graph.specs.declared.frozen.Edge as memory_edge
use Rattle.heap_graph.specs.declared.frozen.FrozenGraph.{FrozenGraph}
use Rattle.c_typed.specs.Table.{Interned}
use Rattle.graph_checker.specs.SoundGraphs.Sound.{EdgesAreSound}
use Rattle.heap_graph.specs.Edges.{EdgesAreFound}
use Rattle.heap_graph.proofs.Nodes.{node_before}

-- ---- edges

same_then : (found : Option Target) (to : Target) → same_target found (Some to) ≡ true → found ≡ Some to
same_then None to same = absurd (false≢true same)
same_then (Some found) to same =
    let parts = and_parts (found.node == to.node) (found.shift == to.shift) same in
    λ i. Some (record { node = eqb-true found.node to.node parts.0 i; shift = eqb-true found.shift to.shift parts.1 i })

each_edge : (graph : Graph) (node : Node) (edges : List memory_edge.Edge) → edges_sound graph node (edges_of edges) ≡ true → (k : ℕ) (d : memory_edge.Edge) → k < length edges
    → edge_in node.edges (get_or edges k d).slot ≡ Some (target_of (get_or edges k d).to)
each_edge graph node [] sound k d less = absurd (omega (arith, less))
each_edge graph node (edge ∷ edges) sound zero d less = same_then _ _ (and_parts _ _ sound).0
each_edge graph node (edge ∷ edges) sound (suc k) d less =
    let found = and_parts (same_target (edge_in node.edges edge.slot) (Some (target_of edge.to))) _ sound in
    let leads = and_parts (is_slot graph (Some (target_of edge.to))) _ found.1 in
    let first = and_parts (implies (is_collapsed node.element) (edge.slot == 0)) (edges_sound graph node (edges_of edges)) leads.1 in
    each_edge graph node edges first.1 k d (omega (arith, less))

pub edges_found : (table : Interned) (graph : FrozenGraph) → EdgesAreSound table graph → EdgesAreFound graph
edges_found table graph sound number node edge is has =
    All-contains (λ (e : memory_edge.Edge). edge_in (edges_of node.edges.items) e.slot ≡ Some (target_of e.to)) node.edges.items edge
    (each_edge (bare table graph) (node_in table node) node.edges.items (sound number (node_in table node) (node_before table graph.nodes.items (bare table graph) refl number node is))) has

-- ---- nodes to which edges lead

abbrev slot_of : Option Node → ℕ → Bool
slot_of node shift = is_slot (record { nodes = node ∷ []; targets = λ name. None }) (Some (record { node = 0; shift = shift }))

module _ (graph : Graph) (slots : (name : Name) → is_slot graph (graph.targets name) ≡ true)
    (edges : (number : ℕ) (node : Node) → node_at graph number ≡ Some node → edges_sound graph node node.edges ≡ true) where
  abbrev IsThere : ℕ → Type 0
  IsThere number = (node : Node) × (node_at graph number ≡ Some node)

  slot_there : (target : Target) → is_slot graph (Some target) ≡ true → IsThere target.node
  slot_there target is = by (node_at graph target.node) refl is
    where
      by : (found : Option Node) → node_at graph target.node ≡ found → slot_of found target.shift ≡ true → IsThere target.node
      by None e is = absurd (false≢true is)
      by (Some node) e is = (node, e)

  edge_leads : (node : Node) (others : List Edge) → edges_sound graph node others ≡ true → (slot : ℕ) (to : Target) → edge_in others slot ≡ Some to → is_slot graph (Some to) ≡ true
  edge_leads node [] sound slot to is = absurd (none-some to is)
  edge_leads node (edge ∷ others) sound slot to is =
      let found = and_parts (same_target (edge_in node.edges edge.slot) (Some edge.to)) _ sound in
      let leads = and_parts (is_slot graph (Some edge.to)) _ found.1 in
      let first = and_parts (implies (is_collapsed node.element) (edge.slot == 0)) (edges_sound graph node others) leads.1 in
      by leads.0 (edge_leads node others first.1 slot to) (edge.slot == slot) is
    where
      by : is_slot graph (Some edge.to) ≡ true → (edge_in others slot ≡ Some to → is_slot graph (Some to) ≡ true) → (test : Bool) → (cond test (Some edge.to) (edge_in others slot)) ≡ Some to
          → is_slot graph (Some to) ≡ true
      by own rest true same = subst (λ (t : Target). is_slot graph (Some t) ≡ true) (same_Some edge.to to same) own
      by own rest false later = rest later

  leads_there : (from last : ℕ) → Reaches graph from last → IsThere from → IsThere last
  leads_there from last (here number) known = known
  leads_there from last (along number end node slot to is edge rest) known = leads_there to.node end rest (slot_there to (edge_leads node node.edges (edges number node is) slot to edge))

  within : (number : ℕ) (node : Node) → node_at graph number ≡ Some node → number < length graph.nodes
  within number node is = by (slice_get graph.nodes number) refl is
    where
      by : (found : Option (Option Node)) → slice_get graph.nodes number ≡ found → there found ≡ Some node → number < length graph.nodes
      by None e is = absurd (none-some node is)
      by (Some own) e is = slice_get_within graph.nodes number own e

  pub escapes_within : (owner : Owner) (number : ℕ) → Escapes graph owner number → number < length graph.nodes
  escapes_within owner number escapes =
      let start = slot_there escapes.target (subst (λ o. is_slot graph o ≡ true) escapes.is (slots escapes.name)) in
      let last = leads_there escapes.target.node number escapes.reaches start in
      within number last.0 last.1
