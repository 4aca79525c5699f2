-- Edges of a graph whose edges are sound.
use Rattle.std.proofs.Common.{◌≡◌, ℕ, ◌<◌, ◌==◌, ◌&&◌, if◌then◌else◌, ◌⊎◌, inl, inr, get_or, Bool, true, false, List, [], ◌∷◌, length, Contains, Option, Some, None, refl, sym, ap, subst, ◌∙◌, arith}
use Rattle.std.proofs.lemmas.Bool.{false≢true, and_parts}
use Rattle.std.proofs.lemmas.Bool.Decides.{Decides-eqb}
use Rattle.std.proofs.lemmas.List.Elements.{Contains-append_cases}
use Rattle.std.proofs.lemmas.Option.{none-some, same_Some, slice_get_cases}
use Rattle.c_typed.specs.Table.{Interned}
use Rattle.tac_ir.specs.States.{Owner}
use Rattle.heap_graph.specs.Graphs.{Target, Edge, Node, Name, Graph, there, edge_in, node_at}
use Rattle.heap_graph.specs.Targets.{same_target, is_collapsed, implies}
use Rattle.heap_graph.specs.Escaping.{Reaches, here, along, Escapes}
use Rattle.heap_graph.specs.Closed.{is_slot, edges_sound}
use Rattle.heap_graph.specs.Memory.{target_of}
use Rattle.heap_graph.proofs.MapsCompose.{at_there}
use Rattle.heap_graph.specs.Frozen.{edges_of, node_in, bare}
use Rattle.heap_graph.specs.declared.frozen.Edge as memory_edge
use Rattle.heap_graph.specs.declared.frozen.FrozenGraph.{FrozenGraph}
use Rattle.heap_graph.specs.Edges.{EdgesAreFound}
use Rattle.heap_graph.proofs.Nodes.{node_before}

ends : (a b c d : Bool) → (a && (b && (c && d))) ≡ true → (a ≡ true) × (d ≡ true)
ends true true true d is = (refl, is)
ends true true false d is = absurd (false≢true is)
ends true false c d is = absurd (false≢true is)
ends false b c d is = absurd (false≢true is)

middle : (a b c d : Bool) → (a && (b && (c && d))) ≡ true → (b ≡ true) × (d ≡ true)
middle true true true d is = (refl, is)
middle true true false d is = absurd (false≢true is)
middle true false c d is = absurd (false≢true is)
middle false b c d is = absurd (false≢true is)

same_targets : (found : Option Target) (target : Target) → same_target found (Some target) ≡ true → found ≡ Some target
same_targets None target is = absurd (false≢true is)
same_targets (Some found) target is =
    let parts = and_parts (found.node == target.node) (found.shift == target.shift) is in
    λ i. Some (record { node = (Decides-eqb found.node target.node).0 parts.0 i; shift = (Decides-eqb found.shift target.shift).0 parts.1 i })

-- one of a list's edges is found, where all of them are sound
one_found : (graph : Graph) (node : Node) (edges : List memory_edge.Edge) (edge : memory_edge.Edge) → edges_sound graph node (edges_of edges) ≡ true → Contains edges edge
    → edge_in node.edges edge.slot ≡ Some (target_of edge.to)
one_found graph node [] edge sound has = absurd (omega (arith, has.1))
one_found graph node (first ∷ edges) edge sound has = by (Contains-append_cases (first ∷ []) edges edge has) (one_found graph node edges edge)
  where
    parts : (same_target (edge_in node.edges first.slot) (Some (target_of first.to)) ≡ true) × (edges_sound graph node (edges_of edges) ≡ true)
    parts = ends (same_target (edge_in node.edges first.slot) (Some (target_of first.to))) (is_slot graph (Some (target_of first.to))) (implies (is_collapsed node.element) (first.slot == 0)) (edges_sound graph node (edges_of edges)) sound

    only : Contains (first ∷ []) edge → first ≡ edge
    only has = let zeroth : has.0 ≡ 0 = omega (arith, has.1) in subst (λ n. get_or (first ∷ []) n edge ≡ edge) zeroth has.2

    by : Contains (first ∷ []) edge ⊎ Contains edges edge → (edges_sound graph node (edges_of edges) ≡ true → Contains edges edge → edge_in node.edges edge.slot ≡ Some (target_of edge.to))
        → edge_in node.edges edge.slot ≡ Some (target_of edge.to)
    by (inl own) later = subst (λ (e : memory_edge.Edge). edge_in node.edges e.slot ≡ Some (target_of e.to)) (only own) (same_targets (edge_in node.edges first.slot) (target_of first.to) parts.0)
    by (inr other) later = later parts.1 other

pub edges_found : (table : Interned) (graph : FrozenGraph) → ((number : ℕ) (node : Node) → node_at (bare table graph) number ≡ Some node → edges_sound (bare table graph) node node.edges ≡ true)
    → EdgesAreFound graph
edges_found table graph sound number node edge is has =
    one_found (bare table graph) (node_in table node) node.edges.items edge (sound number (node_in table node) (node_before table graph.nodes.items (bare table graph) refl number node is)) has

-- ---- what escapes is there

-- one that is found leads to a slot, where all of them are sound
found_slot : (graph : Graph) (node : Node) (edges : List Edge) (slot : ℕ) (to : Target) → edges_sound graph node edges ≡ true → edge_in edges slot ≡ Some to → is_slot graph (Some to) ≡ true
found_slot graph node [] slot to sound is = absurd (none-some to is)
found_slot graph node (first ∷ edges) slot to sound is = by (first.slot == slot) refl (found_slot graph node edges slot to)
  where
    parts : (is_slot graph (Some first.to) ≡ true) × (edges_sound graph node edges ≡ true)
    parts = middle (same_target (edge_in node.edges first.slot) (Some first.to)) (is_slot graph (Some first.to)) (implies (is_collapsed node.element) (first.slot == 0)) (edges_sound graph node edges) sound

    chosen : (test : Bool) → (first.slot == slot) ≡ test → ◌≡◌ {A = Option Target} (if test then Some first.to else edge_in edges slot) (Some to)
    chosen test found = sym (ap (λ t. if t then Some first.to else edge_in edges slot) found) ∙ is

    by : (test : Bool) → (first.slot == slot) ≡ test → (edges_sound graph node edges ≡ true → edge_in edges slot ≡ Some to → is_slot graph (Some to) ≡ true) → is_slot graph (Some to) ≡ true
    by true found later = subst (λ t. is_slot graph (Some t) ≡ true) (same_Some first.to to (chosen true found)) parts.0
    by false found later = later parts.1 (chosen false found)

slot_there : (graph : Graph) (target : Target) → is_slot graph (Some target) ≡ true → (node : Node) × (node_at graph target.node ≡ Some node)
slot_there graph target is = let found = at_there graph target (λ node shift. implies (is_collapsed node.element) (shift == 0)) is in (found.node, found.is)

module _ (graph : Graph) (names : (name : Name) → is_slot graph (graph.targets name) ≡ true)
    (edges : (number : ℕ) (node : Node) → node_at graph number ≡ Some node → edges_sound graph node node.edges ≡ true) where
  pub reached_there : (from last : ℕ) → Reaches graph from last → (node : Node) × (node_at graph from ≡ Some node) → (node : Node) × (node_at graph last ≡ Some node)
  reached_there from last (here n) first = first
  reached_there from last (along n end node slot to is edge rest) first =
      reached_there to.node end rest (slot_there graph to (found_slot graph node node.edges slot to (edges n node is) edge))

  -- where targets of names and of edges are slots, what escapes a function is a node
  pub escapes_there : (owner : Owner) (number : ℕ) → Escapes graph owner number → (node : Node) × (node_at graph number ≡ Some node)
  escapes_there owner number escapes =
      reached_there escapes.target.node number escapes.reaches (slot_there graph escapes.target (sym (ap (is_slot graph) escapes.is) ∙ names escapes.name))

-- the number of a node is one of the graph's
pub number_within : (graph : Graph) (number : ℕ) (node : Node) → node_at graph number ≡ Some node → number < length graph.nodes
number_within graph number node is =
    elim (slice_get_cases graph.nodes number).1 [ inl found ↦ found.1 | inr past ↦ absurd (none-some node (sym (ap there past.1) ∙ is)) ]
