-- What tests of edges tell.
use Rattle.std.proofs.Common.{◌≡◌, ◌==◌, ℕ, zero, suc, ◌≤◌, Bool, true, false, ◌&&◌, List, [], ◌∷◌, map, Option, Some, None, refl, sym, ap, subst, ◌∙◌, arith, eq-eqb, le_refl}
use Rattle.std.specs.Prelude.{slice_get}
use Rattle.std.proofs.lemmas.Bool.{and_from, and_parts, leb-true, ne_eqb, cond-true, cond-false}
use Rattle.std.proofs.lemmas.Option.{none-some, same_Some}
use Rattle.c_typed.specs.Table.{Interned, empty}
use Rattle.heap_graph.specs.Graphs.{Target, Edge, Node, edge_in, there}
use Rattle.heap_graph.specs.Memory.{target_of, element_in}
use Rattle.heap_graph.specs.Targets.{same_target, is_collapsed, implies}
use Rattle.heap_graph.specs.Closed.{is_slot, edges_sound}
use Rattle.heap_graph.specs.Frozen.{edges_of, node_in, optional_node, bare}
use Rattle.heap_graph.specs.declared.frozen.Edge as memory_edge
use Rattle.heap_graph.specs.declared.frozen.Node as memory_node
use Rattle.heap_graph.specs.declared.frozen.FrozenGraph.{FrozenGraph}
use Rattle.graph_checker.specs.SoundGraphs.Sound.{EdgesAreSound}
use Rattle.graph_checker.specs.Tests.{ascend_from, are_found, joins_slots, has_one_slot, join_slots, is_sound, are_sound}
use Rattle.graph_checker.proofs.SlotsTold.{collapsed_told, slot_told}

-- ---- slots that ascend

same_place : (target : Target) → same_target (Some target) (Some target) ≡ true
same_place target = and_from _ _ (eq-eqb target.node target.node refl) (eq-eqb target.shift target.shift refl)

-- an edge in front of all these isn't found at their slots
found_behind : (edge : Edge) (all edges : List Edge) (bound : ℕ) → suc edge.slot ≤ bound → ascend_from bound edges ≡ true → are_found all edges ≡ true → are_found (edge ∷ all) edges ≡ true
found_behind edge all [] bound le ascends found = refl
found_behind edge all (other ∷ edges) bound le ascends found =
    let parts = and_parts _ _ ascends in
    let behind = leb-true bound other.slot parts.0 in
    let each = and_parts _ _ found in
    and_from _ _ (ap (λ target. same_target target (Some other.to)) (cond-false (edge.slot == other.slot) _ _ (ne_eqb edge.slot other.slot (λ e. absurd (omega (arith, e, behind, le))))) ∙ each.0)
    (found_behind edge all edges (suc other.slot) (omega (arith, behind, le)) parts.1 each.1)

pub ascending_found : (edges : List Edge) (bound : ℕ) → ascend_from bound edges ≡ true → are_found edges edges ≡ true
ascending_found [] bound ascends = refl
ascending_found (edge ∷ edges) bound ascends =
    let parts = and_parts _ _ ascends in
    and_from _ _ (ap (λ target. same_target target (Some edge.to)) (cond-true (edge.slot == edge.slot) _ _ (eq-eqb edge.slot edge.slot refl)) ∙ same_place edge.to)
    (found_behind edge edges edges (suc edge.slot) (le_refl (suc edge.slot)) parts.1 (ascending_found edges (suc edge.slot) parts.1))

-- ---- one node

apart : (found is leads others join : Bool) → (found && (is && (leads && (others && join)))) ≡ ((found && others) && ((is && leads) && join))
apart true true true others join = refl
apart true true false true join = refl
apart true true false false join = refl
apart true false leads true join = refl
apart true false leads false join = refl
apart false is leads others join = refl

module _ (table : Interned) (graph : FrozenGraph) where
  joins_told : (node : memory_node.Node) (edge : memory_edge.Edge)
      → joins_slots graph (has_one_slot node) edge ≡ (is_slot (bare table graph) (Some (target_of edge.to)) && implies (is_collapsed (element_in table node.element)) (edge.slot == 0))
  joins_told node edge = λ i. slot_told table graph (Some edge.to) i && implies (collapsed_told empty table node.element i) (edge.slot == 0)

  tests_told : (node : memory_node.Node) (edges : List memory_edge.Edge)
      → (are_found (edges_of node.edges.items) (edges_of edges) && join_slots graph node edges) ≡ edges_sound (bare table graph) (node_in table node) (edges_of edges)
  tests_told node [] = refl
  tests_told node (edge ∷ edges) =
      let found = same_target (edge_in (edges_of node.edges.items) edge.slot) (Some (target_of edge.to)) in
      let leads = is_slot (bare table graph) (Some (target_of edge.to)) in
      let first = implies (is_collapsed (element_in table node.element)) (edge.slot == 0) in
      ap (λ b. (found && are_found (edges_of node.edges.items) (edges_of edges)) && (b && join_slots graph node edges)) (joins_told node edge)
      ∙ (sym (apart found leads first (are_found (edges_of node.edges.items) (edges_of edges)) (join_slots graph node edges)) ∙ ap (λ b. found && (leads && (first && b))) (tests_told node edges))

  pub node_told : (node : memory_node.Node) → is_sound graph (Some node) ≡ edges_sound (bare table graph) (node_in table node) (edges_of node.edges.items)
  node_told node = tests_told node node.edges.items

  -- ---- all nodes

  nodes_tell : (nodes : List (Option memory_node.Node)) → are_sound graph nodes ≡ true → (number : ℕ) (node : Node) → there (slice_get (map (optional_node table) nodes) number) ≡ Some node
      → edges_sound (bare table graph) node node.edges ≡ true
  nodes_tell [] all number node is = absurd (none-some node is)
  nodes_tell (None ∷ nodes) all zero node is = absurd (none-some node is)
  nodes_tell (Some own ∷ nodes) all zero node is = subst (λ (n : Node). edges_sound (bare table graph) n n.edges ≡ true) (same_Some _ _ is) (sym (node_told own) ∙ (and_parts _ _ all).0)
  nodes_tell (own ∷ nodes) all (suc number) node is = nodes_tell nodes (and_parts _ _ all).1 number node is

  nodes_pass : (nodes : List (Option memory_node.Node)) → ((number : ℕ) (node : Node) → there (slice_get (map (optional_node table) nodes) number) ≡ Some node → edges_sound (bare table graph) node node.edges ≡ true)
      → are_sound graph nodes ≡ true
  nodes_pass [] each = refl
  nodes_pass (None ∷ nodes) each = nodes_pass nodes (λ number. each (suc number))
  nodes_pass (Some own ∷ nodes) each = and_from _ _ (node_told own ∙ each 0 (node_in table own) refl) (nodes_pass nodes (λ number. each (suc number)))

  pub edges_told : are_sound graph graph.nodes.items ≡ true → EdgesAreSound table graph
  edges_told all = nodes_tell graph.nodes.items all

  pub edges_pass : EdgesAreSound table graph → are_sound graph graph.nodes.items ≡ true
  edges_pass each = nodes_pass graph.nodes.items each
