-- Edges and targets of a graph lead to its nodes.
use Rattle.std.proofs.Common.{◌≡◌, ℕ, Bool, true, false, cond, List, [], ◌∷◌, Some, subst}
use Rattle.std.specs.Prelude.{◌==◌, ◌&&◌}
use Rattle.std.proofs.lemmas.Bool.{and_parts}
use Rattle.std.proofs.lemmas.Option.{none-some}
use Rattle.heap_graph.specs.Graphs.{Target, Edge, Node, Name, Graph, edge_in, node_at}
use Rattle.heap_graph.specs.Targets.{same_target, is_collapsed, implies}
use Rattle.heap_graph.specs.Closed.{is_slot, edges_sound}
use Rattle.heap_graph.specs.Steps.{AreFound}
use Rattle.heap_graph.proofs.MapsCompose.{at_there}
use Rattle.heap_graph.specs.Completed.{HasNodes}
use Rattle.heap_graph.proofs.Certain.{same_eq}
use Rattle.dsa_bottom_up.proofs.Reaching.{IsThere, EndsThere}

pub slot_there : (graph : Graph) (target : Target) → is_slot graph (Some target) ≡ true → IsThere graph target.node
slot_there graph target slot = let there = at_there graph target (λ node shift. implies (is_collapsed node.element) (shift == 0)) slot in (there.node, there.is)

pub edge_slot : (graph : Graph) (node : Node) (edges : List Edge) (slot : ℕ) (to : Target) → edges_sound graph node edges ≡ true → edge_in edges slot ≡ Some to → is_slot graph (Some to) ≡ true
edge_slot graph node [] slot to h e = absurd (none-some to e)
edge_slot graph node (edge ∷ edges) slot to h e =
    let rest = (and_parts (same_target (edge_in node.edges edge.slot) (Some edge.to)) (is_slot graph (Some edge.to) && (implies (is_collapsed node.element) (edge.slot == 0) && edges_sound graph node edges)) h).1 in
    let here = and_parts (is_slot graph (Some edge.to)) (implies (is_collapsed node.element) (edge.slot == 0) && edges_sound graph node edges) rest in
    by (edge.slot == slot) here.0 (edge_slot graph node edges slot to (and_parts (implies (is_collapsed node.element) (edge.slot == 0)) (edges_sound graph node edges) here.1).1) e
  where
    by : (b : Bool) → is_slot graph (Some edge.to) ≡ true → (edge_in edges slot ≡ Some to → is_slot graph (Some to) ≡ true) → cond b (Some edge.to) (edge_in edges slot) ≡ Some to → is_slot graph (Some to) ≡ true
    by true here rest h = subst (λ x. is_slot graph x ≡ true) h here
    by false here rest h = rest h

edges_are_found : (graph : Graph) (node : Node) (edges : List Edge) → edges_sound graph node edges ≡ true → AreFound node.edges edges
edges_are_found graph node [] h = tt
edges_are_found graph node (edge ∷ edges) h =
    let both = and_parts (same_target (edge_in node.edges edge.slot) (Some edge.to)) (is_slot graph (Some edge.to) && (implies (is_collapsed node.element) (edge.slot == 0) && edges_sound graph node edges)) h in
    let here = and_parts (is_slot graph (Some edge.to)) (implies (is_collapsed node.element) (edge.slot == 0) && edges_sound graph node edges) both.1 in (
      same_eq (edge_in node.edges edge.slot) (Some edge.to) both.0,
      edges_are_found graph node edges (and_parts (implies (is_collapsed node.element) (edge.slot == 0)) (edges_sound graph node edges) here.1).1,
    )

module _ (graph : Graph) (sound : HasNodes graph) where
  pub ends_there : EndsThere graph
  ends_there number slot node to is edge = slot_there graph to (edge_slot graph node node.edges slot to (sound.edges number node is) edge)

  pub found_there : (number : ℕ) (node : Node) → node_at graph number ≡ Some node → AreFound node.edges node.edges
  found_there number node is = edges_are_found graph node node.edges (sound.edges number node is)

  pub name_there : (name : Name) (target : Target) → graph.targets name ≡ Some target → IsThere graph target.node
  name_there name target is = slot_there graph target (subst (λ t. is_slot graph t ≡ true) is (sound.names name))
