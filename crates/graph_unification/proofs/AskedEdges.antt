-- Edges that are asked of a node, each at a new cell: the graph stays.
use Rattle.std.proofs.Common.{◌≡◌, ℕ, ◌+◌, ◌-◌, ◌^◌, min, List, [], ◌∷◌, refl, sym, ap, subst, ◌∙◌, arith}
use Rattle.c_typed.specs.Table.{Interned, structs_in}
use Rattle.heap_graph.specs.Memory.{target_of}
use Rattle.heap_graph.specs.Graphs.{Target}
use Rattle.heap_graph.specs.Merging.{IsSlot}
use Rattle.heap_graph.specs.Steps.{Ask, Points, AllAreOf}
use Rattle.graph_unification.specs.declared.ask.Ask as memory_ask
use Rattle.graph_unification.specs.declared.node.SlotEdge.{SlotEdge}
use Rattle.graph_unification.specs.declared.nodes.Nodes.{Nodes}
use Rattle.graph_unification.specs.declared.graph.Graph as memory_graph
use Rattle.graph_unification.specs.Memory.{content, graph_in, IsGraph}
use Rattle.graph_unification.specs.Turns.{asks_in, AsksEdges, Nothing, More}
use Rattle.graph_unification.proofs.Bounds.{slot_fits}
use Rattle.graph_unification.proofs.AddedCell.{new_content, kept_content, same_graph, graph_now, asks_same}

-- the edges with their targets, asked of a node behind so many slots, before other things
abbrev pub asked_of : (ℕ → Target) → ℕ → ℕ → List SlotEdge → List Ask → List Ask
asked_of holds node distance [] asks = asks
asked_of holds node distance (edge ∷ edges) asks = Points node (edge.slot + distance) (holds edge.to) ∷ asked_of holds node distance edges asks

-- what is known once edges were asked
pub record Asked (table : Interned) (old new : memory_graph.Graph) (node distance : ℕ) (before : List memory_ask.Ask) (edges : List SlotEdge) (after : List memory_ask.Ask) : Type 0 where
  pub graph : IsGraph table new
  pub same : graph_in table new ≡ graph_in table old
  pub asks : asks_in new.nodes after ≡ asked_of (content old.nodes) node distance edges (asks_in old.nodes before)
  pub kept : (cell : ℕ) → IsSlot (structs_in table) (graph_in table old) (content old.nodes cell) → content new.nodes cell ≡ content old.nodes cell

module _ (table : Interned) (old : memory_graph.Graph) (node distance : ℕ) (before : List memory_ask.Ask) (fine : IsGraph table old)
    (of_before : AllAreOf (structs_in table) (graph_in table old) (asks_in old.nodes before)) where
  abbrev with_nodes : Nodes → memory_graph.Graph
  with_nodes nodes = record old { nodes = nodes }

  -- each new end and each target is a slot that is there
  pub asked : (edges : List SlotEdge) (new : Nodes) (after : List memory_ask.Ask) → AsksEdges node distance old.nodes before edges new after
      → AllAreOf (structs_in table) (graph_in table old) (asked_of (content old.nodes) node distance edges (asks_in old.nodes before)) → Asked table old (with_nodes new) node distance before edges after
  asked [] new after Nothing its = record { graph = fine; same = refl; asks = refl; kept = λ cell slot. refl }
  asked (edge ∷ edges) new after (More _ _ middle _ asks at rest adds) its =
      let first = asked edges middle asks rest its.1 in
      let small = slot_fits (structs_in table) (graph_in table old) (record { node = node; shift = edge.slot + distance }) its.0.0 in
      let end : Target = record { node = node; shift = edge.slot + distance } in
      let here : target_of (record { node = node; shift = min (edge.slot + distance) (2 ^ 64 - 1) }) ≡ end = ap (λ s. record { node = node; shift = s }) (omega (arith, small)) in
      let slot : IsSlot (structs_in table) (graph_in table (with_nodes middle)) (target_of (record { node = node; shift = min (edge.slot + distance) (2 ^ 64 - 1) })) =
      subst (IsSlot (structs_in table) (graph_in table (with_nodes middle))) (sym here) (subst (λ graph. IsSlot (structs_in table) graph end) (sym first.same) its.0.0) in
      let of_asks : AllAreOf (structs_in table) (graph_in table (with_nodes middle)) (asks_in middle asks) =
      subst (AllAreOf (structs_in table) (graph_in table (with_nodes middle))) (sym first.asks) (subst (λ graph. AllAreOf (structs_in table) graph (asked_of (content old.nodes) node distance edges (asks_in old.nodes before))) (sym first.same) its.1) in
      let to_there : IsSlot (structs_in table) (graph_in table (with_nodes middle)) (content middle edge.to) =
      subst (IsSlot (structs_in table) (graph_in table (with_nodes middle))) (sym (first.kept edge.to its.0.1)) (subst (λ graph. IsSlot (structs_in table) graph (content old.nodes edge.to)) (sym first.same) its.0.1) in
      let end_is : content new at ≡ end = new_content table (with_nodes middle) (with_nodes new) at (record { node = node; shift = min (edge.slot + distance) (2 ^ 64 - 1) }) first.graph refl adds slot ∙ here in
      let to_is : content new edge.to ≡ content old.nodes edge.to =
      kept_content table (with_nodes middle) (with_nodes new) at (record { node = node; shift = min (edge.slot + distance) (2 ^ 64 - 1) }) first.graph refl adds slot edge.to to_there ∙ first.kept edge.to its.0.1 in
      record {
        graph = graph_now table (with_nodes middle) (with_nodes new) at (record { node = node; shift = min (edge.slot + distance) (2 ^ 64 - 1) }) first.graph refl adds slot;
        same = same_graph table (with_nodes middle) (with_nodes new) at (record { node = node; shift = min (edge.slot + distance) (2 ^ 64 - 1) }) first.graph refl adds slot ∙ first.same;
        asks =
            ap (λ (t : Target). Points t.node t.shift (content new edge.to) ∷ asks_in new asks) end_is
            ∙ ap (λ t. Points node (edge.slot + distance) t ∷ asks_in new asks) to_is
            ∙ ap (λ rest. Points node (edge.slot + distance) (content old.nodes edge.to) ∷ rest)
            (asks_same table (with_nodes middle) (with_nodes new) at (record { node = node; shift = min (edge.slot + distance) (2 ^ 64 - 1) }) first.graph refl adds slot asks of_asks ∙ first.asks);
        kept = λ cell its_slot.
            kept_content table (with_nodes middle) (with_nodes new) at (record { node = node; shift = min (edge.slot + distance) (2 ^ 64 - 1) }) first.graph refl adds slot cell
            (subst (IsSlot (structs_in table) (graph_in table (with_nodes middle))) (sym (first.kept cell its_slot)) (subst (λ graph. IsSlot (structs_in table) graph (content old.nodes cell)) (sym first.same) its_slot))
            ∙ first.kept cell its_slot;
      }
