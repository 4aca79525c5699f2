-- Turns of merging, each from what is known where it is taken.
use Rattle.std.proofs.Common.{◌≡◌, ℕ, true, List, ◌∷◌, ◌++◌, map, Some, None, refl, sym, ap, subst, ◌∙◌}
use Rattle.std.specs.Prelude.{option_map, slice_get}
use Rattle.std.proofs.lemmas.Bool.{false≢true}
use Rattle.c_typed.specs.Table.{Interned, structs_in}
use Rattle.heap_graph.specs.Structures.{AreMade}
use Rattle.heap_graph.specs.declared.graph.Element as memory_element
use Rattle.heap_graph.specs.declared.graph.Element.TheVariants as E
use Rattle.heap_graph.specs.Memory.{element_in}
use Rattle.heap_graph.specs.Graphs.{Target, Collapsed, Node, edge_in}
use Rattle.heap_graph.specs.Merging.{IsSlot}
use Rattle.heap_graph.specs.Steps.{One, Collapse, Points, IsNode, AllAreOf}
use Rattle.heap_graph.proofs.AskSteps.{Clash, same_targets, two_slots, collapsed_already, second_edge, clash_again}
use Rattle.graph_unification.specs.declared.ask.Ask as memory_ask
use Rattle.graph_unification.specs.declared.ask.Ask.TheVariants as A
use Rattle.graph_unification.specs.declared.graph.Graph as memory_graph
use Rattle.graph_unification.specs.Memory.{content, graph_in, made_edge, IsGraph}
use Rattle.graph_unification.specs.Turns.{asks_in, asked_again, asked_of_clash, element_of, element_at, is_flat, is_flat_element, edges_of_held, edges_in, Flattens, AddsEdge, Goes}
use Rattle.graph_unification.proofs.HeldNodes.{there_in, held_some, edge_made, in_cells}
use Rattle.graph_unification.proofs.Flattened.{collapses}
use Rattle.graph_unification.proofs.AddedEdge.{gets_edge}
use Rattle.graph_unification.proofs.GoingOn.{goes_same}

flat_collapsed : (table : Interned) (e : memory_element.Element) → is_flat_element e ≡ true → element_in table e ≡ Collapsed
flat_collapsed table E.Missing h = absurd (false≢true h)
flat_collapsed table (E.OfType t) h = absurd (false≢true h)
flat_collapsed table E.Collapsed h = refl

module _ (table : Interned) (made : AreMade (structs_in table)) (graph : memory_graph.Graph) (fine : IsGraph table graph) (asks : List memory_ask.Ask)
    (its : AllAreOf (structs_in table) (graph_in table graph) (asks_in graph.nodes asks)) where
  -- two targets that are one
  pub drops_one : (a b : Target) → a.node ≡ b.node → a.shift ≡ b.shift → IsSlot (structs_in table) (graph_in table graph) a
      → Goes table graph graph (One a b ∷ asks_in graph.nodes asks) (asks_in graph.nodes asks)
  drops_one a b node shift slot =
      subst (λ (t : Target). Goes table graph graph (One a t ∷ asks_in graph.nodes asks) (asks_in graph.nodes asks))
      (ap (λ n. record { node = n; shift = a.shift }) node ∙ ap (λ s. record { node = b.node; shift = s }) shift)
      (goes_same table made graph fine (One a a ∷ asks_in graph.nodes asks) (asks_in graph.nodes asks) ((slot, slot), its) its
      (same_targets (structs_in table) (graph_in table graph) a (asks_in graph.nodes asks)))

  -- two slots of a node
  pub asks_collapse : (a b : ℕ) → (content graph.nodes a).node ≡ (content graph.nodes b).node → ((content graph.nodes a).shift ≡ (content graph.nodes b).shift → ⊥)
      → IsSlot (structs_in table) (graph_in table graph) (content graph.nodes a) → IsSlot (structs_in table) (graph_in table graph) (content graph.nodes b)
      → Goes table graph graph (One (content graph.nodes a) (content graph.nodes b) ∷ asks_in graph.nodes asks) (asks_in graph.nodes (A.Collapse a ∷ asks))
  asks_collapse a b same differ slot other =
      goes_same table made graph fine (One (content graph.nodes a) (content graph.nodes b) ∷ asks_in graph.nodes asks) (Collapse (content graph.nodes a).node ∷ asks_in graph.nodes asks)
      ((slot, other), its) ((slot.node, slot.is), its)
      (two_slots (structs_in table) (graph_in table graph) (content graph.nodes a) (content graph.nodes b) slot.node slot.is same differ (asks_in graph.nodes asks))

  -- nodes that don't agree
  pub asks_clash : (a b : ℕ) (slot : IsSlot (structs_in table) (graph_in table graph) (content graph.nodes a)) (other : IsSlot (structs_in table) (graph_in table graph) (content graph.nodes b))
      → Clash (structs_in table) slot.node.element other.node.element (content graph.nodes a).shift (content graph.nodes b).shift
      → Goes table graph graph (One (content graph.nodes a) (content graph.nodes b) ∷ asks_in graph.nodes asks) (asks_in graph.nodes (asked_of_clash a b ++ asks))
  asks_clash a b slot other clashes =
      goes_same table made graph fine (One (content graph.nodes a) (content graph.nodes b) ∷ asks_in graph.nodes asks)
      (Collapse (content graph.nodes a).node ∷ Collapse (content graph.nodes b).node ∷ One (content graph.nodes a) (content graph.nodes b) ∷ asks_in graph.nodes asks)
      ((slot, other), its) ((slot.node, slot.is), ((other.node, other.is), ((slot, other), its)))
      (clash_again (structs_in table) made (graph_in table graph) (content graph.nodes a) (content graph.nodes b) slot other clashes (asks_in graph.nodes asks))

  -- a node that is collapsed already
  pub drops_collapse : (n : ℕ) → IsNode (graph_in table graph) n → is_flat (element_at graph.nodes.list.items n) ≡ true → Goes table graph graph (Collapse n ∷ asks_in graph.nodes asks) (asks_in graph.nodes asks)
  drops_collapse n node flat =
      let held = there_in table graph n node.0 node.1 in
      let collapsed : node.0.element ≡ Collapsed =
      ap (λ (m : Node). m.element) (sym held.means) ∙ flat_collapsed table held.held.element (sym (ap is_flat (ap (option_map element_of) held.is)) ∙ flat) in
      goes_same table made graph fine (Collapse n ∷ asks_in graph.nodes asks) (asks_in graph.nodes asks) (node, its) its
      (collapsed_already (structs_in table) (graph_in table graph) n node.0 node.1 collapsed (asks_in graph.nodes asks))

  -- a slot that has an edge
  pub asks_one : (at : Target) (own to : ℕ) → IsSlot (structs_in table) (graph_in table graph) at → IsSlot (structs_in table) (graph_in table graph) (content graph.nodes to)
      → made_edge (edges_in graph.nodes.list.items at.node) at.shift ≡ Some own
      → Goes table graph graph (Points at.node at.shift (content graph.nodes to) ∷ asks_in graph.nodes asks) (asks_in graph.nodes (A.One own to ∷ asks))
  asks_one at own to slot end has =
      let held = there_in table graph at.node slot.node slot.is in
      let edge : edge_in slot.node.edges at.shift ≡ Some (content graph.nodes own) =
      ap (λ (m : Node). edge_in m.edges at.shift) (sym held.means) ∙ edge_made (content graph.nodes) held.held.edges.items at.shift
      ∙ ap (option_map (content graph.nodes)) (ap (λ o. made_edge (edges_of_held o) at.shift) (sym held.is) ∙ has) in
      goes_same table made graph fine (Points at.node at.shift (content graph.nodes to) ∷ asks_in graph.nodes asks)
      (One (content graph.nodes own) (content graph.nodes to) ∷ asks_in graph.nodes asks) ((slot, end), its)
      ((fine.sound.to at.node at.shift slot.node (content graph.nodes own) slot.is edge, end), its)
      (second_edge (structs_in table) (graph_in table graph) at.node at.shift slot.node (content graph.nodes own) (content graph.nodes to) slot.is edge (asks_in graph.nodes asks))

  -- a slot that gets an edge
  pub adds_edge : (new : memory_graph.Graph) → new.names ≡ graph.names → (at : Target) (to : ℕ) → IsSlot (structs_in table) (graph_in table graph) at
      → IsSlot (structs_in table) (graph_in table graph) (content graph.nodes to) → made_edge (edges_in graph.nodes.list.items at.node) at.shift ≡ None → AddsEdge graph.nodes new.nodes at.node at.shift to
      → Goes table graph new (Points at.node at.shift (content graph.nodes to) ∷ asks_in graph.nodes asks) (asks_in new.nodes asks)
  adds_edge new names at to slot end none adds =
      let held = there_in table graph at.node slot.node slot.is in
      gets_edge table made graph new at.node at.shift to held.held fine names (adds held.held (held_some (slice_get graph.nodes.list.items at.node) held.held held.is))
      (ap (λ o. made_edge (edges_of_held o) at.shift) (sym held.is) ∙ none) slot end asks its

  -- a node that is collapsed
  pub flattens_node : (new : memory_graph.Graph) → new.names ≡ graph.names → (cell : ℕ) → IsNode (graph_in table graph) (content graph.nodes cell).node → Flattens graph.nodes new.nodes (content graph.nodes cell).node
      → Goes table graph new (Collapse (content graph.nodes cell).node ∷ asks_in graph.nodes asks)
      (asks_in new.nodes (map (asked_again cell) (edges_in graph.nodes.list.items (content graph.nodes cell).node) ++ asks))
  flattens_node new names cell node flattens =
      let held = there_in table graph (content graph.nodes cell).node node.0 node.1 in
      let its_cell = in_cells table graph fine cell node in
      subst (λ es. Goes table graph new (Collapse (content graph.nodes cell).node ∷ asks_in graph.nodes asks) (asks_in new.nodes (map (asked_again cell) es ++ asks))) (sym (ap edges_of_held held.is))
      (collapses table made graph new (content graph.nodes cell).node held.held fine names
      (flattens held.held (held_some (slice_get graph.nodes.list.items (content graph.nodes cell).node) held.held held.is)) cell refl its_cell.slot asks its)
