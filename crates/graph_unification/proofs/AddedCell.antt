-- A cell was added: the graph stays.
use Rattle.std.proofs.Common.{◌≡◌, ℕ, true, List, [], ◌∷◌, ◌++◌, map, length, Option, Some, None, refl, sym, ap, subst, ◌∙◌, ◌⊎◌, inl, inr}
use Rattle.std.specs.Prelude.{option_map, slice_get}
use Rattle.std.proofs.lemmas.Bool.{cases_eq}
use Rattle.std.proofs.lemmas.Option.{same_Some, slice_get-map}
use Rattle.std.proofs.lemmas.List.{length-map}
use Rattle.c_typed.specs.Table.{Interned, structs_in}
use Rattle.heap_graph.specs.declared.graph.Target as memory_target
use Rattle.heap_graph.specs.Memory.{target_of, element_in, ElementStands, flags_of}
use Rattle.heap_graph.specs.Graphs.{Target, Edge, Node, Name}
use Rattle.heap_graph.specs.Merging.{IsSlot, IsSound}
use Rattle.heap_graph.specs.Steps.{One, Collapse, Points, IsOf, AllAreOf}
use Rattle.graph_unification.specs.declared.ask.Ask as memory_ask
use Rattle.graph_unification.specs.declared.ask.Ask.TheVariants as A
use Rattle.graph_unification.specs.declared.node.SlotEdge.{SlotEdge}
use Rattle.graph_unification.specs.declared.node.Node as memory_node
use Rattle.graph_unification.specs.declared.graph.Graph as memory_graph
use Rattle.graph_unification.specs.Cells.{has_number}
use Rattle.graph_unification.specs.Memory.{held, or_nowhere, content, edge_of, node_there, graph_in, AreApart, IsHeld, IsGraph}
use Rattle.graph_unification.specs.Turns.{ask_in, asks_in, WithCells, AddsCell}
use Rattle.graph_unification.proofs.CellLists.{has_here, has_left, has_right, get_kept, get_more, get_last, same_lists}
use Rattle.graph_unification.proofs.HeldNodes.{HeldNode, there_in, held_some, AllSlots, held_slots, edge_to, edges_now, names_now, content_now, content_of_node}
use Rattle.graph_unification.proofs.OneNode.{now_in, all_nodes, still_held}

abbrev pub unchanged : Target → Target
unchanged t = t

pub same_edges : (edges : List Edge) → map (edge_to unchanged) edges ≡ edges
same_edges [] = refl
same_edges (edge ∷ edges) = ap (λ rest. edge ∷ rest) (same_edges edges)

pub same_target : (o : Option Target) → option_map unchanged o ≡ o
same_target None = refl
same_target (Some t) = refl

module _ (table : Interned) (old new : memory_graph.Graph) (number : ℕ) (to : memory_target.Target) (fine : IsGraph table old) (same_names : new.names ≡ old.names)
    (adds : AddsCell old.nodes new.nodes number to) (slot : IsSlot (structs_in table) (graph_in table old) (target_of to)) where
  its : HeldNode table old to.node slot.node
  its = there_in table old to.node slot.node slot.is

  gets : WithCells old.nodes.list.items new.nodes.list.items to.node (number ∷ []) its.held
  gets = adds.list its.held (held_some (slice_get old.nodes.list.items to.node) its.held its.is)

  contents : (cell : ℕ) (target : memory_target.Target) → slice_get old.nodes.cells.items cell ≡ Some target → content new.nodes cell ≡ unchanged (target_of target)
  contents cell target e = ap (or_nowhere (length new.nodes.list.items)) (ap (λ l. slice_get l cell) adds.cells ∙ get_kept old.nodes.cells.items to cell target e)

  at_last : (cell : ℕ) → cell ≡ number → slice_get new.nodes.cells.items cell ≡ Some to
  at_last cell at = ap (λ l. slice_get l cell) adds.cells ∙ ap (slice_get (old.nodes.cells.items ++ to ∷ [])) (at ∙ adds.last) ∙ get_last old.nodes.cells.items to

  at_other : (cell : ℕ) → (cell ≡ number → ⊥) → slice_get new.nodes.cells.items cell ≡ slice_get old.nodes.cells.items cell
  at_other cell differ = ap (λ l. slice_get l cell) adds.cells ∙ get_more old.nodes.cells.items to cell (λ e. differ (e ∙ sym adds.last))

  pub new_content : content new.nodes number ≡ target_of to
  new_content = ap (or_nowhere (length new.nodes.list.items)) (at_last number refl)

  -- what cells held they hold
  pub kept_content : (cell : ℕ) → IsSlot (structs_in table) (graph_in table old) (content old.nodes cell) → content new.nodes cell ≡ content old.nodes cell
  kept_content cell slot = content_now table old new fine unchanged same_names contents cell slot

  edges_same : (edges : List SlotEdge) → AllSlots table old edges → map (edge_of (content new.nodes)) edges ≡ map (edge_of (content old.nodes)) edges
  edges_same edges all = edges_now table old new fine unchanged same_names contents edges all ∙ same_edges (map (edge_of (content old.nodes)) edges)

  after_same : node_there table (content new.nodes) gets.after ≡ node_there table (content old.nodes) its.held
  after_same =
      ap (λ e. record { element = element_in table e; flags = flags_of gets.after.flags; edges = map (edge_of (content new.nodes)) gets.after.edges.items }) gets.element
      ∙ ap (λ f. record { element = element_in table its.held.element; flags = flags_of f; edges = map (edge_of (content new.nodes)) gets.after.edges.items }) gets.flags
      ∙ ap (λ es. record { element = element_in table its.held.element; flags = flags_of its.held.flags; edges = es })
      (ap (map (edge_of (content new.nodes))) gets.edges ∙ edges_same its.held.edges.items (held_slots table old fine to.node its.held its.is))

  abbrev old_node : Option memory_node.Node → Option Node
  old_node = option_map (node_there table (content old.nodes))

  abbrev new_node : Option memory_node.Node → Option Node
  new_node = option_map (node_there table (content new.nodes))

  nodes_same : (n : ℕ) → slice_get (graph_in table new).nodes n ≡ slice_get (graph_in table old).nodes n
  nodes_same n = slice_get-map new_node new.nodes.list.items n ∙ by (cases_eq n to.node) ∙ sym (slice_get-map old_node old.nodes.list.items n)
    where
      other : (o : Option (Option memory_node.Node)) → slice_get old.nodes.list.items n ≡ o → option_map new_node o ≡ option_map old_node o
      other None e = refl
      other (Some None) e = refl
      other (Some (Some node)) e =
          ap (λ es. Some (Some (record { element = element_in table node.element; flags = flags_of node.flags; edges = es }))) (edges_same node.edges.items (held_slots table old fine n node (ap held e)))

      by : (n ≡ to.node) ⊎ (n ≡ to.node → ⊥) → option_map new_node (slice_get new.nodes.list.items n) ≡ option_map old_node (slice_get old.nodes.list.items n)
      by (inl at) =
          ap (λ k. option_map new_node (slice_get new.nodes.list.items k)) at ∙ ap (option_map new_node) gets.change.now ∙ ap (λ x. Some (Some x)) after_same
          ∙ sym (ap (option_map old_node) gets.change.was) ∙ sym (ap (λ k. option_map old_node (slice_get old.nodes.list.items k)) at)
      by (inr differ) = ap (option_map new_node) (gets.change.others n differ) ∙ other (slice_get old.nodes.list.items n) refl

  list_same : (graph_in table new).nodes ≡ (graph_in table old).nodes
  list_same =
      same_lists (graph_in table new).nodes (graph_in table old).nodes
      (length-map new.nodes.list.items new_node ∙ gets.change.length ∙ sym (length-map old.nodes.list.items old_node)) nodes_same

  name_same : (name : Name) → (graph_in table new).targets name ≡ (graph_in table old).targets name
  name_same name = names_now table old new fine unchanged same_names contents name ∙ same_target ((graph_in table old).targets name)

  pub same_graph : graph_in table new ≡ graph_in table old
  same_graph = λ i. record { nodes = list_same i; targets = λ name. name_same name i }

  held_now : (cell : ℕ) (target : memory_target.Target) → slice_get new.nodes.cells.items cell ≡ Some target → IsHeld new.nodes.list.items cell target
  held_now cell target e = by (cases_eq cell number)
    where
      by : (cell ≡ number) ⊎ (cell ≡ number → ⊥) → IsHeld new.nodes.list.items cell target
      by (inl at) =
          subst (IsHeld new.nodes.list.items cell) (same_Some to target (sym (at_last cell at) ∙ e))
          (record {
            node = gets.after;
            is = now_in old.nodes.list.items new.nodes.list.items to.node its.held gets.after gets.change;
            among = subst (λ l. has_number l cell ≡ true) (sym gets.cells)
                (has_right its.held.cells.items (number ∷ []) cell (subst (λ k. has_number (number ∷ []) k ≡ true) (sym at) (has_here [] number)));
          })
      by (inr differ) =
          still_held old.nodes.list.items new.nodes.list.items to.node its.held gets.after gets.change
          (λ c h. subst (λ l. has_number l c ≡ true) (sym gets.cells) (has_left its.held.cells.items (number ∷ []) c h)) cell target
          (fine.held cell target (sym (at_other cell differ) ∙ e))

  slots_now : (cell : ℕ) (target : memory_target.Target) → slice_get new.nodes.cells.items cell ≡ Some target → IsSlot (structs_in table) (graph_in table old) (target_of target)
  slots_now cell target e = by (cases_eq cell number)
    where
      by : (cell ≡ number) ⊎ (cell ≡ number → ⊥) → IsSlot (structs_in table) (graph_in table old) (target_of target)
      by (inl at) = subst (λ t. IsSlot (structs_in table) (graph_in table old) (target_of t)) (same_Some to target (sym (at_last cell at) ∙ e)) slot
      by (inr differ) = fine.slots cell target (sym (at_other cell differ) ∙ e)

  pub graph_now : IsGraph table new
  graph_now = record {
    held = held_now;
    apart = all_nodes old.nodes.list.items new.nodes.list.items to.node its.held gets.after gets.change (λ node. AreApart node.edges.items) fine.apart
        (subst AreApart (sym gets.edges) (fine.apart to.node its.held its.is));
    stand = all_nodes old.nodes.list.items new.nodes.list.items to.node its.held gets.after gets.change (λ node. ElementStands table node.element) fine.stand
        (subst (ElementStands table) (sym gets.element) (fine.stand to.node its.held its.is));
    slots = λ cell target e. subst (λ graph. IsSlot (structs_in table) graph (target_of target)) (sym same_graph) (slots_now cell target e);
    sound = subst (IsSound (structs_in table)) (sym same_graph) fine.sound;
  }

  ask_same : (ask : memory_ask.Ask) → IsOf (structs_in table) (graph_in table old) (ask_in old.nodes ask) → ask_in new.nodes ask ≡ ask_in old.nodes ask
  ask_same (A.One a b) of_slots = ap (λ x. One x (content new.nodes b)) (kept_content a of_slots.0) ∙ ap (One (content old.nodes a)) (kept_content b of_slots.1)
  ask_same (A.Collapse cell) of_node = ap (λ (t : Target). Collapse t.node) (content_of_node table old new fine unchanged same_names contents cell of_node)
  ask_same (A.Points at end) of_slots =
      ap (λ (t : Target). Points t.node t.shift (content new.nodes end)) (kept_content at of_slots.0) ∙ ap (Points (content old.nodes at).node (content old.nodes at).shift) (kept_content end of_slots.1)

  pub asks_same : (asks : List memory_ask.Ask) → AllAreOf (structs_in table) (graph_in table old) (asks_in old.nodes asks) → asks_in new.nodes asks ≡ asks_in old.nodes asks
  asks_same [] all = refl
  asks_same (ask ∷ asks) all = ap (λ x. x ∷ asks_in new.nodes asks) (ask_same ask all.0) ∙ ap (λ rest. ask_in old.nodes ask ∷ rest) (asks_same asks all.1)
