-- A node in memory was collapsed: a step of merging.
use Rattle.std.proofs.Common.{◌≡◌, ℕ, ◌≤◌, Bool, true, false, cond, eqb, List, [], ◌∷◌, ◌++◌, map, length, Some, None, refl, sym, ap, subst, ◌∙◌, ◌⊎◌, inl, inr, arith}
use Rattle.std.specs.Prelude.{option_map, slice_get}
use Rattle.std.proofs.lemmas.Bool.{cases_eq, cond-true, cond-false, eq-eqb, eqb-true, ne_eqb}
use Rattle.std.proofs.lemmas.Option.{none-some, same_Some}
use Rattle.std.proofs.lemmas.List.{length-map}
use Rattle.c_typed.specs.Table.{Interned, structs_in}
use Rattle.heap_graph.specs.Structures.{AreMade}
use Rattle.heap_graph.specs.declared.graph.Target as memory_target
use Rattle.heap_graph.specs.Memory.{target_of, element_in, ElementStands, flags_of}
use Rattle.heap_graph.specs.Graphs.{Target, Collapsed, Node, node_at}
use Rattle.heap_graph.specs.Merging.{IsSlot, count}
use Rattle.heap_graph.specs.Steps.{One, Collapse, Points, IsOf, AllAreOf, Step, flattened, flattened_ask, flattened_node, flattened_asks, asked_once, IsFlattened}
use Rattle.heap_graph.proofs.PartStep.{of_map}
use Rattle.heap_graph.proofs.FlatStep.{flat_step}
use Rattle.graph_unification.specs.declared.ask.Ask as memory_ask
use Rattle.graph_unification.specs.declared.ask.Ask.TheVariants as A
use Rattle.graph_unification.specs.declared.node.SlotEdge.{SlotEdge}
use Rattle.graph_unification.specs.declared.node.Node as memory_node
use Rattle.graph_unification.specs.declared.graph.Graph as memory_graph
use Rattle.graph_unification.specs.Cells.{flat_cell, has_number}
use Rattle.graph_unification.specs.Memory.{node_in, or_nowhere, content, edge_of, node_there, graph_in, AreApart, IsHeld, IsGraph}
use Rattle.graph_unification.specs.Turns.{ask_in, asks_in, asked_again, WithOneSlot, Goes}
use Rattle.graph_unification.proofs.CellLists.{all_changed}
use Rattle.graph_unification.proofs.HeldNodes.{AllSlots, at_held, held_slots, are_found, names_now, node_now, content_now, content_of_node}
use Rattle.graph_unification.proofs.OneNode.{was_in, now_in, other_in, all_nodes, still_held}
use Rattle.graph_unification.proofs.Joined.{count_fewer}

same_node : (number : ℕ) (t : Target) → (flattened number t).node ≡ t.node
same_node number t = by (eqb t.node number) refl
  where
    by : (b : Bool) → eqb t.node number ≡ b → (cond {A = Target} b (record { node = number; shift = 0 }) t).node ≡ t.node
    by true e = sym (eqb-true t.node number e)
    by false e = refl

module _ (table : Interned) (made : AreMade (structs_in table)) (old new : memory_graph.Graph) (number : ℕ) (before : memory_node.Node) (fine : IsGraph table old) (same_names : new.names ≡ old.names)
    (flat : WithOneSlot old.nodes new.nodes number before) where
  was : node_in old.nodes.list.items number ≡ Some before
  was = was_in old.nodes.list.items new.nodes.list.items number before flat.after flat.change

  now : node_in new.nodes.list.items number ≡ Some flat.after
  now = now_in old.nodes.list.items new.nodes.list.items number before flat.after flat.change

  abbrev there : Node
  there = node_there table (content old.nodes) before

  moves : (t : memory_target.Target) → target_of (flat_cell number t) ≡ flattened number (target_of t)
  moves t = by (eqb t.node number)
    where
      by : (b : Bool) → target_of (cond {A = memory_target.Target} b (record { node = number; shift = 0 }) t) ≡ cond {A = Target} b (record { node = number; shift = 0 }) (target_of t)
      by true = refl
      by false = refl

  first : (t : memory_target.Target) → t.node ≡ number → flat_cell number t ≡ record { node = number; shift = 0 }
  first t at = cond-true (eqb t.node number) (record { node = number; shift = 0 }) t (eq-eqb t.node number at)

  stays : (t : memory_target.Target) → (t.node ≡ number → ⊥) → flat_cell number t ≡ t
  stays t other = cond-false (eqb t.node number) (record { node = number; shift = 0 }) t (ne_eqb t.node number other)

  twice : (t : memory_target.Target) → flat_cell number (flat_cell number t) ≡ flat_cell number t
  twice t = by (cases_eq t.node number)
    where
      by : (t.node ≡ number) ⊎ (t.node ≡ number → ⊥) → flat_cell number (flat_cell number t) ≡ flat_cell number t
      by (inl at) = ap (flat_cell number) (first t at) ∙ first (record { node = number; shift = 0 }) refl ∙ sym (first t at)
      by (inr other) = ap (flat_cell number) (stays t other)

  cells_now : (cell : ℕ) → slice_get new.nodes.cells.items cell ≡ option_map (flat_cell number) (slice_get old.nodes.cells.items cell)
  cells_now cell = ap (λ l. slice_get l cell) flat.cells ∙ all_changed (flat_cell number) twice before.cells.items old.nodes.cells.items cell (λ t e. by t e (cases_eq t.node number))
    where
      by : (t : memory_target.Target) → slice_get old.nodes.cells.items cell ≡ Some t → (t.node ≡ number) ⊎ (t.node ≡ number → ⊥) → (has_number before.cells.items cell ≡ true) ⊎ (flat_cell number t ≡ t)
      by t e (inl at) =
          let its = fine.held cell t e in
          let same : its.node ≡ before = same_Some its.node before (sym its.is ∙ ap (node_in old.nodes.list.items) at ∙ was) in
          inl (subst (λ (n : memory_node.Node). has_number n.cells.items cell ≡ true) same its.among)
      by t e (inr other) = inr (stays t other)

  contents : (cell : ℕ) (t : memory_target.Target) → slice_get old.nodes.cells.items cell ≡ Some t → content new.nodes cell ≡ flattened number (target_of t)
  contents cell t e = ap (or_nowhere (length new.nodes.list.items)) (cells_now cell ∙ ap (option_map (flat_cell number)) e) ∙ moves t

  node_flat : node_at (graph_in table new) number ≡ Some (record { element = Collapsed; flags = there.flags; edges = [] })
  node_flat =
      at_held table new number flat.after now
      ∙ ap (λ e. Some (record { element = element_in table e; flags = flags_of flat.after.flags; edges = map (edge_of (content new.nodes)) flat.after.edges.items })) flat.element
      ∙ ap (λ f. Some (record { element = Collapsed; flags = flags_of f; edges = map (edge_of (content new.nodes)) flat.after.edges.items })) flat.flags
      ∙ ap (λ es. Some (record { element = Collapsed; flags = flags_of before.flags; edges = map (edge_of (content new.nodes)) es })) flat.edges

  others : (n : ℕ) → (n ≡ number → ⊥) → node_at (graph_in table new) n ≡ option_map (flattened_node number) (node_at (graph_in table old) n)
  others n differ =
      node_now table old new fine (flattened number) same_names contents n (other_in old.nodes.list.items new.nodes.list.items number before flat.after flat.change n differ)

  fewer : count (graph_in table new).nodes ≤ count (graph_in table old).nodes
  fewer = count_fewer (graph_in table old).nodes (graph_in table new).nodes same_length (λ n none. by n none (cases_eq n number))
    where
      same_length : length (graph_in table new).nodes ≡ length (graph_in table old).nodes
      same_length =
          length-map new.nodes.list.items (option_map (node_there table (content new.nodes))) ∙ flat.change.length
          ∙ sym (length-map old.nodes.list.items (option_map (node_there table (content old.nodes))))

      by : (n : ℕ) → node_at (graph_in table old) n ≡ None → (n ≡ number) ⊎ (n ≡ number → ⊥) → node_at (graph_in table new) n ≡ None
      by n none (inl is) = absurd (none-some there (sym none ∙ ap (node_at (graph_in table old)) is ∙ at_held table old number before was))
      by n none (inr other) = others n other ∙ ap (option_map (flattened_node number)) none

  change : IsFlattened (structs_in table) (graph_in table old) (graph_in table new) number there
  change = record {
    is = at_held table old number before was;
    found = are_found (content old.nodes) before.edges.items (fine.apart number before was);
    names = names_now table old new fine (flattened number) same_names contents;
    at = node_flat;
    others = others;
    fewer = fewer;
  }

  flat_content : (cell : ℕ) → IsSlot (structs_in table) (graph_in table old) (content old.nodes cell) → content new.nodes cell ≡ flattened number (content old.nodes cell)
  flat_content = content_now table old new fine (flattened number) same_names contents

  ask_now : (ask : memory_ask.Ask) → IsOf (structs_in table) (graph_in table old) (ask_in old.nodes ask) → flattened_ask number (ask_in old.nodes ask) ≡ ask_in new.nodes ask
  ask_now (A.One a b) its =
      ap (λ x. One x (flattened number (content old.nodes b))) (sym (flat_content a its.0)) ∙ ap (One (content new.nodes a)) (sym (flat_content b its.1))
  ask_now (A.Collapse cell) its =
      ap Collapse (sym (same_node number (content old.nodes cell)) ∙ ap (λ (t : Target). t.node) (sym (content_of_node table old new fine (flattened number) same_names contents cell its)))
  ask_now (A.Points at to) its =
      ap (λ (x : Target). Points x.node x.shift (flattened number (content old.nodes to))) (sym (flat_content at its.0))
      ∙ ap (Points (content new.nodes at).node (content new.nodes at).shift) (sym (flat_content to its.1))

  asks_now : (asks : List memory_ask.Ask) → AllAreOf (structs_in table) (graph_in table old) (asks_in old.nodes asks) → flattened_asks number (asks_in old.nodes asks) ≡ asks_in new.nodes asks
  asks_now [] its = refl
  asks_now (ask ∷ asks) its =
      ap (λ x. x ∷ flattened_asks number (asks_in old.nodes asks)) (ask_now ask its.0) ∙ ap (λ rest. ask_in new.nodes ask ∷ rest) (asks_now asks its.1)

  -- every cell holds a slot that it may: those of the collapsed node hold its one slot
  slot_now : (t : Target) → IsSlot (structs_in table) (graph_in table old) t → IsSlot (structs_in table) (graph_in table new) (flattened number t)
  slot_now t slot = by (cases_eq t.node number)
    where
      by : (t.node ≡ number) ⊎ (t.node ≡ number → ⊥) → IsSlot (structs_in table) (graph_in table new) (flattened number t)
      by (inl at) =
          subst (IsSlot (structs_in table) (graph_in table new)) (sym (cond-true (eqb t.node number) (record { node = number; shift = 0 }) t (eq-eqb t.node number at)))
          (record { node = record { element = Collapsed; flags = there.flags; edges = [] }; is = node_flat; inside = omega arith })
      by (inr other) =
          subst (IsSlot (structs_in table) (graph_in table new)) (sym (cond-false (eqb t.node number) (record { node = number; shift = 0 }) t (ne_eqb t.node number other)))
          (record { node = flattened_node number slot.node; is = others t.node other ∙ ap (option_map (flattened_node number)) slot.is; inside = slot.inside })

  held_now : (cell : ℕ) (target : memory_target.Target) → slice_get new.nodes.cells.items cell ≡ Some target → IsHeld new.nodes.list.items cell target
  held_now cell target e =
      let old_one = of_map (flat_cell number) (slice_get old.nodes.cells.items cell) target (sym (cells_now cell) ∙ e) in
      let its = still_held old.nodes.list.items new.nodes.list.items number before flat.after flat.change (λ c h. subst (λ l. has_number l c ≡ true) (sym flat.list) h) cell old_one.0 (fine.held cell old_one.0 old_one.1.0) in
      record { node = its.node; is = ap (node_in new.nodes.list.items) (sym (ap (λ (t : memory_target.Target). t.node) old_one.1.1) ∙ ap (λ (t : Target). t.node) (moves old_one.0) ∙ same_node number (target_of old_one.0)) ∙ its.is; among = its.among }

  edges_once : (cell : ℕ) → content new.nodes cell ≡ record { node = number; shift = 0 } → (asks : List memory_ask.Ask) → AllAreOf (structs_in table) (graph_in table old) (asks_in old.nodes asks)
      → (edges : List SlotEdge) → AllSlots table old edges
      → asked_once number (map (edge_of (content old.nodes)) edges) (flattened_asks number (asks_in old.nodes asks)) ≡ asks_in new.nodes (map (asked_again cell) edges ++ asks)
  unfolding AllSlots
  edges_once cell here asks its [] all = asks_now asks its
  edges_once cell here asks its (edge ∷ edges) all =
      ap (λ x. Points number 0 x ∷ asked_once number (map (edge_of (content old.nodes)) edges) (flattened_asks number (asks_in old.nodes asks))) (sym (flat_content edge.to all.0))
      ∙ ap (λ (t : Target). Points t.node t.shift (content new.nodes edge.to) ∷ asked_once number (map (edge_of (content old.nodes)) edges) (flattened_asks number (asks_in old.nodes asks))) (sym here)
      ∙ ap (λ rest. Points (content new.nodes cell).node (content new.nodes cell).shift (content new.nodes edge.to) ∷ rest) (edges_once cell here asks its edges all.1)

  plain_step : (asks : List memory_ask.Ask) → AllAreOf (structs_in table) (graph_in table old) (asks_in old.nodes asks)
      → Step (structs_in table) (graph_in table old) (graph_in table new) (Collapse number ∷ asks_in old.nodes asks) (asked_once number there.edges (flattened_asks number (asks_in old.nodes asks)))
  plain_step asks its = flat_step (structs_in table) made (graph_in table old) (graph_in table new) number there fine.sound change (asks_in old.nodes asks) its

  pub flat_graph : (asks : List memory_ask.Ask) → AllAreOf (structs_in table) (graph_in table old) (asks_in old.nodes asks) → IsGraph table new
  flat_graph asks its = record {
    held = held_now;
    apart = all_nodes old.nodes.list.items new.nodes.list.items number before flat.after flat.change (λ node. AreApart node.edges.items) fine.apart (subst AreApart (sym flat.edges) tt);
    stand = all_nodes old.nodes.list.items new.nodes.list.items number before flat.after flat.change (λ node. ElementStands table node.element) fine.stand (subst (ElementStands table) (sym flat.element) tt);
    slots = λ c target e.
        let old_one = of_map (flat_cell number) (slice_get old.nodes.cells.items c) target (sym (cells_now c) ∙ e) in
        subst (IsSlot (structs_in table) (graph_in table new)) (sym (moves old_one.0) ∙ ap target_of old_one.1.1) (slot_now (target_of old_one.0) (fine.slots c old_one.0 old_one.1.0));
    sound = (plain_step asks its).sound;
  }

  -- the edges are asked at a cell that points to the node
  pub collapses : (cell : ℕ) → (content old.nodes cell).node ≡ number → IsSlot (structs_in table) (graph_in table old) (content old.nodes cell) → (asks : List memory_ask.Ask)
      → AllAreOf (structs_in table) (graph_in table old) (asks_in old.nodes asks) → Goes table old new (Collapse number ∷ asks_in old.nodes asks) (asks_in new.nodes (map (asked_again cell) before.edges.items ++ asks))
  collapses cell at slot asks its = record {
    graph = flat_graph asks its;
    step = subst (Step (structs_in table) (graph_in table old) (graph_in table new) (Collapse number ∷ asks_in old.nodes asks)) (edges_once cell here asks its before.edges.items (held_slots table old fine number before was)) (plain_step asks its);
  }
    where
      here : content new.nodes cell ≡ record { node = number; shift = 0 }
      here = flat_content cell slot ∙ cond-true (eqb (content old.nodes cell).node number) (record { node = number; shift = 0 }) (content old.nodes cell) (eq-eqb (content old.nodes cell).node number at)

  -- where it had no edges, nothing is asked
  pub collapses_bare : before.edges.items ≡ [] → Goes table old new (Collapse number ∷ []) []
  collapses_bare bare = record {
    graph = flat_graph [] tt;
    step = subst (λ es. Step (structs_in table) (graph_in table old) (graph_in table new) (Collapse number ∷ []) (asked_once number (map (edge_of (content old.nodes)) es) [])) bare (plain_step [] tt);
  }
