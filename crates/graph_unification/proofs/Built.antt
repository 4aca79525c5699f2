-- Graphs that get nodes, targets of names, and flags.
use Rattle.std.proofs.Common.{◌≡◌, ℕ, ◌<◌, true, [], ◌∷◌, ◌++◌, map, length, Some, None, refl, sym, ap, subst, ◌∙◌, ◌⊎◌, inl, inr}
use Rattle.std.specs.Prelude.{option_map, slice_get}
use Rattle.std.proofs.lemmas.Bool.{cases_eq}
use Rattle.std.proofs.lemmas.Option.{none-some, same_Some}
use Rattle.std.proofs.lemmas.List.{length-map}
use Rattle.c_typed.specs.Table.{Interned, structs_in}
use Rattle.heap_graph.specs.declared.graph.Target as memory_target
use Rattle.heap_graph.specs.declared.graph.Flags as memory_flags
use Rattle.heap_graph.specs.Memory.{target_of, element_in, ElementStands, flags_of}
use Rattle.heap_graph.specs.Graphs.{Target, Flags, Node, Name, Graph, edge_in, node_at, there}
use Rattle.heap_graph.specs.Merging.{slots, IsSlot}
use Rattle.graph_unification.specs.declared.node.Node as memory_node
use Rattle.graph_unification.specs.declared.nodes.Nodes.{Nodes}
use Rattle.graph_unification.specs.declared.graph.Graph as memory_graph
use Rattle.graph_unification.specs.Cells.{has_number}
use Rattle.graph_unification.specs.Memory.{held, node_in, or_nowhere, content, edge_of, node_there, set_for, graph_in, AreApart, IsHeld, AreHeld, IsGraph}
use Rattle.graph_unification.specs.Changes.{AddsNode, SetsFlags, SetsTarget}
use Rattle.graph_unification.specs.Turns.{ChangesAt, AddsCell, WithFlags}
use Rattle.graph_unification.proofs.CellLists.{get_more, get_last, get_past, length_more}
use Rattle.graph_unification.proofs.HeldNodes.{at_held, gone_in, names_now, node_now}
use Rattle.graph_unification.proofs.OneNode.{was_in, now_in, other_in, all_nodes, still_held}
use Rattle.graph_unification.proofs.AddedCell.{unchanged, same_target, new_content, same_graph, graph_now}
use Rattle.graph_unification.proofs.Retyped.{same_held}
use Rattle.graph_unification.proofs.SameCells.{edges_stay, node_stays, names_stay}

-- ---- a node more

module _ (table : Interned) (old new : memory_graph.Graph) (node : memory_node.Node) (fine : IsGraph table old) (list : new.nodes.list.items ≡ old.nodes.list.items ++ Some node ∷ [])
    (cells : new.nodes.cells.items ≡ old.nodes.cells.items) (same_names : new.names ≡ old.names) (no_edges : node.edges.items ≡ []) where
  abbrev last : ℕ
  last = length old.nodes.list.items

  abbrev added : Node
  added = record { element = element_in table node.element; flags = flags_of node.flags; edges = [] }

  contents : (cell : ℕ) (t : memory_target.Target) → slice_get old.nodes.cells.items cell ≡ Some t → content new.nodes cell ≡ unchanged (target_of t)
  contents cell t e = ap (or_nowhere (length new.nodes.list.items)) (ap (λ l. slice_get l cell) cells ∙ e)

  other_node : (n : ℕ) → (n ≡ last → ⊥) → node_in new.nodes.list.items n ≡ node_in old.nodes.list.items n
  other_node n other = ap (λ l. node_in l n) list ∙ ap held (get_more old.nodes.list.items (Some node) n other)

  new_node : node_in new.nodes.list.items last ≡ Some node
  new_node = ap (λ l. node_in l last) list ∙ ap held (get_last old.nodes.list.items (Some node))

  no_held : node_in old.nodes.list.items last ≡ None
  no_held = ap held (get_past old.nodes.list.items)

  no_node : node_at (graph_in table old) last ≡ None
  no_node = gone_in table old last no_held

  not_last : (t : Target) → IsSlot (structs_in table) (graph_in table old) t → t.node ≡ last → ⊥
  not_last t slot is = none-some slot.node (sym no_node ∙ ap (node_at (graph_in table old)) (sym is) ∙ slot.is)

  others_more : (n : ℕ) → (n ≡ last → ⊥) → node_at (graph_in table new) n ≡ node_at (graph_in table old) n
  others_more n other = node_now table old new fine unchanged same_names contents n (other_node n other) ∙ same_held (node_at (graph_in table old) n)

  last_more : node_at (graph_in table new) last ≡ Some added
  last_more =
      at_held table new last node new_node
      ∙ ap (λ es. Some (record { element = element_in table node.element; flags = flags_of node.flags; edges = map (edge_of (content new.nodes)) es })) no_edges

  names_more : (name : Name) → (graph_in table new).targets name ≡ (graph_in table old).targets name
  names_more name = names_now table old new fine unchanged same_names contents name ∙ same_target ((graph_in table old).targets name)

  pub adds_node : AddsNode (graph_in table old) (graph_in table new) last added
  adds_node = record {
    last = sym (length-map old.nodes.list.items (option_map (node_there table (content old.nodes))));
    length = length-map new.nodes.list.items (option_map (node_there table (content new.nodes))) ∙ ap length list ∙ length_more old.nodes.list.items (Some node);
    fresh = no_node;
    at = last_more;
    others = others_more;
    names = names_more;
  }

  slot_more : (t : Target) → IsSlot (structs_in table) (graph_in table old) t → IsSlot (structs_in table) (graph_in table new) t
  slot_more t slot = record { node = slot.node; is = others_more t.node (not_last t slot) ∙ slot.is; inside = slot.inside }

  edge_more : (n : ℕ) (its : Node) (slot : ℕ) (to : Target) → node_at (graph_in table new) n ≡ Some its → edge_in its.edges slot ≡ Some to → node_at (graph_in table old) n ≡ Some its
  edge_more n its slot to is has = by (cases_eq n last)
    where
      by : (n ≡ last) ⊎ (n ≡ last → ⊥) → node_at (graph_in table old) n ≡ Some its
      by (inl at) =
          let same : added ≡ its = same_Some added its (sym last_more ∙ ap (node_at (graph_in table new)) (sym at) ∙ is) in
          absurd (none-some to (ap (λ (m : Node). edge_in m.edges slot) same ∙ has))
      by (inr other) = sym (others_more n other) ∙ is

  all_more : (P : memory_node.Node → Type 0) → ((n : ℕ) (its : memory_node.Node) → node_in old.nodes.list.items n ≡ Some its → P its) → P node
      → (n : ℕ) (its : memory_node.Node) → node_in new.nodes.list.items n ≡ Some its → P its
  all_more P was now n its is = by (cases_eq n last)
    where
      by : (n ≡ last) ⊎ (n ≡ last → ⊥) → P its
      by (inl at) = subst P (same_Some node its (sym new_node ∙ ap (node_in new.nodes.list.items) (sym at) ∙ is)) now
      by (inr other) = was n its (sym (other_node n other) ∙ is)

  held_more : (cell : ℕ) (target : memory_target.Target) → IsHeld old.nodes.list.items cell target → IsHeld new.nodes.list.items cell target
  held_more cell target its = by (cases_eq target.node last)
    where
      by : (target.node ≡ last) ⊎ (target.node ≡ last → ⊥) → IsHeld new.nodes.list.items cell target
      by (inl at) = absurd (none-some its.node (sym no_held ∙ ap (node_in old.nodes.list.items) (sym at) ∙ its.is))
      by (inr other) = record { node = its.node; is = other_node target.node other ∙ its.is; among = its.among }

  pub graph_more : ElementStands table node.element → IsGraph table new
  graph_more stands = record {
    held = λ cell target e. held_more cell target (fine.held cell target (sym (ap (λ l. slice_get l cell) cells) ∙ e));
    apart = all_more (λ its. AreApart its.edges.items) fine.apart (subst AreApart (sym no_edges) tt);
    stand = all_more (λ its. ElementStands table its.element) fine.stand stands;
    slots = λ cell target e. slot_more (target_of target) (fine.slots cell target (sym (ap (λ l. slice_get l cell) cells) ∙ e));
    sound = record {
      names = λ name t e. slot_more t (fine.sound.names name t (sym (names_more name) ∙ e));
      from = λ n slot its to is has. fine.sound.from n slot its to (edge_more n its slot to is has) has;
      to = λ n slot its to is has. slot_more to (fine.sound.to n slot its to (edge_more n its slot to is has) has);
    };
  }

-- ---- a name's target

-- the cell was added, and then the name was given to it
module _ (table : Interned) (old one new : memory_graph.Graph) (name : Name) (cell : ℕ) (to : memory_target.Target) (fine : IsGraph table old) (names : one.names ≡ old.names)
    (adds : AddsCell old.nodes one.nodes cell to) (slot : IsSlot (structs_in table) (graph_in table old) (target_of to)) (nodes : new.nodes ≡ one.nodes)
    (set : set_for new name ≡ Some cell) (others : (other : Name) → (other ≡ name → ⊥) → set_for new other ≡ set_for one other)
    (name_cases : (other : Name) → (other ≡ name) ⊎ (other ≡ name → ⊥)) where
  begun : IsGraph table one
  begun = graph_now table old one cell to fine names adds slot

  begun_same : graph_in table one ≡ graph_in table old
  begun_same = same_graph table old one cell to fine names adds slot

  node_same : (n : ℕ) → node_at (graph_in table new) n ≡ node_at (graph_in table one) n
  node_same n = ap (λ (ns : Nodes). there (slice_get (map (option_map (node_there table (content ns))) ns.list.items) n)) nodes

  pub sets_target : SetsTarget (graph_in table old) (graph_in table new) name (target_of to)
  sets_target = record {
    nodes = ap (λ (ns : Nodes). map (option_map (node_there table (content ns))) ns.list.items) nodes ∙ ap (λ (g : Graph). g.nodes) begun_same;
    at =
        ap (option_map (content new.nodes)) set ∙ ap (λ (ns : Nodes). Some (content ns cell)) nodes
        ∙ ap Some (new_content table old one cell to fine names adds slot);
    others = λ other differ.
        ap (option_map (content new.nodes)) (others other differ) ∙ ap (λ (ns : Nodes). option_map (content ns) (set_for one other)) nodes
        ∙ ap (λ (g : Graph). g.targets other) begun_same;
  }

  slot_kept : (t : Target) → IsSlot (structs_in table) (graph_in table one) t → IsSlot (structs_in table) (graph_in table new) t
  slot_kept t its = record { node = its.node; is = node_same t.node ∙ its.is; inside = its.inside }

  pub graph_set : IsGraph table new
  graph_set = record {
    held = subst AreHeld (sym nodes) begun.held;
    apart = λ n node is. begun.apart n node (ap (λ (ns : Nodes). node_in ns.list.items n) (sym nodes) ∙ is);
    stand = λ n node is. begun.stand n node (ap (λ (ns : Nodes). node_in ns.list.items n) (sym nodes) ∙ is);
    slots = λ c target e. slot_kept (target_of target) (begun.slots c target (ap (λ (ns : Nodes). slice_get ns.cells.items c) (sym nodes) ∙ e));
    sound = record {
      names = λ other t e. slot_kept t (by other t e (name_cases other));
      from = λ n s node t is has. begun.sound.from n s node t (sym (node_same n) ∙ is) has;
      to = λ n s node t is has. slot_kept t (begun.sound.to n s node t (sym (node_same n) ∙ is) has);
    };
  }
    where
      by : (other : Name) (t : Target) → (graph_in table new).targets other ≡ Some t → (other ≡ name) ⊎ (other ≡ name → ⊥) → IsSlot (structs_in table) (graph_in table one) t
      by other t e (inl is) =
          subst (λ g. IsSlot (structs_in table) g t) (sym begun_same)
          (subst (IsSlot (structs_in table) (graph_in table old)) (same_Some (target_of to) t (sym sets_target.at ∙ ap (graph_in table new).targets (sym is) ∙ e)) slot)
      by other t e (inr differ) = begun.sound.names other t (ap (λ (g : Graph). g.targets other) begun_same ∙ sym (sets_target.others other differ) ∙ e)

-- ---- a node's flags

-- none is there
pub sets_none : (table : Interned) (graph : memory_graph.Graph) (number : ℕ) (flags : Flags) → node_in graph.nodes.list.items number ≡ None → SetsFlags (graph_in table graph) (graph_in table graph) number flags
sets_none table graph number flags none = record {
  length = refl;
  at = λ node is. absurd (none-some node (sym (gone_in table graph number none) ∙ is));
  others = λ other differ. refl;
  names = λ name. refl;
}

module _ (table : Interned) (old new : memory_graph.Graph) (number : ℕ) (flags : memory_flags.Flags) (before : memory_node.Node) (same_names : new.names ≡ old.names)
    (gets : WithFlags old.nodes new.nodes number flags before) where
  abbrev after : memory_node.Node
  after = gets.after

  abbrev change : ChangesAt old.nodes.list.items new.nodes.list.items number (Some before) (Some gets.after)
  change = gets.change

  others_flags : (n : ℕ) → (n ≡ number → ⊥) → node_at (graph_in table new) n ≡ node_at (graph_in table old) n
  others_flags n other = node_stays table old new gets.cells gets.change.length n (other_in old.nodes.list.items new.nodes.list.items number before after change n other)

  was : node_in old.nodes.list.items number ≡ Some before
  was = was_in old.nodes.list.items new.nodes.list.items number before after change

  now_is : node_at (graph_in table new) number ≡ Some (record { element = element_in table before.element; flags = flags_of flags; edges = map (edge_of (content old.nodes)) before.edges.items })
  now_is =
      at_held table new number after (now_in old.nodes.list.items new.nodes.list.items number before after change)
      ∙ ap (λ e. Some (record { element = element_in table e; flags = flags_of after.flags; edges = map (edge_of (content new.nodes)) after.edges.items })) gets.element
      ∙ ap (λ f. Some (record { element = element_in table before.element; flags = flags_of f; edges = map (edge_of (content new.nodes)) after.edges.items })) gets.is
      ∙ ap (λ es. Some (record { element = element_in table before.element; flags = flags_of flags; edges = es })) (edges_stay old new gets.cells gets.change.length after.edges.items ∙ ap (map (edge_of (content old.nodes))) gets.edges)

  node_flags : (node : Node) → node_at (graph_in table old) number ≡ Some node → node_at (graph_in table new) number ≡ Some (record { element = node.element; flags = flags_of flags; edges = node.edges })
  node_flags node is =
      now_is
      ∙ ap (λ (m : Node). Some (record { element = m.element; flags = flags_of flags; edges = m.edges }))
      (same_Some (node_there table (content old.nodes) before) node (sym (at_held table old number before was) ∙ is))

  pub sets_flags : SetsFlags (graph_in table old) (graph_in table new) number (flags_of flags)
  sets_flags = record {
    length =
        length-map new.nodes.list.items (option_map (node_there table (content new.nodes))) ∙ gets.change.length ∙ sym (length-map old.nodes.list.items (option_map (node_there table (content old.nodes))));
    at = node_flags;
    others = others_flags;
    names = names_stay table old new same_names gets.cells gets.change.length;
  }

  -- a node of the new graph was there, with the same element and edges
  record Was (n : ℕ) (now : Node) : Type 0 where
    node : Node
    is : node_at (graph_in table old) n ≡ Some node
    same_element : node.element ≡ now.element
    same_edges : node.edges ≡ now.edges

  was_there : (n : ℕ) (now : Node) → node_at (graph_in table new) n ≡ Some now → Was n now
  was_there n now is = by (cases_eq n number)
    where
      by : (n ≡ number) ⊎ (n ≡ number → ⊥) → Was n now
      by (inl at) =
          let same = same_Some (record { element = element_in table before.element; flags = flags_of flags; edges = map (edge_of (content old.nodes)) before.edges.items }) now
          (sym now_is ∙ ap (node_at (graph_in table new)) (sym at) ∙ is) in
          record {
            node = node_there table (content old.nodes) before;
            is = ap (node_at (graph_in table old)) at ∙ at_held table old number before was;
            same_element = ap (λ (m : Node). m.element) same;
            same_edges = ap (λ (m : Node). m.edges) same;
          }
      by (inr other) = record { node = now; is = sym (others_flags n other) ∙ is; same_element = refl; same_edges = refl }

  slot_flags : (t : Target) → IsSlot (structs_in table) (graph_in table old) t → IsSlot (structs_in table) (graph_in table new) t
  slot_flags t slot = by (cases_eq t.node number)
    where
      by : (t.node ≡ number) ⊎ (t.node ≡ number → ⊥) → IsSlot (structs_in table) (graph_in table new) t
      by (inl at) = record {
        node = record { element = slot.node.element; flags = flags_of flags; edges = slot.node.edges };
        is = ap (node_at (graph_in table new)) at ∙ node_flags slot.node (ap (node_at (graph_in table old)) (sym at) ∙ slot.is);
        inside = slot.inside;
      }
      by (inr other) = record { node = slot.node; is = others_flags t.node other ∙ slot.is; inside = slot.inside }

  pub graph_flags : IsGraph table old → IsGraph table new
  graph_flags fine = record {
    held = λ cell target e.
        still_held old.nodes.list.items new.nodes.list.items number before after change (λ c h. subst (λ l. has_number l c ≡ true) (sym gets.list) h) cell target
        (fine.held cell target (sym (ap (λ l. slice_get l cell) gets.cells) ∙ e));
    apart = all_nodes old.nodes.list.items new.nodes.list.items number before after change (λ node. AreApart node.edges.items) fine.apart (subst AreApart (sym gets.edges) (fine.apart number before was));
    stand = all_nodes old.nodes.list.items new.nodes.list.items number before after change (λ node. ElementStands table node.element) fine.stand
        (subst (ElementStands table) (sym gets.element) (fine.stand number before was));
    slots = λ cell target e. slot_flags (target_of target) (fine.slots cell target (sym (ap (λ l. slice_get l cell) gets.cells) ∙ e));
    sound = record {
      names = λ name t e. slot_flags t (fine.sound.names name t (sym (names_stay table old new same_names gets.cells gets.change.length name) ∙ e));
      from = λ n s now t is has.
          let its = was_there n now is in
          subst (λ e. s < slots (structs_in table) e) its.same_element (fine.sound.from n s its.node t its.is (ap (λ es. edge_in es s) its.same_edges ∙ has));
      to = λ n s now t is has.
          let its = was_there n now is in
          slot_flags t (fine.sound.to n s its.node t its.is (ap (λ es. edge_in es s) its.same_edges ∙ has));
    };
  }
