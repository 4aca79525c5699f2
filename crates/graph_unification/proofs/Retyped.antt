-- A node in memory got the element of another: a step of merging. Its cells and edges stay.
use Rattle.std.proofs.Common.{◌≡◌, ℕ, ◌≤◌, true, List, [], ◌∷◌, map, length, Option, Some, None, refl, sym, ap, subst, ◌∙◌, ◌⊎◌, inl, inr}
use Rattle.std.specs.Prelude.{option_map, slice_get}
use Rattle.std.proofs.lemmas.Bool.{cases_eq}
use Rattle.std.proofs.lemmas.Option.{none-some}
use Rattle.std.proofs.lemmas.List.{length-map}
use Rattle.c_typed.specs.Table.{Interned, structs_in}
use Rattle.heap_graph.specs.Structures.{AreMade}
use Rattle.heap_graph.specs.declared.graph.Target as memory_target
use Rattle.heap_graph.specs.Memory.{target_of, element_in, ElementStands, flags_of}
use Rattle.heap_graph.specs.Graphs.{Target, Flags, Edge, Node, node_at}
use Rattle.heap_graph.specs.Targets.{element_kept}
use Rattle.heap_graph.specs.Merging.{slots, IsSlot, count}
use Rattle.heap_graph.specs.Steps.{One, Collapse, Points, AllAreOf, GetsElement}
use Rattle.heap_graph.proofs.ElementStep.{slot_now, sound_now, element_step}
use Rattle.graph_unification.specs.declared.ask.Ask as memory_ask
use Rattle.graph_unification.specs.declared.ask.Ask.TheVariants as A
use Rattle.graph_unification.specs.declared.node.Node as memory_node
use Rattle.graph_unification.specs.declared.graph.Graph as memory_graph
use Rattle.graph_unification.specs.Cells.{has_number}
use Rattle.graph_unification.specs.Memory.{node_in, or_nowhere, content, edge_of, node_there, graph_in, AreApart, IsGraph}
use Rattle.graph_unification.specs.Turns.{asks_in, WithElement, Goes}
use Rattle.graph_unification.proofs.HeldNodes.{at_held, held_slots, with_edges, edges_now, names_now, node_now}
use Rattle.graph_unification.proofs.OneNode.{was_in, now_in, other_in, all_nodes, still_held}
use Rattle.graph_unification.proofs.AddedCell.{unchanged, same_edges, same_target}
use Rattle.graph_unification.proofs.Joined.{count_fewer}

pub same_held : (o : Option Node) → option_map (with_edges unchanged) o ≡ o
same_held None = refl
same_held (Some node) = ap (λ es. Some (record { element = node.element; flags = node.flags; edges = es })) (same_edges node.edges)

module _ (table : Interned) (made : AreMade (structs_in table)) (old new : memory_graph.Graph) (number other : ℕ) (before whole : memory_node.Node) (fine : IsGraph table old) (same_names : new.names ≡ old.names)
    (other_is : node_in old.nodes.list.items other ≡ Some whole) (gets : WithElement old.nodes new.nodes number whole.element before)
    (kept : (flags : Flags) (edges : List Edge) → element_kept (structs_in table) (element_in table before.element) (record { element = element_in table whole.element; flags = flags; edges = edges }) 0 ≡ true)
    (fits : slots (structs_in table) (element_in table before.element) ≤ slots (structs_in table) (element_in table whole.element)) where
  was : node_in old.nodes.list.items number ≡ Some before
  was = was_in old.nodes.list.items new.nodes.list.items number before gets.after gets.change

  now : node_in new.nodes.list.items number ≡ Some gets.after
  now = now_in old.nodes.list.items new.nodes.list.items number before gets.after gets.change

  contents : (cell : ℕ) (t : memory_target.Target) → slice_get old.nodes.cells.items cell ≡ Some t → content new.nodes cell ≡ unchanged (target_of t)
  contents cell t e = ap (or_nowhere (length new.nodes.list.items)) (ap (λ l. slice_get l cell) gets.cells ∙ e)

  same_content : (cell : ℕ) → content new.nodes cell ≡ content old.nodes cell
  same_content cell = ap (λ k. or_nowhere k (slice_get new.nodes.cells.items cell)) gets.change.length ∙ ap (λ l. or_nowhere (length old.nodes.list.items) (slice_get l cell)) gets.cells

  abbrev there : Node
  there = node_there table (content old.nodes) before

  abbrev whole_there : Node
  whole_there = node_there table (content old.nodes) whole

  pub others : (n : ℕ) → (n ≡ number → ⊥) → node_at (graph_in table new) n ≡ node_at (graph_in table old) n
  others n differ =
      node_now table old new fine unchanged same_names contents n (other_in old.nodes.list.items new.nodes.list.items number before gets.after gets.change n differ)
      ∙ same_held (node_at (graph_in table old) n)

  pub node_is : node_at (graph_in table new) number ≡ Some (record { element = whole_there.element; flags = there.flags; edges = there.edges })
  node_is =
      at_held table new number gets.after now
      ∙ ap (λ e. Some (record { element = element_in table e; flags = flags_of gets.after.flags; edges = map (edge_of (content new.nodes)) gets.after.edges.items })) gets.is
      ∙ ap (λ f. Some (record { element = element_in table whole.element; flags = flags_of f; edges = map (edge_of (content new.nodes)) gets.after.edges.items })) gets.flags
      ∙ ap (λ es. Some (record { element = element_in table whole.element; flags = flags_of before.flags; edges = es }))
      (ap (map (edge_of (content new.nodes))) gets.edges ∙ edges_now table old new fine unchanged same_names contents before.edges.items (held_slots table old fine number before was) ∙ same_edges there.edges)

  fewer : count (graph_in table new).nodes ≤ count (graph_in table old).nodes
  fewer = count_fewer (graph_in table old).nodes (graph_in table new).nodes same_length (λ n none. by n none (cases_eq n number))
    where
      same_length : length (graph_in table new).nodes ≡ length (graph_in table old).nodes
      same_length =
          length-map new.nodes.list.items (option_map (node_there table (content new.nodes))) ∙ gets.change.length
          ∙ sym (length-map old.nodes.list.items (option_map (node_there table (content old.nodes))))

      by : (n : ℕ) → node_at (graph_in table old) n ≡ None → (n ≡ number) ⊎ (n ≡ number → ⊥) → node_at (graph_in table new) n ≡ None
      by n none (inl is) = absurd (none-some there (sym none ∙ ap (node_at (graph_in table old)) is ∙ at_held table old number before was))
      by n none (inr differ) = others n differ ∙ none

  change : GetsElement (structs_in table) (graph_in table old) (graph_in table new) number other there whole_there
  change = record {
    is = at_held table old number before was;
    other_is = at_held table old other whole other_is;
    kept = kept;
    fits = fits;
    names = λ name. names_now table old new fine unchanged same_names contents name ∙ same_target ((graph_in table old).targets name);
    at = node_is;
    others = others;
    fewer = fewer;
  }

  -- each cell holds what it held, so that the same is asked
  pub asks_same : (asks : List memory_ask.Ask) → asks_in new.nodes asks ≡ asks_in old.nodes asks
  asks_same [] = refl
  asks_same (A.One a b ∷ asks) =
      ap (λ x. One x (content new.nodes b) ∷ asks_in new.nodes asks) (same_content a) ∙ ap (λ x. One (content old.nodes a) x ∷ asks_in new.nodes asks) (same_content b)
      ∙ ap (λ rest. One (content old.nodes a) (content old.nodes b) ∷ rest) (asks_same asks)
  asks_same (A.Collapse cell ∷ asks) =
      ap (λ (t : Target). Collapse t.node ∷ asks_in new.nodes asks) (same_content cell) ∙ ap (λ rest. Collapse (content old.nodes cell).node ∷ rest) (asks_same asks)
  asks_same (A.Points at to ∷ asks) =
      ap (λ (t : Target). Points t.node t.shift (content new.nodes to) ∷ asks_in new.nodes asks) (same_content at)
      ∙ ap (λ x. Points (content old.nodes at).node (content old.nodes at).shift x ∷ asks_in new.nodes asks) (same_content to)
      ∙ ap (λ rest. Points (content old.nodes at).node (content old.nodes at).shift (content old.nodes to) ∷ rest) (asks_same asks)

  pub graph_now : IsGraph table new
  graph_now = record {
    held = λ cell target e.
        still_held old.nodes.list.items new.nodes.list.items number before gets.after gets.change (λ c h. subst (λ l. has_number l c ≡ true) (sym gets.list) h) cell target
        (fine.held cell target (sym (ap (λ l. slice_get l cell) gets.cells) ∙ e));
    apart = all_nodes old.nodes.list.items new.nodes.list.items number before gets.after gets.change (λ node. AreApart node.edges.items) fine.apart (subst AreApart (sym gets.edges) (fine.apart number before was));
    stand = all_nodes old.nodes.list.items new.nodes.list.items number before gets.after gets.change (λ node. ElementStands table node.element) fine.stand
        (subst (ElementStands table) (sym gets.is) (fine.stand other whole other_is));
    slots = λ cell target e.
        slot_now (structs_in table) made (graph_in table old) (graph_in table new) number other there whole_there fine.sound change (target_of target)
        (fine.slots cell target (sym (ap (λ l. slice_get l cell) gets.cells) ∙ e));
    sound = sound_now (structs_in table) made (graph_in table old) (graph_in table new) number other there whole_there fine.sound change;
  }

  pub retypes : (s : ℕ) (asks : List memory_ask.Ask) → IsSlot (structs_in table) (graph_in table old) (record { node = number; shift = s }) → IsSlot (structs_in table) (graph_in table old) (record { node = other; shift = s })
      → AllAreOf (structs_in table) (graph_in table old) (asks_in old.nodes asks)
      → Goes table old new (One (record { node = number; shift = s }) (record { node = other; shift = s }) ∷ asks_in old.nodes asks) (One (record { node = number; shift = s }) (record { node = other; shift = s }) ∷ asks_in old.nodes asks)
  retypes s asks at_a at_b its = record {
    graph = graph_now;
    step = element_step (structs_in table) made (graph_in table old) (graph_in table new) number other there whole_there fine.sound change s (asks_in old.nodes asks) at_a at_b its;
  }
