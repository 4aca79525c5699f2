-- A node in memory got an edge: a step of merging. Its cells stay.
use Rattle.std.proofs.Common.{◌≡◌, ℕ, ◌<◌, ◌≤◌, true, cond, eqb, List, [], ◌∷◌, ◌++◌, map, length, Some, None, refl, sym, ap, subst, ◌∙◌, ◌⊎◌, inl, inr}
use Rattle.std.specs.Prelude.{option_map, slice_get}
use Rattle.std.proofs.lemmas.Bool.{cases_eq, false≢true, cond-true, cond-false, eq-eqb, ne_eqb}
use Rattle.std.proofs.lemmas.Option.{none-some, same_Some}
use Rattle.std.proofs.lemmas.List.{length-map}
use Rattle.c_typed.specs.Table.{Interned, structs_in}
use Rattle.heap_graph.specs.Structures.{AreMade}
use Rattle.heap_graph.specs.Memory.{target_of, element_in, ElementStands, flags_of}
use Rattle.heap_graph.specs.Graphs.{Target, Node, node_at}
use Rattle.heap_graph.specs.Merging.{slots, IsSlot, count}
use Rattle.heap_graph.specs.Steps.{Points, AllAreOf, Step, GetsEdge}
use Rattle.heap_graph.proofs.EdgeStep.{edge_step}
use Rattle.graph_unification.specs.declared.ask.Ask as memory_ask
use Rattle.graph_unification.specs.declared.node.SlotEdge.{SlotEdge}
use Rattle.graph_unification.specs.declared.node.Node as memory_node
use Rattle.graph_unification.specs.declared.graph.Graph as memory_graph
use Rattle.graph_unification.specs.Cells.{has_number}
use Rattle.graph_unification.specs.Memory.{node_in, content, edge_of, node_there, graph_in, made_edge, AreApart, IsGraph}
use Rattle.graph_unification.specs.Turns.{asks_in, WithEdge, Goes}
use Rattle.graph_unification.proofs.HeldNodes.{at_held, edge_made, one_free}
use Rattle.graph_unification.proofs.SameCells.{same_asks, edges_stay, names_stay, node_stays}
use Rattle.graph_unification.proofs.OneNode.{was_in, now_in, other_in, all_nodes, still_held}
use Rattle.graph_unification.proofs.Joined.{count_fewer}

made_more : (edges : List SlotEdge) (added : SlotEdge) → made_edge edges added.slot ≡ None → made_edge (edges ++ added ∷ []) added.slot ≡ Some added.to
made_more [] added free = cond-true (eqb added.slot added.slot) (Some added.to) None (eq-eqb added.slot added.slot refl)
made_more (edge ∷ edges) added free =
    let rest = one_free (eqb edge.slot added.slot) edge.to (made_edge edges added.slot) free in
    cond-false (eqb edge.slot added.slot) (Some edge.to) (made_edge (edges ++ added ∷ []) added.slot) rest.0 ∙ made_more edges added rest.1

made_others : (edges : List SlotEdge) (added : SlotEdge) (slot : ℕ) → (slot ≡ added.slot → ⊥) → made_edge (edges ++ added ∷ []) slot ≡ made_edge edges slot
made_others [] added slot other = cond-false (eqb added.slot slot) (Some added.to) None (ne_eqb added.slot slot (λ e. other (sym e)))
made_others (edge ∷ edges) added slot other = ap (cond (eqb edge.slot slot) (Some edge.to)) (made_others edges added slot other)

apart_more : (edges : List SlotEdge) (added : SlotEdge) → AreApart edges → made_edge edges added.slot ≡ None → AreApart (edges ++ added ∷ [])
apart_more [] added apart free = (refl, tt)
apart_more (edge ∷ edges) added apart free =
    let rest = one_free (eqb edge.slot added.slot) edge.to (made_edge edges added.slot) free in
    (made_others edges added edge.slot (λ e. absurd (false≢true (sym rest.0 ∙ eq-eqb edge.slot added.slot e))) ∙ apart.0, apart_more edges added apart.1 rest.1)

module _ (table : Interned) (made : AreMade (structs_in table)) (old new : memory_graph.Graph) (number slot to : ℕ) (before : memory_node.Node) (fine : IsGraph table old) (same_names : new.names ≡ old.names)
    (gets : WithEdge old.nodes new.nodes number slot to before) (free : made_edge before.edges.items slot ≡ None) where
  abbrev added : SlotEdge
  added = record { slot = slot; to = to }

  was : node_in old.nodes.list.items number ≡ Some before
  was = was_in old.nodes.list.items new.nodes.list.items number before gets.after gets.change

  now : node_in new.nodes.list.items number ≡ Some gets.after
  now = now_in old.nodes.list.items new.nodes.list.items number before gets.after gets.change

  abbrev there : Node
  there = node_there table (content old.nodes) before

  others : (n : ℕ) → (n ≡ number → ⊥) → node_at (graph_in table new) n ≡ node_at (graph_in table old) n
  others n differ =
      node_stays table old new gets.cells gets.change.length n (other_in old.nodes.list.items new.nodes.list.items number before gets.after gets.change n differ)

  node_is : node_at (graph_in table new) number ≡ Some (record { element = there.element; flags = there.flags; edges = map (edge_of (content old.nodes)) (before.edges.items ++ added ∷ []) })
  node_is =
      at_held table new number gets.after now
      ∙ ap (λ e. Some (record { element = element_in table e; flags = flags_of gets.after.flags; edges = map (edge_of (content new.nodes)) gets.after.edges.items })) gets.element
      ∙ ap (λ f. Some (record { element = element_in table before.element; flags = flags_of f; edges = map (edge_of (content new.nodes)) gets.after.edges.items })) gets.flags
      ∙ ap (λ es. Some (record { element = element_in table before.element; flags = flags_of before.flags; edges = es }))
      (ap (map (edge_of (content new.nodes))) gets.edges ∙ edges_stay old new gets.cells gets.change.length (before.edges.items ++ added ∷ []))

  fewer : count (graph_in table new).nodes ≤ count (graph_in table old).nodes
  fewer = count_fewer (graph_in table old).nodes (graph_in table new).nodes same_length (λ n none. by n none (cases_eq n number))
    where
      same_length : length (graph_in table new).nodes ≡ length (graph_in table old).nodes
      same_length =
          length-map new.nodes.list.items (option_map (node_there table (content new.nodes))) ∙ gets.change.length
          ∙ sym (length-map old.nodes.list.items (option_map (node_there table (content old.nodes))))

      by : (n : ℕ) → node_at (graph_in table old) n ≡ None → (n ≡ number) ⊎ (n ≡ number → ⊥) → node_at (graph_in table new) n ≡ None
      by n none (inl is) = absurd (none-some there (sym none ∙ ap (node_at (graph_in table old)) is ∙ at_held table old number before was))
      by n none (inr differ) = others n differ ∙ none

  change : GetsEdge (graph_in table old) (graph_in table new) number slot (content old.nodes to) there
  change = record {
    is = at_held table old number before was;
    free = edge_made (content old.nodes) before.edges.items slot ∙ ap (option_map (content old.nodes)) free;
    names = names_stay table old new same_names gets.cells gets.change.length;
    edges = map (edge_of (content old.nodes)) (before.edges.items ++ added ∷ []);
    at = node_is;
    here = edge_made (content old.nodes) (before.edges.items ++ added ∷ []) slot ∙ ap (option_map (content old.nodes)) (made_more before.edges.items added free);
    there = λ other differs.
        edge_made (content old.nodes) (before.edges.items ++ added ∷ []) other
        ∙ ap (option_map (content old.nodes)) (made_others before.edges.items added other differs)
        ∙ sym (edge_made (content old.nodes) before.edges.items other);
    others = others;
    fewer = fewer;
  }

  slot_now : (t : Target) → IsSlot (structs_in table) (graph_in table old) t → IsSlot (structs_in table) (graph_in table new) t
  slot_now t its = by (cases_eq t.node number)
    where
      by : (t.node ≡ number) ⊎ (t.node ≡ number → ⊥) → IsSlot (structs_in table) (graph_in table new) t
      by (inl at) =
          let same : its.node ≡ there = same_Some its.node there (sym its.is ∙ ap (node_at (graph_in table old)) at ∙ at_held table old number before was) in
          record {
            node = record { element = there.element; flags = there.flags; edges = map (edge_of (content old.nodes)) (before.edges.items ++ added ∷ []) };
            is = ap (node_at (graph_in table new)) at ∙ node_is;
            inside = subst (λ (n : Node). t.shift < slots (structs_in table) n.element) same its.inside;
          }
      by (inr differ) = record { node = its.node; is = others t.node differ ∙ its.is; inside = its.inside }

  pub gets_edge : IsSlot (structs_in table) (graph_in table old) (record { node = number; shift = slot }) → IsSlot (structs_in table) (graph_in table old) (content old.nodes to)
      → (asks : List memory_ask.Ask) → AllAreOf (structs_in table) (graph_in table old) (asks_in old.nodes asks)
      → Goes table old new (Points number slot (content old.nodes to) ∷ asks_in old.nodes asks) (asks_in new.nodes asks)
  gets_edge from end asks its =
      let step = edge_step (structs_in table) made (graph_in table old) (graph_in table new) number slot (content old.nodes to) there fine.sound change from end (asks_in old.nodes asks) its in
      record {
        graph = record {
          held = λ cell target e.
              still_held old.nodes.list.items new.nodes.list.items number before gets.after gets.change (λ c h. subst (λ l. has_number l c ≡ true) (sym gets.list) h) cell target
              (fine.held cell target (sym (ap (λ l. slice_get l cell) gets.cells) ∙ e));
          apart = all_nodes old.nodes.list.items new.nodes.list.items number before gets.after gets.change (λ node. AreApart node.edges.items) fine.apart
              (subst AreApart (sym gets.edges) (apart_more before.edges.items added (fine.apart number before was) free));
          stand = all_nodes old.nodes.list.items new.nodes.list.items number before gets.after gets.change (λ node. ElementStands table node.element) fine.stand
              (subst (ElementStands table) (sym gets.element) (fine.stand number before was));
          slots = λ cell target e. slot_now (target_of target) (fine.slots cell target (sym (ap (λ l. slice_get l cell) gets.cells) ∙ e));
          sound = step.sound;
        };
        step = subst (Step (structs_in table) (graph_in table old) (graph_in table new) (Points number slot (content old.nodes to) ∷ asks_in old.nodes asks)) (sym (same_asks old new gets.cells gets.change.length asks)) step;
      }
