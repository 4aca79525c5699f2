-- What is asked is settled turn by turn.
use Rattle.std.proofs.Common.{◌≡◌, ℕ, ◌<◌, List, [], ◌∷◌, ◌++◌, map, reverse, length, Some, refl, sym, ap, subst, ◌∙◌, arith, eqb}
use Rattle.std.specs.Prelude.{slice_get}
use Rattle.std.proofs.lemmas.Bool.{cond-true, eq-eqb}
use Rattle.std.proofs.lemmas.List.{reverse-append}
use Rattle.c_typed.specs.Table.{Interned, structs_in}
use Rattle.heap_graph.specs.Structures.{AreMade}
use Rattle.heap_graph.specs.declared.graph.Target as memory_target
use Rattle.heap_graph.specs.Memory.{target_of}
use Rattle.heap_graph.specs.Graphs.{Target, Node, edge_in}
use Rattle.heap_graph.specs.Merging.{IsSlot, LeastWith, AreOne, IsCollapsed, HasEdge}
use Rattle.heap_graph.specs.Steps.{Ask, One, Collapse, Points, IsNode, IsOf, AllAreOf, Holds}
use Rattle.heap_graph.proofs.StepsCompose.{finished}
use Rattle.graph_unification.specs.declared.ask.Ask as memory_ask
use Rattle.graph_unification.specs.declared.node.SlotEdge.{SlotEdge}
use Rattle.graph_unification.specs.declared.graph.Graph as memory_graph
use Rattle.graph_unification.specs.Memory.{content, edge_of, graph_in, IsGraph}
use Rattle.graph_unification.specs.Turns.{ask_in, asks_in, edges_of_held, edges_in, AddsCell, Flattens, Goes}
use Rattle.graph_unification.proofs.HeldNodes.{there_in, held_some}
use Rattle.graph_unification.proofs.AddedCell.{new_content, kept_content, same_graph, graph_now}
use Rattle.graph_unification.proofs.Flattened.{collapses_bare}
use Rattle.graph_unification.proofs.GoingOn.{goes_on, goes_nowhere}

pub popped : {A : Type 0} (old new : List A) (x : A) → old ≡ new ++ x ∷ [] → reverse old ≡ x ∷ reverse new
popped old new x e = ap reverse e ∙ reverse-append new (x ∷ [])

pub none_of_length : {A : Type 0} (xs : List A) → length xs ≡ 0 → xs ≡ []
none_of_length [] e = refl
none_of_length (x ∷ xs) e = absurd (omega (arith, e))

module _ (table : Interned) (made : AreMade (structs_in table)) (first : memory_graph.Graph) (fine : IsGraph table first) (ask : memory_ask.Ask)
    (its : IsOf (structs_in table) (graph_in table first) (ask_in first.nodes ask)) where
  -- at the start
  pub starts : (work : List memory_ask.Ask) → work ≡ ask ∷ [] → Goes table first first (ask_in first.nodes ask ∷ []) (asks_in first.nodes work)
  starts work e =
      subst (λ w. Goes table first first (ask_in first.nodes ask ∷ []) (asks_in first.nodes w)) (sym e)
      (goes_nowhere table made first fine (ask_in first.nodes ask ∷ []) (its, tt))

  module _ (now : memory_graph.Graph) (work rest : List memory_ask.Ask) (next : memory_ask.Ask) (goes : Goes table first now (ask_in first.nodes ask ∷ []) (asks_in now.nodes work)) (e : work ≡ next ∷ rest) where
    -- what is asked is of slots that are there
    pub asked : AllAreOf (structs_in table) (graph_in table now) (asks_in now.nodes (next ∷ rest))
    asked = subst (λ w. AllAreOf (structs_in table) (graph_in table now) (asks_in now.nodes w)) e goes.step.asks

    -- one turn more
    pub turns : (new : memory_graph.Graph) (after : List Ask) → Goes table now new (asks_in now.nodes (next ∷ rest)) after → Goes table first new (ask_in first.nodes ask ∷ []) after
    turns new after turn =
        goes_on table made first now new fine (ask_in first.nodes ask ∷ []) (asks_in now.nodes (next ∷ rest)) after (its, tt)
        (subst (λ w. Goes table first now (ask_in first.nodes ask ∷ []) (asks_in now.nodes w)) e goes) turn

  -- where nothing is left
  pub ends : (now : memory_graph.Graph) (work : List memory_ask.Ask) → work ≡ [] → Goes table first now (ask_in first.nodes ask ∷ []) (asks_in now.nodes work) → Goes table first now (ask_in first.nodes ask ∷ []) []
  ends now work e goes = subst (λ w. Goes table first now (ask_in first.nodes ask ∷ []) (asks_in now.nodes w)) e goes

-- ---- what is settled

-- of the graph to which cells were added
settled : (table : Interned) → AreMade (structs_in table) → (old begun new : memory_graph.Graph) (ask : Ask) → graph_in table begun ≡ graph_in table old → Goes table begun new (ask ∷ []) []
    → LeastWith (structs_in table) (graph_in table old) (graph_in table new) (Holds ask)
settled table made old begun new ask same goes =
    subst (λ graph. LeastWith (structs_in table) graph (graph_in table new) (Holds ask)) same (finished (structs_in table) made (graph_in table begun) (graph_in table new) ask goes.step)

module _ (table : Interned) (made : AreMade (structs_in table)) (old one : memory_graph.Graph) (first : ℕ) (a : memory_target.Target) (fine : IsGraph table old) (names : one.names ≡ old.names)
    (adds : AddsCell old.nodes one.nodes first a) (slot : IsSlot (structs_in table) (graph_in table old) (target_of a)) where
  pub one_graph : IsGraph table one
  one_graph = graph_now table old one first a fine names adds slot

  pub one_same : graph_in table one ≡ graph_in table old
  one_same = same_graph table old one first a fine names adds slot

  pub one_first : content one.nodes first ≡ target_of a
  one_first = new_content table old one first a fine names adds slot

  pub one_slot : IsSlot (structs_in table) (graph_in table one) (content one.nodes first)
  one_slot = subst (IsSlot (structs_in table) (graph_in table one)) (sym one_first) (subst (λ graph. IsSlot (structs_in table) graph (target_of a)) (sym one_same) slot)

  pub one_node : IsNode (graph_in table one) (content one.nodes first).node
  one_node = (one_slot.node, one_slot.is)

  pub least_collapsed : (new : memory_graph.Graph) → Goes table one new (Collapse (content one.nodes first).node ∷ []) [] → LeastWith (structs_in table) (graph_in table old) (graph_in table new) (IsCollapsed a.node)
  least_collapsed new goes =
      subst (λ (t : Target). LeastWith (structs_in table) (graph_in table old) (graph_in table new) (IsCollapsed t.node)) one_first
      (settled table made old one new (Collapse (content one.nodes first).node) one_same goes)

  module _ (two : memory_graph.Graph) (second : ℕ) (b : memory_target.Target) (more_names : two.names ≡ one.names) (more : AddsCell one.nodes two.nodes second b)
      (other : IsSlot (structs_in table) (graph_in table old) (target_of b)) where
    b_in_one : IsSlot (structs_in table) (graph_in table one) (target_of b)
    b_in_one = subst (λ graph. IsSlot (structs_in table) graph (target_of b)) (sym one_same) other

    pub two_graph : IsGraph table two
    two_graph = graph_now table one two second b one_graph more_names more b_in_one

    two_same : graph_in table two ≡ graph_in table old
    two_same = same_graph table one two second b one_graph more_names more b_in_one ∙ one_same

    two_first : content two.nodes first ≡ target_of a
    two_first = kept_content table one two second b one_graph more_names more b_in_one first one_slot ∙ one_first

    two_second : content two.nodes second ≡ target_of b
    two_second = new_content table one two second b one_graph more_names more b_in_one

    pub two_slots : IsSlot (structs_in table) (graph_in table two) (content two.nodes first) × IsSlot (structs_in table) (graph_in table two) (content two.nodes second)
    two_slots = (
      subst (IsSlot (structs_in table) (graph_in table two)) (sym two_first) (subst (λ graph. IsSlot (structs_in table) graph (target_of a)) (sym two_same) slot),
      subst (IsSlot (structs_in table) (graph_in table two)) (sym two_second) (subst (λ graph. IsSlot (structs_in table) graph (target_of b)) (sym two_same) other),
    )

    pub least_one : (new : memory_graph.Graph) → Goes table two new (One (content two.nodes first) (content two.nodes second) ∷ []) []
        → LeastWith (structs_in table) (graph_in table old) (graph_in table new) (AreOne (target_of a) (target_of b))
    least_one new goes =
        subst (λ t. LeastWith (structs_in table) (graph_in table old) (graph_in table new) (AreOne (target_of a) t)) two_second
        (subst (λ t. LeastWith (structs_in table) (graph_in table old) (graph_in table new) (AreOne t (content two.nodes second))) two_first
        (settled table made old two new (One (content two.nodes first) (content two.nodes second)) two_same goes))

    pub least_edge : (new : memory_graph.Graph) → Goes table two new (Points (content two.nodes first).node (content two.nodes first).shift (content two.nodes second) ∷ []) []
        → LeastWith (structs_in table) (graph_in table old) (graph_in table new) (HasEdge a.node a.shift (target_of b))
    least_edge new goes =
        subst (λ t. LeastWith (structs_in table) (graph_in table old) (graph_in table new) (HasEdge a.node a.shift t)) two_second
        (subst (λ (t : Target). LeastWith (structs_in table) (graph_in table old) (graph_in table new) (HasEdge t.node t.shift (content two.nodes second))) two_first
        (settled table made old two new (Points (content two.nodes first).node (content two.nodes first).shift (content two.nodes second)) two_same goes))

-- a node that has edges has slots
pub first_slot : (table : Interned) (graph : memory_graph.Graph) → IsGraph table graph → (n : ℕ) → IsNode (graph_in table graph) n → 0 < length (edges_in graph.nodes.list.items n)
    → IsSlot (structs_in table) (graph_in table graph) (record { node = n; shift = 0 })
first_slot table graph fine n node some =
    let held = there_in table graph n node.0 node.1 in
    by held.held.edges.items (ap (λ (x : Node). x.edges) held.means) (subst (λ o. 0 < length (edges_of_held o)) held.is some)
  where
    by : (edges : List SlotEdge) → map (edge_of (content graph.nodes)) edges ≡ node.0.edges → 0 < length edges → IsSlot (structs_in table) (graph_in table graph) (record { node = n; shift = 0 })
    by [] e some = absurd (omega (arith, some))
    by (edge ∷ edges) e some =
        let found : edge_in node.0.edges edge.slot ≡ Some (content graph.nodes edge.to) =
        ap (λ es. edge_in es edge.slot) (sym e) ∙ cond-true (eqb edge.slot edge.slot) (Some (content graph.nodes edge.to)) (edge_in (map (edge_of (content graph.nodes)) edges) edge.slot) (eq-eqb edge.slot edge.slot refl) in
        let inside = fine.sound.from n edge.slot node.0 (content graph.nodes edge.to) node.1 found in
        record { node = node.0; is = node.1; inside = omega (arith, inside) }

-- and one that has none is collapsed at once
pub least_bare : (table : Interned) → AreMade (structs_in table) → (old new : memory_graph.Graph) → IsGraph table old → new.names ≡ old.names → (n : ℕ) → IsNode (graph_in table old) n
    → length (edges_in old.nodes.list.items n) ≡ 0 → Flattens old.nodes new.nodes n → IsGraph table new × LeastWith (structs_in table) (graph_in table old) (graph_in table new) (IsCollapsed n)
least_bare table made old new fine names n node none flattens =
    let held = there_in table old n node.0 node.1 in
    let goes = collapses_bare table made old new n held.held fine names (flattens held.held (held_some (slice_get old.nodes.list.items n) held.held held.is))
    (none_of_length held.held.edges.items (subst (λ o. length (edges_of_held o) ≡ 0) held.is none)) in
    (goes.graph, finished (structs_in table) made (graph_in table old) (graph_in table new) (Collapse n) goes.step)
