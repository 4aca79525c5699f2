-- A node is collapsed: a step.
use Rattle.std.proofs.Common.{◌≡◌, ℕ, ◌<◌, Bool, true, false, cond, eqb, List, [], ◌∷◌, map, Some, refl, sym, ap, subst, ◌∙◌, arith, ◌⊎◌, inl, inr}
use Rattle.std.specs.Prelude.{option_map}
use Rattle.std.proofs.lemmas.Bool.{cases_eq, cond-true, cond-false, eq-eqb, ne_eqb}
use Rattle.std.proofs.lemmas.Option.{none-some, same_Some}
use Rattle.c_typed.specs.Layouts.{StructDef}
use Rattle.heap_graph.specs.Structures.{AreMade}
use Rattle.heap_graph.specs.Graphs.{Target, Element, Missing, OfType, Collapsed, Flags, Edge, Node, Graph, edge_in, node_at}
use Rattle.heap_graph.specs.Targets.{at_target, edge_at, marks_kept, element_kept}
use Rattle.heap_graph.specs.Merging.{slots, IsSlot, IsSound, GraphMap, mapped, Maps, IsCollapsed}
use Rattle.heap_graph.specs.Steps.{Ask, One, Collapse, Points, Holds, AllHold, IsNode, IsOf, AllAreOf, via, unmoved, Step, AreFound, flattened, flattened_edge, flattened_node, flattened_ask, flattened_asks, asked_once, IsFlattened}
use Rattle.heap_graph.proofs.MapsCompose.{at_there, at_from, edge_there, target_in, mapped_there, via_there, KeepsNodes, keeps_nodes, places, go_through, edge_through, edge_reached}
use Rattle.heap_graph.proofs.StepsCompose.{settled_slot, flags_itself, kept_itself, collapsed_like}
use Rattle.heap_graph.proofs.AskSteps.{one_slot}
use Rattle.heap_graph.proofs.PartStep.{of_map}

flattened_edge_in : (number : ℕ) (edges : List Edge) (slot : ℕ) → edge_in (map (flattened_edge number) edges) slot ≡ option_map (flattened number) (edge_in edges slot)
flattened_edge_in number [] slot = refl
flattened_edge_in number (edge ∷ edges) slot = by (eqb edge.slot slot) (flattened_edge_in number edges slot)
  where
    by : (b : Bool) → edge_in (map (flattened_edge number) edges) slot ≡ option_map (flattened number) (edge_in edges slot)
        → cond b (Some (flattened number edge.to)) (edge_in (map (flattened_edge number) edges) slot) ≡ option_map (flattened number) (cond b (Some edge.to) (edge_in edges slot))
    by true rest = refl
    by false rest = rest

into_collapsed : (structs : List StructDef) (e : Element) (flags : Flags) (edges : List Edge) (s : ℕ) → element_kept structs e (record { element = Collapsed; flags = flags; edges = edges }) s ≡ true
into_collapsed structs Missing flags edges s = refl
into_collapsed structs (OfType t) flags edges s = refl
into_collapsed structs Collapsed flags edges s = refl

module _ (number : ℕ) where
  flattened_there : (target : Target) → target.node ≡ number → flattened number target ≡ record { node = number; shift = 0 }
  flattened_there target e = cond-true (eqb target.node number) (record { node = number; shift = 0 }) target (eq-eqb target.node number e)

  flattened_other : (target : Target) → (target.node ≡ number → ⊥) → flattened number target ≡ target
  flattened_other target differ = cond-false (eqb target.node number) (record { node = number; shift = 0 }) target (ne_eqb target.node number differ)

module _ (structs : List StructDef) (made : AreMade structs) (old new : Graph) (number : ℕ) (node : Node) (sound : IsSound structs old) (change : IsFlattened structs old new number node) where
  abbrev flat : Node
  flat = record { element = Collapsed; flags = node.flags; edges = [] }

  other_node : (at : ℕ) (its : Node) → (at ≡ number → ⊥) → node_at old at ≡ Some its → node_at new at ≡ Some (flattened_node number its)
  other_node at its p e = change.others at p ∙ ap (option_map (flattened_node number)) e

  same_node : (at : ℕ) (its : Node) → at ≡ number → node_at old at ≡ Some its → node ≡ its
  same_node at its p e = same_Some node its (sym change.is ∙ ap (node_at old) (sym p) ∙ e)

  slot_image : (target : Target) → IsSlot structs old target → mapped new unmoved target ≡ Some (flattened number target)
  slot_image target slot = by (cases_eq target.node number)
    where
      by : (target.node ≡ number) ⊎ (target.node ≡ number → ⊥) → mapped new unmoved target ≡ Some (flattened number target)
      by (inl p) =
          mapped_there new unmoved target flat (ap (node_at new) p ∙ change.at)
          ∙ ap (λ n. Some (record { node = n; shift = 0 })) p ∙ ap Some (sym (flattened_there number target p))
      by (inr p) =
          mapped_there new unmoved target (flattened_node number slot.node) (other_node target.node slot.node p slot.is)
          ∙ ap (λ s. Some (record { node = target.node; shift = s })) (sym (settled_slot structs slot.node.element target.shift slot.inside))
          ∙ ap Some (sym (flattened_other number target p))

  slot_flat : (target : Target) → IsSlot structs old target → IsSlot structs new (flattened number target)
  slot_flat target slot = by (cases_eq target.node number)
    where
      by : (target.node ≡ number) ⊎ (target.node ≡ number → ⊥) → IsSlot structs new (flattened number target)
      by (inl p) = subst (IsSlot structs new) (sym (flattened_there number target p)) (record { node = flat; is = change.at; inside = omega arith })
      by (inr p) =
          subst (IsSlot structs new) (sym (flattened_other number target p))
          (record { node = flattened_node number slot.node; is = other_node target.node slot.node p slot.is; inside = slot.inside })

  keeps : KeepsNodes structs old new unmoved
  keeps = record {
    names = λ name target e. change.names name ∙ ap (option_map (flattened number)) e ∙ sym (slot_image target (sound.names name target e));
    elements = λ at its e. elements_by at its e (cases_eq at number);
    flags = λ at its e. flags_by at its e (cases_eq at number);
  }
    where
      elements_by : (at : ℕ) (its : Node) → node_at old at ≡ Some its → (at ≡ number) ⊎ (at ≡ number → ⊥) → at_target new (Some (unmoved at)) (element_kept structs its.element) ≡ true
      elements_by at its e (inl p) = at_from new (unmoved at) (element_kept structs its.element) flat (ap (node_at new) p ∙ change.at) (into_collapsed structs its.element node.flags [] 0)
      elements_by at its e (inr p) =
          at_from new (unmoved at) (element_kept structs its.element) (flattened_node number its) (other_node at its p e)
          (kept_itself structs made its.element its.flags (map (flattened_edge number) its.edges))

      flags_by : (at : ℕ) (its : Node) → node_at old at ≡ Some its → (at ≡ number) ⊎ (at ≡ number → ⊥) → at_target new (Some (unmoved at)) (λ image shift. marks_kept its.flags image.flags) ≡ true
      flags_by at its e (inl p) =
          subst (λ (n : Node). at_target new (Some (unmoved at)) (λ image shift. marks_kept n.flags image.flags) ≡ true) (same_node at its p e)
          (at_from new (unmoved at) (λ image shift. marks_kept node.flags image.flags) flat (ap (node_at new) p ∙ change.at) (flags_itself node.flags))
      flags_by at its e (inr p) =
          at_from new (unmoved at) (λ image shift. marks_kept its.flags image.flags) (flattened_node number its) (other_node at its p e) (flags_itself its.flags)

  -- where a node of the new graph has an edge, the old one had
  record Had (at slot : ℕ) (now : Node) (to : Target) : Type 0 where
    before : Node
    is : node_at old at ≡ Some before
    element : before.element ≡ now.element
    target : Target
    edge : edge_in before.edges slot ≡ Some target
    flattens : flattened number target ≡ to

  had : (at slot : ℕ) (now : Node) (to : Target) → node_at new at ≡ Some now → edge_in now.edges slot ≡ Some to → Had at slot now to
  had at slot now to e has = by (cases_eq at number)
    where
      by : (at ≡ number) ⊎ (at ≡ number → ⊥) → Had at slot now to
      by (inl p) =
          let its : flat ≡ now = same_Some flat now (sym change.at ∙ ap (node_at new) (sym p) ∙ e) in
          absurd (none-some to (ap (λ (n : Node). edge_in n.edges slot) its ∙ has))
      by (inr p) =
          let its = of_map (flattened_node number) (node_at old at) now (sym (change.others at p) ∙ e) in
          let edge = of_map (flattened number) (edge_in its.0.edges slot) to (sym (flattened_edge_in number its.0.edges slot) ∙ ap (λ (n : Node). edge_in n.edges slot) its.1.1 ∙ has) in
          record { before = its.0; is = its.1.0; element = ap (λ (n : Node). n.element) its.1.1; target = edge.0; edge = edge.1.0; flattens = edge.1.1 }

  sound_new : IsSound structs new
  sound_new = record {
    names = λ name target e.
        let its = of_map (flattened number) (old.targets name) target (sym (change.names name) ∙ e) in
        subst (IsSlot structs new) its.1.1 (slot_flat its.0 (sound.names name its.0 its.1.0));
    from = λ at slot now to e has.
        let its = had at slot now to e has in
        subst (λ x. slot < slots structs x) its.element (sound.from at slot its.before its.target its.is its.edge);
    to = λ at slot now to e has.
        let its = had at slot now to e has in
        subst (IsSlot structs new) its.flattens (slot_flat its.target (sound.to at slot its.before its.target its.is its.edge));
  }

  there_new : (at : ℕ) → IsNode old at → IsNode new at
  there_new at its =
      let there = at_there new (unmoved at) (element_kept structs its.0.element) (keeps.elements at its.0 its.1) in
      (there.node, there.is)

  ask_new : (ask : Ask) → IsOf structs old ask → IsOf structs new (flattened_ask number ask)
  ask_new (One a b) its = (slot_flat a its.0, slot_flat b its.1)
  ask_new (Collapse at) its = there_new at its
  ask_new (Points at slot to) its = (slot_flat (record { node = at; shift = slot }) its.0, slot_flat to its.1)

  asks_new : (asks : List Ask) → AllAreOf structs old asks → AllAreOf structs new (flattened_asks number asks)
  asks_new [] its = tt
  asks_new (ask ∷ asks) its = (ask_new ask its.0, asks_new asks its.1)

  edges_new : (edges : List Edge) → AreFound node.edges edges → (asks : List Ask) → AllAreOf structs new asks → AllAreOf structs new (asked_once number edges asks)
  edges_new [] found asks its = its
  edges_new (edge ∷ edges) found asks its =
      ((record { node = flat; is = change.at; inside = omega arith }, slot_flat edge.to (sound.to number edge.slot node edge.to change.is found.0)), edges_new edges found.1 asks its)

  module _ (other : Graph) (rest : GraphMap) (maps : Maps structs new other rest) where
    kept_nodes : KeepsNodes structs old other (via other rest unmoved)
    kept_nodes = keeps_nodes structs made old new other unmoved rest sound keeps maps

    via_slot : (target : Target) → IsSlot structs old target → mapped other (via other rest unmoved) target ≡ mapped other rest (flattened number target)
    via_slot target slot =
        let p = places structs made old new other unmoved rest sound keeps maps target.node slot.node slot.is in
        let same : target_in unmoved target p.middle ≡ flattened number target =
        same_Some (target_in unmoved target p.middle) (flattened number target) (sym (mapped_there new unmoved target p.middle p.middle_is) ∙ slot_image target slot) in
        sym (go_through structs made old new other unmoved rest sound keeps maps target slot.node slot.is) ∙ ap (mapped other rest) same

    collapsed_old : (at : ℕ) → IsNode old at → IsCollapsed at other rest → IsCollapsed at other (via other rest unmoved)
    collapsed_old at its h =
        let p = places structs made old new other unmoved rest sound keeps maps at its.0 its.1 in
        collapsed_like other (rest at) (via other rest unmoved at) (sym (ap (λ (t : Target). t.node) (via_there other rest unmoved at p.last p.last_is))) h

    ask_old : (ask : Ask) → IsOf structs old ask → Holds (flattened_ask number ask) other rest → Holds ask other (via other rest unmoved)
    ask_old (One a b) its h = via_slot a its.0 ∙ h ∙ sym (via_slot b its.1)
    ask_old (Collapse at) its h = collapsed_old at its h
    ask_old (Points at slot to) its h = ap (edge_at other) (via_slot (record { node = at; shift = slot }) its.0) ∙ h ∙ sym (via_slot to its.1)

    asks_old : (asks : List Ask) → AllAreOf structs old asks → AllHold (flattened_asks number asks) other rest → AllHold asks other (via other rest unmoved)
    asks_old [] its h = tt
    asks_old (ask ∷ asks) its h = (ask_old ask its.0 h.0, asks_old asks its.1 h.1)

    behind_edges : (edges : List Edge) (asks : List Ask) → AllHold (asked_once number edges asks) other rest → AllHold asks other rest
    behind_edges [] asks h = h
    behind_edges (edge ∷ edges) asks h = behind_edges edges asks h.1

    edge_asked : (edges : List Edge) (asks : List Ask) → AllHold (asked_once number edges asks) other rest → (slot : ℕ) (to : Target) → edge_in edges slot ≡ Some to
        → Holds (Points number 0 (flattened number to)) other rest
    edge_asked [] asks h slot to has = absurd (none-some to has)
    edge_asked (edge ∷ edges) asks h slot to has = by (eqb edge.slot slot) has (λ e. edge_asked edges asks h.1 slot to e)
      where
        by : (b : Bool) → cond b (Some edge.to) (edge_in edges slot) ≡ Some to → (edge_in edges slot ≡ Some to → Holds (Points number 0 (flattened number to)) other rest)
            → Holds (Points number 0 (flattened number to)) other rest
        by true e later = subst (λ t. Holds (Points number 0 (flattened number t)) other rest) (same_Some edge.to to e) h.0
        by false e later = later e

    old_maps : (asks : List Ask) → AllHold (asked_once number node.edges asks) other rest → Maps structs old other (via other rest unmoved)
    old_maps asks h = record {
      names = kept_nodes.names;
      elements = kept_nodes.elements;
      flags = kept_nodes.flags;
      edges = λ at slot its to e has. by at slot its to e has (cases_eq at number);
    }
      where
        by : (at slot : ℕ) (its : Node) (to : Target) (e : node_at old at ≡ Some its) (has : edge_in its.edges slot ≡ Some to) → (at ≡ number) ⊎ (at ≡ number → ⊥)
            → edge_at other (mapped other (via other rest unmoved) (record { node = at; shift = slot })) ≡ mapped other (via other rest unmoved) to
        by at slot its to e has (inl p) =
            let from : IsSlot structs old (record { node = at; shift = slot }) = record { node = its; is = e; inside = sound.from at slot its to e has } in
            let end = sound.to at slot its to e has in
            let asked = edge_asked node.edges asks h slot to (ap (λ (n : Node). edge_in n.edges slot) (same_node at its p e) ∙ has) in
            edge_reached structs made old new other unmoved rest sound keeps maps at slot its to e has
            (record { node = number; shift = 0 }) (flattened number to)
            (slot_image (record { node = at; shift = slot }) from ∙ ap Some (flattened_there number (record { node = at; shift = slot }) p)) (slot_image to end) asked
        by at slot its to e has (inr p) =
            let from : IsSlot structs old (record { node = at; shift = slot }) = record { node = its; is = e; inside = sound.from at slot its to e has } in
            let end = sound.to at slot its to e has in
            edge_through structs made old new other unmoved rest sound keeps maps at slot its to e has
            (ap (edge_at new) (slot_image (record { node = at; shift = slot }) from ∙ ap Some (flattened_other number (record { node = at; shift = slot }) p))
            ∙ edge_there new (record { node = at; shift = slot }) (flattened_node number its) (other_node at its p e) ∙ flattened_edge_in number its.edges slot
            ∙ ap (option_map (flattened number)) has ∙ sym (slot_image to end))

  module _ (other : Graph) (into : GraphMap) (maps : Maps structs old other into) (asked : IsCollapsed number other into) where
    flat_same : (target : Target) → mapped other into (flattened number target) ≡ mapped other into target
    flat_same target = by (cases_eq target.node number)
      where
        by : (target.node ≡ number) ⊎ (target.node ≡ number → ⊥) → mapped other into (flattened number target) ≡ mapped other into target
        by (inl p) = ap (mapped other into) (flattened_there number target p) ∙ one_slot other into (record { node = number; shift = 0 }) target (ap into (sym p)) asked
        by (inr p) = ap (mapped other into) (flattened_other number target p)

    new_maps : Maps structs new other into
    new_maps = record {
      names = λ name target e.
          let its = of_map (flattened number) (old.targets name) target (sym (change.names name) ∙ e) in
          maps.names name its.0 its.1.0 ∙ sym (flat_same its.0) ∙ ap (mapped other into) its.1.1;
      elements = λ at now e. elements_by at now e (cases_eq at number);
      flags = λ at now e. flags_by at now e (cases_eq at number);
      edges = λ at slot now to e has.
          let its = had at slot now to e has in
          maps.edges at slot its.before its.target its.is its.edge ∙ sym (flat_same its.target) ∙ ap (mapped other into) its.flattens;
    }
      where
        elements_by : (at : ℕ) (now : Node) → node_at new at ≡ Some now → (at ≡ number) ⊎ (at ≡ number → ⊥) → at_target other (Some (into at)) (element_kept structs now.element) ≡ true
        elements_by at now e (inl p) =
            let its : flat ≡ now = same_Some flat now (sym change.at ∙ ap (node_at new) (sym p) ∙ e) in
            subst (λ (n : Node). at_target other (Some (into at)) (element_kept structs n.element) ≡ true) its (subst (λ n. IsCollapsed n other into) (sym p) asked)
        elements_by at now e (inr p) =
            let its = of_map (flattened_node number) (node_at old at) now (sym (change.others at p) ∙ e) in
            subst (λ (n : Node). at_target other (Some (into at)) (element_kept structs n.element) ≡ true) its.1.1 (maps.elements at its.0 its.1.0)

        flags_by : (at : ℕ) (now : Node) → node_at new at ≡ Some now → (at ≡ number) ⊎ (at ≡ number → ⊥) → at_target other (Some (into at)) (λ image shift. marks_kept now.flags image.flags) ≡ true
        flags_by at now e (inl p) =
            let its : flat ≡ now = same_Some flat now (sym change.at ∙ ap (node_at new) (sym p) ∙ e) in
            subst (λ (n : Node). at_target other (Some (into at)) (λ image shift. marks_kept n.flags image.flags) ≡ true) its (maps.flags at node (ap (node_at old) p ∙ change.is))
        flags_by at now e (inr p) =
            let its = of_map (flattened_node number) (node_at old at) now (sym (change.others at p) ∙ e) in
            subst (λ (n : Node). at_target other (Some (into at)) (λ image shift. marks_kept n.flags image.flags) ≡ true) its.1.1 (maps.flags at its.0 its.1.0)

    ask_holds : (ask : Ask) → Holds ask other into → Holds (flattened_ask number ask) other into
    ask_holds (One a b) h = flat_same a ∙ h ∙ sym (flat_same b)
    ask_holds (Collapse at) h = h
    ask_holds (Points at slot to) h = ap (edge_at other) (flat_same (record { node = at; shift = slot })) ∙ h ∙ sym (flat_same to)

    asks_hold : (asks : List Ask) → AllHold asks other into → AllHold (flattened_asks number asks) other into
    asks_hold [] h = tt
    asks_hold (ask ∷ asks) h = (ask_holds ask h.0, asks_hold asks h.1)

    edges_hold : (edges : List Edge) → AreFound node.edges edges → (asks : List Ask) → AllHold asks other into → AllHold (asked_once number edges asks) other into
    edges_hold [] found asks h = h
    edges_hold (edge ∷ edges) found asks h = (
      ap (edge_at other) (one_slot other into (record { node = number; shift = 0 }) (record { node = number; shift = edge.slot }) refl asked)
          ∙ maps.edges number edge.slot node edge.to change.is found.0 ∙ sym (flat_same edge.to),
      edges_hold edges found.1 asks h,
    )

  was_there : (at : ℕ) → IsNode new at → IsNode old at
  was_there at now = by (cases_eq at number)
    where
      by : (at ≡ number) ⊎ (at ≡ number → ⊥) → IsNode old at
      by (inl p) = (node, ap (node_at old) p ∙ change.is)
      by (inr p) =
          let its = of_map (flattened_node number) (node_at old at) now.0 (sym (change.others at p) ∙ now.1) in
          (its.0, its.1.0)

  pub flat_step : (asks : List Ask) → AllAreOf structs old asks → Step structs old new (Collapse number ∷ asks) (asked_once number node.edges (flattened_asks number asks))
  flat_step asks its = record {
    map = unmoved;
    there = there_new;
    stays = λ at now. (was_there at now, refl);
    sound = sound_new;
    asks = edges_new node.edges change.found (flattened_asks number asks) (asks_new asks its);
    fewer = change.fewer;
    forward = λ other into maps holds. (
      new_maps other into maps holds.0,
      (edges_hold other into maps holds.0 node.edges change.found (flattened_asks number asks) (asks_hold other into maps holds.0 asks holds.1), λ at node. refl),
    );
    backward = λ other rest maps holds. (
      old_maps other rest maps (flattened_asks number asks) holds,
      (
        collapsed_old other rest maps number (node, change.is) (maps.elements number flat change.at),
        asks_old other rest maps asks its (behind_edges other rest maps node.edges (flattened_asks number asks) holds),
      ),
    );
  }
