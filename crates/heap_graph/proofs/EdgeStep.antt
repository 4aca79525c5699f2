-- A node gets an edge: a step.
use Rattle.std.proofs.Common.{◌≡◌, ℕ, ◌<◌, true, List, [], ◌∷◌, Some, refl, sym, ap, subst, ◌∙◌, ◌⊎◌, inl, inr}
use Rattle.std.proofs.lemmas.Bool.{cases_eq}
use Rattle.std.proofs.lemmas.Option.{none-some, same_Some}
use Rattle.c_typed.specs.Layouts.{StructDef}
use Rattle.heap_graph.specs.Structures.{AreMade}
use Rattle.heap_graph.specs.Graphs.{Target, Node, Graph, edge_in, node_at}
use Rattle.heap_graph.specs.Targets.{at_target, edge_at, marks_kept, element_kept}
use Rattle.heap_graph.specs.Merging.{slots, IsSlot, IsSound, GraphMap, mapped, Maps}
use Rattle.heap_graph.specs.Steps.{Ask, One, Collapse, Points, Holds, IsNode, IsOf, AllAreOf, via, unmoved, Step, GetsEdge}
use Rattle.heap_graph.proofs.StepsCompose.{Like, all_like, settled_like, image_node, itself, maps_same, nodes_of}
use Rattle.heap_graph.proofs.MapsCompose.{keeps_nodes}

module _ (structs : List StructDef) (made : AreMade structs) (old new : Graph) (number slot : ℕ) (to : Target) (node : Node) (sound : IsSound structs old) (change : GetsEdge old new number slot to node) where
  abbrev changed : Node
  changed = record { element = node.element; flags = node.flags; edges = change.edges }

  -- a node of the new graph has all that it had
  record Was (at : ℕ) (now : Node) : Type 0 where
    before : Node
    is : node_at old at ≡ Some before
    element : before.element ≡ now.element
    flags : before.flags ≡ now.flags
    edges : (s : ℕ) (t : Target) → edge_in now.edges s ≡ Some t → (edge_in before.edges s ≡ Some t) ⊎ ((at ≡ number) × ((s ≡ slot) × (t ≡ to)))

  was : (at : ℕ) (now : Node) → node_at new at ≡ Some now → Was at now
  was at now e = by (cases_eq at number)
    where
      by : (at ≡ number) ⊎ (at ≡ number → ⊥) → Was at now
      by (inl same) =
          let its : changed ≡ now = same_Some changed now (sym change.at ∙ ap (node_at new) (sym same) ∙ e) in
          record {
            before = node;
            is = ap (node_at old) same ∙ change.is;
            element = ap (λ (n : Node). n.element) its;
            flags = ap (λ (n : Node). n.flags) its;
            edges = λ s t has. edge s t (ap (λ (n : Node). edge_in n.edges s) its ∙ has) (cases_eq s slot);
          }
        where
          edge : (s : ℕ) (t : Target) → edge_in change.edges s ≡ Some t → (s ≡ slot) ⊎ (s ≡ slot → ⊥) → (edge_in node.edges s ≡ Some t) ⊎ ((at ≡ number) × ((s ≡ slot) × (t ≡ to)))
          edge s t has (inl here) = inr (same, (here, same_Some t to (sym has ∙ ap (edge_in change.edges) here ∙ change.here)))
          edge s t has (inr there) = inl (sym (change.there s there) ∙ has)
      by (inr other) = record { before = now; is = sym (change.others at other) ∙ e; element = refl; flags = refl; edges = λ s t has. inl has }

  -- and a node of the old graph is there
  record Now (at : ℕ) (before : Node) : Type 0 where
    now : Node
    is : node_at new at ≡ Some now
    element : now.element ≡ before.element
    flags : now.flags ≡ before.flags
    edges : (s : ℕ) (t : Target) → edge_in before.edges s ≡ Some t → edge_in now.edges s ≡ Some t

  is_now : (at : ℕ) (before : Node) → node_at old at ≡ Some before → Now at before
  is_now at before e = by (cases_eq at number)
    where
      by : (at ≡ number) ⊎ (at ≡ number → ⊥) → Now at before
      by (inl same) =
          let its : node ≡ before = same_Some node before (sym change.is ∙ ap (node_at old) (sym same) ∙ e) in
          record {
            now = changed;
            is = ap (node_at new) same ∙ change.at;
            element = ap (λ (n : Node). n.element) its;
            flags = ap (λ (n : Node). n.flags) its;
            edges = λ s t has. edge s t (ap (λ (n : Node). edge_in n.edges s) its ∙ has) (cases_eq s slot);
          }
        where
          edge : (s : ℕ) (t : Target) → edge_in node.edges s ≡ Some t → (s ≡ slot) ⊎ (s ≡ slot → ⊥) → edge_in change.edges s ≡ Some t
          edge s t has (inl here) = absurd (none-some t (sym change.free ∙ ap (edge_in node.edges) (sym here) ∙ has))
          edge s t has (inr there) = change.there s there ∙ has
      by (inr other) = record { now = before; is = change.others at other ∙ e; element = refl; flags = refl; edges = λ s t has. has }

  slot_now : (target : Target) → IsSlot structs old target → IsSlot structs new target
  slot_now target its =
      let now = is_now target.node its.node its.is in
      record { node = now.now; is = now.is; inside = subst (λ x. target.shift < slots structs x) (sym now.element) its.inside }

  ask_now : (ask : Ask) → IsOf structs old ask → IsOf structs new ask
  ask_now (One a b) its = (slot_now a its.0, slot_now b its.1)
  ask_now (Collapse at) its = let now = is_now at its.0 its.1 in (now.now, now.is)
  ask_now (Points at s t) its = (slot_now (record { node = at; shift = s }) its.0, slot_now t its.1)

  asks_now : (asks : List Ask) → AllAreOf structs old asks → AllAreOf structs new asks
  asks_now [] its = tt
  asks_now (ask ∷ asks) its = (ask_now ask its.0, asks_now asks its.1)

  module _ (of_slot : IsSlot structs old (record { node = number; shift = slot })) (of_to : IsSlot structs old to) where
    sound_now : IsSound structs new
    sound_now = record {
      names = λ name target e. slot_now target (sound.names name target (sym (change.names name) ∙ e));
      from = λ at s now t e has. from_by at s now t (was at now e) has;
      to = λ at s now t e has. to_by at s now t (was at now e) has;
    }
      where
        from_by : (at s : ℕ) (now : Node) (t : Target) (its : Was at now) → edge_in now.edges s ≡ Some t → s < slots structs now.element
        from_by at s now t its has = by (its.edges s t has)
          where
            by : (edge_in its.before.edges s ≡ Some t) ⊎ ((at ≡ number) × ((s ≡ slot) × (t ≡ to))) → s < slots structs now.element
            by (inl old_edge) = subst (λ x. s < slots structs x) its.element (sound.from at s its.before t its.is old_edge)
            by (inr new_edge) =
                let same : of_slot.node ≡ its.before = same_Some of_slot.node its.before (sym of_slot.is ∙ ap (node_at old) (sym new_edge.0) ∙ its.is) in
                subst (λ x. s < slots structs x) (ap (λ (n : Node). n.element) same ∙ its.element) (subst (λ n. n < slots structs of_slot.node.element) (sym new_edge.1.0) of_slot.inside)

        to_by : (at s : ℕ) (now : Node) (t : Target) (its : Was at now) → edge_in now.edges s ≡ Some t → IsSlot structs new t
        to_by at s now t its has = by (its.edges s t has)
          where
            by : (edge_in its.before.edges s ≡ Some t) ⊎ ((at ≡ number) × ((s ≡ slot) × (t ≡ to))) → IsSlot structs new t
            by (inl old_edge) = slot_now t (sound.to at s its.before t its.is old_edge)
            by (inr new_edge) = slot_now t (subst (IsSlot structs old) (sym new_edge.1.1) of_to)

    new_maps : (other : Graph) (into : GraphMap) → Maps structs old other into → Holds (Points number slot to) other into → Maps structs new other into
    new_maps other into maps asked = record {
      names = λ name target e. maps.names name target (sym (change.names name) ∙ e);
      elements = λ at now e.
          let its = was at now e in
          subst (λ x. at_target other (Some (into at)) (element_kept structs x) ≡ true) its.element (maps.elements at its.before its.is);
      flags = λ at now e.
          let its = was at now e in
          subst (λ x. at_target other (Some (into at)) (λ image shift. marks_kept x image.flags) ≡ true) its.flags (maps.flags at its.before its.is);
      edges = λ at s now t e has. by at s now t (was at now e) has;
    }
      where
        by : (at s : ℕ) (now : Node) (t : Target) (its : Was at now) → edge_in now.edges s ≡ Some t → edge_at other (mapped other into (record { node = at; shift = s })) ≡ mapped other into t
        by at s now t its has = which (its.edges s t has)
          where
            which : (edge_in its.before.edges s ≡ Some t) ⊎ ((at ≡ number) × ((s ≡ slot) × (t ≡ to))) → edge_at other (mapped other into (record { node = at; shift = s })) ≡ mapped other into t
            which (inl old_edge) = maps.edges at s its.before t its.is old_edge
            which (inr new_edge) =
                ap (λ n. edge_at other (mapped other into (record { node = n; shift = s }))) new_edge.0
                ∙ ap (λ n. edge_at other (mapped other into (record { node = number; shift = n }))) new_edge.1.0 ∙ asked ∙ ap (mapped other into) (sym new_edge.1.1)

    old_maps : (other : Graph) (into : GraphMap) → Maps structs new other into → Maps structs old other into
    old_maps other into maps = record {
      names = λ name target e. maps.names name target (change.names name ∙ e);
      elements = λ at before e.
          let its = is_now at before e in
          subst (λ x. at_target other (Some (into at)) (element_kept structs x) ≡ true) its.element (maps.elements at its.now its.is);
      flags = λ at before e.
          let its = is_now at before e in
          subst (λ x. at_target other (Some (into at)) (λ image shift. marks_kept x image.flags) ≡ true) its.flags (maps.flags at its.now its.is);
      edges = λ at s before t e has.
          let its = is_now at before e in
          maps.edges at s its.now t its.is (its.edges s t has);
    }

    pub edge_step : (asks : List Ask) → AllAreOf structs old asks → Step structs old new (Points number slot to ∷ asks) asks
    edge_step asks its = record {
      map = unmoved;
      there = λ at before. let now = is_now at before.0 before.1 in (now.now, now.is);
      stays = λ at now. let its = was at now.0 now.1 in ((its.before, its.is), refl);
      sound = sound_now;
      asks = asks_now asks its;
      fewer = change.fewer;
      forward = λ other into maps holds. (new_maps other into maps holds.0, (holds.1, λ at before. refl));
      backward = λ other rest maps holds.
          let back = old_maps other rest maps in
          let like : (at : ℕ) → IsNode old at → Like other (rest at) (via other rest unmoved at) = λ at before.
          let s = settled_like other (rest at) (image_node structs old other rest back at before) in
          record { node = sym s.node; targets = λ n. sym (s.targets n) } in
          let kept = keeps_nodes structs made old old other unmoved rest sound (nodes_of structs old old unmoved (itself structs made old sound)) back in
          let asked : Holds (Points number slot to) other rest = maps.edges number slot changed to change.at change.here in (
            maps_same structs old other rest (via other rest unmoved) sound like kept.elements back,
            all_like structs old other rest (via other rest unmoved) like (Points number slot to ∷ asks) ((of_slot, of_to), its) (asked, holds),
          );
    }
