-- A node becomes part of another: a step.
use Rattle.std.proofs.Common.{◌≡◌, ℕ, ◌+◌, ◌<◌, ◌≤◌, Bool, true, false, cond, eqb, List, [], ◌∷◌, Option, Some, None, refl, sym, ap, subst, ◌∙◌, arith, ◌⊎◌, inl, inr}
use Rattle.std.specs.Prelude.{◌||◌, ◌&&◌, option_map}
use Rattle.std.proofs.lemmas.Bool.{and_parts, and_from, cases_eq, cond-true, cond-false, eq-eqb, eqb-true, ne_eqb}
use Rattle.std.proofs.lemmas.Option.{none-some, same_Some}
use Rattle.c_typed.specs.Layouts.{StructDef}
use Rattle.heap_graph.specs.Structures.{AreMade}
use Rattle.heap_graph.specs.Parts.{has_part}
use Rattle.heap_graph.specs.Graphs.{Target, Element, Missing, OfType, Collapsed, Flags, Edge, Node, Graph, edge_in, node_at}
use Rattle.heap_graph.specs.Targets.{at_target, is_collapsed, shifted, edge_at, implies, marks_kept, element_kept}
use Rattle.heap_graph.specs.Merging.{slots, IsSlot, IsSound, GraphMap, mapped, Maps, IsCollapsed}
use Rattle.heap_graph.specs.Steps.{Ask, One, Collapse, Points, Holds, AllHold, IsNode, IsOf, AllAreOf, via, unmoved, Step, moved, moved_edges, both_flags, moved_node, moved_ask, moved_asks, asked_edges, AreFound, BecomesPart}
use Rattle.heap_graph.proofs.MapsCompose.{shift_in, at_there, at_some, at_from, edge_there, target_in, mapped_there, via_there, KeepsNodes, keeps_nodes, places, go_through, edge_through, edge_reached}
use Rattle.heap_graph.proofs.StepsCompose.{settled_slot, flags_itself, kept_itself, collapsed_like}
use Rattle.heap_graph.proofs.AskSteps.{image_of}

-- ---- edges that are moved

pub moved_edge_in : (part whole distance : ℕ) (edges : List Edge) (slot : ℕ) → edge_in (moved_edges part whole distance edges) slot ≡ option_map (moved part whole distance) (edge_in edges slot)
moved_edge_in part whole distance [] slot = refl
moved_edge_in part whole distance (edge ∷ edges) slot = by (eqb edge.slot slot) (moved_edge_in part whole distance edges slot)
  where
    by : (b : Bool) → edge_in (moved_edges part whole distance edges) slot ≡ option_map (moved part whole distance) (edge_in edges slot)
        → cond b (Some (moved part whole distance edge.to)) (edge_in (moved_edges part whole distance edges) slot) ≡ option_map (moved part whole distance) (cond b (Some edge.to) (edge_in edges slot))
    by true rest = refl
    by false rest = rest

pub of_map : {A B : Type 0} (f : A → B) (o : Option A) (y : B) → option_map f o ≡ Some y → (x : A) × ((o ≡ Some x) × (f x ≡ y))
of_map f None y e = absurd (none-some y e)
of_map f (Some x) y e = (x, (refl, same_Some (f x) y e))

pub kept_same : (structs : List StructDef) (a b : Element) (f g : Flags) (es fs : List Edge) (s t : ℕ) → s ≡ t → element_kept structs a (record { element = b; flags = f; edges = es }) s ≡ true
    → element_kept structs a (record { element = b; flags = g; edges = fs }) t ≡ true
kept_same structs Missing b f g es fs s t e h = refl
kept_same structs (OfType x) Missing f g es fs s t e h = h
kept_same structs (OfType x) (OfType y) f g es fs s t e h = subst (λ n. has_part structs y n x ≡ true) e h
kept_same structs (OfType x) Collapsed f g es fs s t e h = refl
kept_same structs Collapsed b f g es fs s t e h = h

implies_left : (a b : Bool) → implies a (a || b) ≡ true
implies_left true b = refl
implies_left false b = refl

implies_right : (a b : Bool) → implies b (a || b) ≡ true
implies_right true true = refl
implies_right true false = refl
implies_right false true = refl
implies_right false false = refl

pub left_kept : (a b : Flags) → marks_kept a (both_flags a b) ≡ true
left_kept a b =
    and_from _ _ (implies_left a.certain b.certain) (and_from _ _ (implies_left a.heap b.heap) (and_from _ _ (implies_left a.stack b.stack) (and_from _ _ (implies_left a.global b.global) (and_from _ _ (implies_left a.array b.array)
    (and_from _ _ (implies_left a.modified b.modified) (implies_left a.read b.read))))))

pub right_kept : (a b : Flags) → marks_kept b (both_flags a b) ≡ true
right_kept a b =
    and_from _ _ (implies_right a.certain b.certain) (and_from _ _ (implies_right a.heap b.heap) (and_from _ _ (implies_right a.stack b.stack) (and_from _ _ (implies_right a.global b.global) (and_from _ _ (implies_right a.array b.array)
    (and_from _ _ (implies_right a.modified b.modified) (implies_right a.read b.read))))))

or_implies : (a b c : Bool) → implies a c ≡ true → implies b c ≡ true → implies (a || b) c ≡ true
or_implies true b c h k = h
or_implies false b c h k = k

pairs : (a b c d e f : Bool) → ((a && b) ≡ true) → ((c && d) ≡ true) → (a ≡ true → c ≡ true → e ≡ true) → (b ≡ true → d ≡ true → f ≡ true) → (e && f) ≡ true
pairs a b c d e f h k first others =
    let left = and_parts a b h in
    let right = and_parts c d k in
    and_from e f (first left.0 right.0) (others left.1 right.1)

-- what keeps the flags of two nodes keeps both
pub both_kept : (a b c : Flags) → marks_kept a c ≡ true → marks_kept b c ≡ true → marks_kept (both_flags a b) c ≡ true
both_kept a b c h k =
    pairs _ _ _ _ _ _ h k (or_implies a.certain b.certain c.certain) (λ h k.
    pairs _ _ _ _ _ _ h k (or_implies a.heap b.heap c.heap) (λ h k.
    pairs _ _ _ _ _ _ h k (or_implies a.stack b.stack c.stack) (λ h k.
    pairs _ _ _ _ _ _ h k (or_implies a.global b.global c.global) (λ h k.
    pairs _ _ _ _ _ _ h k (or_implies a.array b.array c.array) (λ h k.
    pairs _ _ _ _ _ _ h k (or_implies a.modified b.modified c.modified) (or_implies a.read b.read c.read))))))

-- ---- targets that are moved

module _ (part whole distance : ℕ) where
  pub moved_part : (target : Target) → target.node ≡ part → moved part whole distance target ≡ record { node = whole; shift = target.shift + distance }
  moved_part target e = cond-true (eqb target.node part) (record { node = whole; shift = target.shift + distance }) target (eq-eqb target.node part e)

  pub moved_other : (target : Target) → (target.node ≡ part → ⊥) → moved part whole distance target ≡ target
  moved_other target differ = cond-false (eqb target.node part) (record { node = whole; shift = target.shift + distance }) target (ne_eqb target.node part differ)

-- a slot of a node that lies in another
inner_slot : (structs : List StructDef) (inner outer : Element) (s distance : ℕ) → s < slots structs inner → distance + slots structs inner ≤ slots structs outer
    → cond (is_collapsed outer) 0 (0 + distance + s) ≡ s + distance
inner_slot structs inner Missing s distance h fits = omega arith
inner_slot structs inner (OfType t) s distance h fits = omega arith
inner_slot structs inner Collapsed s distance h fits = omega (arith, h, fits)

moved_shifts : (c : Bool) (p q i d s : ℕ) → cond c 0 (p + i) ≡ cond c 0 (q + (i + d)) → cond c 0 (q + (s + d)) ≡ cond c 0 (p + s)
moved_shifts true p q i d s e = refl
moved_shifts false p q i d s e = omega (arith, e)

module _ (structs : List StructDef) (made : AreMade structs) (old new : Graph) (part whole distance : ℕ) (inner outer : Node) (sound : IsSound structs old)
    (change : BecomesPart structs old new part whole distance inner outer) where
  abbrev pub the_map : GraphMap
  the_map number = moved part whole distance (record { node = number; shift = 0 })

  abbrev joined : Node
  joined = record { element = outer.element; flags = both_flags outer.flags inner.flags; edges = moved_edges part whole distance outer.edges }

  -- a node that is another
  pub other_node : (number : ℕ) (node : Node) → (number ≡ part → ⊥) → (number ≡ whole → ⊥) → node_at old number ≡ Some node → node_at new number ≡ Some (moved_node part whole distance node)
  other_node number node p w e = change.others number p w ∙ ap (option_map (moved_node part whole distance)) e

  -- a node of the new graph was there, and stays
  was_there : (number : ℕ) → IsNode new number → IsNode old number × ((the_map number).node ≡ number)
  was_there number now = by (cases_eq number part) (cases_eq number whole)
    where
      by : (number ≡ part) ⊎ (number ≡ part → ⊥) → (number ≡ whole) ⊎ (number ≡ whole → ⊥) → IsNode old number × ((the_map number).node ≡ number)
      by (inl p) w = absurd (none-some now.0 (sym change.gone ∙ (ap (node_at new) (sym p) ∙ now.1)))
      by (inr p) (inl w) = ((outer, ap (node_at old) w ∙ change.whole_is), ap (λ (t : Target). t.node) (moved_other part whole distance (record { node = number; shift = 0 }) p))
      by (inr p) (inr w) =
          let its = of_map (moved_node part whole distance) (node_at old number) now.0 (sym (change.others number p w) ∙ now.1) in
          ((its.0, its.1.0), ap (λ (t : Target). t.node) (moved_other part whole distance (record { node = number; shift = 0 }) p))

  -- the image of a slot
  pub slot_image : (target : Target) → IsSlot structs old target → mapped new the_map target ≡ Some (moved part whole distance target)
  slot_image target slot = by (cases_eq target.node part) (cases_eq target.node whole)
    where
      by : (target.node ≡ part) ⊎ (target.node ≡ part → ⊥) → (target.node ≡ whole) ⊎ (target.node ≡ whole → ⊥) → mapped new the_map target ≡ Some (moved part whole distance target)
      by (inl p) w =
          let at : the_map target.node ≡ record { node = whole; shift = 0 + distance } = moved_part part whole distance (record { node = target.node; shift = 0 }) p in
          let its : slot.node ≡ inner = same_Some slot.node inner (sym slot.is ∙ ap (node_at old) p ∙ change.part_is) in
          ap (λ x. shifted new target.shift (Some x)) at
          ∙ mapped_there new (λ number. record { node = whole; shift = 0 + distance }) target joined change.at_whole
          ∙ ap (λ s. Some (record { node = whole; shift = s }))
          (inner_slot structs inner.element outer.element target.shift distance (subst (λ (n : Node). target.shift < slots structs n.element) its slot.inside) change.fits)
          ∙ ap Some (sym (moved_part part whole distance target p))
      by (inr p) (inl w) =
          let at : the_map target.node ≡ record { node = target.node; shift = 0 } = moved_other part whole distance (record { node = target.node; shift = 0 }) p in
          let its : slot.node ≡ outer = same_Some slot.node outer (sym slot.is ∙ ap (node_at old) w ∙ change.whole_is) in
          ap (λ x. shifted new target.shift (Some x)) at
          ∙ mapped_there new unmoved target joined (ap (node_at new) w ∙ change.at_whole)
          ∙ ap (λ s. Some (record { node = target.node; shift = s })) (sym (settled_slot structs outer.element target.shift (subst (λ (n : Node). target.shift < slots structs n.element) its slot.inside)))
          ∙ ap Some (sym (moved_other part whole distance target p))
      by (inr p) (inr w) =
          let at : the_map target.node ≡ record { node = target.node; shift = 0 } = moved_other part whole distance (record { node = target.node; shift = 0 }) p in
          ap (λ x. shifted new target.shift (Some x)) at
          ∙ mapped_there new unmoved target (moved_node part whole distance slot.node) (other_node target.node slot.node p w slot.is)
          ∙ ap (λ s. Some (record { node = target.node; shift = s })) (sym (settled_slot structs slot.node.element target.shift slot.inside))
          ∙ ap Some (sym (moved_other part whole distance target p))

  -- what is moved is a slot of the new graph
  pub slot_moved : (target : Target) → IsSlot structs old target → IsSlot structs new (moved part whole distance target)
  slot_moved target slot = by (cases_eq target.node part) (cases_eq target.node whole)
    where
      by : (target.node ≡ part) ⊎ (target.node ≡ part → ⊥) → (target.node ≡ whole) ⊎ (target.node ≡ whole → ⊥) → IsSlot structs new (moved part whole distance target)
      by (inl p) w =
          let its : slot.node ≡ inner = same_Some slot.node inner (sym slot.is ∙ ap (node_at old) p ∙ change.part_is) in
          let fits = change.fits in
          let inside : target.shift < slots structs inner.element = subst (λ (n : Node). target.shift < slots structs n.element) its slot.inside in
          subst (IsSlot structs new) (sym (moved_part part whole distance target p)) (record { node = joined; is = change.at_whole; inside = omega (arith, inside, fits) })
      by (inr p) (inl w) =
          let its : slot.node ≡ outer = same_Some slot.node outer (sym slot.is ∙ ap (node_at old) w ∙ change.whole_is) in
          subst (IsSlot structs new) (sym (moved_other part whole distance target p))
          (record { node = joined; is = ap (node_at new) w ∙ change.at_whole; inside = subst (λ (n : Node). target.shift < slots structs n.element) its slot.inside })
      by (inr p) (inr w) =
          subst (IsSlot structs new) (sym (moved_other part whole distance target p))
          (record { node = moved_node part whole distance slot.node; is = other_node target.node slot.node p w slot.is; inside = slot.inside })

  same_inner : (number : ℕ) (node : Node) → number ≡ part → node_at old number ≡ Some node → inner ≡ node
  same_inner number node p e = same_Some inner node (sym change.part_is ∙ ap (node_at old) (sym p) ∙ e)

  same_outer : (number : ℕ) (node : Node) → number ≡ whole → node_at old number ≡ Some node → outer ≡ node
  same_outer number node w e = same_Some outer node (sym change.whole_is ∙ ap (node_at old) (sym w) ∙ e)

  -- ---- all but the edges of the part is kept

  pub keeps : KeepsNodes structs old new the_map
  keeps = record {
    names = λ name target e. change.names name ∙ ap (option_map (moved part whole distance)) e ∙ sym (slot_image target (sound.names name target e));
    elements = λ number node e. elements_by number node e (cases_eq number part) (cases_eq number whole);
    flags = λ number node e. flags_by number node e (cases_eq number part) (cases_eq number whole);
  }
    where
      elements_by : (number : ℕ) (node : Node) → node_at old number ≡ Some node → (number ≡ part) ⊎ (number ≡ part → ⊥) → (number ≡ whole) ⊎ (number ≡ whole → ⊥)
          → at_target new (Some (the_map number)) (element_kept structs node.element) ≡ true
      elements_by number node e (inl p) w =
          subst (λ (n : Node). at_target new (Some (the_map number)) (element_kept structs n.element) ≡ true) (same_inner number node p e)
          (subst (λ t. at_target new (Some t) (element_kept structs inner.element) ≡ true) (sym (moved_part part whole distance (record { node = number; shift = 0 }) p))
          (at_from new (record { node = whole; shift = 0 + distance }) (element_kept structs inner.element) joined change.at_whole
          (kept_same structs inner.element outer.element outer.flags joined.flags outer.edges joined.edges distance (0 + distance) (omega arith) change.kept)))
      elements_by number node e (inr p) (inl w) =
          subst (λ (n : Node). at_target new (Some (the_map number)) (element_kept structs n.element) ≡ true) (same_outer number node w e)
          (subst (λ t. at_target new (Some t) (element_kept structs outer.element) ≡ true) (sym (moved_other part whole distance (record { node = number; shift = 0 }) p))
          (at_from new (record { node = number; shift = 0 }) (element_kept structs outer.element) joined (ap (node_at new) w ∙ change.at_whole) (kept_itself structs made outer.element joined.flags joined.edges)))
      elements_by number node e (inr p) (inr w) =
          subst (λ t. at_target new (Some t) (element_kept structs node.element) ≡ true) (sym (moved_other part whole distance (record { node = number; shift = 0 }) p))
          (at_from new (record { node = number; shift = 0 }) (element_kept structs node.element) (moved_node part whole distance node) (other_node number node p w e)
          (kept_itself structs made node.element node.flags (moved_edges part whole distance node.edges)))

      flags_by : (number : ℕ) (node : Node) → node_at old number ≡ Some node → (number ≡ part) ⊎ (number ≡ part → ⊥) → (number ≡ whole) ⊎ (number ≡ whole → ⊥)
          → at_target new (Some (the_map number)) (λ image shift. marks_kept node.flags image.flags) ≡ true
      flags_by number node e (inl p) w =
          subst (λ (n : Node). at_target new (Some (the_map number)) (λ image shift. marks_kept n.flags image.flags) ≡ true) (same_inner number node p e)
          (subst (λ t. at_target new (Some t) (λ image shift. marks_kept inner.flags image.flags) ≡ true) (sym (moved_part part whole distance (record { node = number; shift = 0 }) p))
          (at_from new (record { node = whole; shift = 0 + distance }) (λ image shift. marks_kept inner.flags image.flags) joined change.at_whole (right_kept outer.flags inner.flags)))
      flags_by number node e (inr p) (inl w) =
          subst (λ (n : Node). at_target new (Some (the_map number)) (λ image shift. marks_kept n.flags image.flags) ≡ true) (same_outer number node w e)
          (subst (λ t. at_target new (Some t) (λ image shift. marks_kept outer.flags image.flags) ≡ true) (sym (moved_other part whole distance (record { node = number; shift = 0 }) p))
          (at_from new (record { node = number; shift = 0 }) (λ image shift. marks_kept outer.flags image.flags) joined (ap (node_at new) w ∙ change.at_whole) (left_kept outer.flags inner.flags)))
      flags_by number node e (inr p) (inr w) =
          subst (λ t. at_target new (Some t) (λ image shift. marks_kept node.flags image.flags) ≡ true) (sym (moved_other part whole distance (record { node = number; shift = 0 }) p))
          (at_from new (record { node = number; shift = 0 }) (λ image shift. marks_kept node.flags image.flags) (moved_node part whole distance node) (other_node number node p w e) (flags_itself node.flags))

  -- ---- the new graph is sound

  -- what a node of the new graph was
  pub record Was (number : ℕ) (node : Node) : Type 0 where
    pub old_node : Node
    pub is : node_at old number ≡ Some old_node
    pub element : old_node.element ≡ node.element
    pub edges : moved_edges part whole distance old_node.edges ≡ node.edges

  pub was : (number : ℕ) (node : Node) → node_at new number ≡ Some node → Was number node
  was number node e = by (cases_eq number part) (cases_eq number whole)
    where
      by : (number ≡ part) ⊎ (number ≡ part → ⊥) → (number ≡ whole) ⊎ (number ≡ whole → ⊥) → Was number node
      by (inl p) w = absurd (none-some node (sym change.gone ∙ ap (node_at new) (sym p) ∙ e))
      by (inr p) (inl w) =
          let its : joined ≡ node = same_Some joined node (sym change.at_whole ∙ ap (node_at new) (sym w) ∙ e) in
          record { old_node = outer; is = ap (node_at old) w ∙ change.whole_is; element = ap (λ (n : Node). n.element) its; edges = ap (λ (n : Node). n.edges) its }
      by (inr p) (inr w) =
          let its = of_map (moved_node part whole distance) (node_at old number) node (sym (change.others number p w) ∙ e) in
          record { old_node = its.0; is = its.1.0; element = ap (λ (n : Node). n.element) its.1.1; edges = ap (λ (n : Node). n.edges) its.1.1 }

  old_edge : (number slot : ℕ) (node : Node) (to : Target) (its : Was number node) → edge_in node.edges slot ≡ Some to → (x : Target) × ((edge_in its.old_node.edges slot ≡ Some x) × (moved part whole distance x ≡ to))
  old_edge number slot node to its has =
      of_map (moved part whole distance) (edge_in its.old_node.edges slot) to (sym (moved_edge_in part whole distance its.old_node.edges slot) ∙ ap (λ es. edge_in es slot) its.edges ∙ has)

  pub sound_new : IsSound structs new
  sound_new = record {
    names = λ name target e.
        let its = of_map (moved part whole distance) (old.targets name) target (sym (change.names name) ∙ e) in
        subst (IsSlot structs new) its.1.1 (slot_moved its.0 (sound.names name its.0 its.1.0));
    from = λ number slot node to e has.
        let its = was number node e in
        let edge = old_edge number slot node to its has in
        subst (λ x. slot < slots structs x) its.element (sound.from number slot its.old_node edge.0 its.is edge.1.0);
    to = λ number slot node to e has.
        let its = was number node e in
        let edge = old_edge number slot node to its has in
        subst (IsSlot structs new) edge.1.1 (slot_moved edge.0 (sound.to number slot its.old_node edge.0 its.is edge.1.0));
  }

  pub there_new : (number : ℕ) → IsNode old number → IsNode new (the_map number).node
  there_new number node =
      let there = at_there new (the_map number) (element_kept structs node.0.element) (keeps.elements number node.0 node.1) in
      (there.node, there.is)

  ask_new : (ask : Ask) → IsOf structs old ask → IsOf structs new (moved_ask part whole distance ask)
  ask_new (One a b) its = (slot_moved a its.0, slot_moved b its.1)
  ask_new (Collapse number) its = there_new number its
  ask_new (Points number slot to) its = (slot_moved (record { node = number; shift = slot }) its.0, slot_moved to its.1)

  asks_new : (asks : List Ask) → AllAreOf structs old asks → AllAreOf structs new (moved_asks part whole distance asks)
  asks_new [] its = tt
  asks_new (ask ∷ asks) its = (ask_new ask its.0, asks_new asks its.1)

  edges_new : (edges : List Edge) → AreFound inner.edges edges → (asks : List Ask) → AllAreOf structs new asks → AllAreOf structs new (asked_edges part whole distance edges asks)
  edges_new [] found asks its = its
  edges_new (edge ∷ edges) found asks its =
      let inside = sound.from part edge.slot inner edge.to change.part_is found.0 in
      let fits = change.fits in
      ((record { node = joined; is = change.at_whole; inside = omega (arith, inside, fits) }, slot_moved edge.to (sound.to part edge.slot inner edge.to change.part_is found.0)), edges_new edges found.1 asks its)

  -- ---- graphs to which there is a map

  module _ (other : Graph) (rest : GraphMap) (maps : Maps structs new other rest) where
    kept_nodes : KeepsNodes structs old other (via other rest the_map)
    kept_nodes = keeps_nodes structs made old new other the_map rest sound keeps maps

    -- a slot by both maps
    via_slot : (target : Target) → IsSlot structs old target → mapped other (via other rest the_map) target ≡ mapped other rest (moved part whole distance target)
    via_slot target slot =
        let p = places structs made old new other the_map rest sound keeps maps target.node slot.node slot.is in
        let same : target_in the_map target p.middle ≡ moved part whole distance target =
        same_Some (target_in the_map target p.middle) (moved part whole distance target) (sym (mapped_there new the_map target p.middle p.middle_is) ∙ slot_image target slot) in
        sym (go_through structs made old new other the_map rest sound keeps maps target slot.node slot.is) ∙ ap (mapped other rest) same

    ask_old : (ask : Ask) → IsOf structs old ask → Holds (moved_ask part whole distance ask) other rest → Holds ask other (via other rest the_map)
    ask_old (One a b) its h = via_slot a its.0 ∙ h ∙ sym (via_slot b its.1)
    ask_old (Collapse number) its h =
        let p = places structs made old new other the_map rest sound keeps maps number its.0 its.1 in
        collapsed_like other (rest (the_map number).node) (via other rest the_map number) (sym (ap (λ (t : Target). t.node) (via_there other rest the_map number p.last p.last_is))) h
    ask_old (Points number slot to) its h = ap (edge_at other) (via_slot (record { node = number; shift = slot }) its.0) ∙ h ∙ sym (via_slot to its.1)

    asks_old : (asks : List Ask) → AllAreOf structs old asks → AllHold (moved_asks part whole distance asks) other rest → AllHold asks other (via other rest the_map)
    asks_old [] its h = tt
    asks_old (ask ∷ asks) its h = (ask_old ask its.0 h.0, asks_old asks its.1 h.1)

    -- the asks behind the edges
    behind_edges : (edges : List Edge) (asks : List Ask) → AllHold (asked_edges part whole distance edges asks) other rest → AllHold asks other rest
    behind_edges [] asks h = h
    behind_edges (edge ∷ edges) asks h = behind_edges edges asks h.1

    edge_asked : (edges : List Edge) (asks : List Ask) → AllHold (asked_edges part whole distance edges asks) other rest → (slot : ℕ) (to : Target) → edge_in edges slot ≡ Some to
        → Holds (Points whole (slot + distance) (moved part whole distance to)) other rest
    edge_asked [] asks h slot to has = absurd (none-some to has)
    edge_asked (edge ∷ edges) asks h slot to has = by (eqb edge.slot slot) refl has (λ e. edge_asked edges asks h.1 slot to e)
      where
        by : (b : Bool) → eqb edge.slot slot ≡ b → cond b (Some edge.to) (edge_in edges slot) ≡ Some to → (edge_in edges slot ≡ Some to → Holds (Points whole (slot + distance) (moved part whole distance to)) other rest)
            → Holds (Points whole (slot + distance) (moved part whole distance to)) other rest
        by true is e later =
            subst (λ n. Holds (Points whole (n + distance) (moved part whole distance to)) other rest) (eqb-true edge.slot slot is)
            (subst (λ t. Holds (Points whole (edge.slot + distance) (moved part whole distance t)) other rest) (same_Some edge.to to e) h.0)
        by false is e later = later e

    old_maps : (asks : List Ask) → AllHold (asked_edges part whole distance inner.edges asks) other rest → Maps structs old other (via other rest the_map)
    old_maps asks h = record {
      names = kept_nodes.names;
      elements = kept_nodes.elements;
      flags = kept_nodes.flags;
      edges = λ number slot node to e has. by number slot node to e has (cases_eq number part) (cases_eq number whole);
    }
      where
        stays : (number slot : ℕ) (node : Node) (to : Target) (e : node_at old number ≡ Some node) (has : edge_in node.edges slot ≡ Some to) (image : Node) → (number ≡ part → ⊥)
            → node_at new number ≡ Some image → image.edges ≡ moved_edges part whole distance node.edges
            → edge_at other (mapped other (via other rest the_map) (record { node = number; shift = slot })) ≡ mapped other (via other rest the_map) to
        stays number slot node to e has image p is its =
            let from : IsSlot structs old (record { node = number; shift = slot }) = record { node = node; is = e; inside = sound.from number slot node to e has } in
            let end = sound.to number slot node to e has in
            edge_through structs made old new other the_map rest sound keeps maps number slot node to e has
            (ap (edge_at new) (slot_image (record { node = number; shift = slot }) from ∙ ap Some (moved_other part whole distance (record { node = number; shift = slot }) p))
            ∙ edge_there new (record { node = number; shift = slot }) image is ∙ ap (λ es. edge_in es slot) its ∙ moved_edge_in part whole distance node.edges slot
            ∙ ap (option_map (moved part whole distance)) has ∙ sym (slot_image to end))

        by : (number slot : ℕ) (node : Node) (to : Target) (e : node_at old number ≡ Some node) (has : edge_in node.edges slot ≡ Some to)
            → (number ≡ part) ⊎ (number ≡ part → ⊥) → (number ≡ whole) ⊎ (number ≡ whole → ⊥)
            → edge_at other (mapped other (via other rest the_map) (record { node = number; shift = slot })) ≡ mapped other (via other rest the_map) to
        by number slot node to e has (inl p) w =
            let from : IsSlot structs old (record { node = number; shift = slot }) = record { node = node; is = e; inside = sound.from number slot node to e has } in
            let end = sound.to number slot node to e has in
            let asked = edge_asked inner.edges asks h slot to (ap (λ (n : Node). edge_in n.edges slot) (same_inner number node p e) ∙ has) in
            edge_reached structs made old new other the_map rest sound keeps maps number slot node to e has
            (record { node = whole; shift = slot + distance }) (moved part whole distance to)
            (slot_image (record { node = number; shift = slot }) from ∙ ap Some (moved_part part whole distance (record { node = number; shift = slot }) p)) (slot_image to end) asked
        by number slot node to e has (inr p) (inl w) =
            stays number slot node to e has joined p (ap (node_at new) w ∙ change.at_whole) (ap (λ (n : Node). moved_edges part whole distance n.edges) (same_outer number node w e))
        by number slot node to e has (inr p) (inr w) = stays number slot node to e has (moved_node part whole distance node) p (other_node number node p w e) refl

  -- ---- graphs in which the two targets are one

  module _ (a b : Target) (of_part : a.node ≡ part) (of_whole : b.node ≡ whole) (lies : a.shift + distance ≡ b.shift) where
    one_now : moved part whole distance a ≡ b
    one_now =
        moved_part part whole distance a of_part ∙ ap (λ s. record { node = whole; shift = s }) lies ∙ ap (λ n. record { node = n; shift = b.shift }) (sym of_whole)

    b_stays : moved part whole distance b ≡ b
    b_stays = moved_other part whole distance b (λ e. change.differ (sym e ∙ of_whole))

    module _ (other : Graph) (into : GraphMap) (maps : Maps structs old other into) (one : mapped other into a ≡ mapped other into b) where
      record Together : Type 0 where
        image : Node
        at_part : node_at other (into part).node ≡ Some image
        at_whole : node_at other (into whole).node ≡ Some image
        nodes : (into part).node ≡ (into whole).node
        shifts : shift_in image ((into part).shift + a.shift) ≡ shift_in image ((into whole).shift + (a.shift + distance))
        part_flags : marks_kept inner.flags image.flags ≡ true
        whole_flags : marks_kept outer.flags image.flags ≡ true

      together : Together
      together =
          let x = image_of structs old other into maps part inner change.part_is in
          let y = image_of structs old other into maps whole outer change.whole_is in
          let at_a : node_at other (into a.node).node ≡ Some x.node = ap (λ n. node_at other (into n).node) of_part ∙ x.is in
          let at_b : node_at other (into b.node).node ≡ Some y.node = ap (λ n. node_at other (into n).node) of_whole ∙ y.is in
          let targets : target_in into a x.node ≡ target_in into b y.node =
          same_Some (target_in into a x.node) (target_in into b y.node) (sym (mapped_there other into a x.node at_a) ∙ one ∙ mapped_there other into b y.node at_b) in
          let nodes : (into part).node ≡ (into whole).node =
          ap (λ n. (into n).node) (sym of_part) ∙ ap (λ (t : Target). t.node) targets ∙ ap (λ n. (into n).node) of_whole in
          let images : y.node ≡ x.node = same_Some y.node x.node (sym y.is ∙ ap (node_at other) (sym nodes) ∙ x.is) in
          record {
            image = x.node;
            at_part = x.is;
            at_whole = y.is ∙ ap Some images;
            nodes = nodes;
            shifts =
                ap (λ n. shift_in x.node ((into n).shift + a.shift)) (sym of_part) ∙ ap (λ (t : Target). t.shift) targets
                ∙ ap (λ n. shift_in n ((into b.node).shift + b.shift)) images ∙ ap (λ n. shift_in x.node ((into n).shift + b.shift)) of_whole
                ∙ ap (λ s. shift_in x.node ((into whole).shift + s)) (sym lies);
            part_flags = sym (at_some other (into part) (λ image shift. marks_kept inner.flags image.flags) x.node x.is) ∙ maps.flags part inner change.part_is;
            whole_flags = sym (at_some other (into whole) (λ image shift. marks_kept outer.flags image.flags) x.node (y.is ∙ ap Some images)) ∙ maps.flags whole outer change.whole_is;
          }

      -- what is moved is the same
      moved_same : (target : Target) → IsNode old target.node → mapped other into (moved part whole distance target) ≡ mapped other into target
      moved_same target node = by (cases_eq target.node part)
        where
          by : (target.node ≡ part) ⊎ (target.node ≡ part → ⊥) → mapped other into (moved part whole distance target) ≡ mapped other into target
          by (inl p) =
              let t = together in
              ap (mapped other into) (moved_part part whole distance target p)
              ∙ mapped_there other into (record { node = whole; shift = target.shift + distance }) t.image t.at_whole
              ∙ (λ i. Some (record { node = sym t.nodes i; shift = moved_shifts (is_collapsed t.image.element) (into part).shift (into whole).shift a.shift distance target.shift t.shifts i }))
              ∙ sym (mapped_there other into (record { node = part; shift = target.shift }) t.image t.at_part)
              ∙ ap (λ n. mapped other into (record { node = n; shift = target.shift })) (sym p)
          by (inr p) = ap (mapped other into) (moved_other part whole distance target p)

      new_maps : Maps structs new other into
      new_maps = record {
        names = λ name target e.
            let its = of_map (moved part whole distance) (old.targets name) target (sym (change.names name) ∙ e) in
            let slot = sound.names name its.0 its.1.0 in
            maps.names name its.0 its.1.0 ∙ sym (moved_same its.0 (slot.node, slot.is)) ∙ ap (mapped other into) its.1.1;
        elements = λ number node e.
            let its = was number node e in
            subst (λ x. at_target other (Some (into number)) (element_kept structs x) ≡ true) its.element (maps.elements number its.old_node its.is);
        flags = λ number node e. flags_by number node e (cases_eq number part) (cases_eq number whole);
        edges = λ number slot node to e has.
            let its = was number node e in
            let edge = old_edge number slot node to its has in
            let end = sound.to number slot its.old_node edge.0 its.is edge.1.0 in
            maps.edges number slot its.old_node edge.0 its.is edge.1.0 ∙ sym (moved_same edge.0 (end.node, end.is)) ∙ ap (mapped other into) edge.1.1;
      }
        where
          flags_by : (number : ℕ) (node : Node) → node_at new number ≡ Some node → (number ≡ part) ⊎ (number ≡ part → ⊥) → (number ≡ whole) ⊎ (number ≡ whole → ⊥)
              → at_target other (Some (into number)) (λ image shift. marks_kept node.flags image.flags) ≡ true
          flags_by number node e (inl p) w = absurd (none-some node (sym change.gone ∙ ap (node_at new) (sym p) ∙ e))
          flags_by number node e (inr p) (inl w) =
              let its : joined ≡ node = same_Some joined node (sym change.at_whole ∙ ap (node_at new) (sym w) ∙ e) in
              let t = together in
              subst (λ (n : Node). at_target other (Some (into number)) (λ image shift. marks_kept n.flags image.flags) ≡ true) its
              (at_from other (into number) (λ image shift. marks_kept joined.flags image.flags) t.image (ap (λ n. node_at other (into n).node) w ∙ t.at_whole)
              (both_kept outer.flags inner.flags t.image.flags t.whole_flags t.part_flags))
          flags_by number node e (inr p) (inr w) =
              let its = of_map (moved_node part whole distance) (node_at old number) node (sym (change.others number p w) ∙ e) in
              subst (λ (n : Node). at_target other (Some (into number)) (λ image shift. marks_kept n.flags image.flags) ≡ true) its.1.1 (maps.flags number its.0 its.1.0)

      ask_holds : (ask : Ask) → IsOf structs old ask → Holds ask other into → Holds (moved_ask part whole distance ask) other into
      ask_holds (One c d) its h = moved_same c (its.0.node, its.0.is) ∙ h ∙ sym (moved_same d (its.1.node, its.1.is))
      ask_holds (Collapse number) its h = by (cases_eq number part)
        where
          by : (number ≡ part) ⊎ (number ≡ part → ⊥) → IsCollapsed (moved part whole distance (record { node = number; shift = 0 })).node other into
          by (inl p) =
              subst (λ (t : Target). IsCollapsed t.node other into) (sym (moved_part part whole distance (record { node = number; shift = 0 }) p))
              (collapsed_like other (into number) (into whole) (ap (λ n. (into n).node) p ∙ together.nodes) h)
          by (inr p) = subst (λ (t : Target). IsCollapsed t.node other into) (sym (moved_other part whole distance (record { node = number; shift = 0 }) p)) h
      ask_holds (Points number slot to) its h =
          ap (edge_at other) (moved_same (record { node = number; shift = slot }) (its.0.node, its.0.is)) ∙ h ∙ sym (moved_same to (its.1.node, its.1.is))

      asks_hold : (asks : List Ask) → AllAreOf structs old asks → AllHold asks other into → AllHold (moved_asks part whole distance asks) other into
      asks_hold [] its h = tt
      asks_hold (ask ∷ asks) its h = (ask_holds ask its.0 h.0, asks_hold asks its.1 h.1)

      edges_hold : (edges : List Edge) → AreFound inner.edges edges → (asks : List Ask) → AllHold asks other into → AllHold (asked_edges part whole distance edges asks) other into
      edges_hold [] found asks h = h
      edges_hold (edge ∷ edges) found asks h =
          let end = sound.to part edge.slot inner edge.to change.part_is found.0 in (
            ap (edge_at other) (ap (mapped other into) (sym (moved_part part whole distance (record { node = part; shift = edge.slot }) refl)) ∙ moved_same (record { node = part; shift = edge.slot }) (inner, change.part_is))
                ∙ maps.edges part edge.slot inner edge.to change.part_is found.0 ∙ sym (moved_same edge.to (end.node, end.is)),
            edges_hold edges found.1 asks h,
          )

    -- a node becomes part of another, where two of their targets have to be one
    pub part_step : (asks : List Ask) → IsSlot structs old a → IsSlot structs old b → AllAreOf structs old asks
        → Step structs old new (One a b ∷ asks) (asked_edges part whole distance inner.edges (moved_asks part whole distance asks))
    part_step asks at_a at_b its = record {
      map = the_map;
      there = there_new;
      stays = was_there;
      sound = sound_new;
      asks = edges_new inner.edges change.found (moved_asks part whole distance asks) (asks_new asks its);
      fewer = change.fewer;
      forward = λ other into maps holds. (
        new_maps other into maps holds.0,
        (
          edges_hold other into maps holds.0 inner.edges change.found (moved_asks part whole distance asks) (asks_hold other into maps holds.0 asks its holds.1),
          λ number node. moved_same other into maps holds.0 (record { node = number; shift = 0 }) node,
        ),
      );
      backward = λ other rest maps holds. (
        old_maps other rest maps (moved_asks part whole distance asks) holds,
        (
          via_slot other rest maps a at_a ∙ ap (mapped other rest) (one_now ∙ sym b_stays) ∙ sym (via_slot other rest maps b at_b),
          asks_old other rest maps asks its (behind_edges other rest maps inner.edges (moved_asks part whole distance asks) holds),
        ),
      );
    }
