-- A type is told of a target by a new node of the type, which is made one with it.
use Rattle.std.proofs.Common.{◌≡◌, ℕ, ◌+◌, ◌<◌, Bool, true, false, cond, eqb, List, [], Some, refl, sym, ap, subst, ◌∙◌, ◌⊎◌, inl, inr, arith, eqb-true}
use Rattle.std.proofs.lemmas.Bool.{false≢true, eq-eqb}
use Rattle.std.proofs.lemmas.Option.{none-some, same_Some}
use Rattle.c_typed.specs.Types.{CType}
use Rattle.c_typed.specs.Layouts.{StructDef}
use Rattle.heap_graph.specs.Graphs.{Target, Element, Missing, OfType, Collapsed, Flags, Edge, Node, Graph, edge_in, node_at}
use Rattle.heap_graph.specs.Parts.{slots_of}
use Rattle.heap_graph.specs.Targets.{at_target, is_collapsed, shifted, edge_at, marks_kept, element_kept, holds_part}
use Rattle.heap_graph.specs.Merging.{IsSlot, IsSound, GraphMap, mapped, Maps, IsOnto, AreOne, LeastWith}
use Rattle.heap_graph.proofs.MapsCompose.{shifted_there, There, at_there, at_from, target_in, mapped_there}
use Rattle.graph_unification.specs.Changes.{AddsNode}
use Rattle.graph_unification.specs.Asked.{HoldsPart, bare}
use Rattle.graph_unification.specs.Leading.{Least}

part_settled : (structs : List StructDef) (c_type : CType) (e : Element) (flags : Flags) (edges : List Edge) (s : ℕ) → holds_part structs c_type (record { element = e; flags = flags; edges = edges }) s ≡ true
    → holds_part structs c_type (record { element = e; flags = flags; edges = edges }) (cond (is_collapsed e) 0 (s + 0)) ≡ true
part_settled structs c_type Missing flags edges s h = h
part_settled structs c_type (OfType own) flags edges s h = subst (λ x. holds_part structs c_type (record { element = OfType own; flags = flags; edges = edges }) x ≡ true) (omega arith) h
part_settled structs c_type Collapsed flags edges s h = refl

settled_once : (b : Bool) (s : ℕ) → cond b 0 (cond b 0 s + 0) ≡ cond b 0 s
settled_once true s = refl
settled_once false s = omega arith

pub as_told : (old middle : Graph) (number : ℕ) (t u : CType) (f : Flags) → t ≡ u → f ≡ bare → AddsNode old middle number (record { element = OfType t; flags = f; edges = [] })
    → AddsNode old middle number (record { element = OfType u; flags = bare; edges = [] })
as_told old middle number t u f types flags adds =
    subst (λ x. AddsNode old middle number (record { element = OfType u; flags = x; edges = [] })) flags
    (subst (λ x. AddsNode old middle number (record { element = OfType x; flags = f; edges = [] })) types adds)

module _ (structs : List StructDef) (old middle new : Graph) (number : ℕ) (c_type : CType) (at : Target) (sound : IsSound structs old)
    (adds : AddsNode old middle number (record { element = OfType c_type; flags = bare; edges = [] })) (slot : IsSlot structs old at) where
  abbrev pub added : Node
  added = record { element = OfType c_type; flags = bare; edges = [] }

  abbrev pub start : Target
  start = record { node = number; shift = 0 }

  pub start_slot : 0 < slots_of structs c_type → IsSlot structs middle start
  start_slot some = record { node = added; is = adds.at; inside = some }

  another : (n : ℕ) (node : Node) → node_at old n ≡ Some node → n ≡ number → ⊥
  another n node e same = none-some node (sym adds.fresh ∙ ap (node_at old) (sym same) ∙ e)

  stays : (n : ℕ) (node : Node) → node_at old n ≡ Some node → node_at middle n ≡ Some node
  stays n node e = adds.others n (another n node e) ∙ e

  pub slot_stays : IsSlot structs middle at
  slot_stays = record { node = slot.node; is = stays at.node slot.node slot.is; inside = slot.inside }

  -- another graph to which the old one can be mapped, and in which the type is told of the target
  module _ (other : Graph) (into : GraphMap) (maps : Maps structs old other into) (holds : HoldsPart structs c_type at other into) where
    abbrev here : There other (into at.node) (element_kept structs slot.node.element)
    here = at_there other (into at.node) (element_kept structs slot.node.element) (maps.elements at.node slot.node slot.is)

    abbrev place : Target
    place = target_in into at here.node

    placed : mapped other into at ≡ Some place
    placed = mapped_there other into at here.node here.is

    abbrev both : GraphMap
    both n = cond (eqb n number) place (into n)

    as_before : (n : ℕ) → (n ≡ number → ⊥) → both n ≡ into n
    as_before n differ = by (eqb n number) refl
      where
        by : (b : Bool) → eqb n number ≡ b → both n ≡ into n
        by true e = absurd (differ (eqb-true n number e))
        by false e = ap (λ b. cond b place (into n)) e

    as_placed : both number ≡ place
    as_placed = ap (λ b. cond b place (into number)) (eq-eqb number number refl)

    which : (n : ℕ) (node : Node) → node_at middle n ≡ Some node → ((both n ≡ place) × (added ≡ node)) ⊎ ((both n ≡ into n) × (node_at old n ≡ Some node))
    which n node e = by (eqb n number) refl
      where
        by : (b : Bool) → eqb n number ≡ b → ((both n ≡ place) × (added ≡ node)) ⊎ ((both n ≡ into n) × (node_at old n ≡ Some node))
        by true t =
            let same = eqb-true n number t in
            inl (ap both same ∙ as_placed, same_Some added node (sym adds.at ∙ ap (node_at middle) (sym same) ∙ e))
        by false t =
            let differ : n ≡ number → ⊥ = λ same. false≢true (sym t ∙ eq-eqb n number same) in
            inr (ap (λ b. cond b place (into n)) t, sym (adds.others n differ) ∙ e)

    same_target : (n s : ℕ) (node : Node) → node_at old n ≡ Some node → shifted other s (Some (both n)) ≡ shifted other s (Some (into n))
    same_target n s node e = ap (λ t. shifted other s (Some t)) (as_before n (another n node e))

    told : at_target other (Some place) (element_kept structs added.element) ≡ true
    told = subst (λ t. at_target other t (holds_part structs c_type) ≡ true) placed holds

    elements : (n : ℕ) (node : Node) → ((both n ≡ place) × (added ≡ node)) ⊎ ((both n ≡ into n) × (node_at old n ≡ Some node))
        → at_target other (Some (both n)) (element_kept structs node.element) ≡ true
    elements n node (inl (e, is)) =
        subst (λ t. at_target other (Some t) (element_kept structs node.element) ≡ true) (sym e)
        (subst (λ (x : Node). at_target other (Some place) (element_kept structs x.element) ≡ true) is told)
    elements n node (inr (e, is)) = subst (λ t. at_target other (Some t) (element_kept structs node.element) ≡ true) (sym e) (maps.elements n node is)

    flags : (n : ℕ) (node : Node) → ((both n ≡ place) × (added ≡ node)) ⊎ ((both n ≡ into n) × (node_at old n ≡ Some node))
        → at_target other (Some (both n)) (λ image shift. marks_kept node.flags image.flags) ≡ true
    flags n node (inl (e, is)) =
        subst (λ t. at_target other (Some t) (λ image shift. marks_kept node.flags image.flags) ≡ true) (sym e)
        (at_from other place (λ image shift. marks_kept node.flags image.flags) here.node here.is (subst (λ (x : Node). marks_kept x.flags here.node.flags ≡ true) is refl))
    flags n node (inr (e, is)) = subst (λ t. at_target other (Some t) (λ image shift. marks_kept node.flags image.flags) ≡ true) (sym e) (maps.flags n node is)

    edges : (n s : ℕ) (node : Node) (to : Target) → ((both n ≡ place) × (added ≡ node)) ⊎ ((both n ≡ into n) × (node_at old n ≡ Some node)) → edge_in node.edges s ≡ Some to
        → edge_at other (shifted other s (Some (both n))) ≡ mapped other both to
    edges n s node to (inl (e, is)) has = absurd (none-some to (ap (λ (x : Node). edge_in x.edges s) is ∙ has))
    edges n s node to (inr (e, is)) has =
        let end = sound.to n s node to is has in
        ap (λ t. edge_at other (shifted other s (Some t))) e ∙ maps.edges n s node to is has ∙ sym (same_target to.node to.shift end.node end.is)

    both_maps : Maps structs middle other both
    both_maps = record {
      names = λ name target e.
          let was = sym (adds.names name) ∙ e in
          let its = sound.names name target was in
          maps.names name target was ∙ sym (same_target target.node target.shift its.node its.is);
      elements = λ n node e. elements n node (which n node e);
      flags = λ n node e. flags n node (which n node e);
      edges = λ n s node to e has. edges n s node to (which n node e) has;
    }

    are_one : AreOne at start other both
    are_one =
        same_target at.node at.shift slot.node slot.is ∙ placed
        ∙ sym (ap (λ t. shifted other 0 (Some t)) as_placed ∙ shifted_there other 0 place here.node here.is
        ∙ ap (λ s. Some (record { node = place.node; shift = s })) (settled_once (is_collapsed here.node.element) ((into at.node).shift + at.shift)))

  module _ (merged : LeastWith structs middle new (AreOne at start)) where
    maps_on : Maps structs old new merged.map
    maps_on = record {
      names = λ name target e. merged.maps.names name target (adds.names name ∙ e);
      elements = λ n node e. merged.maps.elements n node (stays n node e);
      flags = λ n node e. merged.maps.flags n node (stays n node e);
      edges = λ n s node to e has. merged.maps.edges n s node to (stays n node e) has;
    }

    holds_on : HoldsPart structs c_type at new merged.map
    holds_on =
        let there = at_there new (merged.map number) (element_kept structs added.element) (merged.maps.elements number added adds.at) in
        subst (λ t. at_target new t (holds_part structs c_type) ≡ true) (sym (merged.holds ∙ mapped_there new merged.map start there.node there.is))
        (at_from new (target_in merged.map start there.node) (holds_part structs c_type) there.node there.is
        (part_settled structs c_type there.node.element there.node.flags there.node.edges (merged.map number).shift there.so))

    -- where the new node is now, the node of the target is
    with_start : (merged.map number).node ≡ (merged.map at.node).node
    with_start =
        let there = at_there new (merged.map number) (element_kept structs added.element) (merged.maps.elements number added adds.at) in
        let here = at_there new (merged.map at.node) (element_kept structs slot.node.element) (maps_on.elements at.node slot.node slot.is) in
        ap (λ (t : Target). t.node) (same_Some (target_in merged.map start there.node) (target_in merged.map at here.node)
        (sym (mapped_there new merged.map start there.node there.is) ∙ (sym merged.holds ∙ mapped_there new merged.map at here.node here.is)))

    onto_on : IsOnto old new merged.map
    onto_on n node e =
        let its = merged.onto n node e in
        by its.0 its.1 its.2 its.3 (eqb its.0 number) refl
      where
        by : (from : ℕ) (its : Node) → node_at middle from ≡ Some its → (merged.map from).node ≡ n → (b : Bool) → eqb from number ≡ b
            → (from : ℕ) × (its : Node) × (node_at old from ≡ Some its) × ((merged.map from).node ≡ n)
        by from its is there true t = (at.node, slot.node, slot.is, sym with_start ∙ (ap (λ n. (merged.map n).node) (sym (eqb-true from number t)) ∙ there))
        by from its is there false t = (from, its, sym (adds.others from (λ same. false≢true (sym t ∙ eq-eqb from number same))) ∙ is, there)

    pub tells : Least structs old new (HoldsPart structs c_type at)
    tells = record {
      map = merged.map;
      maps = maps_on;
      onto = onto_on;
      holds = holds_on;
      least = λ other into maps holds.
          let rest = merged.least other (both other into maps holds) (both_maps other into maps holds) (are_one other into maps holds) in
          (rest.0, rest.1, λ n node e. rest.2 n node (stays n node e) ∙ same_target other into maps holds n 0 node e);
    }
