-- A node gets the element of another, of which its own element is a part, where slots of both have to be one: a step.
use Rattle.std.proofs.Common.{◌≡◌, ℕ, ◌+◌, ◌≤◌, true, cond, List, [], ◌∷◌, Some, refl, sym, ap, subst, ◌∙◌, ◌⊎◌, inl, inr, arith}
use Rattle.std.proofs.lemmas.Bool.{cases_eq}
use Rattle.std.proofs.lemmas.Option.{same_Some}
use Rattle.c_typed.specs.Layouts.{StructDef}
use Rattle.heap_graph.specs.Structures.{AreMade}
use Rattle.heap_graph.specs.Parts.{has_part}
use Rattle.heap_graph.specs.Graphs.{Target, Element, Missing, OfType, Collapsed, Flags, Edge, Node, Graph, edge_in, node_at}
use Rattle.heap_graph.specs.Targets.{at_target, is_collapsed, marks_kept, element_kept}
use Rattle.heap_graph.specs.Merging.{slots, IsSlot, IsSound, GraphMap, mapped, Maps}
use Rattle.heap_graph.specs.Steps.{Ask, One, Collapse, Points, IsNode, IsOf, AllAreOf, via, unmoved, Step, GetsElement}
use Rattle.heap_graph.proofs.StepsCompose.{Like, all_like, settled_like, image_node, itself, kept_itself, flags_itself}
use Rattle.heap_graph.proofs.MapsCompose.{shift_in, at_there, at_from, mapped_there, target_in, KeepsNodes, keeps_nodes, edge_through}

-- what is a part at one of two shifts is so at the other, where they are one
kept_there : (structs : List StructDef) (a b : Element) (flags : Flags) (edges : List Edge) (p q s : ℕ) → element_kept structs a (record { element = b; flags = flags; edges = edges }) q ≡ true
    → cond (is_collapsed b) 0 (p + s) ≡ cond (is_collapsed b) 0 (q + s) → element_kept structs a (record { element = b; flags = flags; edges = edges }) p ≡ true
kept_there structs Missing b flags edges p q s h e = refl
kept_there structs (OfType t) Missing flags edges p q s h e = h
kept_there structs (OfType t) (OfType u) flags edges p q s h e = subst (λ n. has_part structs u n t ≡ true) (omega (arith, e)) h
kept_there structs (OfType t) Collapsed flags edges p q s h e = refl
kept_there structs Collapsed b flags edges p q s h e = h

module _ (structs : List StructDef) (made : AreMade structs) (old new : Graph) (number other : ℕ) (node whole : Node) (sound : IsSound structs old) (change : GetsElement structs old new number other node whole) where
  abbrev changed : Node
  changed = record { element = whole.element; flags = node.flags; edges = node.edges }

  -- a node of the new graph is one of the old, but for its element
  record Was (at : ℕ) (now : Node) : Type 0 where
    before : Node
    is : node_at old at ≡ Some before
    element : (before.element ≡ now.element) ⊎ ((at ≡ number) × (whole.element ≡ now.element))
    larger : slots structs before.element ≤ slots structs now.element
    flags : before.flags ≡ now.flags
    edges : before.edges ≡ now.edges

  was : (at : ℕ) (now : Node) → node_at new at ≡ Some now → Was at now
  was at now e = by (cases_eq at number)
    where
      by : (at ≡ number) ⊎ (at ≡ number → ⊥) → Was at now
      by (inl same) =
          let its : changed ≡ now = same_Some changed now (sym change.at ∙ ap (node_at new) (sym same) ∙ e) in
          record {
            before = node;
            is = ap (node_at old) same ∙ change.is;
            element = inr (same, ap (λ (n : Node). n.element) its);
            larger = subst (λ (n : Node). slots structs node.element ≤ slots structs n.element) its change.fits;
            flags = ap (λ (n : Node). n.flags) its;
            edges = ap (λ (n : Node). n.edges) its;
          }
      by (inr differ) = record { before = now; is = sym (change.others at differ) ∙ e; element = inl refl; larger = omega arith; flags = refl; edges = refl }

  -- and a node of the old graph is there
  record Now (at : ℕ) (before : Node) : Type 0 where
    now : Node
    is : node_at new at ≡ Some now
    kept : (flags : Flags) (edges : List Edge) → element_kept structs before.element (record { element = now.element; flags = flags; edges = edges }) 0 ≡ true
    larger : slots structs before.element ≤ slots structs now.element
    flags : before.flags ≡ now.flags
    edges : now.edges ≡ before.edges

  is_now : (at : ℕ) (before : Node) → node_at old at ≡ Some before → Now at before
  is_now at before e = by (cases_eq at number)
    where
      by : (at ≡ number) ⊎ (at ≡ number → ⊥) → Now at before
      by (inl same) =
          let its : node ≡ before = same_Some node before (sym change.is ∙ ap (node_at old) (sym same) ∙ e) in
          record {
            now = changed;
            is = ap (node_at new) same ∙ change.at;
            kept = λ flags edges. subst (λ (n : Node). element_kept structs n.element (record { element = whole.element; flags = flags; edges = edges }) 0 ≡ true) its (change.kept flags edges);
            larger = subst (λ (n : Node). slots structs n.element ≤ slots structs whole.element) its change.fits;
            flags = ap (λ (n : Node). n.flags) (sym its);
            edges = ap (λ (n : Node). n.edges) its;
          }
      by (inr differ) = record { now = before; is = change.others at differ ∙ e; kept = λ flags edges. kept_itself structs made before.element flags edges; larger = omega arith; flags = refl; edges = refl }

  pub slot_now : (target : Target) → IsSlot structs old target → IsSlot structs new target
  slot_now target its =
      let now = is_now target.node its.node its.is in
      let larger = now.larger in
      let inside = its.inside in
      record { node = now.now; is = now.is; inside = omega (arith, larger, inside) }

  ask_now : (ask : Ask) → IsOf structs old ask → IsOf structs new ask
  ask_now (One a b) its = (slot_now a its.0, slot_now b its.1)
  ask_now (Collapse at) its = let now = is_now at its.0 its.1 in (now.now, now.is)
  ask_now (Points at s t) its = (slot_now (record { node = at; shift = s }) its.0, slot_now t its.1)

  asks_now : (asks : List Ask) → AllAreOf structs old asks → AllAreOf structs new asks
  asks_now [] its = tt
  asks_now (ask ∷ asks) its = (ask_now ask its.0, asks_now asks its.1)

  pub sound_now : IsSound structs new
  sound_now = record {
    names = λ name target e. slot_now target (sound.names name target (sym (change.names name) ∙ e));
    from = λ at s now t e has.
        let its = was at now e in
        let larger = its.larger in
        let inside = sound.from at s its.before t its.is (ap (λ es. edge_in es s) its.edges ∙ has) in
        omega (arith, larger, inside);
    to = λ at s now t e has.
        let its = was at now e in
        slot_now t (sound.to at s its.before t its.is (ap (λ es. edge_in es s) its.edges ∙ has));
  }

  keeps : KeepsNodes structs old new unmoved
  keeps = record {
    names = λ name target e. (itself structs made new sound_now).names name target (change.names name ∙ e);
    elements = λ at before e.
        let its = is_now at before e in
        at_from new (unmoved at) (element_kept structs before.element) its.now its.is (its.kept its.now.flags its.now.edges);
    flags = λ at before e.
        let its = is_now at before e in
        at_from new (unmoved at) (λ image shift. marks_kept before.flags image.flags) its.now its.is (subst (λ f. marks_kept before.flags f ≡ true) its.flags (flags_itself before.flags));
  }

  module _ (s : ℕ) where
    -- where both slots are one, the element of the other is kept there
    kept_whole : (graph : Graph) (into : GraphMap) → Maps structs old graph into → mapped graph into (record { node = number; shift = s }) ≡ mapped graph into (record { node = other; shift = s })
        → at_target graph (Some (into number)) (element_kept structs whole.element) ≡ true
    kept_whole graph into maps asked =
        let x = at_there graph (into number) (element_kept structs node.element) (maps.elements number node change.is) in
        let y = at_there graph (into other) (element_kept structs whole.element) (maps.elements other whole change.other_is) in
        let targets : target_in into (record { node = number; shift = s }) x.node ≡ target_in into (record { node = other; shift = s }) y.node =
        same_Some (target_in into (record { node = number; shift = s }) x.node) (target_in into (record { node = other; shift = s }) y.node)
        (sym (mapped_there graph into (record { node = number; shift = s }) x.node x.is) ∙ asked ∙ mapped_there graph into (record { node = other; shift = s }) y.node y.is) in
        let images : y.node ≡ x.node = same_Some y.node x.node (sym y.is ∙ ap (λ (t : Target). node_at graph t.node) (sym targets) ∙ x.is) in
        at_from graph (into number) (element_kept structs whole.element) x.node x.is
        (kept_there structs whole.element x.node.element x.node.flags x.node.edges (into number).shift (into other).shift s
        (subst (λ n. element_kept structs whole.element n (into other).shift ≡ true) images y.so)
        (ap (λ (t : Target). t.shift) targets ∙ ap (λ n. shift_in n ((into other).shift + s)) images))

    new_maps : (graph : Graph) (into : GraphMap) → Maps structs old graph into → mapped graph into (record { node = number; shift = s }) ≡ mapped graph into (record { node = other; shift = s }) → Maps structs new graph into
    new_maps graph into maps asked = record {
      names = λ name target e. maps.names name target (sym (change.names name) ∙ e);
      elements = λ at now e. by at now (was at now e);
      flags = λ at now e.
          let its = was at now e in
          subst (λ x. at_target graph (Some (into at)) (λ image shift. marks_kept x image.flags) ≡ true) its.flags (maps.flags at its.before its.is);
      edges = λ at slot now t e has.
          let its = was at now e in
          maps.edges at slot its.before t its.is (ap (λ es. edge_in es slot) its.edges ∙ has);
    }
      where
        by : (at : ℕ) (now : Node) → Was at now → at_target graph (Some (into at)) (element_kept structs now.element) ≡ true
        by at now its = which its.element
          where
            which : (its.before.element ≡ now.element) ⊎ ((at ≡ number) × (whole.element ≡ now.element)) → at_target graph (Some (into at)) (element_kept structs now.element) ≡ true
            which (inl same) = subst (λ x. at_target graph (Some (into at)) (element_kept structs x) ≡ true) same (maps.elements at its.before its.is)
            which (inr new_one) =
                subst (λ x. at_target graph (Some (into at)) (element_kept structs x) ≡ true) new_one.1
                (subst (λ n. at_target graph (Some (into n)) (element_kept structs whole.element) ≡ true) (sym new_one.0) (kept_whole graph into maps asked))

    old_maps : (graph : Graph) (rest : GraphMap) → Maps structs new graph rest → Maps structs old graph (via graph rest unmoved)
    old_maps graph rest maps =
        let kept = keeps_nodes structs made old new graph unmoved rest sound keeps maps in
        record {
          names = kept.names;
          elements = kept.elements;
          flags = kept.flags;
          edges = λ at slot before t e has.
              let its = is_now at before e in
              edge_through structs made old new graph unmoved rest sound keeps maps at slot before t e has
              ((itself structs made new sound_now).edges at slot its.now t its.is (ap (λ es. edge_in es slot) its.edges ∙ has));
        }

    pub element_step : (asks : List Ask) → IsSlot structs old (record { node = number; shift = s }) → IsSlot structs old (record { node = other; shift = s }) → AllAreOf structs old asks
        → Step structs old new (One (record { node = number; shift = s }) (record { node = other; shift = s }) ∷ asks) (One (record { node = number; shift = s }) (record { node = other; shift = s }) ∷ asks)
    element_step asks at_a at_b its =
        let before = One (record { node = number; shift = s }) (record { node = other; shift = s }) ∷ asks in
        let of_new : AllAreOf structs new before = ((slot_now (record { node = number; shift = s }) at_a, slot_now (record { node = other; shift = s }) at_b), asks_now asks its) in
        record {
          map = unmoved;
          there = λ at node. let now = is_now at node.0 node.1 in (now.now, now.is);
          stays = λ at now. let its = was at now.0 now.1 in ((its.before, its.is), refl);
          sound = sound_now;
          asks = of_new;
          fewer = change.fewer;
          forward = λ graph into maps holds. (new_maps graph into maps holds.0, (holds, λ at node. refl));
          backward = λ graph rest maps holds.
              let like : (at : ℕ) → IsNode new at → Like graph (rest at) (via graph rest unmoved at) = λ at node.
              let settles = settled_like graph (rest at) (image_node structs new graph rest maps at node) in
              record { node = sym settles.node; targets = λ slots. sym (settles.targets slots) } in
              (old_maps graph rest maps, all_like structs new graph rest (via graph rest unmoved) like before of_new holds);
        }
