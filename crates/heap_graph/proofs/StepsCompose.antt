-- Steps one after the other; and where nothing is asked any more, the graph is the least.
use Rattle.std.proofs.Common.{◌≡◌, ℕ, ◌+◌, ◌<◌, Bool, true, false, cond, List, [], ◌∷◌, Some, refl, sym, ap, subst, ◌∙◌, arith}
use Rattle.std.proofs.lemmas.Bool.{and_from}
use Rattle.c_typed.specs.Layouts.{StructDef}
use Rattle.heap_graph.specs.Structures.{AreMade}
use Rattle.heap_graph.specs.Graphs.{Target, Element, Missing, OfType, Collapsed, Flags, Edge, Node, Graph, node_at}
use Rattle.heap_graph.specs.Targets.{at_target, is_collapsed, shifted, edge_at, implies, marks_kept, element_kept}
use Rattle.heap_graph.specs.Merging.{slots, IsSlot, IsSound, GraphMap, mapped, Maps, LeastWith}
use Rattle.heap_graph.specs.Steps.{Ask, One, Collapse, Points, Holds, AllHold, IsNode, IsOf, AllAreOf, or_first, via, unmoved, Step}
use Rattle.heap_graph.proofs.PartsNest.{Itself, found, alike_refl}
use Rattle.heap_graph.proofs.MapsCompose.{shift_in, shifted_there, at_there, at_from, edge_there, mapped_there, via_there, through, kept_collapsed, KeepsNodes, keeps_nodes}

-- ---- maps that lead to the same targets

pub record Like (other : Graph) (a b : Target) : Type 0 where
  pub node : a.node ≡ b.node
  pub targets : (slots : ℕ) → shifted other slots (Some a) ≡ shifted other slots (Some b)

pub like_same : (other : Graph) (a b : Target) → a ≡ b → Like other a b
like_same other a b e = record { node = ap (λ (t : Target). t.node) e; targets = λ slots. ap (λ t. shifted other slots (Some t)) e }

pub collapsed_like : (other : Graph) (a b : Target) → a.node ≡ b.node → at_target other (Some a) (λ node shift. is_collapsed node.element) ≡ true
    → at_target other (Some b) (λ node shift. is_collapsed node.element) ≡ true
collapsed_like other a b e h =
    let there = at_there other a (λ node shift. is_collapsed node.element) h in
    at_from other b (λ node shift. is_collapsed node.element) there.node (ap (node_at other) (sym e) ∙ there.is) there.so

slot_node : (structs : List StructDef) (graph : Graph) (target : Target) → IsSlot structs graph target → IsNode graph target.node
slot_node structs graph target slot = (slot.node, slot.is)

-- what is asked holds by one map as by another like it
pub holds_like : (structs : List StructDef) (graph other : Graph) (map like : GraphMap) → ((number : ℕ) → IsNode graph number → Like other (map number) (like number))
    → (ask : Ask) → IsOf structs graph ask → Holds ask other map → Holds ask other like
holds_like structs graph other map like same (One a b) its h =
    sym ((same a.node (slot_node structs graph a its.0)).targets a.shift) ∙ h ∙ (same b.node (slot_node structs graph b its.1)).targets b.shift
holds_like structs graph other map like same (Collapse number) its h = collapsed_like other (map number) (like number) (same number its).node h
holds_like structs graph other map like same (Points number slot to) its h =
    ap (edge_at other) (sym ((same number (slot_node structs graph (record { node = number; shift = slot }) its.0)).targets slot)) ∙ h
    ∙ (same to.node (slot_node structs graph to its.1)).targets to.shift

pub all_like : (structs : List StructDef) (graph other : Graph) (map like : GraphMap) → ((number : ℕ) → IsNode graph number → Like other (map number) (like number))
    → (asks : List Ask) → AllAreOf structs graph asks → AllHold asks other map → AllHold asks other like
all_like structs graph other map like same [] its h = tt
all_like structs graph other map like same (ask ∷ asks) its h = (holds_like structs graph other map like same ask its.0 h.0, all_like structs graph other map like same asks its.1 h.1)

-- ---- a target at its own slot

own_slot : (b : Bool) (s t : ℕ) → cond b 0 (cond b 0 (s + 0) + t) ≡ cond b 0 (s + t)
own_slot true s t = refl
own_slot false s t = omega arith

-- a target in a collapsed node is at its one slot
abbrev pub settled : Graph → Target → Target
settled other target = or_first (shifted other 0 (Some target))

pub settled_like : (other : Graph) (target : Target) → IsNode other target.node → Like other (settled other target) target
settled_like other target node =
    let there = shifted_there other 0 target node.0 node.1 in
    let is : settled other target ≡ record { node = target.node; shift = shift_in node.0 (target.shift + 0) } = ap or_first there in
    record {
      node = ap (λ (t : Target). t.node) is;
      targets = λ slots.
          ap (λ t. shifted other slots (Some t)) is
          ∙ shifted_there other slots (record { node = target.node; shift = shift_in node.0 (target.shift + 0) }) node.0 node.1
          ∙ ap (λ s. Some (record { node = target.node; shift = s })) (own_slot (is_collapsed node.0.element) target.shift slots)
          ∙ sym (shifted_there other slots target node.0 node.1);
    }

pub image_node : (structs : List StructDef) (graph other : Graph) (map : GraphMap) → Maps structs graph other map → (number : ℕ) → IsNode graph number → IsNode other (map number).node
image_node structs graph other map maps number node =
    let there = at_there other (map number) (element_kept structs node.0.element) (maps.elements number node.0 node.1) in
    (there.node, there.is)

-- ---- a graph is mapped to itself

pub kept_itself : (structs : List StructDef) → AreMade structs → (e : Element) (flags : Flags) (edges : List Edge) → element_kept structs e (record { element = e; flags = flags; edges = edges }) 0 ≡ true
kept_itself structs made Missing flags edges = refl
kept_itself structs made (OfType t) flags edges = found structs made t 0 t (Itself t 0 t refl (alike_refl t))
kept_itself structs made Collapsed flags edges = refl

implies_itself : (b : Bool) → implies b b ≡ true
implies_itself true = refl
implies_itself false = refl

pub flags_itself : (f : Flags) → marks_kept f f ≡ true
flags_itself f =
    and_from _ _ (implies_itself f.certain) (and_from _ _ (implies_itself f.heap) (and_from _ _ (implies_itself f.stack) (and_from _ _ (implies_itself f.global) (and_from _ _ (implies_itself f.array) (and_from _ _ (implies_itself f.modified) (implies_itself f.read))))))

pub settled_slot : (structs : List StructDef) (e : Element) (s : ℕ) → s < slots structs e → s ≡ cond (is_collapsed e) 0 (0 + s)
settled_slot structs Missing s h = omega arith
settled_slot structs (OfType t) s h = omega arith
settled_slot structs Collapsed s h = omega (arith, h)

slot_itself : (structs : List StructDef) (graph : Graph) (target : Target) → IsSlot structs graph target → mapped graph unmoved target ≡ Some target
slot_itself structs graph target slot =
    mapped_there graph unmoved target slot.node slot.is
    ∙ ap (λ s. Some (record { node = target.node; shift = s })) (sym (settled_slot structs slot.node.element target.shift slot.inside))

pub itself : (structs : List StructDef) → AreMade structs → (graph : Graph) → IsSound structs graph → Maps structs graph graph unmoved
itself structs made graph sound = record {
  names = λ name target e. e ∙ sym (slot_itself structs graph target (sound.names name target e));
  elements = λ number node e. at_from graph (unmoved number) (element_kept structs node.element) node e (kept_itself structs made node.element node.flags node.edges);
  flags = λ number node e. at_from graph (unmoved number) (λ image shift. marks_kept node.flags image.flags) node e (flags_itself node.flags);
  edges = λ number slot node to e has.
      let from : IsSlot structs graph (record { node = number; shift = slot }) = record { node = node; is = e; inside = sound.from number slot node to e has } in
      ap (edge_at graph) (slot_itself structs graph (record { node = number; shift = slot }) from)
      ∙ edge_there graph (record { node = number; shift = slot }) node e ∙ has ∙ sym (slot_itself structs graph to (sound.to number slot node to e has));
}

pub nodes_of : (structs : List StructDef) (graph other : Graph) (map : GraphMap) → Maps structs graph other map → KeepsNodes structs graph other map
nodes_of structs graph other map maps = record { names = maps.names; elements = maps.elements; flags = maps.flags }

-- ---- steps

-- what is asked is the same as what was
pub record Same (structs : List StructDef) (graph : Graph) (before after : List Ask) : Type 1 where
  pub forward : (other : Graph) (into : GraphMap) → Maps structs graph other into → AllHold before other into → AllHold after other into
  pub backward : (other : Graph) (into : GraphMap) → Maps structs graph other into → AllHold after other into → AllHold before other into

-- a map is a map where another agrees with it on the nodes
pub maps_same : (structs : List StructDef) (graph other : Graph) (map same : GraphMap) → IsSound structs graph → ((number : ℕ) → IsNode graph number → Like other (map number) (same number))
    → (elements : (number : ℕ) (node : Node) → node_at graph number ≡ Some node → at_target other (Some (same number)) (element_kept structs node.element) ≡ true)
    → Maps structs graph other map → Maps structs graph other same
maps_same structs graph other map same sound like elements maps = record {
  names = λ name target e.
      let slot = sound.names name target e in
      maps.names name target e ∙ (like target.node (slot.node, slot.is)).targets target.shift;
  elements = elements;
  flags = λ number node e.
      let there = at_there other (map number) (λ image shift. marks_kept node.flags image.flags) (maps.flags number node e) in
      at_from other (same number) (λ image shift. marks_kept node.flags image.flags) there.node (ap (node_at other) (sym (like number (node, e)).node) ∙ there.is) there.so;
  edges = λ number slot node to e has.
      let end = sound.to number slot node to e has in
      ap (edge_at other) (sym ((like number (node, e)).targets slot)) ∙ maps.edges number slot node to e has ∙ (like to.node (end.node, end.is)).targets to.shift;
}

-- where the maps are equal there
pub maps_equal : (structs : List StructDef) (graph other : Graph) (map same : GraphMap) → IsSound structs graph → ((number : ℕ) → IsNode graph number → map number ≡ same number)
    → Maps structs graph other map → Maps structs graph other same
maps_equal structs graph other map same sound equal maps =
    maps_same structs graph other map same sound (λ number node. like_same other (map number) (same number) (equal number node))
    (λ number node e. subst (λ x. at_target other (Some x) (element_kept structs node.element) ≡ true) (equal number (node, e)) (maps.elements number node e)) maps

-- the graph stays
pub ask_step : (structs : List StructDef) → AreMade structs → (graph : Graph) → IsSound structs graph → (before after : List Ask) → AllAreOf structs graph before → AllAreOf structs graph after
    → Same structs graph before after → Step structs graph graph before after
ask_step structs made graph sound before after of_before of_after same = record {
  map = unmoved;
  there = λ number node. node;
  stays = λ number node. (node, refl);
  sound = sound;
  asks = of_after;
  fewer = omega arith;
  forward = λ other into maps holds. (maps, (same.forward other into maps holds, λ number node. refl));
  backward = λ other rest maps holds.
      let like : (number : ℕ) → IsNode graph number → Like other (rest number) (via other rest unmoved number) = λ number node.
      let its = settled_like other (rest number) (image_node structs graph other rest maps number node) in
      record { node = sym its.node; targets = λ slots. sym (its.targets slots) } in
      let kept = keeps_nodes structs made graph graph other unmoved rest sound (nodes_of structs graph graph unmoved (itself structs made graph sound)) maps in (
        maps_same structs graph other rest (via other rest unmoved) sound like kept.elements maps,
        all_like structs graph other rest (via other rest unmoved) like before of_before (same.backward other rest maps holds),
      );
}

module _ (structs : List StructDef) (made : AreMade structs) (one two three : Graph) (before middle after : List Ask) (sound : IsSound structs one) (asks : AllAreOf structs one before)
    (first : Step structs one two before middle) (then : Step structs two three middle after) where
  two_maps : (other : Graph) (rest : GraphMap) → Maps structs three other rest → (number : ℕ) → IsNode one number
      → mapped other rest (via three then.map first.map number) ≡ mapped other (via other rest then.map) (first.map number)
  two_maps other rest maps number node =
      let there = then.there (first.map number).node (first.there number node) in
      let image = at_there other (rest (then.map (first.map number).node).node) (element_kept structs there.0.element) (maps.elements (then.map (first.map number).node).node there.0 there.1) in
      ap (mapped other rest) (via_there three then.map first.map number there.0 there.1)
      ∙ through three other rest then.map (first.map number) there.0 image.node there.1 image.is
      (kept_collapsed structs there.0.element image.node (rest (then.map (first.map number).node).node).shift image.so)

  pub step_trans : Step structs one three before after
  step_trans = record {
    map = via three then.map first.map;
    there = λ number node.
        let there = then.there (first.map number).node (first.there number node) in
        (there.0, ap (λ (t : Target). node_at three t.node) (via_there three then.map first.map number there.0 there.1) ∙ there.1);
    stays = λ number node.
        let last = then.stays number node in
        let its = first.stays number last.0 in
        let there = then.there (first.map number).node (first.there number its.0) in
        (its.0, ap (λ (t : Target). t.node) (via_there three then.map first.map number there.0 there.1) ∙ (ap (λ n. (then.map n).node) its.1 ∙ last.1));
    sound = then.sound;
    asks = then.asks;
    fewer = let a = first.fewer in let b = then.fewer in omega (arith, a, b);
    forward = λ other into maps holds.
        let a = first.forward other into maps holds in
        let b = then.forward other into a.0 a.1.0 in (
          b.0,
          (
            b.1.0,
            λ number node.
                let image = image_node structs two other into a.0 (first.map number).node (first.there number node) in
                two_maps other into b.0 number node
                ∙ ap (λ t. shifted other (first.map number).shift (Some t)) (ap or_first (b.1.1 (first.map number).node (first.there number node)))
                ∙ (settled_like other (into (first.map number).node) image).targets (first.map number).shift
                ∙ a.1.1 number node,
          ),
        );
    backward = λ other rest maps holds.
        let b = then.backward other rest maps holds in
        let a = first.backward other (via other rest then.map) b.0 b.1 in
        let equal : (number : ℕ) → IsNode one number → via other (via other rest then.map) first.map number ≡ via other rest (via three then.map first.map) number = λ number node.
        ap or_first (sym (two_maps other rest maps number node)) in (
          maps_equal structs one other (via other (via other rest then.map) first.map) (via other rest (via three then.map first.map)) sound equal a.0,
          all_like structs one other (via other (via other rest then.map) first.map) (via other rest (via three then.map first.map))
              (λ number node. like_same other (via other (via other rest then.map) first.map number) (via other rest (via three then.map first.map) number) (equal number node)) before asks a.1,
        );
  }

-- where nothing is asked any more, the graph is the least
pub finished : (structs : List StructDef) → AreMade structs → (old new : Graph) (ask : Ask) → Step structs old new (ask ∷ []) [] → LeastWith structs old new (Holds ask)
finished structs made old new ask step =
    let end = step.backward new unmoved (itself structs made new step.sound) tt in
    record {
      map = via new unmoved step.map;
      maps = end.0;
      onto = λ number node e.
          let its = step.stays number (node, e) in
          let there = step.there number its.0 in
          (number, its.0.0, its.0.1, ap (λ (t : Target). t.node) (via_there new unmoved step.map number there.0 there.1) ∙ its.1);
      holds = end.1.0;
      least = λ other into maps holds.
          let all = step.forward other into maps (holds, tt) in (
            into,
            all.0,
            λ number node e.
                let its = step.there number (node, e) in
                let image = at_there other (into (step.map number).node) (element_kept structs its.0.element) (all.0.elements (step.map number).node its.0 its.1) in
                ap (mapped other into) (via_there new unmoved step.map number its.0 its.1)
                ∙ through new other into unmoved (step.map number) its.0 image.node its.1 image.is (kept_collapsed structs its.0.element image.node (into (step.map number).node).shift image.so)
                ∙ (settled_like other (into (step.map number).node) (image.node, image.is)).targets (step.map number).shift
                ∙ all.1.1 number (node, e),
          );
      fewer = step.fewer;
    }
