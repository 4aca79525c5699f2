-- Steps that ask for other things and leave the graph as it is.
use Rattle.std.proofs.Common.{◌≡◌, ℕ, ◌+◌, ◌<◌, Bool, true, false, cond, List, ◌∷◌, Some, refl, sym, ap, subst, ◌∙◌, arith}
use Rattle.std.proofs.lemmas.Bool.{false≢true}
use Rattle.std.proofs.lemmas.Option.{same_Some}
use Rattle.c_typed.specs.Types.{CType}
use Rattle.c_typed.specs.Layouts.{StructDef}
use Rattle.heap_graph.specs.Structures.{AreMade}
use Rattle.heap_graph.specs.Parts.{slots_of, has_part}
use Rattle.heap_graph.specs.Graphs.{Target, Element, Missing, OfType, Collapsed, Flags, Edge, Node, Graph, edge_in, node_at}
use Rattle.heap_graph.specs.Targets.{at_target, is_collapsed, element_kept}
use Rattle.heap_graph.specs.Merging.{slots, IsSlot, GraphMap, mapped, Maps, IsCollapsed}
use Rattle.heap_graph.specs.Steps.{Ask, One, Collapse, Points}
use Rattle.heap_graph.proofs.PartsNest.{tested, found, Nests, Within, Around, nests}
use Rattle.heap_graph.proofs.MapsCompose.{shift_in, There, at_there, at_from, target_in, mapped_there}
use Rattle.heap_graph.proofs.StepsCompose.{Same}

abbrev pub first_slot : ℕ → Target
first_slot number = record { node = number; shift = 0 }

-- what a node's image is
pub image_of : (structs : List StructDef) (graph other : Graph) (map : GraphMap) → Maps structs graph other map → (number : ℕ) (node : Node) → node_at graph number ≡ Some node
    → There other (map number) (element_kept structs node.element)
image_of structs graph other map maps number node e = at_there other (map number) (element_kept structs node.element) (maps.elements number node e)

pub collapsed_image : (other : Graph) (map : GraphMap) (number : ℕ) (image : Node) → node_at other (map number).node ≡ Some image → is_collapsed image.element ≡ true → IsCollapsed number other map
collapsed_image other map number image e c = at_from other (map number) (λ node shift. is_collapsed node.element) image e c

-- in a collapsed node there is one slot
pub one_slot : (other : Graph) (map : GraphMap) (a b : Target) → map a.node ≡ map b.node → IsCollapsed a.node other map → mapped other map a ≡ mapped other map b
one_slot other map a b e c =
    let there = at_there other (map a.node) (λ node shift. is_collapsed node.element) c in
    let at_b : node_at other (map b.node).node ≡ Some there.node = ap (λ (t : Target). node_at other t.node) (sym e) ∙ there.is in
    mapped_there other map a there.node there.is
    ∙ ap (λ s. Some (record { node = (map a.node).node; shift = s })) (zero_shift there.node there.so _)
    ∙ ap (λ (t : Target). Some (record { node = t.node; shift = 0 })) e
    ∙ ap (λ s. Some (record { node = (map b.node).node; shift = s })) (sym (zero_shift there.node there.so _))
    ∙ sym (mapped_there other map b there.node at_b)
  where
    zero_shift : (node : Node) → is_collapsed node.element ≡ true → (s : ℕ) → shift_in node s ≡ 0
    zero_shift node c s = ap (λ b. cond b 0 s) c

-- a target is itself
pub same_targets : (structs : List StructDef) (graph : Graph) (a : Target) (asks : List Ask) → Same structs graph (One a a ∷ asks) asks
same_targets structs graph a asks = record { forward = λ other into maps holds. holds.1; backward = λ other into maps holds. (refl, holds) }

pub turned : (structs : List StructDef) (graph : Graph) (a b : Target) (asks : List Ask) → Same structs graph (One a b ∷ asks) (One b a ∷ asks)
turned structs graph a b asks = record { forward = λ other into maps holds. (sym holds.0, holds.1); backward = λ other into maps holds. (sym holds.0, holds.1) }

-- two slots of a node are one only where it is collapsed
two_shifts : (c : Bool) (s i j : ℕ) → (i ≡ j → ⊥) → cond c 0 (s + i) ≡ cond c 0 (s + j) → c ≡ true
two_shifts true s i j differ e = refl
two_shifts false s i j differ e = absurd (differ (omega (arith, e)))

pub two_slots : (structs : List StructDef) (graph : Graph) (a b : Target) (node : Node) → node_at graph a.node ≡ Some node → a.node ≡ b.node → (a.shift ≡ b.shift → ⊥) → (asks : List Ask)
    → Same structs graph (One a b ∷ asks) (Collapse a.node ∷ asks)
two_slots structs graph a b node e same differ asks = record {
  forward = λ other into maps holds.
      let image = image_of structs graph other into maps a.node node e in
      let at_b : node_at other (into b.node).node ≡ Some image.node = ap (λ n. node_at other (into n).node) (sym same) ∙ image.is in
      let shifts : (target_in into a image.node).shift ≡ (target_in into b image.node).shift =
      ap (λ (t : Target). t.shift) (same_Some (target_in into a image.node) (target_in into b image.node) (sym (mapped_there other into a image.node image.is) ∙ holds.0 ∙ mapped_there other into b image.node at_b)) in
      let collapsed = two_shifts (is_collapsed image.node.element) (into a.node).shift a.shift b.shift differ (shifts ∙ ap (λ n. shift_in image.node ((into n).shift + b.shift)) (sym same)) in
      (collapsed_image other into a.node image.node image.is collapsed, holds.1);
  backward = λ other into maps holds. (one_slot other into a b (ap into same) holds.0, holds.1);
}

-- what is collapsed is so in each graph to which there is a map
kept_collapsed_image : (structs : List StructDef) (element : Element) (other : Graph) (target : Target) → element ≡ Collapsed → at_target other (Some target) (element_kept structs element) ≡ true
    → at_target other (Some target) (λ node shift. is_collapsed node.element) ≡ true
kept_collapsed_image structs element other target e h = subst (λ x. at_target other (Some target) (element_kept structs x) ≡ true) e h

pub collapsed_already : (structs : List StructDef) (graph : Graph) (number : ℕ) (node : Node) → node_at graph number ≡ Some node → node.element ≡ Collapsed → (asks : List Ask)
    → Same structs graph (Collapse number ∷ asks) asks
collapsed_already structs graph number node e c asks = record {
  forward = λ other into maps holds. holds.1;
  backward = λ other into maps holds. (kept_collapsed_image structs node.element other (into number) c (maps.elements number node e), holds);
}

-- a second edge of a slot
pub second_edge : (structs : List StructDef) (graph : Graph) (number slot : ℕ) (node : Node) (own to : Target) → node_at graph number ≡ Some node → edge_in node.edges slot ≡ Some own → (asks : List Ask)
    → Same structs graph (Points number slot to ∷ asks) (One own to ∷ asks)
second_edge structs graph number slot node own to e has asks = record {
  forward = λ other into maps holds. (sym (maps.edges number slot node own e has) ∙ holds.0, holds.1);
  backward = λ other into maps holds. (maps.edges number slot node own e has ∙ holds.0, holds.1);
}

-- ---- nodes that don't agree

-- One of two nodes is collapsed, or neither type is a part of the other at the difference of the shifts.
pub data Clash (structs : List StructDef) (a b : Element) (i j : ℕ) : Type 0 where
  First : a ≡ Collapsed → Clash structs a b i j
  Second : b ≡ Collapsed → Clash structs a b i j
  Types : (t u : CType) → a ≡ OfType t → b ≡ OfType u → ((d : ℕ) → j + d ≡ i → has_part structs t d u ≡ true → ⊥) → ((d : ℕ) → i + d ≡ j → has_part structs u d t ≡ true → ⊥)
      → Clash structs a b i j

types_clash : (structs : List StructDef) → AreMade structs → (t u : CType) (image : Element) (flags : Flags) (edges : List Edge) (p q i j : ℕ) → i < slots_of structs t → j < slots_of structs u
    → element_kept structs (OfType t) (record { element = image; flags = flags; edges = edges }) p ≡ true → element_kept structs (OfType u) (record { element = image; flags = flags; edges = edges }) q ≡ true
    → cond (is_collapsed image) 0 (p + i) ≡ cond (is_collapsed image) 0 (q + j)
    → ((d : ℕ) → j + d ≡ i → has_part structs t d u ≡ true → ⊥) → ((d : ℕ) → i + d ≡ j → has_part structs u d t ≡ true → ⊥) → is_collapsed image ≡ true
types_clash structs made t u Missing flags edges p q i j li lj h k e away off = absurd (false≢true h)
types_clash structs made t u Collapsed flags edges p q i j li lj h k e away off = refl
types_clash structs made t u (OfType whole) flags edges p q i j li lj h k e away off =
    by (nests structs made whole p t q u (p + i) (tested structs made whole p t h) (tested structs made whole q u k) (omega arith) (omega (arith, li)) (omega (arith, e)) (omega (arith, e, lj)))
  where
    by : Nests structs p t q u → false ≡ true
    by (Within d sum part) = absurd (away d (omega (arith, sum, e)) (found structs made t d u part))
    by (Around d sum part) = absurd (off d (omega (arith, sum, e)) (found structs made u d t part))

module _ (structs : List StructDef) (made : AreMade structs) (graph : Graph) (a b : Target) (at_a : IsSlot structs graph a) (at_b : IsSlot structs graph b) where
  clash_image : (other : Graph) (image : Node) (p q : ℕ) → Clash structs at_a.node.element at_b.node.element a.shift b.shift → element_kept structs at_a.node.element image p ≡ true
      → element_kept structs at_b.node.element image q ≡ true → shift_in image (p + a.shift) ≡ shift_in image (q + b.shift) → is_collapsed image.element ≡ true
  clash_image other image p q (First c) h k e = subst (λ x. element_kept structs x image p ≡ true) c h
  clash_image other image p q (Second c) h k e = subst (λ x. element_kept structs x image q ≡ true) c k
  clash_image other image p q (Types t u is its away off) h k e =
      types_clash structs made t u image.element image.flags image.edges p q a.shift b.shift (subst (λ x. a.shift < slots structs x) is at_a.inside) (subst (λ x. b.shift < slots structs x) its at_b.inside)
      (subst (λ x. element_kept structs x image p ≡ true) is h) (subst (λ x. element_kept structs x image q ≡ true) its k) e away off

  pub clash : Clash structs at_a.node.element at_b.node.element a.shift b.shift → (asks : List Ask)
      → Same structs graph (One a b ∷ asks) (Collapse a.node ∷ Collapse b.node ∷ One (first_slot a.node) (first_slot b.node) ∷ asks)
  clash clashes asks = record {
    forward = λ other into maps holds.
        let x = image_of structs graph other into maps a.node at_a.node at_a.is in
        let y = image_of structs graph other into maps b.node at_b.node at_b.is in
        let targets : target_in into a x.node ≡ target_in into b y.node =
        same_Some (target_in into a x.node) (target_in into b y.node) (sym (mapped_there other into a x.node x.is) ∙ holds.0 ∙ mapped_there other into b y.node y.is) in
        let nodes : (into a.node).node ≡ (into b.node).node = ap (λ (t : Target). t.node) targets in
        let images : y.node ≡ x.node = same_Some y.node x.node (sym y.is ∙ ap (node_at other) (sym nodes) ∙ x.is) in
        let is_b : node_at other (into b.node).node ≡ Some x.node = y.is ∙ ap Some images in
        let shifts : shift_in x.node ((into a.node).shift + a.shift) ≡ shift_in x.node ((into b.node).shift + b.shift) =
        ap (λ (t : Target). t.shift) targets ∙ ap (λ n. shift_in n ((into b.node).shift + b.shift)) images in
        let collapsed = clash_image other x.node (into a.node).shift (into b.node).shift clashes x.so (subst (λ n. element_kept structs at_b.node.element n (into b.node).shift ≡ true) images y.so) shifts in (
          collapsed_image other into a.node x.node x.is collapsed,
          (
            collapsed_image other into b.node x.node is_b collapsed,
            (
              one_slot other into (first_slot a.node) a refl (collapsed_image other into a.node x.node x.is collapsed) ∙ holds.0
                  ∙ one_slot other into b (first_slot b.node) refl (collapsed_image other into b.node x.node is_b collapsed),
              holds.1,
            ),
          ),
        );
    backward = λ other into maps holds.
        (one_slot other into a (first_slot a.node) refl holds.0 ∙ holds.1.1.0 ∙ one_slot other into (first_slot b.node) b refl holds.1.0, holds.1.1.1);
  }

  -- the same two targets are asked once more
  pub clash_again : Clash structs at_a.node.element at_b.node.element a.shift b.shift → (asks : List Ask) → Same structs graph (One a b ∷ asks) (Collapse a.node ∷ Collapse b.node ∷ One a b ∷ asks)
  clash_again clashes asks = record {
    forward = λ other into maps holds. let plain = (clash clashes asks).forward other into maps holds in (plain.0, (plain.1.0, holds));
    backward = λ other into maps holds. holds.1.1;
  }
