-- Maps of graphs one after the other.
use Rattle.std.proofs.Common.{◌≡◌, ℕ, ◌+◌, Bool, true, false, cond, List, Option, Some, None, refl, sym, ap, subst, ◌∙◌, arith}
use Rattle.std.specs.Prelude.{◌&&◌}
use Rattle.std.proofs.lemmas.Bool.{false≢true, and_parts, and_from}
use Rattle.std.proofs.lemmas.Option.{same_Some}
use Rattle.c_typed.specs.Layouts.{StructDef}
use Rattle.heap_graph.specs.Structures.{AreMade}
use Rattle.heap_graph.specs.Graphs.{Target, Element, Missing, OfType, Collapsed, Flags, Edge, Node, Name, Graph, edge_in, node_at}
use Rattle.heap_graph.specs.Targets.{at_target, is_collapsed, shifted, edge_at, implies, marks_kept, element_kept}
use Rattle.heap_graph.specs.Merging.{slots, IsSound, GraphMap, mapped, Maps, IsOnto}
use Rattle.heap_graph.specs.Steps.{or_first, via}
use Rattle.heap_graph.proofs.PartsNest.{tested, found, part_trans}

abbrev pub shift_in : Node → ℕ → ℕ
shift_in node shift = cond (is_collapsed node.element) 0 shift

-- a target whose node is there
pub shifted_there : (graph : Graph) (slots : ℕ) (target : Target) (node : Node) → node_at graph target.node ≡ Some node
    → shifted graph slots (Some target) ≡ Some (record { node = target.node; shift = shift_in node (target.shift + slots) })
shifted_there graph slots target node e = rw e refl

at_none : (graph : Graph) (target : Target) (holds : Node → ℕ → Bool) → node_at graph target.node ≡ None → at_target graph (Some target) holds ≡ false
at_none graph target holds e = rw e refl

pub at_some : (graph : Graph) (target : Target) (holds : Node → ℕ → Bool) (node : Node) → node_at graph target.node ≡ Some node → at_target graph (Some target) holds ≡ holds node target.shift
at_some graph target holds node e = rw e refl

pub record There (graph : Graph) (target : Target) (holds : Node → ℕ → Bool) : Type 0 where
  pub node : Node
  pub is : node_at graph target.node ≡ Some node
  pub so : holds node target.shift ≡ true

pub at_there : (graph : Graph) (target : Target) (holds : Node → ℕ → Bool) → at_target graph (Some target) holds ≡ true → There graph target holds
at_there graph target holds h = by (node_at graph target.node) refl
  where
    by : (o : Option Node) → node_at graph target.node ≡ o → There graph target holds
    by None e = absurd (false≢true (sym (at_none graph target holds e) ∙ h))
    by (Some node) e = record { node = node; is = e; so = sym (at_some graph target holds node e) ∙ h }

pub at_from : (graph : Graph) (target : Target) (holds : Node → ℕ → Bool) (node : Node) → node_at graph target.node ≡ Some node → holds node target.shift ≡ true
    → at_target graph (Some target) holds ≡ true
at_from graph target holds node e h = rw e h

pub edge_there : (graph : Graph) (target : Target) (node : Node) → node_at graph target.node ≡ Some node → edge_at graph (Some target) ≡ edge_in node.edges target.shift
edge_there graph target node e = rw e refl

abbrev pub target_in : GraphMap → Target → Node → Target
target_in map target image = record { node = (map target.node).node; shift = shift_in image ((map target.node).shift + target.shift) }

pub mapped_there : (other : Graph) (map : GraphMap) (target : Target) (image : Node) → node_at other (map target.node).node ≡ Some image → mapped other map target ≡ Some (target_in map target image)
mapped_there other map target image e = shifted_there other target.shift (map target.node) image e

-- ---- what is kept is kept further

pub element_trans : (structs : List StructDef) → AreMade structs → (a b c : Element) (f g : Flags) (es fs : List Edge) (s t : ℕ)
    → element_kept structs a (record { element = b; flags = f; edges = es }) s ≡ true → element_kept structs b (record { element = c; flags = g; edges = fs }) t ≡ true
    → element_kept structs a (record { element = c; flags = g; edges = fs }) (cond (is_collapsed c) 0 (t + s)) ≡ true
element_trans structs made Missing b c f g es fs s t h k = refl
element_trans structs made (OfType x) Missing c f g es fs s t h k = absurd (false≢true h)
element_trans structs made (OfType x) b Collapsed f g es fs s t h k = refl
element_trans structs made (OfType x) (OfType y) Missing f g es fs s t h k = absurd (false≢true k)
element_trans structs made (OfType x) (OfType y) (OfType z) f g es fs s t h k =
    found structs made z (t + s) x (part_trans structs z t y s x (tested structs made z t y k) (tested structs made y s x h))
element_trans structs made (OfType x) Collapsed Missing f g es fs s t h k = absurd (false≢true k)
element_trans structs made (OfType x) Collapsed (OfType z) f g es fs s t h k = absurd (false≢true k)
element_trans structs made Collapsed Missing c f g es fs s t h k = absurd (false≢true h)
element_trans structs made Collapsed (OfType y) c f g es fs s t h k = absurd (false≢true h)
element_trans structs made Collapsed Collapsed c f g es fs s t h k = k

implies_trans : (a b c : Bool) → implies a b ≡ true → implies b c ≡ true → implies a c ≡ true
implies_trans false b c h k = refl
implies_trans true true c h k = k
implies_trans true false c h k = absurd (false≢true h)

both : (a b c d e f : Bool) → ((a && b) ≡ true) → ((c && d) ≡ true) → (a ≡ true → c ≡ true → e ≡ true) → (b ≡ true → d ≡ true → f ≡ true) → (e && f) ≡ true
both a b c d e f h k first others =
    let left = and_parts a b h in
    let right = and_parts c d k in
    and_from e f (first left.0 right.0) (others left.1 right.1)

pub flags_trans : (a b c : Flags) → marks_kept a b ≡ true → marks_kept b c ≡ true → marks_kept a c ≡ true
flags_trans a b c h k =
    both _ _ _ _ _ _ h k (implies_trans a.certain b.certain c.certain) (λ h k.
    both _ _ _ _ _ _ h k (implies_trans a.heap b.heap c.heap) (λ h k.
    both _ _ _ _ _ _ h k (implies_trans a.stack b.stack c.stack) (λ h k.
    both _ _ _ _ _ _ h k (implies_trans a.global b.global c.global) (λ h k.
    both _ _ _ _ _ _ h k (implies_trans a.array b.array c.array) (λ h k.
    both _ _ _ _ _ _ h k (implies_trans a.modified b.modified c.modified) (implies_trans a.read b.read c.read))))))

-- ---- maps one after the other

shifts : (c d : Bool) → (c ≡ true → d ≡ true) → (r m t : ℕ) → cond d 0 (r + cond c 0 (m + t)) ≡ cond d 0 (cond d 0 (r + m) + t)
shifts c true h r m t = refl
shifts true false h r m t = absurd (false≢true (h refl))
shifts false false h r m t = omega arith

pub via_there : (other : Graph) (rest map : GraphMap) (number : ℕ) (image : Node) → node_at other (rest (map number).node).node ≡ Some image
    → via other rest map number ≡ target_in rest (map number) image
via_there other rest map number image e = ap or_first (mapped_there other rest (map number) image e)

-- to each node of the last graph a node of the first came, where the one map and the other are so
pub onto_then : (one two three : Graph) (map rest : GraphMap) → IsOnto one two map → IsOnto two three rest → IsOnto one three (via three rest map)
onto_then one two three map rest first then number node e =
    let last = then number node e in
    let middle = first last.0 last.1 last.2 in
    let same = ap (λ n. (rest n).node) middle.3 ∙ last.3 in
    (middle.0, middle.1, middle.2, ap (λ (t : Target). t.node) (via_there three rest map middle.0 node (ap (node_at three) same ∙ e)) ∙ same)

pub kept_collapsed : (structs : List StructDef) (a : Element) (image : Node) (s : ℕ) → element_kept structs a image s ≡ true → is_collapsed a ≡ true → is_collapsed image.element ≡ true
kept_collapsed structs Missing image s h c = absurd (false≢true c)
kept_collapsed structs (OfType t) image s h c = absurd (false≢true c)
kept_collapsed structs Collapsed image s h c = h

-- a target by two maps is the target by both
pub through : (one two : Graph) (rest map : GraphMap) (target : Target) (middle last : Node) → node_at one (map target.node).node ≡ Some middle
    → node_at two (rest (map target.node).node).node ≡ Some last → (is_collapsed middle.element ≡ true → is_collapsed last.element ≡ true)
    → mapped two rest (target_in map target middle) ≡ mapped two (via two rest map) target
through one two rest map target middle last e f keeps =
    let itself = via_there two rest map target.node last f in
    mapped_there two rest (target_in map target middle) last f
    ∙ ap (λ s. Some (record { node = (rest (map target.node).node).node; shift = s })) (shifts (is_collapsed middle.element) (is_collapsed last.element) keeps (rest (map target.node).node).shift (map target.node).shift target.shift)
    ∙ sym (ap (λ x. shifted two target.shift (Some x)) itself ∙ shifted_there two target.shift (target_in rest (map target.node) last) last f)

-- a map that keeps all but edges
pub record KeepsNodes (structs : List StructDef) (graph other : Graph) (map : GraphMap) : Type 0 where
  pub names : (name : Name) (target : Target) → graph.targets name ≡ Some target → other.targets name ≡ mapped other map target
  pub elements : (number : ℕ) (node : Node) → node_at graph number ≡ Some node → at_target other (Some (map number)) (element_kept structs node.element) ≡ true
  pub flags : (number : ℕ) (node : Node) → node_at graph number ≡ Some node → at_target other (Some (map number)) (λ image shift. marks_kept node.flags image.flags) ≡ true

-- where a node of the first graph is in the second and in the third
pub record Places (structs : List StructDef) (one two three : Graph) (map rest : GraphMap) (number : ℕ) (node : Node) : Type 0 where
  pub middle : Node
  pub middle_is : node_at two (map number).node ≡ Some middle
  pub last : Node
  pub last_is : node_at three (rest (map number).node).node ≡ Some last
  pub first_kept : element_kept structs node.element middle (map number).shift ≡ true
  pub then_kept : element_kept structs middle.element last (rest (map number).node).shift ≡ true
  pub first_flags : marks_kept node.flags middle.flags ≡ true
  pub then_flags : marks_kept middle.flags last.flags ≡ true

module _ (structs : List StructDef) (made : AreMade structs) (one two three : Graph) (map rest : GraphMap) (sound : IsSound structs one) (first : KeepsNodes structs one two map) (then : Maps structs two three rest) where
  pub places : (number : ℕ) (node : Node) → node_at one number ≡ Some node → Places structs one two three map rest number node
  places number node e =
      let a = at_there two (map number) (element_kept structs node.element) (first.elements number node e) in
      let b = at_there three (rest (map number).node) (element_kept structs a.node.element) (then.elements (map number).node a.node a.is) in
      record {
        middle = a.node;
        middle_is = a.is;
        last = b.node;
        last_is = b.is;
        first_kept = a.so;
        then_kept = b.so;
        first_flags = sym (at_some two (map number) (λ image shift. marks_kept node.flags image.flags) a.node a.is) ∙ first.flags number node e;
        then_flags = sym (at_some three (rest (map number).node) (λ image shift. marks_kept a.node.flags image.flags) b.node b.is) ∙ then.flags (map number).node a.node a.is;
      }

  pub go_through : (target : Target) (node : Node) (e : node_at one target.node ≡ Some node)
      → mapped three rest (target_in map target (places target.node node e).middle) ≡ mapped three (via three rest map) target
  go_through target node e =
      let p = places target.node node e in
      through two three rest map target p.middle p.last p.middle_is p.last_is (kept_collapsed structs p.middle.element p.last (rest (map target.node).node).shift p.then_kept)

  pub keeps_nodes : KeepsNodes structs one three (via three rest map)
  keeps_nodes = record {
    names = λ name target e.
        let there = sound.names name target e in
        let p = places target.node there.node there.is in
        then.names name (target_in map target p.middle) (first.names name target e ∙ mapped_there two map target p.middle p.middle_is)
        ∙ go_through target there.node there.is;
    elements = λ number node e.
        let p = places number node e in
        let itself = via_there three rest map number p.last p.last_is in
        subst (λ x. at_target three (Some x) (element_kept structs node.element) ≡ true) (sym itself)
        (at_from three (target_in rest (map number) p.last) (element_kept structs node.element) p.last p.last_is
        (element_trans structs made node.element p.middle.element p.last.element p.middle.flags p.last.flags p.middle.edges p.last.edges (map number).shift (rest (map number).node).shift p.first_kept p.then_kept));
    flags = λ number node e.
        let p = places number node e in
        let itself = via_there three rest map number p.last p.last_is in
        subst (λ x. at_target three (Some x) (λ image shift. marks_kept node.flags image.flags) ≡ true) (sym itself)
        (at_from three (target_in rest (map number) p.last) (λ image shift. marks_kept node.flags image.flags) p.last p.last_is (flags_trans node.flags p.middle.flags p.last.flags p.first_flags p.then_flags));
  }

  -- an edge that the second graph has
  pub edge_through : (number slot : ℕ) (node : Node) (to : Target) → node_at one number ≡ Some node → edge_in node.edges slot ≡ Some to
      → edge_at two (mapped two map (record { node = number; shift = slot })) ≡ mapped two map to
      → edge_at three (mapped three (via three rest map) (record { node = number; shift = slot })) ≡ mapped three (via three rest map) to
  edge_through number slot node to e has image =
      let from : Target = record { node = number; shift = slot } in
      let p = places number node e in
      let there = sound.to number slot node to e has in
      let q = places to.node there.node there.is in
      let at_first : edge_in p.middle.edges (target_in map from p.middle).shift ≡ Some (target_in map to q.middle) =
      sym (edge_there two (target_in map from p.middle) p.middle p.middle_is) ∙ ap (edge_at two) (sym (mapped_there two map from p.middle p.middle_is))
      ∙ image ∙ mapped_there two map to q.middle q.middle_is in
      ap (edge_at three) (sym (go_through from node e))
      ∙ then.edges (map number).node (target_in map from p.middle).shift p.middle (target_in map to q.middle) p.middle_is at_first
      ∙ go_through to there.node there.is

  -- an edge that the third graph has from where it lies in the second
  pub edge_reached : (number slot : ℕ) (node : Node) (to : Target) → node_at one number ≡ Some node → edge_in node.edges slot ≡ Some to
      → (from_image to_image : Target) → mapped two map (record { node = number; shift = slot }) ≡ Some from_image → mapped two map to ≡ Some to_image
      → edge_at three (mapped three rest from_image) ≡ mapped three rest to_image
      → edge_at three (mapped three (via three rest map) (record { node = number; shift = slot })) ≡ mapped three (via three rest map) to
  edge_reached number slot node to e has from_image to_image at_from at_to image =
      let from : Target = record { node = number; shift = slot } in
      let p = places number node e in
      let there = sound.to number slot node to e has in
      let q = places to.node there.node there.is in
      let f : target_in map from p.middle ≡ from_image = same_Some (target_in map from p.middle) from_image (sym (mapped_there two map from p.middle p.middle_is) ∙ at_from) in
      let t : target_in map to q.middle ≡ to_image = same_Some (target_in map to q.middle) to_image (sym (mapped_there two map to q.middle q.middle_is) ∙ at_to) in
      ap (edge_at three) (sym (go_through from node e) ∙ ap (mapped three rest) f) ∙ image ∙ ap (mapped three rest) (sym t) ∙ go_through to there.node there.is
