-- Copies that are told all give an embedding of the graph of the function that is called into that of its caller.
use Rattle.std.proofs.Common.{◌≡◌, ℕ, ◌+◌, Bool, true, false, cond, List, [], ◌∷◌, Option, Some, None, refl, sym, ap, ◌∙◌}
use Rattle.std.specs.Prelude.{◌&&◌, ◌==◌}
use Rattle.std.proofs.lemmas.Bool.{false≢true, and_parts, and_from, eq-eqb}
use Rattle.tac_ir.specs.States.{Owner, InFunction}
use Rattle.heap_graph.specs.Graphs.{Target, Element, Missing, OfType, Collapsed, Flags, Edge, Node, Graph, Embedding, node_at, OfCopy}
use Rattle.heap_graph.specs.Targets.{same_target, at_target, is_collapsed, shifted, edge_at, implies, types_differ, flags_kept, marks_kept, element_kept}
use Rattle.heap_graph.specs.Closed as C
use Rattle.heap_graph.specs.Closed.{Family, graph_of, crossing, node_kept, edges_kept, IsKept, IsEmbedding}
use Rattle.heap_graph.specs.Escaping.{Escapes}
use Rattle.heap_graph.proofs.MapsCompose.{shift_in, shifted_there, at_some, at_there, at_from}
use Rattle.heap_graph.specs.Asks.{is_certain}
use Rattle.heap_graph.specs.Restricted.{if_certain, SameFlags, Restricts}
use Rattle.graph_unification.specs.Adding.{NameFits}
use Rattle.dsa_inlining.specs.Copied.{named_copy, copy_at, image, copied, EdgeCopied, EdgesCopied, AreCopied}
use Rattle.dsa_inlining.specs.CallCopies.Telling.{array_told, CopiesTold}
use Rattle.dsa_inlining.proofs.Carried.{edge_found, copy_found}

-- ---- graphs of certain nodes

-- a certain node is in the graph that was made, with the same element and at least its flags
pub record KeepsNode (own : Graph) (number : ℕ) (node : Node) : Type 0 where
  pub now : Node
  pub is : node_at own number ≡ Some now
  pub element : now.element ≡ node.element
  pub flags : flags_kept node.flags now.flags ≡ true

pub record KeepsCertain (made own : Graph) : Type 0 where
  pub nodes : (number : ℕ) (node : Node) → node_at made number ≡ Some node → node.flags.certain ≡ true → KeepsNode own number node
  pub edges : (target : Target) → is_certain made (Some target) ≡ true → edge_at own (Some target) ≡ if_certain made (edge_at made (Some target))

kept_same : (a b : Bool) → b ≡ a → implies a b ≡ true
kept_same true b h = h
kept_same false b h = refl

same_kept : (a b : Flags) → SameFlags b a → flags_kept a b ≡ true
same_kept a b same =
    and_from _ _ (kept_same a.heap b.heap same.heap) (and_from _ _ (kept_same a.stack b.stack same.stack) (and_from _ _ (kept_same a.global b.global same.global)
    (and_from _ _ (kept_same a.array b.array same.array) (and_from _ _ (kept_same a.modified b.modified same.modified) (kept_same a.read b.read same.read)))))

-- so does the graph of the certain nodes
pub restricts_keeps : (made own : Graph) → Restricts made own → KeepsCertain made own
restricts_keeps made own its = record {
  nodes = λ number node is certain.
      let same = its.nodes number node is certain in
      record { now = same.now; is = same.is; element = same.element; flags = same_kept node.flags same.now.flags same.flags };
  edges = its.edges;
}

-- ---- flags

array_kept : (a b : Flags) → flags_kept a b ≡ true → implies a.array b.array ≡ true
array_kept a b h =
    let one = and_parts (implies a.heap b.heap) _ h in
    let two = and_parts (implies a.stack b.stack) _ one.1 in
    let three = and_parts (implies a.global b.global) _ two.1 in
    (and_parts (implies a.array b.array) _ three.1).0

implies_on : (a b c : Bool) → implies a b ≡ true → implies b c ≡ true → implies a c ≡ true
implies_on false b c h k = refl
implies_on true true c h k = k
implies_on true false c h k = absurd (false≢true h)

both_on : (a b c d e f : Bool) → ((a && b) ≡ true) → ((c && d) ≡ true) → (a ≡ true → c ≡ true → e ≡ true) → (b ≡ true → d ≡ true → f ≡ true) → (e && f) ≡ true
both_on a b c d e f h k first others =
    let left = and_parts a b h in
    let right = and_parts c d k in
    and_from e f (first left.0 right.0) (others left.1 right.1)

kept_on : (a b c : Flags) → flags_kept a b ≡ true → flags_kept b c ≡ true → flags_kept a c ≡ true
kept_on a b c h k =
    both_on _ _ _ _ _ _ h k (implies_on a.heap b.heap c.heap) (λ h k.
    both_on _ _ _ _ _ _ h k (implies_on a.stack b.stack c.stack) (λ h k.
    both_on _ _ _ _ _ _ h k (implies_on a.global b.global c.global) (λ h k.
    both_on _ _ _ _ _ _ h k (implies_on a.array b.array c.array) (λ h k.
    both_on _ _ _ _ _ _ h k (implies_on a.modified b.modified c.modified) (implies_on a.read b.read c.read)))))

-- ---- targets

certain_some : (graph : Graph) (target : Target) (node : Node) → node_at graph target.node ≡ Some node → is_certain graph (Some target) ≡ node.flags.certain
certain_some graph target node e = rw e refl

same_itself : (a : Target) → same_target (Some a) (Some a) ≡ true
same_itself a = and_from (a.node == a.node) (a.shift == a.shift) (eq-eqb a.node a.node refl) (eq-eqb a.shift a.shift refl)

same_equal : (a b : Option Target) (t : Target) → a ≡ Some t → b ≡ Some t → same_target a b ≡ true
same_equal a b t is also = (λ i. same_target (is i) (also i)) ∙ same_itself t

module _ (family : Family) (owner : Owner) (site called : ℕ) (made callee : Graph) (copies : ℕ → Option ℕ) (keeps : KeepsCertain made (graph_of family owner)) (copied_there : AreCopied family.tac.structs made callee copies)
    (told : CopiesTold made callee copies) (there_only : (number copy : ℕ) → copies number ≡ Some copy → (node : Node) × (node_at callee number ≡ Some node))
    (embedding_is : (number : ℕ) → family.graphs.embedding (crossing family owner site called) number ≡ copy_at made copies number) where
  abbrev own : Graph
  own = graph_of family owner

  abbrev embedding : Embedding
  embedding = family.graphs.embedding (crossing family owner site called)

  -- the target of a copy, and its node in both graphs
  record Standing (number copy : ℕ) (node : Node) : Type 0 where
    fits : NameFits family.tac.structs made (OfCopy copy) (copied node)
    before : Node
    is : node_at made fits.target.node ≡ Some before
    certain : before.flags.certain ≡ true
    element : element_kept family.tac.structs node.element before fits.target.shift ≡ true
    flags : flags_kept node.flags before.flags ≡ true
    now : KeepsNode own fits.target.node before

  standing : (number copy : ℕ) (node : Node) → copies number ≡ Some copy → node_at callee number ≡ Some node → Standing number copy node
  standing number copy node of_node is =
      let fits = copied_there.nodes number copy node of_node is in
      let there = at_there made fits.target (λ image shift. marks_kept (copied node).flags image.flags) fits.flags in
      let parts = and_parts (implies true there.node.flags.certain) (flags_kept node.flags there.node.flags) there.so in
      record {
        fits = fits;
        before = there.node;
        is = there.is;
        certain = parts.0;
        element = sym (at_some made fits.target (element_kept family.tac.structs node.element) there.node there.is) ∙ fits.element;
        flags = parts.1;
        now = keeps.nodes fits.target.node there.node there.is parts.0;
      }

  -- slots behind the target of a copy are the same in both graphs
  shifted_same : (number copy : ℕ) (node : Node) (s : Standing number copy node) (slots : ℕ) → shifted own slots (Some s.fits.target) ≡ shifted made slots (Some s.fits.target)
  shifted_same number copy node s slots =
      shifted_there own slots s.fits.target s.now.now s.now.is
      ∙ ap (λ e. Some (record { node = s.fits.target.node; shift = cond (is_collapsed e) 0 (s.fits.target.shift + slots) })) s.now.element
      ∙ sym (shifted_there made slots s.fits.target s.before s.is)

  -- where a target is in the graph that was made, it is in the caller's, and its node is certain
  record Placed (target place : Target) : Type 0 where
    same : shifted own target.shift (copy_at made copies target.node) ≡ Some place
    certain : is_certain made (Some place) ≡ true

  placed : (target place : Target) → image made copies target ≡ Some place → Placed target place
  placed target place is =
      let c = copy_found made copies target.node target.shift place is in
      let node = there_only target.node c.copy c.of_node in
      let s = standing target.node c.copy node.0 c.of_node node.1 in
      let at : copy_at made copies target.node ≡ Some s.fits.target = ap (named_copy made) c.of_node ∙ s.fits.is in
      let old : shifted made target.shift (Some s.fits.target) ≡ Some place = sym (ap (shifted made target.shift) at) ∙ is in
      record {
        same = ap (shifted own target.shift) at ∙ shifted_same target.node c.copy node.0 s target.shift ∙ old;
        certain = ap (is_certain made) (sym old ∙ shifted_there made target.shift s.fits.target s.before s.is)
            ∙ certain_some made (record { node = s.fits.target.node; shift = shift_in s.before (s.fits.target.shift + target.shift) }) s.before s.is ∙ s.certain;
      }

  certain_there : (target : Target) → is_certain made (Some target) ≡ true → if_certain made (Some target) ≡ Some target
  certain_there target h = ap (λ t. cond t (Some target) None) h

  -- the images of edges
  edge_closed : (number : ℕ) (edge : Edge) → EdgeCopied made copies number edge
      → same_target (edge_at own (shifted own edge.slot (copy_at made copies number))) (C.image family owner embedding (Some edge.to)) ≡ true
  edge_closed number edge its =
      let here : Target = record { node = number; shift = edge.slot } in
      let from = edge_found made (image made copies here) its.end its.leads in
      let start = placed here from.at from.is in
      let end = placed edge.to its.end its.is in
      same_equal (edge_at own (shifted own edge.slot (copy_at made copies number))) (C.image family owner embedding (Some edge.to)) its.end
      (ap (edge_at own) start.same ∙ keeps.edges from.at start.certain ∙ ap (if_certain made) (ap (edge_at made) (sym from.is) ∙ its.leads) ∙ certain_there its.end end.certain)
      (ap (shifted own edge.to.shift) (embedding_is edge.to.node) ∙ end.same)

  edges_closed : (number : ℕ) (at : Target) (edges : List Edge) → copy_at made copies number ≡ Some at → EdgesCopied made copies number edges → edges_kept family owner embedding (Some at) edges ≡ true
  edges_closed number at [] is its = refl
  edges_closed number at (edge ∷ edges) is its =
      and_from _ _ (ap (λ t. same_target (edge_at own (shifted own edge.slot t)) (C.image family owner embedding (Some edge.to))) (sym is) ∙ edge_closed number edge its.0) (edges_closed number at edges is its.1)

  node_closed : (number copy : ℕ) (node : Node) (s : Standing number copy node) → copies number ≡ Some copy → node_at callee number ≡ Some node → at_target own (Some s.fits.target) (node_kept family owner node) ≡ true
  node_closed number copy node s of_node is =
      let now = s.now.now in
      let array : implies (node.flags.heap && types_differ node.element s.before.element) s.before.flags.array ≡ true =
      sym (at_some made s.fits.target (array_told node) s.before s.is) ∙ ap (λ t. at_target made t (array_told node)) (sym s.fits.is) ∙ told number copy node of_node is in
      at_from own s.fits.target (node_kept family owner node) now s.now.is
      (and_from _ _ (element_same s.before.element now.element s.now.element node.element s.before.flags now.flags s.before.edges now.edges s.fits.target.shift s.element)
      (and_from _ _ (kept_on node.flags s.before.flags now.flags s.flags s.now.flags)
      (ap (λ e. implies (node.flags.heap && types_differ node.element e) now.flags.array) s.now.element
      ∙ implies_on (node.flags.heap && types_differ node.element s.before.element) s.before.flags.array now.flags.array array (array_kept s.before.flags now.flags s.now.flags))))
    where
      by_element : (old e : Element) (f g : Flags) (es fs : List Edge) (shift : ℕ) → element_kept family.tac.structs old (record { element = e; flags = f; edges = es }) shift
          ≡ element_kept family.tac.structs old (record { element = e; flags = g; edges = fs }) shift
      by_element Missing e f g es fs shift = refl
      by_element (OfType t) Missing f g es fs shift = refl
      by_element (OfType t) (OfType u) f g es fs shift = refl
      by_element (OfType t) Collapsed f g es fs shift = refl
      by_element Collapsed e f g es fs shift = refl

      element_same : (a b : Element) → b ≡ a → (old : Element) (f g : Flags) (es fs : List Edge) (shift : ℕ) → element_kept family.tac.structs old (record { element = a; flags = f; edges = es }) shift ≡ true
          → element_kept family.tac.structs old (record { element = b; flags = g; edges = fs }) shift ≡ true
      element_same a b same old f g es fs shift h = ap (λ e. element_kept family.tac.structs old (record { element = e; flags = g; edges = fs }) shift) same ∙ sym (by_element old a f g es fs shift) ∙ h

  -- a node that is copied is kept
  pub kept_closed : (number copy : ℕ) (node : Node) → copies number ≡ Some copy → node_at callee number ≡ Some node → IsKept family owner embedding number node
  kept_closed number copy node of_node is =
      let s = standing number copy node of_node is in
      let at : copy_at made copies number ≡ Some s.fits.target = ap (named_copy made) of_node ∙ s.fits.is in
      record {
        at = s.fits.target;
        is = embedding_is number ∙ at;
        kept = node_closed number copy node s of_node is;
        edges = edges_closed number s.fits.target node.edges at (copied_there.edges number copy node of_node is);
      }

  -- copies of exactly the nodes that escape are an embedding
  pub closing : ((number : ℕ) (node : Node) → node_at (graph_of family (InFunction called)) number ≡ Some node → node_at callee number ≡ Some node)
      → ((number : ℕ) (node : Node) → node_at callee number ≡ Some node → Escapes (graph_of family (InFunction called)) (InFunction called) number → (copy : ℕ) × (copies number ≡ Some copy))
      → ((number copy : ℕ) → copies number ≡ Some copy → Escapes (graph_of family (InFunction called)) (InFunction called) number)
      → IsEmbedding family owner site called
  closing nodes all only = record {
    escaping = λ number node is escapes.
        let there = nodes number node is in
        let copy = all number node there escapes in
        kept_closed number copy.0 node copy.1 there;
    others = λ number stays. embedding_is number ∙ none number stays (copies number) refl;
  }
    where
      none : (number : ℕ) → (Escapes (graph_of family (InFunction called)) (InFunction called) number → ⊥) → (o : Option ℕ) → copies number ≡ o → copy_at made copies number ≡ None
      none number stays None e = ap (named_copy made) e
      none number stays (Some copy) e = absurd (stays (only number copy e))
