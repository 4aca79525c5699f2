-- Where the copies of a function's nodes come to in the caller's graph of a closed family, to which a map leads.
use Rattle.std.proofs.Common.{◌≡◌, ℕ, ◌+◌, ◌==◌, Bool, true, false, cond, List, [], ◌∷◌, ◌++◌, Option, Some, refl, sym, ap, subst, ◌∙◌, arith, eqb-true}
use Rattle.std.specs.Prelude.{◌&&◌}
use Rattle.std.proofs.lemmas.Bool.{false≢true, and_parts, and_from}
use Rattle.std.proofs.lemmas.Option.{none-some, same_Some}
use Rattle.tac_ir.specs.States.{Owner, InFunction}
use Rattle.heap_graph.specs.Structures.{AreMade}
use Rattle.heap_graph.specs.Graphs.{Target, Element, Missing, OfType, Collapsed, Flags, Edge, Node, Graph, OfCopy, Embedding, edge_in, node_at}
use Rattle.heap_graph.specs.Targets.{same_target, is_collapsed, shifted, edge_at, implies, types_differ, flags_kept, marks_kept, element_kept}
use Rattle.heap_graph.specs.Escaping.{Escapes}
use Rattle.heap_graph.specs.Steps.{or_first, AreFound}
use Rattle.heap_graph.specs.Closed as C
use Rattle.heap_graph.specs.Closed.{Family, graph_of, crossing, is_slot, IsKept, IsEmbedding}
use Rattle.heap_graph.specs.Merging.{GraphMap}
use Rattle.heap_graph.proofs.MapsCompose.{at_there, at_from, shift_in, shifted_there, edge_there, element_trans, flags_trans, kept_collapsed, target_in}
use Rattle.heap_graph.specs.Completed.{nothing_in, missing, completed_node, completed}
use Rattle.heap_graph.proofs.Certain.{same_eq}
use Rattle.heap_graph.proofs.CompletedGraph.{node_kept}
use Rattle.graph_unification.specs.Adding.{NameFits}
use Rattle.dsa_inlining.specs.Copied.{named_copy, image, copied, EdgeCopied, EdgesCopied, AreCopied}
use Rattle.dsa_inlining.proofs.Carried.{copy_found}
use Rattle.dsa_inlining.specs.Placed.{CopyPlaced}
use Rattle.dsa_bottom_up.specs.Mapping.{MapsShape, KeepsFlags}
use Rattle.dsa_bottom_up.proofs.Reaching.{node_image, edge_image, EndsThere}

-- ---- edges

edge_before : (edges more : List Edge) (slot : ℕ) (to : Target) → edge_in edges slot ≡ Some to → edge_in (edges ++ more) slot ≡ Some to
edge_before [] more slot to e = absurd (none-some to e)
edge_before (edge ∷ edges) more slot to e = by (edge.slot == slot) e (edge_before edges more slot to)
  where
    by : (b : Bool) → cond b (Some edge.to) (edge_in edges slot) ≡ Some to → (edge_in edges slot ≡ Some to → edge_in (edges ++ more) slot ≡ Some to)
        → cond b (Some edge.to) (edge_in (edges ++ more) slot) ≡ Some to
    by true e rest = e
    by false e rest = rest e

-- that of a list of edges that are kept
edge_of : (family : Family) (owner : Owner) (embedding : Embedding) (at : Option Target) (edges : List Edge) → C.edges_kept family owner embedding at edges ≡ true → (slot : ℕ) (to : Target) → edge_in edges slot ≡ Some to
    → edge_at (graph_of family owner) (shifted (graph_of family owner) slot at) ≡ C.image family owner embedding (Some to)
edge_of family owner embedding at [] kept slot to is = absurd (none-some to is)
edge_of family owner embedding at (edge ∷ edges) kept slot to is =
    let both = and_parts (same_target (edge_at (graph_of family owner) (shifted (graph_of family owner) edge.slot at)) (C.image family owner embedding (Some edge.to))) (C.edges_kept family owner embedding at edges) kept in
    by (edge.slot == slot) refl is both.0 (edge_of family owner embedding at edges both.1 slot to)
  where
    own : Graph
    own = graph_of family owner

    by : (b : Bool) → (edge.slot == slot) ≡ b → cond b (Some edge.to) (edge_in edges slot) ≡ Some to
        → same_target (edge_at (graph_of family owner) (shifted (graph_of family owner) edge.slot at)) (C.image family owner embedding (Some edge.to)) ≡ true
        → (edge_in edges slot ≡ Some to → edge_at (graph_of family owner) (shifted (graph_of family owner) slot at) ≡ C.image family owner embedding (Some to))
        → edge_at (graph_of family owner) (shifted (graph_of family owner) slot at) ≡ C.image family owner embedding (Some to)
    by true e h here rest =
        ap (λ s. edge_at own (shifted own s at)) (sym (eqb-true edge.slot slot e))
        ∙ (same_eq (edge_at own (shifted own edge.slot at)) (C.image family owner embedding (Some edge.to)) here ∙ ap (C.image family owner embedding) h)
    by false e h here rest = rest h

shifts : (c d : Bool) → (c ≡ true → d ≡ true) → (r m t : ℕ) → cond d 0 (r + cond c 0 (m + t)) ≡ cond d 0 (cond d 0 (r + m) + t)
shifts c true h r m t = refl
shifts true false h r m t = absurd (false≢true (h refl))
shifts false false h r m t = omega arith

-- what is told of objects is told on the way
flags_then : (a b c : Flags) → flags_kept a b ≡ true → flags_kept b c ≡ true → flags_kept a c ≡ true
flags_then a b c first then =
    (and_parts true (flags_kept a c)
    (flags_trans (record a { certain = false }) (record b { certain = false }) c (and_from true (flags_kept a b) refl first) (and_from true (flags_kept b c) refl then))).1

-- ---- places

-- where the copy of a node is
abbrev pub place_of : Family → Owner → ℕ → ℕ → GraphMap → ℕ → Target
place_of family owner site called into number = or_first (shifted (graph_of family owner) (into number).shift (family.graphs.embedding (crossing family owner site called) (into number).node))

module _ (family : Family) (made : AreMade family.tac.structs) (owner : Owner) (site called : ℕ) (embeds : IsEmbedding family owner site called) (callee : Graph) (into : GraphMap)
    (maps : MapsShape family.tac.structs callee (graph_of family (InFunction called)) into) where
  abbrev own : Graph
  own = graph_of family owner

  abbrev theirs : Graph
  theirs = graph_of family (InFunction called)

  abbrev embedding : Embedding
  embedding = family.graphs.embedding (crossing family owner site called)

  -- a node comes to one that has an image
  record Placed (number : ℕ) (node : Node) : Type 0 where
    its : Node
    its_is : node_at theirs (into number).node ≡ Some its
    element : element_kept family.tac.structs node.element its (into number).shift ≡ true
    kept : IsKept family owner embedding (into number).node its
    image : Node
    image_is : node_at own kept.at.node ≡ Some image
    then : element_kept family.tac.structs its.element image kept.at.shift ≡ true
    marks : flags_kept its.flags image.flags ≡ true
    at : Target
    at_is : at ≡ record { node = kept.at.node; shift = shift_in image (kept.at.shift + (into number).shift) }
    place : place_of family owner site called into number ≡ at
    shown : shifted own (into number).shift (embedding (into number).node) ≡ Some at

  placed_at : (number : ℕ) (node : Node) → node_at callee number ≡ Some node → Escapes theirs (InFunction called) (into number).node → Placed number node
  placed_at number node is escapes =
      let there = node_image family.tac.structs callee theirs into maps number node is in
      let kept = embeds.escaping (into number).node there.node there.is escapes in
      let here = at_there own kept.at (C.node_kept family owner there.node) kept.kept in
      let at : Target = record { node = kept.at.node; shift = shift_in here.node (kept.at.shift + (into number).shift) } in
      let shown : shifted own (into number).shift (embedding (into number).node) ≡ Some at = ap (shifted own (into number).shift) kept.is ∙ shifted_there own (into number).shift kept.at here.node here.is in
      let parts = and_parts (element_kept family.tac.structs there.node.element here.node kept.at.shift)
      (flags_kept there.node.flags here.node.flags && implies (there.node.flags.heap && types_differ there.node.element here.node.element) here.node.flags.array) here.so in
      record {
        its = there.node;
        its_is = there.is;
        element = there.so;
        kept = kept;
        image = here.node;
        image_is = here.is;
        then = parts.0;
        marks = (and_parts (flags_kept there.node.flags here.node.flags) (implies (there.node.flags.heap && types_differ there.node.element here.node.element) here.node.flags.array) parts.1).0;
        at = at;
        at_is = refl;
        place = ap or_first shown;
        shown = shown;
      }

  -- that of an edge's end, behind its shift
  pub copy_placed : (number : ℕ) (node : Node) → node_at callee number ≡ Some node → Escapes theirs (InFunction called) (into number).node → CopyPlaced family owner site called into number (place_of family owner site called into number)
  copy_placed number node is escapes =
      let p = placed_at number node is escapes in
      record {
        node = p.its;
        there = p.its_is;
        kept = p.kept;
        place = ap (shifted own (into number).shift) (sym p.kept.is) ∙ (p.shown ∙ ap Some (sym p.place));
      }

  -- the place is that of the image
  pub place_shown : (number : ℕ) (node : Node) → node_at callee number ≡ Some node → Escapes theirs (InFunction called) (into number).node
      → shifted own (into number).shift (embedding (into number).node) ≡ Some (place_of family owner site called into number)
  place_shown number node is escapes = let p = placed_at number node is escapes in p.shown ∙ ap Some (sym p.place)

  slot_zero : (c : Bool) (n : ℕ) → implies c (cond c 0 n == 0) ≡ true
  slot_zero true n = refl
  slot_zero false n = refl

  -- it is a slot
  pub place_slot : (number : ℕ) (node : Node) → node_at callee number ≡ Some node → Escapes theirs (InFunction called) (into number).node → is_slot own (Some (place_of family owner site called into number)) ≡ true
  place_slot number node is escapes =
      let p = placed_at number node is escapes in
      let at : Target = record { node = p.kept.at.node; shift = shift_in p.image (p.kept.at.shift + (into number).shift) } in
      subst (λ t. is_slot own (Some t) ≡ true) (sym (p.place ∙ p.at_is))
      (at_from own at (λ image shift. implies (is_collapsed image.element) (shift == 0)) p.image p.image_is (slot_zero (is_collapsed p.image.element) (p.kept.at.shift + (into number).shift)))

  -- ---- the completed graph of the caller, in which copies have these places

  module _ (bound : ℕ) (more whole : Graph) (nodes : more.nodes ≡ own.nodes) (whole_is : whole ≡ completed bound more) (keeps : KeepsFlags callee theirs into) where
    abbrev nothing : Target
    nothing = nothing_in more

    whole_node : (number : ℕ) (node : Node) → node_at own number ≡ Some node → node_at whole number ≡ Some (completed_node bound nothing node)
    whole_node number node is =
        ap (λ g. node_at g number) whole_is
        ∙ node_kept bound more number node (ap (λ ns. node_at (record { nodes = ns; targets = more.targets }) number) nodes ∙ is)

    fits_at : (number : ℕ) (node : Node) → node_at callee number ≡ Some node → Escapes theirs (InFunction called) (into number).node → (copy : ℕ) → whole.targets (OfCopy copy) ≡ Some (place_of family owner site called into number)
        → NameFits family.tac.structs whole (OfCopy copy) (copied node)
    fits_at number node is escapes copy target =
        let p = placed_at number node is escapes in
        let at : Target = record { node = p.kept.at.node; shift = shift_in p.image (p.kept.at.shift + (into number).shift) } in
        let here : Node = completed_node bound nothing p.image in
        let there : node_at whole at.node ≡ Some here = whole_node p.kept.at.node p.image p.image_is in
        let kept = at_there theirs (into number) (λ image shift. flags_kept node.flags image.flags) (keeps number node is) in
        let first : flags_kept node.flags p.its.flags ≡ true = ap (λ (n : Node). flags_kept node.flags n.flags) (same_Some p.its kept.node (sym p.its_is ∙ kept.is)) ∙ kept.so in
        record {
          target = at;
          is = target ∙ ap Some (p.place ∙ p.at_is);
          slot = at_from whole at (λ image shift. implies (is_collapsed image.element) (shift == 0)) here there (slot_zero (is_collapsed p.image.element) (p.kept.at.shift + (into number).shift));
          element = at_from whole at (element_kept family.tac.structs node.element) here there
              (element_trans family.tac.structs made node.element p.its.element p.image.element p.its.flags here.flags p.its.edges here.edges (into number).shift p.kept.at.shift p.element
              (whole_kept p.its.element p.image p.kept.at.shift p.then));
          flags = at_from whole at (λ image shift. marks_kept (copied node).flags image.flags) here there (and_from true (flags_kept (copied node).flags here.flags) refl (flags_then node.flags p.its.flags p.image.flags first p.marks));
        }
      where
        whole_kept : (element : Element) (its : Node) (shift : ℕ) → element_kept family.tac.structs element its shift ≡ true → element_kept family.tac.structs element (completed_node bound nothing its) shift ≡ true
        whole_kept Missing its shift h = h
        whole_kept (OfType c_type) its shift h = h
        whole_kept Collapsed its shift h = h

    -- what a target of the function's graph is in the caller's
    image_at : (copies : ℕ → Option ℕ) (number copy : ℕ) (node : Node) (is : node_at callee number ≡ Some node) (escapes : Escapes theirs (InFunction called) (into number).node) → copies number ≡ Some copy
        → whole.targets (OfCopy copy) ≡ Some (place_of family owner site called into number) → (slot : ℕ)
        → image whole copies (record { node = number; shift = slot }) ≡ Some (record {
          node = (placed_at number node is escapes).kept.at.node;
          shift = shift_in (placed_at number node is escapes).image ((placed_at number node is escapes).kept.at.shift + shift_in (placed_at number node is escapes).its ((into number).shift + slot));
        })
    image_at copies number copy node is escapes of target slot =
        let p = placed_at number node is escapes in
        let at : Target = record { node = p.kept.at.node; shift = shift_in p.image (p.kept.at.shift + (into number).shift) } in
        let there : node_at whole at.node ≡ Some (completed_node bound nothing p.image) = whole_node p.kept.at.node p.image p.image_is in
        let keeps = kept_collapsed family.tac.structs p.its.element p.image p.kept.at.shift p.then in
        ap (λ c. shifted whole slot (named_copy whole c)) of
        ∙ (ap (shifted whole slot) (target ∙ ap Some (p.place ∙ p.at_is))
        ∙ (shifted_there whole slot at (completed_node bound nothing p.image) there
        ∙ ap (λ s. Some (record { node = p.kept.at.node; shift = s })) (sym (shifts (is_collapsed p.its.element) (is_collapsed p.image.element) keeps p.kept.at.shift (into number).shift slot))))

    module _ (copies : ℕ → Option ℕ) (there : (number copy : ℕ) → copies number ≡ Some copy → whole.targets (OfCopy copy) ≡ Some (place_of family owner site called into number))
        (escape : (number copy : ℕ) → copies number ≡ Some copy → Escapes theirs (InFunction called) (into number).node) (ends : EndsThere callee) where
      edge_at_copy : (number copy : ℕ) (node : Node) → copies number ≡ Some copy → node_at callee number ≡ Some node → (edge : Edge) → edge_in node.edges edge.slot ≡ Some edge.to → (last : ℕ) → copies edge.to.node ≡ Some last
          → EdgeCopied whole copies number edge
      unfolding placed_at
      edge_at_copy number copy node of is edge found last of_last =
          let end = ends number edge.slot node edge.to is found in
          let p = placed_at number node is (escape number copy of) in
          let q = placed_at edge.to.node end.0 end.1 (escape edge.to.node last of_last) in
          let slot = shift_in p.its ((into number).shift + edge.slot) in
          let to = target_in into edge.to q.its in
          let theirs_edge : edge_in p.its.edges slot ≡ Some to = edge_image family.tac.structs callee theirs into maps number edge.slot node edge.to is found q.its q.its_is in
          let image_to : Target = record { node = q.kept.at.node; shift = shift_in q.image (q.kept.at.shift + to.shift) } in
          let led : edge_at own (shifted own slot (Some p.kept.at)) ≡ Some image_to =
          edge_of family owner embedding (Some p.kept.at) p.its.edges p.kept.edges slot to theirs_edge
          ∙ (ap (shifted own to.shift) q.kept.is ∙ shifted_there own to.shift q.kept.at q.image q.image_is) in
          let from : Target = record { node = p.kept.at.node; shift = shift_in p.image (p.kept.at.shift + slot) } in
          let own_edge : edge_in p.image.edges from.shift ≡ Some image_to =
          sym (edge_there own from p.image p.image_is) ∙ (ap (edge_at own) (sym (shifted_there own slot p.kept.at p.image p.image_is)) ∙ led) in
          record {
            end = image_to;
            is = image_at copies edge.to.node last end.0 end.1 (escape edge.to.node last of_last) of_last (there edge.to.node last of_last) edge.to.shift;
            leads = ap (edge_at whole) (image_at copies number copy node is (escape number copy of) of (there number copy of) edge.slot)
                ∙ (edge_there whole from (completed_node bound nothing p.image) (whole_node p.kept.at.node p.image p.image_is)
                ∙ edge_before p.image.edges (missing bound nothing bound p.image.edges) from.shift image_to own_edge);
          }

      -- so all is copied, where all that is copied in one graph is
      pub all_copied : (graph : Graph) → AreCopied family.tac.structs graph callee copies → ((number : ℕ) (node : Node) → node_at callee number ≡ Some node → AreFound node.edges node.edges) → AreCopied family.tac.structs whole callee copies
      all_copied graph known found = record {
        nodes = λ number copy node of is. fits_at number node is (escape number copy of) copy (there number copy of);
        edges = λ number copy node of is. edges_at number copy node of is node.edges (found number node is) (known.edges number copy node of is);
      }
        where
          edges_at : (number copy : ℕ) (node : Node) → copies number ≡ Some copy → node_at callee number ≡ Some node → (edges : List Edge) → AreFound node.edges edges → EdgesCopied graph copies number edges
              → EdgesCopied whole copies number edges
          edges_at number copy node of is [] all was = tt
          edges_at number copy node of is (edge ∷ edges) all was =
              let last = copy_found graph copies edge.to.node edge.to.shift was.0.end was.0.is in
              (edge_at_copy number copy node of is edge all.0 last.copy last.of_node, edges_at number copy node of is edges all.1 was.1)
