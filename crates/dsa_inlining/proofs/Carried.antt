-- What is told of copies is kept where a graph is mapped to another.
use Rattle.std.proofs.Common.{◌≡◌, ℕ, ◌+◌, Bool, true, false, cond, eqb, List, [], ◌∷◌, Option, Some, None, refl, sym, ap, ◌∙◌, arith}
use Rattle.std.proofs.lemmas.Bool.{false≢true}
use Rattle.std.proofs.lemmas.Option.{none-some, same_Some}
use Rattle.c_typed.specs.Layouts.{StructDef}
use Rattle.heap_graph.specs.Structures.{AreMade}
use Rattle.heap_graph.specs.Graphs.{Target, Edge, Node, Name, Graph, edge_in, node_at, OfCopy}
use Rattle.heap_graph.specs.Targets.{is_collapsed, shifted, edge_at, implies, marks_kept, element_kept}
use Rattle.heap_graph.specs.Merging.{IsSlot, IsSound, GraphMap, mapped, Maps}
use Rattle.heap_graph.proofs.MapsCompose.{shift_in, shifted_there, at_some, at_there, at_from, edge_there, target_in, mapped_there, element_trans, flags_trans, kept_collapsed}
use Rattle.graph_unification.specs.Adding.{NameFits}
use Rattle.graph_unification.specs.Going.{GoesOn}
use Rattle.dsa_inlining.specs.Copied.{copy_at, named_copy, image, copied, NodesCopied, EdgeCopied, EdgesCopied, NodeLinked, AreCopied}

-- ---- what there is

-- an edge leads from a slot of a node
pub record EdgeThere (graph : Graph) (from : Option Target) (to : Target) : Type 0 where
  pub at : Target
  pub is : from ≡ Some at
  pub node : Node
  pub there : node_at graph at.node ≡ Some node
  pub edge : edge_in node.edges at.shift ≡ Some to

no_edge : (graph : Graph) (at : Target) → node_at graph at.node ≡ None → edge_at graph (Some at) ≡ None
no_edge graph at e = rw e refl

pub edge_found : (graph : Graph) (from : Option Target) (to : Target) → edge_at graph from ≡ Some to → EdgeThere graph from to
edge_found graph None to h = absurd (none-some to h)
edge_found graph (Some at) to h = by (node_at graph at.node) refl
  where
    by : (o : Option Node) → node_at graph at.node ≡ o → EdgeThere graph (Some at) to
    by None e = absurd (none-some to (sym (no_edge graph at e) ∙ h))
    by (Some node) e = record { at = at; is = refl; node = node; there = e; edge = sym (edge_there graph at node e) ∙ h }

-- a copy has a target
pub record CopyThere (graph : Graph) (copies : ℕ → Option ℕ) (number : ℕ) : Type 0 where
  pub copy : ℕ
  pub of_node : copies number ≡ Some copy
  pub target : Target
  pub is : graph.targets (OfCopy copy) ≡ Some target

pub copy_found : (graph : Graph) (copies : ℕ → Option ℕ) (number slots : ℕ) (to : Target) → shifted graph slots (copy_at graph copies number) ≡ Some to → CopyThere graph copies number
copy_found graph copies number slots to h = by (copies number) refl
  where
    named : (copy : ℕ) → copies number ≡ Some copy → (o : Option Target) → graph.targets (OfCopy copy) ≡ o → CopyThere graph copies number
    named copy e None none = absurd (none-some to (sym (ap (shifted graph slots) (ap (named_copy graph) e ∙ none)) ∙ h))
    named copy e (Some target) is = record { copy = copy; of_node = e; target = target; is = is }

    by : (o : Option ℕ) → copies number ≡ o → CopyThere graph copies number
    by None e = absurd (none-some to (sym (ap (shifted graph slots) (ap (named_copy graph) e)) ∙ h))
    by (Some copy) e = named copy e (graph.targets (OfCopy copy)) refl

-- ---- shifts

settled_shift : (old new : Bool) (m s n : ℕ) → (old ≡ true → new ≡ true) → cond new 0 (cond new 0 (m + s) + n) ≡ cond new 0 (m + cond old 0 (s + n))
settled_shift old true m s n keeps = refl
settled_shift true false m s n keeps = absurd (false≢true (keeps refl))
settled_shift false false m s n keeps = omega arith

one_slot : (c : Bool) (s : ℕ) → implies c (eqb (cond c 0 s) 0) ≡ true
one_slot true s = refl
one_slot false s = refl

-- ---- by a map

module _ (structs : List StructDef) (made : AreMade structs) (old new : Graph) (map : GraphMap) (sound : IsSound structs old) (maps : Maps structs old new map) where
  -- where a slot of the old graph is in the new one
  pub record Image (target : Target) : Type 0 where
    pub node : Node
    pub is : node_at old target.node ≡ Some node
    pub image : Node
    pub image_is : node_at new (map target.node).node ≡ Some image
    pub element : element_kept structs node.element image (map target.node).shift ≡ true
    pub marks : marks_kept node.flags image.flags ≡ true

  pub image_of : (target : Target) → IsSlot structs old target → Image target
  image_of target slot =
      let there = at_there new (map target.node) (element_kept structs slot.node.element) (maps.elements target.node slot.node slot.is) in
      record {
        node = slot.node;
        is = slot.is;
        image = there.node;
        image_is = there.is;
        element = there.so;
        marks = sym (at_some new (map target.node) (λ image shift. marks_kept slot.node.flags image.flags) there.node there.is) ∙ maps.flags target.node slot.node slot.is;
      }

  -- slots behind the target of a name
  shifted_carried : (name : Name) (t : Target) → old.targets name ≡ Some t → (slots : ℕ) (place : Target) → shifted old slots (Some t) ≡ Some place → shifted new slots (new.targets name) ≡ mapped new map place
  shifted_carried name t at slots place is =
      let i = image_of t (sound.names name t at) in
      let whole : Target = record { node = t.node; shift = shift_in i.node (t.shift + slots) } in
      ap (shifted new slots) (maps.names name t at ∙ mapped_there new map t i.image i.image_is)
      ∙ shifted_there new slots (target_in map t i.image) i.image i.image_is
      ∙ ap (λ s. Some (record { node = (map t.node).node; shift = s }))
      (settled_shift (is_collapsed i.node.element) (is_collapsed i.image.element) (map t.node).shift t.shift slots (kept_collapsed structs i.node.element i.image (map t.node).shift i.element))
      ∙ sym (mapped_there new map whole i.image i.image_is)
      ∙ ap (mapped new map) (same_Some whole place (sym (shifted_there old slots t i.node i.is) ∙ is))

  -- where a target is in the old graph, it is mapped to where it is in the new one
  pub image_carried : (copies : ℕ → Option ℕ) (target place : Target) → image old copies target ≡ Some place → image new copies target ≡ mapped new map place
  image_carried copies target place is =
      let c = copy_found old copies target.node target.shift place is in
      ap (shifted new target.shift) (ap (named_copy new) c.of_node)
      ∙ shifted_carried (OfCopy c.copy) c.target c.is target.shift place (sym (ap (shifted old target.shift) (ap (named_copy old) c.of_node ∙ c.is)) ∙ is)

  -- an edge between slots
  pub edge_carried : (copies : ℕ → Option ℕ) (number : ℕ) (edge : Edge) → EdgeCopied old copies number edge → EdgeCopied new copies number edge
  edge_carried copies number edge its =
      let here : Target = record { node = number; shift = edge.slot } in
      let from = edge_found old (image old copies here) its.end its.leads in
      let last = image_of its.end (sound.to from.at.node from.at.shift from.node its.end from.there from.edge) in
      let end = mapped_there new map its.end last.image last.image_is in
      record {
        end = target_in map its.end last.image;
        is = image_carried copies edge.to its.end its.is ∙ end;
        leads = ap (edge_at new) (image_carried copies here from.at from.is) ∙ maps.edges from.at.node from.at.shift from.node its.end from.there from.edge ∙ end;
      }

  pub edges_carried : (copies : ℕ → Option ℕ) (number : ℕ) (edges : List Edge) → EdgesCopied old copies number edges → EdgesCopied new copies number edges
  edges_carried copies number [] its = tt
  edges_carried copies number (edge ∷ edges) its = (edge_carried copies number edge its.0, edges_carried copies number edges its.1)

  -- what is told of a name's node
  pub fits_carried : (name : Name) (node : Node) → NameFits structs old name node → NameFits structs new name node
  fits_carried name node its =
      let i = image_of its.target (sound.names name its.target its.is) in
      let there : Target = target_in map its.target i.image in
      let element : element_kept structs node.element i.node its.target.shift ≡ true = sym (at_some old its.target (element_kept structs node.element) i.node i.is) ∙ its.element in
      let flags : marks_kept node.flags i.node.flags ≡ true = sym (at_some old its.target (λ image shift. marks_kept node.flags image.flags) i.node i.is) ∙ its.flags in
      record {
        target = there;
        is = maps.names name its.target its.is ∙ mapped_there new map its.target i.image i.image_is;
        slot = at_from new there (λ node shift. implies (is_collapsed node.element) (eqb shift 0)) i.image i.image_is (one_slot (is_collapsed i.image.element) ((map its.target.node).shift + its.target.shift));
        element = at_from new there (element_kept structs node.element) i.image i.image_is
            (element_trans structs made node.element i.node.element i.image.element i.node.flags i.image.flags i.node.edges i.image.edges its.target.shift (map its.target.node).shift element i.element);
        flags = at_from new there (λ image shift. marks_kept node.flags image.flags) i.image i.image_is (flags_trans node.flags i.node.flags i.image.flags flags i.marks);
      }

-- ---- as a graph goes on

module _ (structs : List StructDef) (made : AreMade structs) (old new callee : Graph) (copies : ℕ → Option ℕ) (sound : IsSound structs old) (goes : GoesOn structs old new) where
  pub nodes_kept : NodesCopied structs old callee copies → NodesCopied structs new callee copies
  nodes_kept its number copy node of_node is = fits_carried structs made old new goes.map sound goes.maps (OfCopy copy) (copied node) (its number copy node of_node is)

  pub node_kept : (number : ℕ) → NodeLinked old callee copies number → NodeLinked new callee copies number
  node_kept number its copy node of_node is = edges_carried structs made old new goes.map sound goes.maps copies number node.edges (its copy node of_node is)

  -- copies stay copies
  pub copies_kept : AreCopied structs old callee copies → AreCopied structs new callee copies
  copies_kept its = record { nodes = nodes_kept its.nodes; edges = λ number. node_kept number (its.edges number) }
