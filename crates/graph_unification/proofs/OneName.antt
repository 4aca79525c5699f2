-- A name that got a node of its own, and maps of graphs.
use Rattle.std.proofs.Common.{◌≡◌, ℕ, ◌+◌, Bool, true, false, cond, eqb, List, [], Some, None, refl, sym, ap, ◌∙◌, ◌⊎◌, inl, inr, arith}
use Rattle.std.specs.Prelude.{slice_get}
use Rattle.std.proofs.lemmas.Bool.{cases_eq, cond-true, cond-false, eq-eqb, ne_eqb, eqb-true}
use Rattle.std.proofs.lemmas.Option.{none-some, same_Some}
use Rattle.c_typed.specs.Layouts.{StructDef}
use Rattle.heap_graph.specs.Graphs.{Target, Edge, Node, Name, Graph, edge_in, node_at, there}
use Rattle.heap_graph.specs.Targets.{at_target, is_collapsed, shifted, edge_at, implies, marks_kept, element_kept}
use Rattle.heap_graph.specs.Merging.{IsSound, GraphMap, mapped, Maps}
use Rattle.heap_graph.specs.Closed.{is_slot}
use Rattle.heap_graph.proofs.MapsCompose.{at_there, shifted_there}
use Rattle.graph_unification.specs.Changes.{AddsNode, SetsTarget}
use Rattle.graph_unification.proofs.NameKeys.{name_cases}
use Rattle.graph_unification.specs.Adding.{AddsName, NameFits}

-- ---- a node, and then a target

pub added : (structs : List StructDef) (old middle new : Graph) (name : Name) (node : Node) (number : ℕ) → IsSound structs old → AddsNode old middle number node
    → SetsTarget middle new name (record { node = number; shift = 0 }) → old.targets name ≡ None → node.edges ≡ [] → AddsName old new name node
added structs old middle new name node number sound adds sets none bare =
    let same : (n : ℕ) → node_at new n ≡ node_at middle n = λ n. ap (λ nodes. there (slice_get nodes n)) sets.nodes in
    record {
      number = number;
      had_none = none;
      fresh = adds.fresh;
      unnamed = λ other target e is.
          let slot = sound.names other target e in
          none-some slot.node (sym adds.fresh ∙ ap (node_at old) (sym is) ∙ slot.is);
      unreached = λ at slot from to e has is.
          let its = sound.to at slot from to e has in
          none-some its.node (sym adds.fresh ∙ ap (node_at old) (sym is) ∙ its.is);
      at = same number ∙ adds.at;
      bare = bare;
      target = sets.at;
      nodes = λ other differs. same other ∙ adds.others other differs;
      names = λ other differs. sets.others other differs ∙ adds.names other;
    }

-- ---- maps

cut : (d : Bool) (s : ℕ) → implies d (eqb s 0) ≡ true → cond d 0 (s + 0) ≡ s
cut true s h = sym (eqb-true s 0 h)
cut false s h = omega arith

-- a slot is where it is
pub settled_is : (other : Graph) (t : Target) → is_slot other (Some t) ≡ true → shifted other 0 (Some t) ≡ Some t
settled_is other t h =
    let it = at_there other t (λ node shift. implies (is_collapsed node.element) (eqb shift 0)) h in
    shifted_there other 0 t it.node it.is ∙ ap (λ s. Some (record { node = t.node; shift = s })) (cut (is_collapsed it.node.element) t.shift it.so)

no_edge : (es : List Edge) (slot : ℕ) (to : Target) → es ≡ [] → edge_in es slot ≡ Some to → ⊥
no_edge es slot to e h = none-some to (ap (λ l. edge_in l slot) (sym e) ∙ h)

module _ (structs : List StructDef) (old new : Graph) (name : Name) (node : Node) (adds : AddsName old new name node) where
  -- a node of the new graph is the one that was added, or an old one
  pub new_or_old : (number : ℕ) (its : Node) → node_at new number ≡ Some its → ((number ≡ adds.number) × (its ≡ node)) ⊎ ((number ≡ adds.number → ⊥) × (node_at old number ≡ Some its))
  new_or_old number its e = by (cases_eq number adds.number)
    where
      by : (number ≡ adds.number) ⊎ (number ≡ adds.number → ⊥) → ((number ≡ adds.number) × (its ≡ node)) ⊎ ((number ≡ adds.number → ⊥) × (node_at old number ≡ Some its))
      by (inl is) = inl (is, same_Some its node (sym e ∙ ap (node_at new) is ∙ adds.at))
      by (inr differs) = inr (differs, sym (adds.nodes number differs) ∙ e)

  pub old_differs : (number : ℕ) (its : Node) → node_at old number ≡ Some its → number ≡ adds.number → ⊥
  old_differs number its e is = none-some its (sym adds.fresh ∙ ap (node_at old) (sym is) ∙ e)

  module _ (other : Graph) (into : GraphMap) (maps : Maps structs old other into) (fits : NameFits structs other name node) where
    abbrev rest : GraphMap
    rest number = cond (eqb number adds.number) fits.target (into number)

    rest_new : (number : ℕ) → number ≡ adds.number → rest number ≡ fits.target
    rest_new number is = cond-true (eqb number adds.number) fits.target (into number) (eq-eqb number adds.number is)

    rest_old : (number : ℕ) → (number ≡ adds.number → ⊥) → rest number ≡ into number
    rest_old number differs = cond-false (eqb number adds.number) fits.target (into number) (ne_eqb number adds.number differs)

    mapped_old : (target : Target) → (target.node ≡ adds.number → ⊥) → mapped other rest target ≡ mapped other into target
    mapped_old target differs = ap (λ t. shifted other target.shift (Some t)) (rest_old target.node differs)

    names_led : (its : Name) (target : Target) → new.targets its ≡ Some target → other.targets its ≡ mapped other rest target
    names_led its target e = by (name_cases name its)
      where
        by : (its ≡ name) ⊎ (its ≡ name → ⊥) → other.targets its ≡ mapped other rest target
        by (inl is) =
            let t : target ≡ record { node = adds.number; shift = 0 } = same_Some target (record { node = adds.number; shift = 0 }) (sym e ∙ ap new.targets is ∙ adds.target) in
            ap other.targets is ∙ (fits.is ∙ (sym (settled_is other fits.target fits.slot)
            ∙ (ap (λ x. shifted other 0 (Some x)) (sym (rest_new adds.number refl)) ∙ ap (mapped other rest) (sym t))))
        by (inr differs) =
            let was = sym (adds.names its differs) ∙ e in
            maps.names its target was ∙ sym (mapped_old target (adds.unnamed its target was))

    at_led : (holds : Node → Node → ℕ → Bool) → at_target other (Some fits.target) (holds node) ≡ true
        → ((number : ℕ) (its : Node) → node_at old number ≡ Some its → at_target other (Some (into number)) (holds its) ≡ true)
        → (number : ℕ) (its : Node) → node_at new number ≡ Some its → at_target other (Some (rest number)) (holds its) ≡ true
    at_led holds first others number its e = by (new_or_old number its e)
      where
        by : ((number ≡ adds.number) × (its ≡ node)) ⊎ ((number ≡ adds.number → ⊥) × (node_at old number ≡ Some its)) → at_target other (Some (rest number)) (holds its) ≡ true
        by (inl is) = (λ i. at_target other (Some (rest_new number is.0 i)) (holds (is.1 i))) ∙ first
        by (inr was) = ap (λ x. at_target other (Some x) (holds its)) (rest_old number was.0) ∙ others number its was.1

    edges_led : (number slot : ℕ) (its : Node) (to : Target) → node_at new number ≡ Some its → edge_in its.edges slot ≡ Some to
        → edge_at other (shifted other slot (Some (rest number))) ≡ mapped other rest to
    edges_led number slot its to e has = by (new_or_old number its e)
      where
        by : ((number ≡ adds.number) × (its ≡ node)) ⊎ ((number ≡ adds.number → ⊥) × (node_at old number ≡ Some its))
            → edge_at other (shifted other slot (Some (rest number))) ≡ mapped other rest to
        by (inl is) = absurd (no_edge its.edges slot to (ap (λ (n : Node). n.edges) is.1 ∙ adds.bare) has)
        by (inr was) =
            ap (λ t. edge_at other (shifted other slot (Some t))) (rest_old number was.0)
            ∙ (maps.edges number slot its to was.1 has ∙ sym (mapped_old to (adds.unreached number slot its to was.1 has)))

    -- a map of the old graph is extended to the new one
    pub adds_leads : (more : GraphMap) × Maps structs new other more × ((number : ℕ) (its : Node) → node_at old number ≡ Some its → more number ≡ into number)
    adds_leads = (
      rest,
      record {
        names = names_led;
        elements = at_led (λ its. element_kept structs its.element) fits.element maps.elements;
        flags = at_led (λ its image shift. marks_kept its.flags image.flags) fits.flags maps.flags;
        edges = edges_led;
      },
      λ number its e. rest_old number (old_differs number its e),
    )

-- the same, each fact by itself
pub adds_maps : (structs : List StructDef) (old new other : Graph) (name : Name) (node : Node) (into : GraphMap) (t : Target) → AddsName old new name node → Maps structs old other into
    → other.targets name ≡ Some t → at_target other (Some t) (element_kept structs node.element) ≡ true → at_target other (Some t) (λ image shift. marks_kept node.flags image.flags) ≡ true
    → is_slot other (Some t) ≡ true
    → (rest : GraphMap) × Maps structs new other rest × ((number : ℕ) (its : Node) → node_at old number ≡ Some its → rest number ≡ into number)
adds_maps structs old new other name node into t adds maps is element flags slot =
    adds_leads structs old new name node adds other into maps (record { target = t; is = is; slot = slot; element = element; flags = flags })
