-- The nodes that are kept of a graph that was made.
use Rattle.std.proofs.Common.{◌≡◌, ℕ, ◌<◌, Bool, true, false, cond, eqb, List, [], ◌∷◌, Option, Some, None, refl, sym, ap, subst, ◌∙◌, arith}
use Rattle.std.specs.Prelude.{◌==◌, option_map}
use Rattle.std.proofs.lemmas.Bool.{true≢false, and_from, cond-true, eq-eqb, eqb-true}
use Rattle.std.proofs.lemmas.Option.{none-some, same_Some}
use Rattle.c_typed.specs.Layouts.{StructDef}
use Rattle.c_typed.specs.Table.{Interned}
use Rattle.heap_graph.specs.Graphs.{Target, Element, Missing, OfType, Collapsed, Flags, Edge, Node, Graph, edge_in, node_at}
use Rattle.heap_graph.specs.Targets.{is_collapsed, implies}
use Rattle.heap_graph.specs.Closed.{is_slot, edges_sound}
use Rattle.heap_graph.specs.Merging.{slots, IsSlot, IsSound}
use Rattle.heap_graph.proofs.MapsCompose.{at_from}
use Rattle.heap_graph.specs.declared.frozen.Node as memory_node
use Rattle.heap_graph.specs.Frozen.{optional_node}
use Rattle.heap_graph.specs.Asks.{is_certain}
use Rattle.heap_graph.specs.Restricted.{if_certain}
use Rattle.heap_graph.proofs.Certain.{certain_there, eq_same}
use Rattle.graph_unification.specs.Freezing.{Precedes, EdgesAscend, Freezes}
use Rattle.dsa_inlining.specs.Kept.{KeepsNode, KeepsIf}
use Rattle.dsa_inlining.specs.Complete.{with_complete}

-- ---- nodes of which it is told anew whether they are complete

pub kept_before : (made : Graph) (old new : Option Node) → Freezes made old new → KeepsIf made old new
kept_before made (Some node) (Some kept) h =
    let so : node.flags.complete ≡ kept.flags.complete = ap (λ (f : Flags). f.complete) (sym h.flags) in
    let same : node.flags ≡ record node.flags { complete = kept.flags.complete } = λ i. record node.flags { complete = so i } in
    record { certain = h.certain; element = h.element; flags = h.flags ∙ same; edges = h.edges; ascend = h.ascend }
kept_before made (Some node) None h = h
kept_before made None (Some kept) h = absurd h
kept_before made None None h = tt

pub kept_after : (table : Interned) (made : Graph) (complete : Bool) (old : Option Node) (new : Option memory_node.Node) → Freezes made old (optional_node table new)
    → KeepsIf made old (optional_node table (option_map (with_complete complete) new))
kept_after table made complete (Some node) (Some kept) h = record {
  certain = h.certain;
  element = h.element;
  flags = λ i. record (h.flags i) { complete = complete };
  edges = h.edges;
  ascend = h.ascend;
}
kept_after table made complete (Some node) None h = h
kept_after table made complete None (Some kept) h = absurd h
kept_after table made complete None None h = tt

-- ---- a node that is kept, and the one that was made

module _ (made kept : Graph) (nodes : (number : ℕ) → KeepsIf made (node_at made number) (node_at kept number)) where
  pub record Before (number : ℕ) (node : Node) : Type 0 where
    pub old : Node
    pub is : node_at made number ≡ Some old
    pub keeps : KeepsNode made old node

  pub record After (number : ℕ) (old : Node) : Type 0 where
    pub node : Node
    pub is : node_at kept number ≡ Some node
    pub keeps : KeepsNode made old node

  pub before : (number : ℕ) (node : Node) → node_at kept number ≡ Some node → Before number node
  before number node is = by (node_at made number) refl (subst (KeepsIf made (node_at made number)) is (nodes number))
    where
      by : (o : Option Node) → node_at made number ≡ o → KeepsIf made o (Some node) → Before number node
      by None e h = absurd h
      by (Some old) e h = record { old = old; is = e; keeps = h }

  pub after : (number : ℕ) (old : Node) → node_at made number ≡ Some old → old.flags.certain ≡ true → After number old
  after number old is certain = by (node_at kept number) refl (subst (λ o. KeepsIf made o (node_at kept number)) is (nodes number))
    where
      by : (o : Option Node) → node_at kept number ≡ o → KeepsIf made (Some old) o → After number old
      by None e h = absurd (true≢false (sym certain ∙ h))
      by (Some node) e h = record { node = node; is = e; keeps = h }

  -- ---- targets are slots

  zero_shift : (structs : List StructDef) (element : Element) (shift : ℕ) → shift < slots structs element → implies (is_collapsed element) (shift == 0) ≡ true
  zero_shift structs Missing shift less = refl
  zero_shift structs (OfType c_type) shift less = refl
  zero_shift structs Collapsed shift less = let zeroth : shift ≡ 0 = omega (arith, less) in eq-eqb shift 0 zeroth

  module _ (structs : List StructDef) (sound : IsSound structs made) where
    slot_kept : (target : Target) → IsSlot structs made target → is_certain made (Some target) ≡ true → is_slot kept (Some target) ≡ true
    slot_kept target slot certain =
        let there = certain_there made target certain in
        let new = after target.node there.node there.is there.so in
        let same : there.node ≡ slot.node = same_Some there.node slot.node (sym there.is ∙ slot.is) in
        let element : slot.node.element ≡ new.node.element = sym (new.keeps.element ∙ ap (λ (n : Node). n.element) same) in
        at_from kept target (λ node shift. implies (is_collapsed node.element) (shift == 0)) new.node new.is
        (subst (λ e. implies (is_collapsed e) (target.shift == 0) ≡ true) element (zero_shift structs slot.node.element target.shift slot.inside))

    pub slot_if : (target : Option Target) → ((to : Target) → target ≡ Some to → IsSlot structs made to) → is_slot kept (if_certain made target) ≡ true
    slot_if None slot = refl
    slot_if (Some target) slot = by (is_certain made (Some target)) refl
      where
        by : (b : Bool) → is_certain made (Some target) ≡ b → is_slot kept (cond b (Some target) None) ≡ true
        by true e = slot_kept target (slot target refl) e
        by false e = refl

    -- ---- edges

    certain_edge : (target : Option Target) (to : Target) → if_certain made target ≡ Some to → (target ≡ Some to) × (is_certain made (Some to) ≡ true)
    certain_edge None to e = absurd (none-some to e)
    certain_edge (Some target) to e = by (is_certain made (Some target)) refl e
      where
        by : (b : Bool) → is_certain made (Some target) ≡ b → cond b (Some target) None ≡ Some to → (Some target ≡ Some to) × (is_certain made (Some to) ≡ true)
        by true certain h = (h, ap (is_certain made) (sym h) ∙ certain)
        by false certain h = absurd (none-some to h)

    -- an edge of a later slot
    later : (edges : List Edge) (front slot : ℕ) (to : Target) → Precedes front edges → EdgesAscend edges → edge_in edges slot ≡ Some to → front < slot
    later [] front slot to precedes ascend e = absurd (none-some to e)
    later (edge ∷ edges) front slot to precedes ascend e = by (eqb edge.slot slot) refl e (later edges edge.slot slot to ascend.0 ascend.1)
      where
        by : (b : Bool) → eqb edge.slot slot ≡ b → cond b (Some edge.to) (edge_in edges slot) ≡ Some to → (edge_in edges slot ≡ Some to → edge.slot < slot) → front < slot
        by true same h rest = let is : edge.slot ≡ slot = eqb-true edge.slot slot same in subst (λ n. front < n) is precedes
        by false same h rest = let front_less : front < edge.slot = precedes in let behind : edge.slot < slot = rest h in omega (arith, front_less, behind)

    module _ (number : ℕ) (node : Node) (is : node_at kept number ≡ Some node) where
      one_sound : (slot : ℕ) (to : Target) → edge_in node.edges slot ≡ Some to → (is_slot kept (Some to) ≡ true) × (implies (is_collapsed node.element) (slot == 0) ≡ true)
      one_sound slot to found =
          let was = before number node is in
          let edge = certain_edge (edge_in was.old.edges slot) to (sym (was.keeps.edges slot) ∙ found) in
          let from = sound.from number slot was.old to was.is edge.0 in (
            slot_kept to (sound.to number slot was.old to was.is edge.0) edge.1,
            subst (λ e. implies (is_collapsed e) (slot == 0) ≡ true) (sym was.keeps.element) (zero_shift structs was.old.element slot from),
          )

      all_sound : (edges : List Edge) → EdgesAscend edges → ((slot : ℕ) (to : Target) → edge_in edges slot ≡ Some to → edge_in node.edges slot ≡ Some to) → edges_sound kept node edges ≡ true
      all_sound [] ascend found = refl
      all_sound (edge ∷ edges) ascend found =
          let own : edge_in node.edges edge.slot ≡ Some edge.to = found edge.slot edge.to (cond-true (eqb edge.slot edge.slot) (Some edge.to) (edge_in edges edge.slot) (eq-eqb edge.slot edge.slot refl)) in
          let both = one_sound edge.slot edge.to own in
          and_from _ _ (eq_same (edge_in node.edges edge.slot) (Some edge.to) own) (and_from _ _ both.0 (and_from _ _ both.1 (all_sound edges ascend.1 rest)))
        where
          rest : (slot : ℕ) (to : Target) → edge_in edges slot ≡ Some to → edge_in node.edges slot ≡ Some to
          rest slot to e = found slot to (by (eqb edge.slot slot) refl)
            where
              by : (b : Bool) → eqb edge.slot slot ≡ b → cond b (Some edge.to) (edge_in edges slot) ≡ Some to
              by true same =
                  let is : edge.slot ≡ slot = eqb-true edge.slot slot same in
                  let behind : edge.slot < slot = later edges edge.slot slot to ascend.0 ascend.1 e in
                  absurd (omega (arith, is, behind))
              by false same = e

      pub node_sound : edges_sound kept node node.edges ≡ true
      node_sound = all_sound node.edges (before number node is).keeps.ascend (λ slot to e. e)
