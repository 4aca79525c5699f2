-- The edges in memory are the graph of calls.
use Rattle.std.proofs.Common.{◌≡◌, ℕ, ◌<◌, Bool, true, List, length, Some, inl, inr, refl, sym, ap, subst, ◌∙◌, arith, eqb-true}
use Rattle.std.specs.Prelude.{slice_get}
use Rattle.std.proofs.lemmas.List.{length-map}
use Rattle.std.proofs.lemmas.Option.{slice_get_within}
use Rattle.c_typed.specs.Types.{CType}
use Rattle.tac_ir.specs.declared.program.Tac as memory_tac
use Rattle.tac_ir.specs.declared.register.Register.{Register}
use Rattle.tac_ir.specs.Code.{Callee, Known, Through}
use Rattle.tac_ir.specs.Views.{function_in, tac_of}
use Rattle.call_graph.specs.RowLists.{Has, is_among}
use Rattle.call_graph.specs.Rows.{AreMarks}
use Rattle.call_graph.proofs.RowLists.{among_has, has_among}
use Rattle.tac_ir.specs.Targets.{is_target}
use Rattle.tac_ir.specs.Groups.{Makes, Calls, by_call, in_class}
use Rattle.call_graph.specs.declared.class_table.Classes.{Classes}
use Rattle.call_graph.specs.TargetLists.{IsFirstTarget}
use Rattle.call_graph.specs.ClassLists.{AreClasses}
use Rattle.call_graph.proofs.TargetFacts.{known_first, link_from, link_to, some_first, one_type, target_inside}
use Rattle.call_graph.specs.Heads.{AreInside}
use Rattle.call_graph.specs.CallLists.{AreFirstCalls, IsJoined, AddsClasses, LeadsTo, IsCallGraph}
use Rattle.call_graph.specs.GroupViews.{CallsKnown}

module _ (tac : memory_tac.Tac) (classes : Classes) (known : AreClasses tac classes) where
  abbrev count : ℕ
  count = length tac.functions.items

  -- functions that are called
  makes_inside : (caller : ℕ) (callee : Callee) → Makes (tac_of tac) caller callee → caller < count
  makes_inside caller callee makes = omega (arith, slice_get_within (tac_of tac).functions caller makes.function makes.is, length-map tac.functions.items (function_in tac.types))

  target_below : CallsKnown (tac_of tac) → (caller : ℕ) (callee : Callee) (called : ℕ) → Makes (tac_of tac) caller callee → is_target (tac_of tac) callee called ≡ true → called < count
  target_below known_calls caller (Known function) called makes target =
      let same = eqb-true function called target in
      omega (arith, known_calls caller function makes, same, length-map tac.functions.items (function_in tac.types))
  target_below known_calls caller (Through pointer c_type) called makes target = target_inside tac classes known pointer c_type called target

  pub graph_inside : CallsKnown (tac_of tac) → (edges : List (ℕ × ℕ)) → IsCallGraph (tac_of tac) edges → AreInside count edges
  graph_inside known_calls edges graph edge has = by (graph.from edge.0 edge.1 has)
    where
      by : Calls (tac_of tac) edge.0 edge.1 → (edge.0 < count) × (edge.1 < count)
      by (by_call callee makes target) = (makes_inside edge.0 callee makes, target_below known_calls edge.0 callee edge.1 makes target)
      by (in_class other pointer c_type makes here there) = (target_inside tac classes known pointer c_type edge.0 here, target_inside tac classes known pointer c_type edge.1 there)

  module _ (before edges : List (ℕ × ℕ)) (called : List ℕ) (is_called : List Bool) (calls : AreFirstCalls (tac_of tac) count before called) (marks : AreMarks count called is_called) (adds : AddsClasses is_called classes.links.items before edges) where
    -- a class that is called
    marked : (first : ℕ) → first < count → Has called first → slice_get is_called first ≡ Some true
    marked first lt has = marks.mark first lt ∙ ap Some (has_among first called has)

    unmarked : (first : ℕ) → slice_get is_called first ≡ Some true → Has called first
    unmarked first is = among_has first called (same (is_among first called) (sym (marks.mark first (omega (arith, slice_get_within is_called first true is, marks.each))) ∙ is))
      where
        same : (b : Bool) → Some b ≡ Some true → b ≡ true
        same b e = cc

    joined_from : (a b : ℕ) → IsJoined is_called classes.links.items (a, b) → Calls (tac_of tac) a b
    joined_from a b joined =
        let class = calls.class_from joined.first (unmarked joined.first joined.called) in
        let link = link_from tac classes known class.1 joined.first joined.member joined.link in
        let same : link.c_type ≡ class.2 = one_type tac classes known class.1 class.1 link.c_type class.2 joined.first link.first'.0 class.4.0 in
        let member : is_target (tac_of tac) (Through class.1 class.2) joined.member ≡ true = subst (λ (t : CType). is_target (tac_of tac) (Through class.1 t) joined.member ≡ true) same link.target in
        elim joined.is [
          | inl one ↦ in_class class.0 class.1 class.2 class.3
              (subst (λ (n : ℕ). is_target (tac_of tac) (Through class.1 class.2) n ≡ true) (sym (ap (λ (l : ℕ × ℕ). l.0) one)) class.4.0)
              (subst (λ (n : ℕ). is_target (tac_of tac) (Through class.1 class.2) n ≡ true) (sym (ap (λ (l : ℕ × ℕ). l.1) one)) member)
          | inr other ↦ in_class class.0 class.1 class.2 class.3
              (subst (λ (n : ℕ). is_target (tac_of tac) (Through class.1 class.2) n ≡ true) (sym (ap (λ (l : ℕ × ℕ). l.0) other)) member)
              (subst (λ (n : ℕ). is_target (tac_of tac) (Through class.1 class.2) n ≡ true) (sym (ap (λ (l : ℕ × ℕ). l.1) other)) class.4.0)
        ]

    edge_from : (a b : ℕ) → Has edges (a, b) → Calls (tac_of tac) a b
    edge_from a b has = elim (adds.from (a, b) has) [
      | inl first ↦ (let call = calls.from (a, b) first in by_call call.0 call.1 call.2.0)
      | inr joined ↦ joined_from a b joined
    ]

    -- a class is joined both ways
    both_ways : (caller : ℕ) (pointer : Register) (c_type : CType) (first member : ℕ) → Makes (tac_of tac) caller (Through pointer c_type) → IsFirstTarget (tac_of tac) (Through pointer c_type) (Some first)
        → is_target (tac_of tac) (Through pointer c_type) member ≡ true → Has edges (first, member) × Has edges (member, first)
    both_ways caller pointer c_type first member makes starts target =
        let link = link_to tac classes known pointer c_type first member starts target in
        let is = marked first (target_inside tac classes known pointer c_type first starts.0) (calls.class_to caller pointer c_type first (makes_inside caller (Through pointer c_type) makes) makes starts) in (
          adds.to (first, member) (record { first = first; member = member; link = link; called = is; is = inl refl }),
          adds.to (member, first) (record { first = first; member = member; link = link; called = is; is = inr refl }),
        )

    edge_to : (a b : ℕ) → Calls (tac_of tac) a b → (node : ℕ) × Has edges (a, node) × LeadsTo edges node b
    edge_to a b (by_call (Known function) makes target) =
        (function, adds.kept (a, function) (calls.to a (Known function) function (makes_inside a (Known function) makes) makes (known_first (tac_of tac) function)), inl (eqb-true function b target))
    edge_to a b (by_call (Through pointer c_type) makes target) =
        let first = some_first tac classes known pointer c_type b target in
        (first.0, adds.kept (a, first.0) (calls.to a (Through pointer c_type) first.0 (makes_inside a (Through pointer c_type) makes) makes first.1), inr (both_ways a pointer c_type first.0 b makes first.1 target))
    edge_to a b (in_class other pointer c_type makes here there) =
        let first = some_first tac classes known pointer c_type a here in
        (first.0, (both_ways other pointer c_type first.0 a makes first.1 here).1, inr (both_ways other pointer c_type first.0 b makes first.1 there))

    pub is_graph : IsCallGraph (tac_of tac) edges
    is_graph = record { from = edge_from; to = edge_to }
