use Rattle.std.proofs.Common.{ℕ, List, length, sym, ap, subst, ◌∙◌}
use Rattle.std.specs.Prelude.{slice_get}
use Rattle.std.proofs.lemmas.List.{length-map}
use Rattle.tac_ir.specs.Views.{function_in, tac_of}
use Rattle.call_graph.specs.Heads.{AreInside}
use Rattle.call_graph.specs.Orders.{AreOfComponents, IsOrder}
use Rattle.tac_ir.specs.Groups.{AreGroups}
use Rattle.call_graph.specs.GroupLists.{AreCallHeads, AreBelow, AreNumbers, in_groups}
use Rattle.call_graph.proofs.GraphMade.{graph_inside}
use Rattle.call_graph.proofs.MadeGroups.{are_groups}
use Rattle.call_graph.proofs.MemberSteps.{order_below, heads_below, own_group}
use Rattle.call_graph.proofs.grouping.groups.Goals as goal

pub call_graph-requires : goal.call_graph-requires
call_graph-requires c = c.in_ok-classes.ensures

pub call_heads-requires : goal.call_heads-requires
call_heads-requires c =
    let tac = c.args.tac.now in
    let edges = c.in_ok-edges.edges.items in
    let count = c.len.ensures ∙ tac.functions.ok.0 in
    let inside = graph_inside tac c.in_ok-classes.classes c.in_ok-classes.ensures c.requires edges c.in_ok-edges.ensures in
    subst (λ n. AreInside n c.as_slice.result.now) (sym count) (subst (λ (l : List (ℕ × ℕ)). AreInside (length tac.functions.items) l) (sym c.as_slice.ensures.value) inside)

pub in_order-requires : goal.in_order-requires
in_order-requires c =
    let heads = c.in_ok-heads.heads.items in
    let own = subst (λ (l : List (ℕ × ℕ)). AreOfComponents l heads) (c.as_slice.ensures.value ∙ sym c.as_slice-2.ensures.value) c.in_ok-heads.ensures.of in
    subst (λ (l : List ℕ). AreOfComponents c.as_slice-2.result.now l) (sym c.as_slice-3.ensures.value) own

pub members-requires : goal.members-requires
members-requires c =
    let below = order_below c.as_slice-2.result.now c.as_slice-3.result.now c.in_ok-order.order.items c.in_ok-order.ensures in
    let heads = c.as_slice-3.ensures.value ∙ sym c.as_slice-4.ensures.value in
    subst (λ (l : List ℕ). AreBelow (length l) c.as_slice-5.result.now) heads (subst (λ (l : List ℕ). AreBelow (length c.as_slice-3.result.now) l) (sym c.as_slice-5.ensures.value) below)

pub group_numbers-requires-clause-heads : goal.group_numbers-requires-clause-heads
group_numbers-requires-clause-heads c =
    subst (λ (l : List ℕ). AreBelow (length l) l) (sym c.as_slice-6.ensures.value) (heads_below c.as_slice.result.now c.in_ok-heads.heads.items c.len.result c.in_ok-heads.ensures)

pub group_numbers-requires-clause-order : goal.group_numbers-requires-clause-order
group_numbers-requires-clause-order c =
    let below = order_below c.as_slice-2.result.now c.as_slice-3.result.now c.in_ok-order.order.items c.in_ok-order.ensures in
    let heads = c.as_slice-3.ensures.value ∙ sym c.as_slice-6.ensures.value in
    subst (λ (l : List ℕ). AreBelow (length l) c.as_slice-7.result.now) heads (subst (λ (l : List ℕ). AreBelow (length c.as_slice-3.result.now) l) (sym c.as_slice-7.ensures.value) below)

pub returns-clause-groups : goal.returns-clause-groups
returns-clause-groups c =
    let tac = c.args.tac.now in
    let edges = c.in_ok-edges.edges.items in
    let heads = c.in_ok-heads.heads.items in
    let order = c.in_ok-order.order.items in
    let count = (c.len.ensures ∙ tac.functions.ok.0) ∙ sym (length-map tac.functions.items (function_in tac.types)) in
    let made = subst (λ n. AreCallHeads n edges heads) count (subst (λ (l : List (ℕ × ℕ)). AreCallHeads c.len.result l heads) c.as_slice.ensures.value c.in_ok-heads.ensures) in
    let ordered = subst (λ (l : List (ℕ × ℕ)). IsOrder heads l order) c.as_slice-2.ensures.value (subst (λ (l : List ℕ). IsOrder l c.as_slice-2.result.now order) c.as_slice-3.ensures.value c.in_ok-order.ensures) in
    let lists = c.in_ok-members.ensures ∙ (λ i. in_groups (c.as_slice-4.ensures.value i) (c.as_slice-5.ensures.value i)) in
    subst (AreGroups (tac_of tac)) (sym lists) (are_groups (tac_of tac) edges heads order made ordered c.in_ok-edges.ensures)

pub returns-clause-of : goal.returns-clause-of
returns-clause-of c =
    let tac = c.args.tac.now in
    let edges = c.in_ok-edges.edges.items in
    let heads = c.in_ok-heads.heads.items in
    let order = c.in_ok-order.order.items in
    let numbers = c.in_ok-group_of.group_of.items in
    let count = c.len.ensures ∙ tac.functions.ok.0 in
    let made = subst (λ n. AreCallHeads n edges heads) count (subst (λ (l : List (ℕ × ℕ)). AreCallHeads c.len.result l heads) c.as_slice.ensures.value c.in_ok-heads.ensures) in
    let ordered = subst (λ (l : List (ℕ × ℕ)). IsOrder heads l order) c.as_slice-2.ensures.value (subst (λ (l : List ℕ). IsOrder l c.as_slice-2.result.now order) c.as_slice-3.ensures.value c.in_ok-order.ensures) in
    let numbered = subst (λ (l : List ℕ). AreNumbers heads l numbers) c.as_slice-7.ensures.value (subst (λ (l : List ℕ). AreNumbers l c.as_slice-7.result.now numbers) c.as_slice-6.ensures.value c.in_ok-group_of.ensures) in
    let lists = c.in_ok-members.ensures ∙ (λ i. in_groups (c.as_slice-4.ensures.value i) (c.as_slice-5.ensures.value i)) in
    record {
      each = numbered.each ∙ made.each;
      group = λ function number is.
          let own = own_group edges heads order numbers (length tac.functions.items) made ordered numbered function number is in
          (own.0, ap (λ (l : List (List ℕ)). slice_get l number) lists ∙ own.1, own.2);
      classes = c.in_ok-classes.ensures;
    }
