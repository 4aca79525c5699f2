use Rattle.std.proofs.Common.{◌≡◌, ℕ, ◌<◌, true, false, cond, List, nat_cmp, length, refl, sym, ap, subst, ◌∙◌}
use Rattle.std.specs.Prelude.{is_some}
use Rattle.std.specs.BTreeSet.{contains}
use Rattle.std.proofs.lemmas.Bool.{false≢true}
use Rattle.call_graph.specs.declared.order.Ordering.{Ordering}
use Rattle.call_graph.specs.Heads.{turned_edges}
use Rattle.call_graph.specs.Orders.{AreCounts}
use Rattle.call_graph.proofs.Ready.{at_number, not_above, one_placed}
use Rattle.call_graph.proofs.CountSteps.{nothing_in}
use Rattle.call_graph.proofs.Placing.{own_row, no_order, order_more, begins, covered, head_inside, head_new, is_next, places_keep, more_placed, head_placed, all_placed}
use Rattle.call_graph.proofs.order.in_order.Goals as goal

pub loop-head-init : goal.loop-head-init
loop-head-init c =
    let heads = c.args.heads.now in
    let edges = c.args.edges.now in
    let turned = c.as_slice.ensures.value ∙ c.in_ok-turned.ensures in
    record {
      kept = begins edges heads c.requires c.in_ok-counts.counts.items c.in_ok-ordering.ordering (subst (λ (l : List (ℕ × ℕ)). AreCounts (length heads) l c.in_ok-counts.counts.items) turned c.in_ok-counts.ensures) c.in_ok-ordering.ensures;
      in_order = no_order heads edges _ c.in_ok-ordering.ensures.placed;
    }

pub place-requires : goal.place-requires
place-requires c =
    let heads = c.args.heads.now in
    let edges = c.args.edges.now in
    let old = c.loop-head.ordering in
    let popped : Ordering = record { counts = old.counts; ready = c.pop_first.new.self; placed = old.placed } in
    let head = c.in-Some.head in
    let found : contains nat_cmp old.ready head ≡ true = c.in-Some.ensures.member in
    let left = λ (node : ℕ). c.in-Some.ensures.updates.0 node ∙ ap (λ b. cond b false (contains nat_cmp old.ready node)) (at_number head node) in
    let inside = head_inside edges heads c.requires old popped c.loop-head.invariant.kept head found left refl refl _ refl in
    let is_row = c.as_slice-in-Some.ensures.value
    ∙ own_row c.in_ok-callers.callers (length heads) c.as_slice-2.result.now (turned_edges heads edges) c.in_ok-callers.ensures (c.as_slice-2.ensures.value ∙ c.in_ok-turned.ensures) head inside c.index.result.now c.index.ensures in
    covered edges heads c.requires old popped c.loop-head.invariant.kept head found left refl refl c.as_slice-in-Some.result.now is_row

pub loop-head-preserved : goal.loop-head-preserved
loop-head-preserved c =
    let heads = c.args.heads.now in
    let edges = c.args.edges.now in
    let old = c.loop-head.ordering in
    let popped : Ordering = record { counts = old.counts; ready = c.pop_first.new.self; placed = old.placed } in
    let head = c.in-Some.head in
    let kept = c.loop-head.invariant.kept in
    let found : contains nat_cmp old.ready head ≡ true = c.in-Some.ensures.member in
    let left = λ (node : ℕ). c.in-Some.ensures.updates.0 node ∙ ap (λ b. cond b false (contains nat_cmp old.ready node)) (at_number head node) in
    let inside = head_inside edges heads c.requires old popped kept head found left refl refl _ refl in
    let is_row = c.as_slice-in-Some.ensures.value
    ∙ own_row c.in_ok-callers.callers (length heads) c.as_slice-2.result.now (turned_edges heads edges) c.in_ok-callers.ensures (c.as_slice-2.ensures.value ∙ c.in_ok-turned.ensures) head inside c.index.result.now c.index.ensures in
    record {
      kept = places_keep edges heads c.requires old popped kept head found left refl refl c.as_slice-in-Some.result.now is_row c.place.new.self c.in_ok-place.ensures;
      in_order = order_more heads edges old.placed.items c.place.new.self.placed.items head c.loop-head.invariant.in_order
          (is_next edges heads c.requires old popped kept head found left refl refl c.as_slice-in-Some.result.now is_row (λ other is. not_above head other (c.in-Some.ensures.least other is))) c.in_ok-place.ensures.placed;
    }

pub loop-head-smaller : goal.loop-head-smaller
loop-head-smaller c =
    let heads = c.args.heads.now in
    let edges = c.args.edges.now in
    let old = c.loop-head.ordering in
    let popped : Ordering = record { counts = old.counts; ready = c.pop_first.new.self; placed = old.placed } in
    let head = c.in-Some.head in
    let kept = c.loop-head.invariant.kept in
    let found : contains nat_cmp old.ready head ≡ true = c.in-Some.ensures.member in
    let left = λ (node : ℕ). c.in-Some.ensures.updates.0 node ∙ ap (λ b. cond b false (contains nat_cmp old.ready node)) (at_number head node) in
    let inside = head_inside edges heads c.requires old popped kept head found left refl refl _ refl in
    let is_row = c.as_slice-in-Some.ensures.value
    ∙ own_row c.in_ok-callers.callers (length heads) c.as_slice-2.result.now (turned_edges heads edges) c.in_ok-callers.ensures (c.as_slice-2.ensures.value ∙ c.in_ok-turned.ensures) head inside c.index.result.now c.index.ensures in
    one_placed old.placed.items c.place.new.self.placed.items (length heads) head inside
    (more_placed edges heads c.requires old popped kept head found left refl refl c.as_slice-in-Some.result.now is_row c.place.new.self c.in_ok-place.ensures)
    (head_new edges heads c.requires old popped kept head found left refl refl c.as_slice-in-Some.result.now is_row)
    (head_placed edges heads c.requires old popped kept head found left refl refl c.as_slice-in-Some.result.now is_row c.place.new.self c.in_ok-place.ensures)

pub returns : goal.returns
returns c =
    let last = c.loop-head.ordering in
    let none : 0 < length last.ready.keys → ⊥ = λ lt. false≢true (sym (ap is_some c.in_default.is) ∙ c.pop_first.ensures.variant.1 lt) in
    record {
      all = all_placed c.args.edges.now c.args.heads.now c.requires last c.loop-head.invariant.kept (nothing_in last.ready none);
      in_order = c.loop-head.invariant.in_order;
    }
