use Rattle.std.proofs.Common.{ℕ, ◌+◌, ◌<◌, List, length, take, set, get_or, refl, ap, subst, ◌∙◌, arith}
use Rattle.std.proofs.lemmas.Grind.{get_or_default_zero}
use Rattle.call_graph.proofs.RowLists.{read_take, take_all}
use Rattle.call_graph.specs.Orders.{AreCounts}
use Rattle.std.proofs.lemmas.List.{length-take-le}
use Rattle.call_graph.proofs.CountSteps.{no_counts, count_one, count_none, count_low}
use Rattle.call_graph.proofs.edge_counts.counts.Goals.{then-edge-nodes, else-edge-nodes}
use Rattle.call_graph.proofs.edge_counts.counts.Goals as goal

pub loop-edge-init : goal.loop-edge-init
loop-edge-init c = no_counts c.args.nodes _ (c.in_ok-counts.ensures.items_if_clones_equal (λ y e. e))

pub overflow_add-index_mut : goal.overflow_add-index_mut
overflow_add-index_mut c =
    let edges = c.args.edges.now in
    let i = c.loop-edge.edge-index in
    let edge = get_or edges i (0, 0) in
    let low = count_low c.args.nodes (take i edges) (take (i + 1) edges) edge c.loop-edge.counts.items c.loop-edge.counts.items c.loop-edge.invariant (read_take edges i (i + 1) edge (0, 0) refl (omega arith) refl) c.if-edge-nodes.true in
    let long = length-take-le i edges (omega arith) in
    let counts = c.loop-edge.counts.items in
    let lt : edge.1 < length counts = omega (arith, c.if-edge-nodes.true, c.loop-edge.invariant.each) in
    let value = c.index_mut.ensures.value ∙ get_or_default_zero counts edge.1 c.index_mut.result.now lt in
    omega (arith, low, long, value)

pub loop-edge-preserved : goal.loop-edge-preserved
loop-edge-preserved c =
    let edges = c.args.edges.now in
    let i = c.loop-edge.edge-index in
    let edge = get_or edges i (0, 0) in
    let more = read_take edges i (i + 1) edge (0, 0) refl (omega arith) refl in
    elim c.if-edge-nodes.branch [
      | then-edge-nodes w ↦ count_one c.args.nodes (take i edges) (take (i + 1) edges) edge c.loop-edge.counts.items _ c.loop-edge.invariant more w.if-edge-nodes.true
          (ap (λ v. v.items) w.counts-is
          ∙ ap (λ n. set c.loop-edge.counts.items edge.1 (n + 1)) (w.index_mut.ensures.value ∙ get_or_default_zero c.loop-edge.counts.items edge.1 w.index_mut.result.now (omega (arith, w.if-edge-nodes.true, c.loop-edge.invariant.each))))
      | else-edge-nodes w ↦ count_none c.args.nodes (take i edges) (take (i + 1) edges) edge c.loop-edge.counts.items _ c.loop-edge.invariant more w.if-edge-nodes.false (ap (λ v. v.items) w.counts-is)
    ]

pub returns : goal.returns
returns c = subst (λ (l : List (ℕ × ℕ)). AreCounts c.args.nodes l c.loop-edge.counts.items) (take_all c.loop-edge.edge-index c.args.edges.now (omega arith)) c.loop-edge.invariant
