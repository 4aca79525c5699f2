use Rattle.std.proofs.Common.{◌+◌, ◌<◌, nat_cmp, length, Some, refl, sym, ap, ◌∙◌, arith}
use Rattle.std.specs.BTreeSet.{contains}
use Rattle.std.proofs.lemmas.Grind.{get_or_default_zero}
use Rattle.std.proofs.lemmas.Option.{slice_get_within, slice_get-get_or, get_or_from_slice_get}
use Rattle.call_graph.proofs.CountSteps.{none_ready, ready_one, ready_none}
use Rattle.call_graph.proofs.order.Ordering.new.Goals.{then-node-head+then-index-eq0+in_ok-insert, else-node-head, else-node-head-via-then-node-head+else-index-eq0, else-node-head-via-else-node-head}
use Rattle.call_graph.proofs.order.Ordering.new.Goals as goal

pub loop-node-init : goal.loop-node-init
loop-node-init c = none_ready c.args.heads.now c.args.counts.items c.new-ready.result c.new-ready.ensures.empty

pub loop-node-preserved : goal.loop-node-preserved
loop-node-preserved c =
    let heads = c.args.heads.now in
    let counts = c.args.counts.items in
    let node = c.loop-node.node in
    let lt : node < length heads = c.loop-node-test.true in
    let lt' : node < length counts = omega (arith, lt, c.requires) in
    elim c.if-node-head.branch [
      | then-node-head+then-index-eq0+in_ok-insert w ↦
          ready_one heads counts node (node + 1) c.loop-node.ready c.if-node-head.ready c.loop-node.invariant refl (slice_get-get_or heads node 0 lt ∙ ap Some (sym w.if-node-head.true))
          (sym (w.index.ensures ∙ get_or_default_zero counts node w.index.result.now lt') ∙ w.if-index-eq0.true) (λ other. ap (λ r. contains nat_cmp r other) w.ready-is ∙ w.in_ok-insert.ensures.updates.0 other)
      | else-node-head w ↦ (elim w.else-node-head.branch [
        | else-node-head-via-then-node-head+else-index-eq0 w' ↦
            ready_none heads counts node (node + 1) c.loop-node.ready c.if-node-head.ready c.loop-node.invariant refl
            (λ here none. w'.if-index-eq0.false (w'.index.ensures ∙ (get_or_default_zero counts node w'.index.result.now lt' ∙ none))) w.ready-is
        | else-node-head-via-else-node-head w' ↦
            ready_none heads counts node (node + 1) c.loop-node.ready c.if-node-head.ready c.loop-node.invariant refl
            (λ here none. w'.if-node-head.false (sym (get_or_from_slice_get heads node node 0 here))) w.ready-is
      ])
    ]

pub returns : goal.returns
returns c = record {
  counts' = refl;
  placed = c.new.ensures.items;
  ready = λ node is. let own = c.loop-node.invariant.ready' node is in (own.1, own.2);
  waits = λ node head none. c.loop-node.invariant.waits node (omega (arith, slice_get_within c.args.heads.now node node head, c.loop-node-test.false)) head none;
}
