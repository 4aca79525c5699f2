use Rattle.std.proofs.Common.{true, false}
use Rattle.heap_graph.specs.Embeddings.{OptionHasSlots}
use Rattle.graph_checker.proofs.Judged.{at_start, holds_on, fails, ends}
use Rattle.graph_tests.proofs.HasSlots.{told}
use Rattle.graph_tests.proofs.fitting.has_slots.Goals as goal

pub loop-node-init : goal.loop-node-init
loop-node-init c = at_start (λ node. node) (OptionHasSlots c.args.types.now) c.as_slice-nodes.result.now

pub returns-then-not-has_slots_if : goal.returns-then-not-has_slots_if
returns-then-not-has_slots_if c =
    let judged = fails (λ node. node) (OptionHasSlots c.args.types.now) c.as_slice-nodes.result.now c.loop-node.node-index c.node-item.result c.node-item.result c.node-item.is c.loop-node-test.true c.has_slots_if.result c.if-not-has_slots_if.true c.has_slots_if.ensures c.loop-node.invariant in
    told c.args.types.now c.args.graph.now c.as_slice-nodes.result.now c.as_slice-nodes.ensures.value false judged

pub loop-node-preserved : goal.loop-node-preserved
loop-node-preserved c =
    holds_on (λ node. node) (OptionHasSlots c.args.types.now) c.as_slice-nodes.result.now c.loop-node.node-index c.node-item.result c.node-item.result c.node-item.is c.loop-node-test.true c.has_slots_if.result c.if-not-has_slots_if.false c.has_slots_if.ensures c.loop-node.invariant

pub returns : goal.returns
returns c =
    told c.args.types.now c.args.graph.now c.as_slice-nodes.result.now c.as_slice-nodes.ensures.value true (ends (λ node. node) (OptionHasSlots c.args.types.now) c.as_slice-nodes.result.now c.loop-node.node-index c.loop-node-test.false c.loop-node.invariant)
