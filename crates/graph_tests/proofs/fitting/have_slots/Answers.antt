use Rattle.std.proofs.Common.{true, false}
use Rattle.heap_graph.specs.Embeddings.{NodesHaveSlots}
use Rattle.graph_checker.proofs.Judged.{at_start, holds_on, fails, ends}
use Rattle.graph_tests.proofs.HasSlots.{same_all}
use Rattle.graph_tests.proofs.fitting.have_slots.Goals as goal

pub loop-graph-init : goal.loop-graph-init
loop-graph-init c = at_start (λ graph. graph) (NodesHaveSlots c.args.types.now) c.args.graphs.now

pub returns-then-not-has_slots : goal.returns-then-not-has_slots
returns-then-not-has_slots c =
    same_all (NodesHaveSlots c.args.types.now) c.args.graphs.now false (fails (λ graph. graph) (NodesHaveSlots c.args.types.now) c.args.graphs.now c.loop-graph.graph-index c.graph-item.result c.graph-item.result c.graph-item.is c.loop-graph-test.true c.has_slots.result c.if-not-has_slots.true c.has_slots.ensures c.loop-graph.invariant)

pub loop-graph-preserved : goal.loop-graph-preserved
loop-graph-preserved c =
    holds_on (λ graph. graph) (NodesHaveSlots c.args.types.now) c.args.graphs.now c.loop-graph.graph-index c.graph-item.result c.graph-item.result c.graph-item.is c.loop-graph-test.true c.has_slots.result c.if-not-has_slots.false c.has_slots.ensures c.loop-graph.invariant

pub returns : goal.returns
returns c =
    same_all (NodesHaveSlots c.args.types.now) c.args.graphs.now true (ends (λ graph. graph) (NodesHaveSlots c.args.types.now) c.args.graphs.now c.loop-graph.graph-index c.loop-graph-test.false c.loop-graph.invariant)
