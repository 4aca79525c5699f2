use Rattle.tac_ir.specs.Views.{tac_of, op_in}
use Rattle.graph_unification.specs.Memory.{graph_in}
use Rattle.dsa_local.proofs.Steps.{ops_go_on, ops_end}
use Rattle.dsa_local.proofs.mentioned.add_mentioned.Goals as goal

pub add_outside-requires-clause-graph : goal.add_outside-requires-clause-graph
add_outside-requires-clause-graph c = c.loop-op.invariant.graph

pub loop-op-preserved : goal.loop-op-preserved
loop-op-preserved c =
    let table = c.args.tac.now.types in
    let show = graph_in table in
    record {
      graph = c.in_ok-add_outside.ensures.graph;
      goes_on = ops_go_on (tac_of c.args.tac.now) (op_in table) c.args.points.now (show c.args.graph.now) c.loop-op.op-index c.op-item.result c.op-item.is c.loop-op-test.true (show c.loop-op.graph) (show c.add_outside.new.graph)
          c.loop-op.invariant.goes_on c.in_ok-add_outside.ensures.adds;
    }

pub returns-clause-adds : goal.returns-clause-adds
returns-clause-adds c =
    let table = c.args.tac.now.types in
    ops_end (tac_of c.args.tac.now) (op_in table) c.args.points.now (graph_in table c.args.graph.now) c.loop-op.op-index c.loop-op-test.false (graph_in table c.loop-op.graph) c.loop-op.invariant.goes_on
