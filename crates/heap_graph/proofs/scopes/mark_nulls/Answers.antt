use Rattle.tac_ir.specs.Views.{op_in}
use Rattle.heap_graph.specs.Points.{makes_null}
use Rattle.heap_graph.proofs.Collecting.{one_marked, all_marked}
use Rattle.heap_graph.proofs.scopes.mark_nulls.Goals as goal

pub loop-op-preserved : goal.loop-op-preserved
loop-op-preserved c = λ table register.
    one_marked (op_in table) (makes_null register) c.args.points.now c.loop-op.op-index c.op-item.result _ _ _ c.loop-op-test.true c.op-item.is (c.in_ok-mark_null.ensures table register) (c.loop-op.invariant table register)

pub returns : goal.returns
returns c = λ table register. all_marked (op_in table) (makes_null register) c.args.points.now c.loop-op.op-index _ _ c.loop-op-test.false (c.loop-op.invariant table register)
