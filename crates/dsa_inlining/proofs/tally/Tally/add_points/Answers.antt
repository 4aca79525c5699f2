use Rattle.tac_ir.specs.Views.{tac_of, op_in}
use Rattle.dsa_inlining.specs.Before.{graphs_before}
use Rattle.dsa_inlining.specs.Counting.{copies_of}
use Rattle.dsa_inlining.specs.Sums.{outside_of}
use Rattle.dsa_inlining.specs.Tallies.{op_mentions}
use Rattle.dsa_inlining.proofs.GroupCounts.Adding.{at_start, one_more, ends}
use Rattle.dsa_inlining.proofs.tally.Tally.add_points.Goals as goal

pub loop-op-init : goal.loop-op-init
loop-op-init c =
    let tac = c.args.before.tac.now in
    let outside = outside_of (graphs_before c.args.before) c.args.group in
    at_start c.args.before (op_in tac.types) (copies_of (tac_of tac) outside) (op_mentions (tac_of tac) outside) c.args.points.now c.args.self.now

pub loop-op-preserved : goal.loop-op-preserved
loop-op-preserved c =
    let tac = c.args.before.tac.now in
    let outside = outside_of (graphs_before c.args.before) c.args.group in
    one_more c.args.before (op_in tac.types) (copies_of (tac_of tac) outside) (op_mentions (tac_of tac) outside) c.args.points.now c.args.self.now c.loop-op.op-index c.op-item.result c.op-item.result c.op-item.is
    c.loop-op-test.true c.loop-op.self c.add_op.new.self c.in_ok-add_op.ensures c.loop-op.invariant

pub returns : goal.returns
returns c =
    let tac = c.args.before.tac.now in
    let outside = outside_of (graphs_before c.args.before) c.args.group in
    ends c.args.before (op_in tac.types) (copies_of (tac_of tac) outside) (op_mentions (tac_of tac) outside) c.args.points.now c.args.self.now c.loop-op.op-index c.loop-op.self c.loop-op-test.false
    c.loop-op.invariant
