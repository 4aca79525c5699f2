use Rattle.tac_ir.specs.Views.{op_in}
use Rattle.graph_checker.specs.Fits.{OpFits}
use Rattle.graph_checker.specs.Programs.{family_of}
use Rattle.graph_checker.proofs.Judged.{next_of}
use Rattle.graph_checker.specs.Needed.{IsImageFrom}
use Rattle.graph_checker.proofs.Adding.{at_start, one_more, ends}
use Rattle.graph_checker.proofs.needed.add_points.Goals as goal

pub loop-op-init : goal.loop-op-init
loop-op-init c = record {
  fit = c.requires.fit;
  left = λ owner member. at_start (op_in c.args.program.tac.now.types) (IsImageFrom (family_of c.args.program) owner) c.args.points.now c.args.needed.now.marks;
}

pub add_point-requires-clause-fits : goal.add_point-requires-clause-fits
add_point-requires-clause-fits c =
    (next_of (op_in c.args.program.tac.now.types) (OpFits c.args.program c.args.own.group) c.args.points.now c.loop-op.op-index c.op-item.result c.op-item.result c.op-item.is c.loop-op-test.true c.loop-op.invariant.fit).0

pub loop-op-preserved : goal.loop-op-preserved
loop-op-preserved c = record {
  fit = (next_of (op_in c.args.program.tac.now.types) (OpFits c.args.program c.args.own.group) c.args.points.now c.loop-op.op-index c.op-item.result c.op-item.result c.op-item.is c.loop-op-test.true c.loop-op.invariant.fit).1;
  left = λ owner member.
      one_more (op_in c.args.program.tac.now.types) (IsImageFrom (family_of c.args.program) owner) c.args.points.now c.args.needed.now.marks c.loop-op.op-index c.op-item.result c.op-item.result c.op-item.is
      c.loop-op-test.true c.loop-op.needed.marks c.add_point.new.needed.marks (c.in_ok-add_point.ensures owner member) (c.loop-op.invariant.left owner member);
}

pub returns : goal.returns
returns c = λ owner member.
    ends (op_in c.args.program.tac.now.types) (IsImageFrom (family_of c.args.program) owner) c.args.points.now c.args.needed.now.marks c.loop-op.op-index c.loop-op.needed.marks c.loop-op-test.false
    (c.loop-op.invariant.left owner member)
