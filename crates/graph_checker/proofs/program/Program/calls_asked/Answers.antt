use Rattle.tac_ir.specs.Views.{op_in}
use Rattle.heap_graph.specs.Asked.{OpAsked}
use Rattle.graph_checker.specs.Fits.{OpFits}
use Rattle.graph_checker.specs.Programs.{family_of}
use Rattle.graph_checker.proofs.Judged.{at_start, next_of, holds_on, fails, ends}
use Rattle.graph_checker.proofs.program.Program.calls_asked.Goals as goal

pub loop-op-init : goal.loop-op-init
loop-op-init c = record { fit = c.requires.fit; left = λ owner member. at_start (op_in c.args.self.tac.now.types) (OpAsked (family_of c.args.self) owner) c.args.points.now }

pub op_asked-requires-clause-fits : goal.op_asked-requires-clause-fits
op_asked-requires-clause-fits c =
    (next_of (op_in c.args.self.tac.now.types) (OpFits c.args.self c.args.own.group) c.args.points.now c.loop-op.op-index c.op-item.result c.op-item.result c.op-item.is c.loop-op-test.true c.loop-op.invariant.fit).0

pub returns-then-not-branch : goal.returns-then-not-branch
returns-then-not-branch c = λ owner member.
    fails (op_in c.args.self.tac.now.types) (OpAsked (family_of c.args.self) owner) c.args.points.now c.loop-op.op-index c.op-item.result c.op-item.result c.op-item.is c.loop-op-test.true
    c.in_ok-op_asked.field-0 c.if-not-branch.true (c.in_ok-op_asked.ensures owner member) (c.loop-op.invariant.left owner member)

pub loop-op-preserved : goal.loop-op-preserved
loop-op-preserved c = record {
  fit = (next_of (op_in c.args.self.tac.now.types) (OpFits c.args.self c.args.own.group) c.args.points.now c.loop-op.op-index c.op-item.result c.op-item.result c.op-item.is c.loop-op-test.true c.loop-op.invariant.fit).1;
  left = λ owner member.
      holds_on (op_in c.args.self.tac.now.types) (OpAsked (family_of c.args.self) owner) c.args.points.now c.loop-op.op-index c.op-item.result c.op-item.result c.op-item.is c.loop-op-test.true
      c.in_ok-op_asked.field-0 c.if-not-branch.false (c.in_ok-op_asked.ensures owner member) (c.loop-op.invariant.left owner member);
}

pub returns : goal.returns
returns c = λ owner member.
    ends (op_in c.args.self.tac.now.types) (OpAsked (family_of c.args.self) owner) c.args.points.now c.loop-op.op-index c.loop-op-test.false (c.loop-op.invariant.left owner member)
