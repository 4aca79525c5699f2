use Rattle.std.proofs.Common.{refl}
use Rattle.heap_graph.specs.Closed.{AreOne}
use Rattle.tac_ir.specs.declared.register.FunctionId.{FunctionId}
use Rattle.graph_checker.specs.Programs.{family_of}
use Rattle.graph_checker.proofs.Judged.{at_start, holds_on, fails, ends}
use Rattle.graph_checker.proofs.program.Program.all_share.Goals as goal

abbrev none : FunctionId
none = record { 0 = 0 }

pub loop-called-init : goal.loop-called-init
loop-called-init c = at_start (λ called. called.0) (AreOne (family_of c.args.self) c.args.first.0) c.args.targets.now

pub returns-then-not-share : goal.returns-then-not-share
returns-then-not-share c =
    fails (λ called. called.0) (AreOne (family_of c.args.self) c.args.first.0) c.args.targets.now c.loop-called.called-index none _ refl c.loop-called-test.true c.share.result c.if-not-share.true c.share.ensures
    c.loop-called.invariant

pub loop-called-preserved : goal.loop-called-preserved
loop-called-preserved c =
    holds_on (λ called. called.0) (AreOne (family_of c.args.self) c.args.first.0) c.args.targets.now c.loop-called.called-index none _ refl c.loop-called-test.true c.share.result c.if-not-share.false c.share.ensures
    c.loop-called.invariant

pub returns : goal.returns
returns c = ends (λ called. called.0) (AreOne (family_of c.args.self) c.args.first.0) c.args.targets.now c.loop-called.called-index c.loop-called-test.false c.loop-called.invariant
