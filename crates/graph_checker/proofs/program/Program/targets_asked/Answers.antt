use Rattle.std.proofs.Common.{refl}
use Rattle.tac_ir.specs.declared.register.FunctionId.{FunctionId}
use Rattle.heap_graph.specs.Asked.{TargetAsked}
use Rattle.graph_checker.specs.Programs.{family_of}
use Rattle.graph_checker.proofs.Judged.{at_start, holds_on, fails, ends}
use Rattle.graph_checker.proofs.program.Program.targets_asked.Goals as goal

abbrev none : FunctionId
none = record { 0 = 0 }

pub loop-called-init : goal.loop-called-init
loop-called-init c = λ owner member. at_start (λ called. called.0) (TargetAsked (family_of c.args.self) owner c.args.site c.args.arguments.now) c.args.targets.now

pub returns-then-not-branch : goal.returns-then-not-branch
returns-then-not-branch c = λ owner member.
    fails (λ called. called.0) (TargetAsked (family_of c.args.self) owner c.args.site c.args.arguments.now) c.args.targets.now c.loop-called.called-index none _ refl c.loop-called-test.true
    c.in_ok-target_asked.field-0 c.if-not-branch.true (c.in_ok-target_asked.ensures owner member) (c.loop-called.invariant owner member)

pub loop-called-preserved : goal.loop-called-preserved
loop-called-preserved c = λ owner member.
    holds_on (λ called. called.0) (TargetAsked (family_of c.args.self) owner c.args.site c.args.arguments.now) c.args.targets.now c.loop-called.called-index none _ refl c.loop-called-test.true
    c.in_ok-target_asked.field-0 c.if-not-branch.false (c.in_ok-target_asked.ensures owner member) (c.loop-called.invariant owner member)

pub returns : goal.returns
returns c = λ owner member.
    ends (λ called. called.0) (TargetAsked (family_of c.args.self) owner c.args.site c.args.arguments.now) c.args.targets.now c.loop-called.called-index c.loop-called-test.false
    (c.loop-called.invariant owner member)
