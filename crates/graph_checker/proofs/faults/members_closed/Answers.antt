use Rattle.std.proofs.Common.{refl}
use Rattle.tac_ir.specs.declared.register.FunctionId.{FunctionId}
use Rattle.graph_checker.specs.Programs.{family_of}
use Rattle.graph_checker.proofs.Judged.{at_start, holds_on, fails, ends}
use Rattle.heap_graph.specs.Code.{IsMemberClosed}
use Rattle.graph_checker.proofs.faults.members_closed.Goals as goal

abbrev none : FunctionId
none = record { 0 = 0 }

pub loop-member-init : goal.loop-member-init
loop-member-init c = at_start (λ member. member.0) (IsMemberClosed (family_of c.args.program)) c.args.members.now

pub returns-then-not-branch : goal.returns-then-not-branch
returns-then-not-branch c =
    fails (λ member. member.0) (IsMemberClosed (family_of c.args.program)) c.args.members.now c.loop-member.member-index none _ refl c.loop-member-test.true
    c.in_ok-member_closed.field-0 c.if-not-branch.true c.in_ok-member_closed.ensures c.loop-member.invariant

pub loop-member-preserved : goal.loop-member-preserved
loop-member-preserved c =
    holds_on (λ member. member.0) (IsMemberClosed (family_of c.args.program)) c.args.members.now c.loop-member.member-index none _ refl c.loop-member-test.true
    c.in_ok-member_closed.field-0 c.if-not-branch.false c.in_ok-member_closed.ensures c.loop-member.invariant

pub returns : goal.returns
returns c = ends (λ member. member.0) (IsMemberClosed (family_of c.args.program)) c.args.members.now c.loop-member.member-index c.loop-member-test.false c.loop-member.invariant
