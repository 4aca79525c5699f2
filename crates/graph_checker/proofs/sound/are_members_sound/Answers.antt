use Rattle.std.proofs.Common.{refl}
use Rattle.tac_ir.specs.declared.register.FunctionId.{FunctionId}
use Rattle.graph_checker.specs.Programs.{family_of}
use Rattle.graph_checker.proofs.Judged.{at_start, holds_on, fails, ends}
use Rattle.graph_checker.specs.ClosedGroups.Sound.{IsSoundMember}
use Rattle.graph_checker.proofs.sound.are_members_sound.Goals as goal

abbrev none : FunctionId
none = record { 0 = 0 }

pub loop-member-init : goal.loop-member-init
loop-member-init c =
    let program = c.args.program in
    at_start (λ member. member.0) (IsSoundMember program.tac.now.types (family_of program) c.args.graph.now program.graphs.now.functions.items) c.args.members.now

pub returns-then-not-branch : goal.returns-then-not-branch
returns-then-not-branch c =
    let program = c.args.program in
    fails (λ member. member.0) (IsSoundMember program.tac.now.types (family_of program) c.args.graph.now program.graphs.now.functions.items) c.args.members.now c.loop-member.member-index none _ refl
    c.loop-member-test.true c.in_ok-is_member_sound.field-0 c.if-not-branch.true c.in_ok-is_member_sound.ensures c.loop-member.invariant

pub loop-member-preserved : goal.loop-member-preserved
loop-member-preserved c =
    let program = c.args.program in
    holds_on (λ member. member.0) (IsSoundMember program.tac.now.types (family_of program) c.args.graph.now program.graphs.now.functions.items) c.args.members.now c.loop-member.member-index none _ refl
    c.loop-member-test.true c.in_ok-is_member_sound.field-0 c.if-not-branch.false c.in_ok-is_member_sound.ensures c.loop-member.invariant

pub returns : goal.returns
returns c =
    let program = c.args.program in
    ends (λ member. member.0) (IsSoundMember program.tac.now.types (family_of program) c.args.graph.now program.graphs.now.functions.items) c.args.members.now c.loop-member.member-index
    c.loop-member-test.false c.loop-member.invariant
