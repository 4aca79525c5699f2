use Rattle.std.proofs.Common.{refl}
use Rattle.tac_ir.specs.declared.register.FunctionId.{FunctionId}
use Rattle.graph_checker.specs.Programs.{family_of}
use Rattle.graph_checker.specs.Needed.{IsNeededIn}
use Rattle.graph_checker.proofs.Adding.{at_start, one_more, ends}
use Rattle.graph_checker.proofs.needed.add_members.Goals as goal

abbrev none : FunctionId
none = record { 0 = 0 }

pub loop-member-init : goal.loop-member-init
loop-member-init c = at_start (λ member. member.0) (IsNeededIn (family_of c.args.program) c.args.program.graphs.now.functions.items) c.args.members.now c.args.needed.now.marks

pub loop-member-preserved : goal.loop-member-preserved
loop-member-preserved c =
    one_more (λ member. member.0) (IsNeededIn (family_of c.args.program) c.args.program.graphs.now.functions.items) c.args.members.now c.args.needed.now.marks c.loop-member.member-index none _ refl
    c.loop-member-test.true c.loop-member.needed.marks c.add_member.new.needed.marks c.in_ok-add_member.ensures c.loop-member.invariant

pub returns : goal.returns
returns c =
    ends (λ member. member.0) (IsNeededIn (family_of c.args.program) c.args.program.graphs.now.functions.items) c.args.members.now c.args.needed.now.marks c.loop-member.member-index
    c.loop-member.needed.marks c.loop-member-test.false c.loop-member.invariant
