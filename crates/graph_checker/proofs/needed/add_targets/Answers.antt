use Rattle.std.proofs.Common.{refl}
use Rattle.tac_ir.specs.declared.register.FunctionId.{FunctionId}
use Rattle.graph_checker.specs.Programs.{family_of}
use Rattle.graph_checker.specs.Needed.{IsImageAt}
use Rattle.graph_checker.proofs.Adding.{at_start, one_more, ends}
use Rattle.graph_checker.proofs.needed.add_targets.Goals as goal

abbrev none : FunctionId
none = record { 0 = 0 }

pub loop-called-init : goal.loop-called-init
loop-called-init c = λ owner member. at_start (λ called. called.0) (IsImageAt (family_of c.args.program) owner c.args.site) c.args.targets.now c.args.needed.now.marks

pub loop-called-preserved : goal.loop-called-preserved
loop-called-preserved c = λ owner member.
    one_more (λ called. called.0) (IsImageAt (family_of c.args.program) owner c.args.site) c.args.targets.now c.args.needed.now.marks c.loop-called.called-index none _ refl
    c.loop-called-test.true c.loop-called.needed.marks c.add_target.new.needed.marks (c.add_target.ensures owner member) (c.loop-called.invariant owner member)

pub returns : goal.returns
returns c = λ owner member.
    ends (λ called. called.0) (IsImageAt (family_of c.args.program) owner c.args.site) c.args.targets.now c.args.needed.now.marks c.loop-called.called-index
    c.loop-called.needed.marks c.loop-called-test.false (c.loop-called.invariant owner member)
