use Rattle.std.proofs.Common.{refl}
use Rattle.tac_ir.specs.declared.register.FunctionId.{FunctionId}
use Rattle.tac_ir.specs.Views.{tac_of}
use Rattle.dsa_inlining.specs.Before.{graphs_before}
use Rattle.dsa_inlining.specs.Sums.{outside_of}
use Rattle.dsa_inlining.specs.Tallies.{copies_from, told_from}
use Rattle.dsa_inlining.proofs.GroupCounts.Adding.{at_start, one_more, ends}
use Rattle.dsa_inlining.proofs.tally.Tally.add_targets.Goals as goal

abbrev none : FunctionId
none = record { 0 = 0 }

pub loop-target-init : goal.loop-target-init
loop-target-init c =
    let tac = c.args.before.tac.now in
    let outside = outside_of (graphs_before c.args.before) c.args.group in
    at_start c.args.before (λ target. target.0) (copies_from (tac_of tac) outside) (told_from (tac_of tac) outside) c.args.targets.now c.args.self.now

pub loop-target-preserved : goal.loop-target-preserved
loop-target-preserved c =
    let tac = c.args.before.tac.now in
    let outside = outside_of (graphs_before c.args.before) c.args.group in
    one_more c.args.before (λ target. target.0) (copies_from (tac_of tac) outside) (told_from (tac_of tac) outside) c.args.targets.now c.args.self.now c.loop-target.target-index none _ refl c.loop-target-test.true
    c.loop-target.self c.add_called.new.self c.in_ok-add_called.ensures c.loop-target.invariant

pub returns : goal.returns
returns c =
    let tac = c.args.before.tac.now in
    let outside = outside_of (graphs_before c.args.before) c.args.group in
    ends c.args.before (λ target. target.0) (copies_from (tac_of tac) outside) (told_from (tac_of tac) outside) c.args.targets.now c.args.self.now c.loop-target.target-index c.loop-target.self
    c.loop-target-test.false c.loop-target.invariant
