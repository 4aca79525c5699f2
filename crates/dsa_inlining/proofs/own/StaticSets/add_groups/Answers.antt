use Rattle.std.proofs.Common.{get_or}
use Rattle.std.proofs.lemmas.List.Elements.{Contains-get_or}
use Rattle.dsa_inlining.proofs.OwnNames.{among_more}
use Rattle.dsa_inlining.proofs.own.StaticSets.add_groups.Goals as goal

pub loop-group-init : goal.loop-group-init
loop-group-init c = λ within among are. are

pub loop-group-preserved : goal.loop-group-preserved
loop-group-preserved c = λ within among are.
    let groups = c.args.groups.now in
    let group = get_or groups c.loop-group.group-index 0 in
    among_more c.args.all.now within group c.loop-group.self c.add_own.new.self (among group (Contains-get_or groups c.loop-group.group-index 0 c.loop-group-test.true)) (c.loop-group.invariant within among are)
    c.in_ok-add_own.ensures

pub returns : goal.returns
returns c = c.loop-group.invariant
