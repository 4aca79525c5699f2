use Rattle.std.proofs.lemmas.List.Elements.{Contains-get_or}
use Rattle.dsa_inlining.proofs.Choices.{none_chosen}
use Rattle.dsa_inlining.proofs.chosen.choose.Goals as goal

pub loop-group-init : goal.loop-group-init
loop-group-init c = none_chosen c.args.groups.now c.new.result.items c.new.ensures.items

pub loop-group-preserved : goal.loop-group-preserved
loop-group-preserved c =
    let groups = c.args.groups.now in
    c.in_ok-consider.ensures groups (Contains-get_or groups c.loop-group.group-index 0 c.loop-group-test.true) c.loop-group.invariant

pub returns : goal.returns
returns c = c.loop-group.invariant
