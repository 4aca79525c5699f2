use Rattle.dsa_inlining.specs.Tallies.{own_names}
use Rattle.dsa_inlining.proofs.GroupCounts.Adding.{names_start, names_more, names_end}
use Rattle.dsa_inlining.proofs.mentions.Mentions.add_groups.Goals as goal

pub loop-group-init : goal.loop-group-init
loop-group-init c = names_start (own_names c.args.all.now) c.args.groups.now c.args.self.now

pub loop-group-preserved : goal.loop-group-preserved
loop-group-preserved c =
    names_more (own_names c.args.all.now) c.args.groups.now c.args.self.now c.loop-group.group-index c.loop-group-test.true c.loop-group.self c.add_group.new.self c.add_group.ensures
    c.loop-group.invariant

pub returns : goal.returns
returns c = names_end (own_names c.args.all.now) c.args.groups.now c.args.self.now c.loop-group.group-index c.loop-group.self c.loop-group-test.false c.loop-group.invariant
