use Rattle.dsa_inlining.proofs.OwnNames.{among_none}
use Rattle.dsa_inlining.proofs.own.StaticSets.of_groups.Goals as goal

pub returns : goal.returns
returns c =
    let groups = c.args.groups.now in
    c.in_ok-add_groups.ensures groups (λ group among. among) (among_none c.args.all.now groups c.new-sets.result c.new-sets.ensures.globals c.new-sets.ensures.literals)
