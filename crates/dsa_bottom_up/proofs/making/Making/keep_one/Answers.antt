use Rattle.dsa_bottom_up.proofs.Keeping.{keeps_one}
use Rattle.dsa_bottom_up.proofs.making.Making.keep_one.Goals as goal

pub returns : goal.returns
returns c =
    keeps_one c.args.self.now c.args.member c.args.graph.now c.args.own c.set.new.self c.in_ok-numbers.numbers.items c.requires.within c.requires.lists c.in_ok-set.ensures.set c.in_ok-numbers.ensures
