use Rattle.tac_ir.specs.Views.{tac_of}
use Rattle.dsa_inlining.proofs.Firsts.{values_start, values_more, values_end}
use Rattle.dsa_inlining.proofs.mentions.Mentions.add_values.Goals as goal

pub loop-first-init : goal.loop-first-init
loop-first-init c = λ tac numbers. values_start (tac_of tac) c.args.own.0 c.args.firsts.now c.args.self.now

pub loop-first-preserved : goal.loop-first-preserved
loop-first-preserved c = λ tac numbers.
    values_more (tac_of tac) c.args.own.0 c.args.firsts.now c.args.self.now c.loop-first.first-index c.first-item.result c.first-item.is c.loop-first-test.true c.loop-first.self
    c.add_value.new.self (c.add_value.ensures tac numbers) (c.loop-first.invariant tac numbers)

pub returns : goal.returns
returns c = λ tac numbers.
    values_end (tac_of tac) c.args.own.0 c.args.firsts.now c.args.self.now c.loop-first.first-index c.loop-first.self c.loop-first-test.false (c.loop-first.invariant tac numbers)
