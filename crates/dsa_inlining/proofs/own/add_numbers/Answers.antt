use Rattle.std.proofs.Common.{get_or}
use Rattle.std.proofs.lemmas.List.Elements.{Contains-get_or}
use Rattle.dsa_inlining.proofs.Others.{numbers_none, numbers_more}
use Rattle.dsa_inlining.proofs.own.add_numbers.Goals as goal

pub loop-number-init : goal.loop-number-init
loop-number-init c = numbers_none c.args.set.now.keys c.args.numbers.now

pub loop-number-preserved : goal.loop-number-preserved
loop-number-preserved c =
    let numbers = c.args.numbers.now in
    let at = c.loop-number.number-index in
    numbers_more c.args.set.now.keys c.loop-number.set.keys c.insert.new.self.keys numbers (get_or numbers at 0) (Contains-get_or numbers at 0 c.loop-number-test.true) c.in_ok-insert.ensures.keys
    c.loop-number.invariant

pub returns : goal.returns
returns c = c.loop-number.invariant
