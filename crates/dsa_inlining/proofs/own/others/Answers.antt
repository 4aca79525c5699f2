use Rattle.std.proofs.Common.{◌+◌, sym, subst, ◌∙◌}
use Rattle.dsa_inlining.proofs.Others.{AreOthersFirst, others_none, others_told, others_listed, others_all}
use Rattle.dsa_inlining.proofs.own.others.Goals as goal
use Rattle.dsa_inlining.proofs.own.others.Goals.{then-not-contains+in_ok-push, else-not-contains}

pub loop-number-init : goal.loop-number-init
loop-number-init c = others_none c.as_slice-number-items.result.now c.args.told.now.keys c.new-numbers.result.items c.new-numbers.ensures.items

pub loop-number-preserved : goal.loop-number-preserved
loop-number-preserved c =
    let keys = c.as_slice-number-items.result.now in
    let told = c.args.told.now.keys in
    let at = c.loop-number.number-index in
    let numbers = c.loop-number.numbers in
    elim c.if-not-contains.branch [
      | then-not-contains+in_ok-push w ↦ subst (λ n. AreOthersFirst keys told n.items (at + 1)) (sym w.numbers-is) (others_listed keys told numbers.items at c.loop-number-test.true c.loop-number.invariant w.push.new.self.items w.in_ok-push.ensures.items)
      | else-not-contains w ↦ subst (λ n. AreOthersFirst keys told n.items (at + 1)) (sym w.numbers-is) (others_told keys told numbers.items at c.loop-number-test.true c.loop-number.invariant (sym w.if-not-contains.ensures))
    ]

pub returns : goal.returns
returns c =
    others_all c.args.targets.now c.as_slice-number-items.result.now c.args.told.now.keys c.loop-number.numbers.items c.loop-number.number-index (c.as_slice-number-items.ensures ∙ c.keys.ensures.rest)
    c.loop-number-test.false c.loop-number.invariant
