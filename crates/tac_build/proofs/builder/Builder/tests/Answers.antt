use Rattle.std.proofs.Common.{◌+◌, drop, get_or, pos, subst}
use Rattle.std.proofs.lemmas.List.{drop_all, drop_more}
use Rattle.tac_build.specs.declared.switches.Label.{Label}
use Rattle.tac_build.proofs.SoFar.{TestsSoFar}
use Rattle.tac_build.proofs.InOrder.{tests_begin, tests_next, tests_end}
use Rattle.tac_build.proofs.builder.Builder.tests.Goals as goal

pub loop-case-init : goal.loop-case-init
loop-case-init c = tests_begin c.args.switched c.args.cases.now c.args.self.now

pub loop-case-preserved : goal.loop-case-preserved
loop-case-preserved c =
    let all = c.args.cases.now in
    let here = c.loop-case.case-index in
    let none : Label = record { value = pos 0; place = record { 0 = 0 } } in
    let far = subst (λ left. TestsSoFar c.args.switched all left c.args.self.now c.loop-case.self) (drop_more all here none c.loop-case-test.true) c.loop-case.invariant in
    tests_next c.args.switched all (drop (here + 1) all) (get_or all here none) c.args.self.now c.loop-case.self c.label_test.new.self far c.in_ok-label_test.ensures.code c.in_ok-label_test.ensures.grows c.label_test.ensures.counts

pub returns-clause-code : goal.returns-clause-code
returns-clause-code c =
    let all = c.args.cases.now in
    tests_end c.args.switched all c.args.self.now c.loop-case.self (subst (λ left. TestsSoFar c.args.switched all left c.args.self.now c.loop-case.self) (drop_all c.loop-case.case-index all c.loop-case-test.false) c.loop-case.invariant)
