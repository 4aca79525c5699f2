use Rattle.std.proofs.Common.{◌≡◌, length, subst, arith}
use Rattle.dsa_local.specs.Called.{AreNone}
use Rattle.dsa_local.proofs.CalledSteps.{none_at_start, none_more}
use Rattle.dsa_local.proofs.called.no_calls.Goals as goal

pub loop-init : goal.loop-init
loop-init c = none_at_start _ c.new-callees.ensures.items

pub loop-preserved : goal.loop-preserved
loop-preserved c = none_more c.loop.index c.loop.callees.items _ c.loop.invariant c.in_ok-push.ensures.items

pub returns : goal.returns
returns c =
    let all : c.loop.index ≡ length c.args.functions.now = omega (arith, c.loop-test.false, c.loop.auto.index-end) in
    subst (λ n. AreNone n c.loop.callees.items) all c.loop.invariant
