use Rattle.std.proofs.Common.{◌≡◌, [], arith, subst}
use Rattle.dsa_inlining.specs.Live.{TellClasses}
use Rattle.dsa_inlining.proofs.LiveClasses.{no_links, one_blank}
use Rattle.dsa_inlining.proofs.live.no_classes.Goals as goal

pub loop-init : goal.loop-init
loop-init c = no_links _ c.new-classes.ensures.items

pub loop-preserved : goal.loop-preserved
loop-preserved c = one_blank c.loop.counter c.loop.classes.items _ c.loop.invariant c.in_ok-push.ensures.items

pub returns : goal.returns
returns c = let all : c.loop.counter ≡ c.args.count = omega (arith, c.loop-test.false, c.loop.auto.counter-end) in subst (λ n. TellClasses n [] c.loop.classes.items) all c.loop.invariant
