use Rattle.std.proofs.Common.{◌≡◌, true, false, length, refl, ap, ◌∙◌, arith}
use Rattle.dsa_inlining.specs.Counting.{count_below}
use Rattle.dsa_inlining.specs.Marks.{is_marked}
use Rattle.dsa_inlining.proofs.MarkSteps.{count_more}
use Rattle.dsa_inlining.proofs.marks.marked.Goals.{then-mark, else-mark}
use Rattle.dsa_inlining.proofs.marks.marked.Goals as goal

pub loop-mark-init : goal.loop-mark-init
loop-mark-init c = (refl, omega arith)

pub loop-mark-preserved : goal.loop-mark-preserved
loop-mark-preserved c =
    let marks = c.args.marks.now in
    let i = c.loop-mark.mark-index in
    elim c.if-mark.branch [
      | then-mark w ↦ (count_more marks i c.loop-mark.count c.if-mark.count true w.if-mark.true (w.count-is) c.loop-mark.invariant.0, omega (arith, c.loop-mark.invariant.1, w.count-is))
      | else-mark w ↦ (count_more marks i c.loop-mark.count c.if-mark.count false w.if-mark.false (w.count-is) c.loop-mark.invariant.0, omega (arith, c.loop-mark.invariant.1, w.count-is))
    ]

pub returns : goal.returns
returns c =
    let marks = c.args.marks.now in
    let all : c.loop-mark.mark-index ≡ length marks = omega (arith, c.loop-mark-test.false, c.loop-mark.auto.mark-index-end) in
    c.loop-mark.invariant.0 ∙ ap (λ n. count_below n (is_marked marks)) all
