use Rattle.dsa_inlining.proofs.MarkSteps.{marks_start, marks_more, marks_end}
use Rattle.dsa_inlining.proofs.marks.mark_all.Goals as goal

pub loop-number-init : goal.loop-number-init
loop-number-init c = marks_start c.args.numbers.now c.args.marks.now.items

pub loop-number-preserved : goal.loop-number-preserved
loop-number-preserved c =
    marks_more c.args.numbers.now c.args.marks.now.items c.loop-number.number-index c.loop-number.marks.items c.mark.new.marks.items c.loop-number-test.true c.mark.ensures
    c.loop-number.invariant

pub returns : goal.returns
returns c = marks_end c.args.numbers.now c.args.marks.now.items c.loop-number.number-index c.loop-number.marks.items c.loop-number-test.false c.loop-number.invariant
