use Rattle.std.proofs.Common.{◌≤◌, length, not, ap, arith}
use Rattle.dsa_inlining.proofs.MarkedNodes.{marks_none, marks_more, marks_all}
use Rattle.dsa_inlining.proofs.complete.mark_complete.Goals as goal

pub loop-number-init : goal.loop-number-init
loop-number-init c = marks_none c.args.escaping.now c.args.nodes.now.items

pub loop-number-preserved : goal.loop-number-preserved
loop-number-preserved c =
    marks_more c.args.escaping.now c.args.nodes.now.items c.loop-number.nodes.items c.set_complete.new.nodes.items c.loop-number.number (not c.is_marked.result) (ap not c.is_marked.ensures)
    c.loop-number.invariant c.set_complete.ensures

pub returns : goal.returns
returns c =
    let long : length c.loop-number.nodes.items ≤ c.loop-number.number = omega (arith, c.loop-number.invariant.size, c.args.nodes.now.ok.0, c.len-number-end.ensures, c.loop-number-test.false) in
    marks_all c.args.escaping.now c.args.nodes.now.items c.loop-number.nodes.items c.loop-number.number long c.loop-number.invariant
