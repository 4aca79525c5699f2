use Rattle.std.proofs.Common.{sym, subst}
use Rattle.heap_graph.specs.Frozen.{target_in}
use Rattle.heap_graph.specs.Marks.{IsNodeOf, Adds}
use Rattle.heap_graph.proofs.Adding.{adds_none, adds_more, adds_all}
use Rattle.heap_graph.proofs.Places.{target_there, target_past}
use Rattle.heap_graph.proofs.marks.NodeMarks.add_targets.Goals as goal

pub loop-target-init : goal.loop-target-init
loop-target-init c = adds_none c.args.self.now (target_in c.args.targets.now)

pub loop-target-preserved : goal.loop-target-preserved
loop-target-preserved c =
    let targets = c.args.targets.now in
    let at = c.loop-target.target-index in
    adds_more c.args.self.now c.loop-target.self c.add_target.new.self (target_in targets) at c.loop-target.invariant
    (subst (λ t. Adds c.loop-target.self c.add_target.new.self (IsNodeOf t)) (sym (target_there targets at c.loop-target-test.true)) c.add_target.ensures)

pub returns : goal.returns
returns c =
    let targets = c.args.targets.now in
    adds_all c.args.self.now c.loop-target.self (target_in targets) c.loop-target.target-index (λ place past. target_past targets _ place c.loop-target-test.false past) c.loop-target.invariant
