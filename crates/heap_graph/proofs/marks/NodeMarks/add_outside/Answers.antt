use Rattle.std.proofs.Common.{subst}
use Rattle.heap_graph.specs.Frozen.{target_in}
use Rattle.heap_graph.specs.Marks.{Adds, IsAmong}
use Rattle.heap_graph.proofs.Adding.{adds_both}
use Rattle.heap_graph.proofs.marks.NodeMarks.add_outside.Goals as goal

pub returns : goal.returns
returns c =
    let mid = c.add_targets.new.self in
    adds_both c.args.self.now mid c.add_target.new.self (IsAmong (target_in c.args.names.now.parameters.items)) _
    (subst (λ l. Adds c.args.self.now mid (IsAmong (target_in l))) c.deref.ensures.value c.add_targets.ensures) c.add_target.ensures
