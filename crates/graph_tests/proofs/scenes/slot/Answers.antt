use Rattle.std.proofs.Common.{◌<◌, subst}
use Rattle.heap_graph.specs.Memory.{target_of}
use Rattle.graph_unification.specs.Memory.{graph_in}
use Rattle.graph_tests.proofs.Slots.{told_slot}
use Rattle.graph_tests.proofs.scenes.slot.Goals as goal

pub returns-then-target-slots_in : goal.returns-then-target-slots_in
returns-then-target-slots_in c =
    told_slot c.args.types.now.table (graph_in c.args.types.now.table c.args.graph.now) (target_of c.in_ok-target.target) (c.in-Some.element, c.in-Some.field-0-1) (c.in-Some.ensures.tells c.args.types.now.table)
    (subst (λ n. c.in_ok-target.target.shift < n) c.slots_in.ensures c.if-target-slots_in.true)
