use Rattle.std.proofs.Common.{rules}
use Rattle.c_typed.specs.Table.{empty}
use Rattle.graph_checker.specs.Tests.{is_slot_in}
use Rattle.graph_checker.proofs.slots.is_slot.Goals as goal

pub returns-in-None : goal.returns-in-None
unfolding is_slot_in
returns-in-None c = search rules

pub returns-in-None-node : goal.returns-in-None-node
unfolding is_slot_in
returns-in-None-node c = search rules

pub returns-then-not-is_collapsed : goal.returns-then-not-is_collapsed
unfolding is_slot_in
returns-then-not-is_collapsed c = search (rules, c.is_collapsed.ensures empty)

pub returns-else-not-is_collapsed : goal.returns-else-not-is_collapsed
unfolding is_slot_in
returns-else-not-is_collapsed c = search (rules, c.is_collapsed.ensures empty)
