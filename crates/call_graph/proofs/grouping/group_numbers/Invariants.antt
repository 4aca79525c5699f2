use Rattle.std.proofs.Common.{take}
use Rattle.call_graph.specs.GroupLists.{AreNumbers}
use Rattle.call_graph.proofs.grouping.group_numbers.Given as goal

abbrev pub invariant-loop-head : goal.invariant-loop-head
invariant-loop-head l = AreNumbers (take l.head-index l.heads) l.order l.numbers.items
