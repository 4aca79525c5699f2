use Rattle.std.proofs.Common.{◌≡◌, take}
use Rattle.call_graph.specs.GroupLists.{in_groups}
use Rattle.call_graph.specs.GroupViews.{lists_of}
use Rattle.call_graph.proofs.grouping.members.Given as goal

abbrev pub invariant-loop-head : goal.invariant-loop-head
invariant-loop-head l = lists_of l.members.items ≡ in_groups l.heads (take l.head-index l.order)
