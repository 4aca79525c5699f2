use Rattle.std.proofs.Common.{◌≡◌, take}
use Rattle.call_graph.specs.GroupLists.{links_of}
use Rattle.call_graph.proofs.grouping.links.Given as goal

abbrev pub invariant-loop-function : goal.invariant-loop-function
invariant-loop-function l = l.links.items ≡ links_of 0 (take l.function l.heads)
