use Rattle.std.proofs.Common.{take}
use Rattle.call_graph.specs.CallLists.{AddsClasses}
use Rattle.call_graph.proofs.graph.add_classes.Given as goal

abbrev pub invariant-loop-link : goal.invariant-loop-link
invariant-loop-link l = AddsClasses l.is_called (take l.link-index l.links) l.initial.edges.items l.edges.items
