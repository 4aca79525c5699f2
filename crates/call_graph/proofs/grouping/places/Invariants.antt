use Rattle.std.proofs.Common.{take}
use Rattle.call_graph.proofs.MemberSteps.{ArePlacesOf}
use Rattle.call_graph.proofs.grouping.places.Given as goal

abbrev pub invariant-loop-place : goal.invariant-loop-place
invariant-loop-place l = ArePlacesOf l.count l.order (take l.place l.order) l.places.items
