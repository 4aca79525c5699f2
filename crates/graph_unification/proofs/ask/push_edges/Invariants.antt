use Rattle.std.proofs.Common.{◌≡◌, ◌≤◌, ◌++◌, length, map, drop, reverse}
use Rattle.graph_unification.specs.Turns.{asked_again}
use Rattle.graph_unification.proofs.ask.push_edges.Given as goal

abbrev pub invariant-loop-left : goal.invariant-loop-left
invariant-loop-left l = (l.left ≤ length l.edges) × (reverse l.work.items ≡ map (asked_again l.at) (drop l.left l.edges) ++ reverse l.initial.work.items)

abbrev pub decreases-loop-left : goal.decreases-loop-left
decreases-loop-left l = l.left
