use Rattle.std.proofs.Common.{◌≤◌, length, drop, reverse}
use Rattle.graph_unification.specs.Turns.{AsksEdges}
use Rattle.graph_unification.proofs.nodes.Nodes.ask_edges.Given as goal

abbrev pub invariant-loop-left : goal.invariant-loop-left
invariant-loop-left l = (l.left ≤ length l.edges) × AsksEdges l.node l.distance l.fn.self (reverse l.fn.work.items) (drop l.left l.edges) l.self (reverse l.work.items)

abbrev pub decreases-loop-left : goal.decreases-loop-left
decreases-loop-left l = l.left
