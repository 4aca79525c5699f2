use Rattle.std.proofs.Common.{◌≡◌, drop}
use Rattle.graph_checker.specs.Tests.{join_slots}
use Rattle.graph_checker.proofs.edges.join_slots.Given as goal

-- the edges from this index on join slots where all do
abbrev pub invariant-loop-edge : goal.invariant-loop-edge
invariant-loop-edge l = join_slots l.graph l.node (drop l.edge-index l.edge-items) ≡ join_slots l.graph l.node l.node.edges.items
