use Rattle.std.proofs.Common.{◌≡◌, drop}
use Rattle.heap_graph.specs.Frozen.{edges_of}
use Rattle.graph_checker.specs.Tests.{ascend_from}
use Rattle.graph_checker.proofs.edges.ascend.Given as goal

-- the slots from this index on ascend where all do
abbrev pub invariant-loop-edge : goal.invariant-loop-edge
invariant-loop-edge l = ascend_from l.bound (edges_of (drop l.edge-index l.edges)) ≡ ascend_from 0 (edges_of l.edges)
