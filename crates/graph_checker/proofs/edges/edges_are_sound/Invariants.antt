use Rattle.std.proofs.Common.{◌≡◌, drop}
use Rattle.graph_checker.specs.Tests.{are_sound}
use Rattle.graph_checker.proofs.edges.edges_are_sound.Given as goal

-- the nodes from this index on are sound where all are
abbrev pub invariant-loop-node : goal.invariant-loop-node
invariant-loop-node l = are_sound l.graph (drop l.node-index l.node-items) ≡ are_sound l.graph l.graph.nodes.items
