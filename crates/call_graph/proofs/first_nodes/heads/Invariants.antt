use Rattle.std.proofs.Common.{take}
use Rattle.call_graph.specs.Heads.{HeadsSoFar}
use Rattle.call_graph.proofs.first_nodes.heads.Given as goal

abbrev pub invariant-loop-node : goal.invariant-loop-node
invariant-loop-node l = HeadsSoFar (take l.node l.numbers) l.firsts l.heads.items
