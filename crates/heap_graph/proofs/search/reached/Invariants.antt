use Rattle.std.proofs.Common.{◌+◌, length}
use Rattle.heap_graph.specs.Edges.{IsSearch, unmarked}
use Rattle.heap_graph.proofs.search.reached.Given as goal

abbrev pub invariant-loop-number : goal.invariant-loop-number
invariant-loop-number l = IsSearch l.graph.nodes.items l.fn.starts l.search

abbrev pub decreases-loop-number : goal.decreases-loop-number
decreases-loop-number l = unmarked l.search.found + length l.search.pending.items
