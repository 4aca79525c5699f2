use Rattle.std.proofs.Common.{◌≡◌, ◌++◌, take, drop}
use Rattle.heap_graph.specs.declared.frozen.Edge as memory_edge
use Rattle.graph_unification.specs.Placing.{placed}
use Rattle.graph_unification.proofs.edges.index_behind.Given as goal

abbrev pub invariant-loop-index : goal.invariant-loop-index
invariant-loop-index l = (edge : memory_edge.Edge) → edge.slot ≡ l.slot → take l.index l.edges ++ placed edge (drop l.index l.edges) ≡ placed edge l.edges
