use Rattle.heap_graph.specs.Edges.{Grows}
use Rattle.heap_graph.proofs.Adding.{IsAmongFirst}
use Rattle.heap_graph.proofs.Coming.{edge_to}
use Rattle.heap_graph.proofs.search.Search.follow.Given as goal

abbrev pub invariant-loop-edge : goal.invariant-loop-edge
invariant-loop-edge l = Grows l.initial.self l.self (IsAmongFirst l.edge-index (edge_to l.edge-items))
