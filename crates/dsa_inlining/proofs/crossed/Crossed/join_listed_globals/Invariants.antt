use Rattle.heap_graph.specs.Graphs.{OfGlobal}
use Rattle.graph_unification.specs.Memory.{IsGraph}
use Rattle.dsa_inlining.specs.Joins.{Joins}
use Rattle.dsa_inlining.specs.Shown.{code_of, shown, callee_of, copies_of}
use Rattle.dsa_inlining.proofs.Joining.{Below}
use Rattle.dsa_inlining.proofs.Listing.{ComesAt}
use Rattle.dsa_inlining.proofs.crossed.Crossed.join_listed_globals.Given as goal

-- those before this place come to their copies
abbrev pub invariant-loop-number : goal.invariant-loop-number
invariant-loop-number l = record {
  graph : IsGraph l.self.tac.now.types l.graph;
  joins : Joins (code_of l.self) (callee_of l.self) (Below (ComesAt (callee_of l.self) (copies_of l.self) OfGlobal l.numbers) l.number-index) (shown l.self l.fn.graph) (shown l.self l.graph);
}
