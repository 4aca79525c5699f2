use Rattle.graph_unification.specs.Memory.{graph_in, IsGraph}
use Rattle.dsa_local.specs.Rounds.{AreFit, Advances}
use Rattle.dsa_local.proofs.rounds.work.Given as goal

abbrev pub invariant-loop-turn : goal.invariant-loop-turn
invariant-loop-turn l = record {
  graph : IsGraph l.tac.types l.graph;
  fit : AreFit l.tac (graph_in l.tac.types l.graph) l.scopes;
  advances : Advances l.tac l.scopes (graph_in l.tac.types l.fn.graph) (graph_in l.tac.types l.graph);
}
