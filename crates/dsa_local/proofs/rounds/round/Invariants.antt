use Rattle.std.proofs.Common.{drop}
use Rattle.std.specs.List.{AllByRecursion}
use Rattle.tac_ir.specs.Views.{tac_of}
use Rattle.graph_unification.specs.Memory.{graph_in, IsGraph}
use Rattle.dsa_local.specs.Rounds.{owners_of, IsFit, RoundGoesOn}
use Rattle.dsa_local.proofs.rounds.round.Given as goal

-- what is left fits, and where it is done too, all is done
abbrev pub invariant-loop-scope : goal.invariant-loop-scope
invariant-loop-scope l = record {
  graph : IsGraph l.tac.types l.graph;
  each : AllByRecursion (IsFit l.tac (graph_in l.tac.types l.graph)) (drop l.scope-index l.scopes);
  goes_on : RoundGoesOn (tac_of l.tac) (graph_in l.tac.types l.fn.graph) (owners_of l.scopes) l.changed (graph_in l.tac.types l.graph) (owners_of (drop l.scope-index l.scopes));
}
