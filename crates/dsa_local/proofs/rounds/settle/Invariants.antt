use Rattle.c_typed.specs.Table.{structs_in}
use Rattle.tac_ir.specs.Views.{tac_of}
use Rattle.graph_unification.specs.Memory.{graph_in, IsGraph}
use Rattle.graph_unification.specs.Leading.{Leads}
use Rattle.graph_unification.specs.Going.{GoesOn}
use Rattle.dsa_local.specs.Rounds.{owners_of, Settled, AreFit}
use Rattle.dsa_local.proofs.rounds.settle.Given as goal

abbrev pub invariant-loop-round : goal.invariant-loop-round
invariant-loop-round l = record {
  graph : IsGraph l.tac.types l.graph;
  fit : AreFit l.tac (graph_in l.tac.types l.graph) l.scopes;
  goes : GoesOn (structs_in l.tac.types) (graph_in l.tac.types l.fn.graph) (graph_in l.tac.types l.graph);
  leads : Leads (structs_in l.tac.types) (graph_in l.tac.types l.fn.graph) (graph_in l.tac.types l.graph) (Settled (tac_of l.tac) (owners_of l.scopes));
}
