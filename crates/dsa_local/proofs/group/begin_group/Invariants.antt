use Rattle.std.proofs.Common.{map, drop}
use Rattle.tac_ir.specs.Views.{tac_of}
use Rattle.heap_graph.specs.Closed.{no_graph}
use Rattle.graph_unification.specs.Memory.{owner_of, graph_in, IsGraph}
use Rattle.dsa_local.specs.Beginning.{OwnersGoOn}
use Rattle.dsa_local.proofs.group.begin_group.Given as goal

-- where what is left is added too, all is added
abbrev pub invariant-loop-owner : goal.invariant-loop-owner
invariant-loop-owner l = record {
  graph : IsGraph l.tac.types l.graph;
  goes_on : OwnersGoOn (tac_of l.tac) (map owner_of l.owners) no_graph (map owner_of (drop l.owner-index l.owners)) (graph_in l.tac.types l.graph);
}
