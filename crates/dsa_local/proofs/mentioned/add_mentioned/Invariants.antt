use Rattle.std.proofs.Common.{map, drop}
use Rattle.tac_ir.specs.Views.{tac_of, op_in}
use Rattle.graph_unification.specs.Memory.{graph_in, IsGraph}
use Rattle.dsa_local.specs.Beginning.{OpsGoOn}
use Rattle.dsa_local.proofs.mentioned.add_mentioned.Given as goal

-- where what is left is added too, all is added
abbrev pub invariant-loop-op : goal.invariant-loop-op
invariant-loop-op l = record {
  graph : IsGraph l.tac.types l.graph;
  goes_on : OpsGoOn (tac_of l.tac) (map (op_in l.tac.types) l.points) (graph_in l.tac.types l.fn.graph) (map (op_in l.tac.types) (drop l.op-index l.points)) (graph_in l.tac.types l.graph);
}
