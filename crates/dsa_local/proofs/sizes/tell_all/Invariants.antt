use Rattle.std.proofs.Common.{drop, map}
use Rattle.c_typed.specs.Table.{structs_in}
use Rattle.tac_ir.specs.Views.{tac_of, op_in}
use Rattle.heap_graph.specs.Known.{owner_at}
use Rattle.graph_unification.specs.Memory.{graph_in, IsGraph}
use Rattle.graph_unification.specs.Going.{GoesOn}
use Rattle.dsa_local.specs.Growing.{OnlyFlagsGrow, OnlyArrays}
use Rattle.dsa_local.specs.Sizes.{AllSizesTold, SizesGoOn, AsksPoint}
use Rattle.dsa_local.proofs.sizes.tell_all.Given as goal

abbrev pub invariant-loop-op : goal.invariant-loop-op
invariant-loop-op l = record {
  graph : IsGraph l.tac.types l.graph;
  goes : GoesOn (structs_in l.tac.types) (graph_in l.tac.types l.fn.graph) (graph_in l.tac.types l.graph);
  grows : OnlyFlagsGrow (graph_in l.tac.types l.fn.graph) (graph_in l.tac.types l.graph);
  told : SizesGoOn (graph_in l.tac.types l.graph) (AllSizesTold (tac_of l.tac) (owner_at l.owner) (map (op_in l.tac.types) (drop l.op-index l.points))) (AllSizesTold (tac_of l.tac) (owner_at l.owner) (map (op_in l.tac.types) l.points));
  arrays : OnlyArrays (AsksPoint (tac_of l.tac) (owner_at l.owner) (map (op_in l.tac.types) l.points) (graph_in l.tac.types l.fn.graph)) (graph_in l.tac.types l.fn.graph) (graph_in l.tac.types l.graph);
}
