use Rattle.std.proofs.Common.{drop}
use Rattle.c_typed.specs.Table.{structs_in}
use Rattle.tac_ir.specs.Views.{tac_of}
use Rattle.graph_unification.specs.Memory.{graph_in, IsGraph}
use Rattle.graph_unification.specs.Going.{GoesOn}
use Rattle.dsa_local.specs.Rounds.{owners_of}
use Rattle.dsa_local.specs.Growing.{OnlyFlagsGrow, OnlyArrays}
use Rattle.dsa_local.specs.Sizes.{SizesTold, SizesGoOn, AsksOwner}
use Rattle.dsa_local.proofs.sizes.tell_sizes.Given as goal

abbrev pub invariant-loop-scope : goal.invariant-loop-scope
invariant-loop-scope l = record {
  graph : IsGraph l.tac.types l.graph;
  goes : GoesOn (structs_in l.tac.types) (graph_in l.tac.types l.fn.graph) (graph_in l.tac.types l.graph);
  grows : OnlyFlagsGrow (graph_in l.tac.types l.fn.graph) (graph_in l.tac.types l.graph);
  told : SizesGoOn (graph_in l.tac.types l.graph) (SizesTold (tac_of l.tac) (owners_of (drop l.scope-index l.scopes))) (SizesTold (tac_of l.tac) (owners_of l.scopes));
  arrays : OnlyArrays (AsksOwner (tac_of l.tac) (owners_of l.scopes) (graph_in l.tac.types l.fn.graph)) (graph_in l.tac.types l.fn.graph) (graph_in l.tac.types l.graph);
}
