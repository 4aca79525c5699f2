use Rattle.std.proofs.Common.{drop}
use Rattle.tac_ir.specs.Views.{tac_of}
use Rattle.graph_unification.specs.Memory.{graph_in, IsGraph}
use Rattle.dsa_local.specs.Keeping.{Keeps}
use Rattle.dsa_local.proofs.StoringOn.{EndsIn, FirstLeft}
use Rattle.dsa_local.proofs.values.store_all.Given as goal

-- those from the index on are left
abbrev pub invariant-loop-first : goal.invariant-loop-first
invariant-loop-first l = record {
  graph : IsGraph l.tac.types l.graph;
  keeps : Keeps (tac_of l.tac) (graph_in l.tac.types l.fn.graph) (graph_in l.tac.types l.graph);
  stored : EndsIn (tac_of l.tac) (graph_in l.tac.types l.graph) (FirstLeft (tac_of l.tac) l.global.0 (drop l.first-index l.firsts)) (FirstLeft (tac_of l.tac) l.global.0 l.firsts);
}
