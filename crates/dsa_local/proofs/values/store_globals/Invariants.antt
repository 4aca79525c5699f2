use Rattle.std.proofs.Common.{drop}
use Rattle.tac_ir.specs.Views.{tac_of}
use Rattle.graph_unification.specs.Memory.{graph_in, IsGraph}
use Rattle.dsa_local.specs.Keeping.{Keeps}
use Rattle.dsa_local.proofs.StoringOn.{EndsIn, GlobalsLeft}
use Rattle.dsa_local.proofs.values.store_globals.Given as goal

-- those of the variables from the number on are left
abbrev pub invariant-loop-number : goal.invariant-loop-number
invariant-loop-number l = record {
  graph : IsGraph l.tac.types l.graph;
  keeps : Keeps (tac_of l.tac) (graph_in l.tac.types l.fn.graph) (graph_in l.tac.types l.graph);
  stored : EndsIn (tac_of l.tac) (graph_in l.tac.types l.graph) (GlobalsLeft l.tac l.number (drop l.number l.globals)) (GlobalsLeft l.tac 0 l.globals);
}
