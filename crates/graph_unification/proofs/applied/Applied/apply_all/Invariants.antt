use Rattle.std.proofs.Common.{map, drop}
use Rattle.tac_ir.specs.Views.{op_in}
use Rattle.graph_unification.specs.Memory.{IsGraph}
use Rattle.graph_unification.specs.Fits.{AllFit}
use Rattle.graph_unification.specs.Applying.{code_of, owner_of, shown, GoesOn}
use Rattle.graph_unification.proofs.applied.Applied.apply_all.Given as goal

-- what is left fits, and where it is done too, all is done
abbrev pub invariant-loop-op : goal.invariant-loop-op
invariant-loop-op l = record {
  graph : IsGraph l.self.tac.now.types l.graph;
  fit : AllFit (code_of l.self) (shown l.self l.graph) (owner_of l.self) (map (op_in l.self.tac.now.types) (drop l.op-index l.points));
  goes_on : GoesOn (code_of l.self) (owner_of l.self) (shown l.self l.fn.graph) (map (op_in l.self.tac.now.types) l.points) l.changed (shown l.self l.graph) (map (op_in l.self.tac.now.types) (drop l.op-index l.points));
}
