use Rattle.std.proofs.Common.{map}
use Rattle.tac_ir.specs.Views.{op_in, tac_of}
use Rattle.graph_unification.specs.Memory.{owner_of, IsGraph}
use Rattle.dsa_inlining.specs.Before.{graphs_before}
use Rattle.dsa_inlining.specs.CallSteps.{shown, OwnerNamed, PointCrosses, Crosses}
use Rattle.dsa_inlining.specs.Joined.{AreKnownJoined}
use Rattle.dsa_inlining.proofs.Stepping.{Below, AtEach}
use Rattle.dsa_inlining.proofs.before.Before.cross_owner.Given as goal

-- the calls of the points so far are joined
abbrev pub invariant-loop-op : goal.invariant-loop-op
invariant-loop-op l = record {
  graph : IsGraph l.self.tac.now.types l.graph;
  named : OwnerNamed (tac_of l.self.tac.now) (owner_of l.caller.owner) (shown l.self l.graph);
  crosses : Crosses (graphs_before l.self) l.caller.group (owner_of l.caller.owner)
      (Below (AtEach (PointCrosses (graphs_before l.self) l.caller.group (owner_of l.caller.owner)) (map (op_in l.self.tac.now.types) l.op-items)) l.op-index) l.initial.own l.own (shown l.self l.fn.graph) (shown l.self l.graph);
  joined : AreKnownJoined (graphs_before l.self) l.joined (shown l.self l.graph);
}
