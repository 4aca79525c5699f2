use Rattle.graph_unification.specs.Memory.{IsGraph}
use Rattle.dsa_inlining.specs.Before.{graphs_before}
use Rattle.dsa_inlining.specs.CallSteps.{shown}
use Rattle.dsa_inlining.specs.Joined.{AreKnownJoined}
use Rattle.dsa_inlining.proofs.Collected.{SoFar}
use Rattle.dsa_inlining.proofs.before.Before.cross_all.Given as goal

-- the calls of the owners so far are joined
abbrev pub invariant-loop-owner : goal.invariant-loop-owner
invariant-loop-owner l = record {
  graph : IsGraph l.self.tac.now.types l.graph;
  so_far : SoFar (graphs_before l.self) l.group l.owners l.all.items l.owner-index l.next (shown l.self l.fn.graph) (shown l.self l.graph);
  joined : AreKnownJoined (graphs_before l.self) l.joined (shown l.self l.graph);
}
