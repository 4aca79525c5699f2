use Rattle.graph_unification.specs.Memory.{owner_of, IsGraph}
use Rattle.call_graph.specs.ClassLists.{numbers_of}
use Rattle.dsa_inlining.specs.Crossed.{CallNamed}
use Rattle.dsa_inlining.specs.Before.{graphs_before}
use Rattle.dsa_inlining.specs.CallSteps.{shown, TargetCrosses, Crosses}
use Rattle.dsa_inlining.specs.Joined.{AreKnownJoined}
use Rattle.dsa_inlining.proofs.Stepping.{Below, AtEach}
use Rattle.dsa_inlining.proofs.before.Before.cross_targets.Given as goal

-- the call is joined with the functions so far
abbrev pub invariant-loop-called : goal.invariant-loop-called
invariant-loop-called l = record {
  graph : IsGraph l.self.tac.now.types l.graph;
  named : CallNamed (owner_of l.caller.owner) l.site l.arguments (shown l.self l.graph);
  crosses : Crosses (graphs_before l.self) l.caller.group (owner_of l.caller.owner)
      (Below (AtEach (TargetCrosses (graphs_before l.self) l.caller.group (owner_of l.caller.owner) l.site l.arguments) (numbers_of l.targets)) l.called-index) l.fn.own l.own (shown l.self l.fn.graph) (shown l.self l.graph);
  joined : AreKnownJoined (graphs_before l.self) l.joined (shown l.self l.graph);
}
