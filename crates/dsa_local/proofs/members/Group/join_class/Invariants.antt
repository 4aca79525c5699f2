use Rattle.call_graph.specs.ClassLists.{numbers_of}
use Rattle.graph_unification.specs.Memory.{IsGraph}
use Rattle.dsa_local.specs.Joined.{AreJoined, Joins, AllHaveOwn}
use Rattle.dsa_local.specs.Members.{code_of, shown, is_inside}
use Rattle.dsa_local.proofs.Joining.{Below, AtEach}
use Rattle.dsa_local.proofs.members.Group.join_class.Given as goal

-- the functions so far are joined with the first
abbrev pub invariant-loop-other : goal.invariant-loop-other
invariant-loop-other l = record {
  graph : IsGraph l.self.tac.now.types l.graph;
  named : AllHaveOwn (code_of l.self) (is_inside l.self) (shown l.self l.graph);
  joins : Joins (code_of l.self).structs (shown l.self l.fn.graph) (shown l.self l.graph)
      (Below (AtEach (AreJoined (code_of l.self) l.first) (numbers_of l.other-items)) l.other-index);
}
