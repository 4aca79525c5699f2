use Rattle.call_graph.specs.ClassLists.{numbers_of}
use Rattle.graph_unification.specs.Memory.{IsGraph}
use Rattle.dsa_local.specs.Joined.{ClassJoined, Joins, AllHaveOwn}
use Rattle.dsa_local.specs.Members.{code_of, shown, is_inside}
use Rattle.dsa_local.proofs.Joining.{Below, AtEach}
use Rattle.dsa_local.proofs.members.Group.join_classes.Given as goal

-- the classes so far are joined
abbrev pub invariant-loop-member : goal.invariant-loop-member
invariant-loop-member l = record {
  graph : IsGraph l.self.tac.now.types l.graph;
  named : AllHaveOwn (code_of l.self) (is_inside l.self) (shown l.self l.graph);
  joins : Joins (code_of l.self).structs (shown l.self l.fn.graph) (shown l.self l.graph)
      (Below (AtEach (ClassJoined (code_of l.self) (is_inside l.self)) (numbers_of l.member-items)) l.member-index);
}
