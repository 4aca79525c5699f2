use Rattle.call_graph.specs.ClassLists.{numbers_of}
use Rattle.graph_unification.specs.Memory.{IsGraph}
use Rattle.dsa_local.specs.Joined.{CallsJoined, ClassesJoined, Joins, AllHaveOwn}
use Rattle.dsa_local.specs.Members.{code_of, shown, is_inside}
use Rattle.dsa_local.proofs.Joining.{Below, AtEach}
use Rattle.dsa_local.proofs.graphs.join_members.Given as goal

-- the calls of the functions so far are joined
abbrev pub invariant-loop-member : goal.invariant-loop-member
invariant-loop-member l = record {
  graph : IsGraph l.group.tac.now.types l.graph;
  named : AllHaveOwn (code_of l.group) (is_inside l.group) (shown l.group l.graph);
  classes : ClassesJoined (code_of l.group) (is_inside l.group) (shown l.group l.graph);
  joins : Joins (code_of l.group).structs (shown l.group l.fn.graph) (shown l.group l.graph)
      (Below (AtEach (CallsJoined (code_of l.group) (is_inside l.group)) (numbers_of l.members)) l.member-index);
}
