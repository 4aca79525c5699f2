use Rattle.graph_unification.specs.Memory.{IsGraph}
use Rattle.dsa_inlining.specs.Joins.{Joins}
use Rattle.dsa_inlining.specs.Shown.{code_of, shown, callee_of, copies_of, HasCopies}
use Rattle.dsa_inlining.proofs.Joining.{Below}
use Rattle.dsa_inlining.specs.Joined.{GroupComes}
use Rattle.dsa_inlining.proofs.ListedGroups.{EachAt}
use Rattle.dsa_inlining.proofs.joined.join_groups.Given as goal

-- what the groups before this place tell is joined
abbrev pub invariant-loop-group : goal.invariant-loop-group
invariant-loop-group l = record {
  graph : IsGraph l.crossed.tac.now.types l.graph;
  copied : HasCopies l.crossed l.graph;
  joins : Joins (code_of l.crossed) (callee_of l.crossed) (Below (EachAt (GroupComes l.all (callee_of l.crossed) (copies_of l.crossed)) l.groups) l.group-index) (shown l.crossed l.fn.graph) (shown l.crossed l.graph);
}
