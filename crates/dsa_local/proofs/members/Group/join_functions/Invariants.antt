use Rattle.graph_unification.specs.Memory.{IsGraph}
use Rattle.dsa_local.specs.Joined.{Joins, BothNamed}
use Rattle.dsa_local.specs.Members.{code_of, shown}
use Rattle.dsa_local.proofs.Joining.{Below}
use Rattle.dsa_local.proofs.Passing.{OneFormal}
use Rattle.dsa_local.proofs.members.Group.join_functions.Given as goal

-- the formals below the number are joined
abbrev pub invariant-loop-number : goal.invariant-loop-number
invariant-loop-number l = record {
  graph : IsGraph l.self.tac.now.types l.graph;
  named : BothNamed (code_of l.self) l.a l.b (shown l.self l.graph);
  joins : Joins (code_of l.self).structs (shown l.self l.fn.graph) (shown l.self l.graph) (Below (OneFormal l.a l.b) l.number);
}
