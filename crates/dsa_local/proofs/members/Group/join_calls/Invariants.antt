use Rattle.std.proofs.Common.{map}
use Rattle.tac_ir.specs.States.{InFunction}
use Rattle.tac_ir.specs.Views.{op_in}
use Rattle.graph_unification.specs.Memory.{IsGraph}
use Rattle.dsa_local.specs.Joined.{OpJoined, ClassesJoined, Joins, AllHaveOwn}
use Rattle.dsa_local.specs.Members.{code_of, shown, is_inside}
use Rattle.dsa_local.proofs.Joining.{Below, AtEach}
use Rattle.dsa_local.proofs.members.Group.join_calls.Given as goal

-- the points so far are joined
abbrev pub invariant-loop-op : goal.invariant-loop-op
invariant-loop-op l = record {
  graph : IsGraph l.self.tac.now.types l.graph;
  named : AllHaveOwn (code_of l.self) (is_inside l.self) (shown l.self l.graph);
  classes : ClassesJoined (code_of l.self) (is_inside l.self) (shown l.self l.graph);
  joins : Joins (code_of l.self).structs (shown l.self l.fn.graph) (shown l.self l.graph)
      (Below (AtEach (OpJoined (code_of l.self) (is_inside l.self) (InFunction l.caller.0)) (map (op_in l.self.tac.now.types) l.op-items)) l.op-index);
}
