use Rattle.std.proofs.Common.{◌≡◌, drop}
use Rattle.c_typed.specs.Table.{type_in, ListStands, types_in}
use Rattle.tac_ir.specs.States.{InFunction}
use Rattle.heap_graph.specs.Closed.{parameters_in, parameters_of}
use Rattle.graph_unification.specs.Memory.{IsGraph}
use Rattle.dsa_local.specs.Joined.{Joins, PassedNamed}
use Rattle.dsa_local.specs.Members.{code_of, shown}
use Rattle.dsa_local.proofs.Joining.{Below}
use Rattle.dsa_local.proofs.Passing.{OnePassed}
use Rattle.dsa_local.proofs.members.Group.pass_arguments.Given as goal

-- the arguments below the number are passed, and these are the formals behind them
abbrev pub invariant-loop-number : goal.invariant-loop-number
invariant-loop-number l = record {
  graph : IsGraph l.self.tac.now.types l.graph;
  named : PassedNamed (code_of l.self) (InFunction l.caller.0) l.arguments l.called (shown l.self l.graph);
  stands : ListStands l.self.tac.now.types l.parameters;
  left : drop l.number (parameters_of (type_in l.self.tac.now.types l.fn.c_type)) ≡ parameters_in (types_in l.self.tac.now.types l.parameters);
  joins : Joins (code_of l.self).structs (shown l.self l.fn.graph) (shown l.self l.graph)
      (Below (OnePassed (InFunction l.caller.0) l.called (parameters_of (type_in l.self.tac.now.types l.fn.c_type)) l.arguments) l.number);
}
