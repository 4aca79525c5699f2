use Rattle.std.proofs.Common.{◌≡◌, drop}
use Rattle.c_typed.specs.Table.{ListStands, types_in}
use Rattle.heap_graph.specs.Closed.{parameters_in, parameters_of, function_type}
use Rattle.graph_unification.specs.Memory.{owner_of, IsGraph}
use Rattle.dsa_inlining.specs.Joins.{Joins}
use Rattle.dsa_inlining.specs.Shown.{code_of, shown, callee_of, copies_of}
use Rattle.dsa_inlining.proofs.Joining.{Below}
use Rattle.dsa_inlining.proofs.Passing.{OnePassed}
use Rattle.dsa_inlining.proofs.crossed.Crossed.pass_arguments.Given as goal

-- the arguments below the number are passed, and these are the formals behind them
abbrev pub invariant-loop-number : goal.invariant-loop-number
invariant-loop-number l = record {
  graph : IsGraph l.self.tac.now.types l.graph;
  stands : ListStands l.self.tac.now.types l.parameters;
  left : drop l.number (parameters_of (function_type (code_of l.self) l.self.called)) ≡ parameters_in (types_in l.self.tac.now.types l.parameters);
  joins : Joins (code_of l.self) (callee_of l.self)
      (Below (OnePassed (callee_of l.self) (copies_of l.self) (owner_of l.owner) l.self.called (parameters_of (function_type (code_of l.self) l.self.called)) l.arguments) l.number) (shown l.self l.fn.graph) (shown l.self l.graph);
}
