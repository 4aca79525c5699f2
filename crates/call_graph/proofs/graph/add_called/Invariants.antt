use Rattle.std.proofs.Common.{map, take}
use Rattle.tac_ir.specs.Views.{op_in, tac_of}
use Rattle.call_graph.specs.CallLists.{AddsCalled}
use Rattle.call_graph.proofs.graph.add_called.Given as goal

abbrev pub invariant-loop-op : goal.invariant-loop-op
invariant-loop-op l = AddsCalled (tac_of l.tac) (map (op_in l.tac.types) (take l.op-index l.points)) l.initial.called.items l.called.items
