use Rattle.std.proofs.Common.{map, take}
use Rattle.tac_ir.specs.Views.{op_in, tac_of}
use Rattle.call_graph.specs.CallLists.{AddsCalls}
use Rattle.call_graph.proofs.graph.add_calls.Given as goal

abbrev pub invariant-loop-op : goal.invariant-loop-op
invariant-loop-op l = AddsCalls (tac_of l.tac) l.caller (map (op_in l.tac.types) (take l.op-index l.points)) l.initial.edges.items l.edges.items
