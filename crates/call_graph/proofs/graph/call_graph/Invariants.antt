use Rattle.tac_ir.specs.Views.{tac_of}
use Rattle.call_graph.specs.CallLists.{AreFirstCalls}
use Rattle.call_graph.proofs.graph.call_graph.Given as goal

abbrev pub invariant-loop-caller : goal.invariant-loop-caller
invariant-loop-caller l = AreFirstCalls (tac_of l.tac) l.caller l.edges.items l.called.items
