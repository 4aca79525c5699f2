use Rattle.call_graph.specs.ClassLists.{AreFirstKeys}
use Rattle.call_graph.proofs.function_keys.keys.Given as goal

abbrev pub invariant-loop-number : goal.invariant-loop-number
invariant-loop-number l = AreFirstKeys l.tac l.number l.keys.items
