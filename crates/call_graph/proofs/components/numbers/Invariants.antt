use Rattle.std.proofs.Common.{◌≡◌, take, map}
use Rattle.call_graph.specs.Searches.{component_of}
use Rattle.call_graph.proofs.components.numbers.Given as goal

abbrev pub invariant-loop-mark : goal.invariant-loop-mark
invariant-loop-mark l = l.numbers.items ≡ map component_of (take l.mark-index l.marks)
