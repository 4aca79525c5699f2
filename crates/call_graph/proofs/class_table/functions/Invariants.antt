use Rattle.std.proofs.Common.{◌≡◌, take}
use Rattle.call_graph.specs.ClassLists.{numbers_of}
use Rattle.call_graph.proofs.class_table.functions.Given as goal

abbrev pub invariant-loop-number : goal.invariant-loop-number
invariant-loop-number l = numbers_of l.functions.items ≡ take l.number-index l.numbers
