use Rattle.std.proofs.Common.{take}
use Rattle.call_graph.specs.Rows.{AreMarks}
use Rattle.call_graph.proofs.mark_list.marks.Given as goal

-- those of the numbers so far
abbrev pub invariant-loop-number : goal.invariant-loop-number
invariant-loop-number l = AreMarks l.count (take l.number-index l.numbers) l.marks.items
