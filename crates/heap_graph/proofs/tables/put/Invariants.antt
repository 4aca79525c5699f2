use Rattle.std.proofs.Common.{◌≡◌, ℕ, ◌+◌, ◌-◌, length, get_or}
use Rattle.heap_graph.proofs.tables.put.Given as goal

-- what is read of the list is the same
abbrev pub invariant-loop-filler : goal.invariant-loop-filler
invariant-loop-filler g l = (other : ℕ) → get_or l.list.items other l.filler ≡ get_or l.initial.list.items other l.filler

abbrev pub decreases-loop-filler : goal.decreases-loop-filler
decreases-loop-filler g l = l.number + 1 - length l.list.items
