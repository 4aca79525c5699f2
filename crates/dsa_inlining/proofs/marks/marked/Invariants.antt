use Rattle.std.proofs.Common.{◌≡◌, ◌≤◌}
use Rattle.dsa_inlining.specs.Counting.{count_below}
use Rattle.dsa_inlining.specs.Marks.{is_marked}
use Rattle.dsa_inlining.proofs.marks.marked.Given as goal

-- the marked numbers so far
abbrev pub invariant-loop-mark : goal.invariant-loop-mark
invariant-loop-mark l = (l.count ≡ count_below l.mark-index (is_marked l.marks)) × (l.count ≤ l.mark-index)
