use Rattle.std.proofs.Common.{ℕ, ◌<◌}
use Rattle.heap_graph.specs.Faults.{GroupClosed}
use Rattle.graph_checker.specs.Programs.{family_of}
use Rattle.graph_checker.proofs.faults.closed_fault.Given as goal

-- all groups before this one are closed
abbrev pub invariant-loop-number : goal.invariant-loop-number
invariant-loop-number l = (before : ℕ) → before < l.number → GroupClosed (family_of l.program) before
