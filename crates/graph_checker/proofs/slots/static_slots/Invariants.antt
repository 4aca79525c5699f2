use Rattle.std.proofs.Common.{◌≡◌}
use Rattle.graph_checker.specs.Tests.{entry_slots}
use Rattle.graph_checker.proofs.slots.static_slots.Given as goal

-- the targets that are left are slots where all are
abbrev pub invariant-loop-target : goal.invariant-loop-target
invariant-loop-target l = entry_slots l.graph l.target-iterator ≡ entry_slots l.graph l.targets.entries
