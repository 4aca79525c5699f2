use Rattle.std.proofs.Common.{◌≡◌, drop}
use Rattle.graph_checker.specs.Tests.{are_slots}
use Rattle.graph_checker.proofs.slots.are_slots.Given as goal

-- the targets from this index on are slots where all are
abbrev pub invariant-loop-target : goal.invariant-loop-target
invariant-loop-target l = are_slots l.graph (drop l.target-index l.target-items) ≡ are_slots l.graph l.targets.items
