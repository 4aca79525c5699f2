use Rattle.std.proofs.Common.{◌≡◌, ℕ, ◌+◌, ◌-◌, length}
use Rattle.heap_graph.specs.Frozen.{target_in}
use Rattle.graph_unification.proofs.name_targets.put.Given as goal

abbrev pub invariant-loop-targets : goal.invariant-loop-targets
invariant-loop-targets l = (other : ℕ) → target_in l.targets.items other ≡ target_in l.initial.targets.items other

abbrev pub decreases-loop-targets : goal.decreases-loop-targets
decreases-loop-targets l = l.number + 1 - length l.targets.items
