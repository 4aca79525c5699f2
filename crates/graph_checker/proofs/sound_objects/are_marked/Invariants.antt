use Rattle.std.proofs.Common.{◌≡◌, ℕ, ◌<◌, true, false, get_or}
use Rattle.heap_graph.specs.Targets.{has_target}
use Rattle.heap_graph.specs.Frozen.{target_in}
use Rattle.graph_checker.proofs.sound_objects.are_marked.Given as goal

-- each number so far that has a target is marked
abbrev pub invariant-loop-number : goal.invariant-loop-number
invariant-loop-number l = (k : ℕ) → k < l.number → has_target (target_in l.targets.items k) ≡ true → get_or l.marks.items k false ≡ true
