use Rattle.std.proofs.Common.{◌≡◌, ℕ, ◌<◌, ◌≤◌, Some}
use Rattle.slab_space.specs.Runs.{owner_at}
use Rattle.base_tests.proofs.spaces.give.Given as goal

abbrev pub invariant-loop-slab : goal.invariant-loop-slab
invariant-loop-slab l = (k : ℕ) → l.first ≤ k → k < l.slab → owner_at l.space.owners k ≡ Some l.first
