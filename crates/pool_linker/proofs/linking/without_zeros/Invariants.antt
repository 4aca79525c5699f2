use Rattle.std.proofs.Common.{◌≡◌, ◌≤◌, length, take}
use Rattle.pool_linker.specs.Linking.{without_zeros}
use Rattle.pool_linker.proofs.linking.without_zeros.Given as goal

-- zeros stand behind the bytes of this count
abbrev pub invariant-loop-count : goal.invariant-loop-count
invariant-loop-count l = (l.count ≤ length l.bytes.items) × (without_zeros (take l.count l.bytes.items) ≡ without_zeros l.bytes.items)

abbrev pub decreases-loop-count : goal.decreases-loop-count
decreases-loop-count l = l.count
