use Rattle.std.proofs.Common.{◌-◌}
use Rattle.slab_space.proofs.Tables.{Cleared}
use Rattle.slab_space.proofs.slots.clear.Given as goal

abbrev pub invariant-loop-at : goal.invariant-loop-at
invariant-loop-at l = Cleared l.initial.slots.items l.slots.items l.first (l.at - l.first)
