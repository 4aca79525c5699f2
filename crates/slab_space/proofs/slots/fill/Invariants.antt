use Rattle.std.proofs.Common.{◌-◌}
use Rattle.slab_space.proofs.Tables.{Filled}
use Rattle.slab_space.proofs.slots.fill.Given as goal

abbrev pub invariant-loop-at : goal.invariant-loop-at
invariant-loop-at l = Filled l.initial.slots.items l.slots.items l.first (l.at - l.first)
