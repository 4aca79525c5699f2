use Rattle.std.proofs.Common.{◌-◌, vec_len}
use Rattle.slab_space.specs.Slots.{Reaches}
use Rattle.slab_space.proofs.slots.reach.Given as goal

abbrev pub invariant-loop-slots : goal.invariant-loop-slots
invariant-loop-slots l = Reaches l.initial.slots.items l.slots.items l.end

abbrev pub decreases-loop-slots : goal.decreases-loop-slots
decreases-loop-slots l = l.end - vec_len l.slots
