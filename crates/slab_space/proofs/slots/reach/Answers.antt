use Rattle.std.proofs.Common.{◌<◌, length, arith}
use Rattle.slab_space.proofs.Tables.{reaches_more}
use Rattle.slab_space.proofs.slots.reach.Goals as goal

pub loop-slots-preserved : goal.loop-slots-preserved
loop-slots-preserved c =
    let more : length c.loop-slots.slots.items < c.args.end = omega (arith, c.loop-slots.slots.ok.0) in
    rw c.in-Ok.ensures.items (reaches_more c.args.slots.now.items c.loop-slots.slots.items c.args.end c.loop-slots.invariant more)
