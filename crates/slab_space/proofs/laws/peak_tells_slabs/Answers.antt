use Rattle.slab_space.proofs.Peaks.{peak_tells_slabs}
use Rattle.slab_space.proofs.laws.peak_tells_slabs.Goals as goal

pub returns : goal.returns
returns c = peak_tells_slabs
