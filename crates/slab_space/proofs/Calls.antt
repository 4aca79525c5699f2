-- The calls are those by which pools are reached, so that the laws of these hold, too.
use Rattle.std.proofs.Common.{ℕ, List}
use Rattle.slab_space.specs.Pools.{Pools}
use Rattle.slab_space.specs.Reached as R
use Rattle.slab_space.specs.Reached.{IsReached}
use Rattle.slab_space.specs.Needs.{HavePlaced, at_start, after_init, after_destroy, after_alloc, after_free, after_store}

pub placed_reached : (slabs : ℕ) (p : Pools) (sizes : List ℕ) → HavePlaced slabs p sizes → IsReached p
placed_reached slabs _ _ (at_start index) = R.at_start slabs index
placed_reached slabs _ sizes (after_init p _ kind placing) = R.after_init p kind (placed_reached slabs p sizes placing)
placed_reached slabs _ sizes (after_destroy p _ id placing) = R.after_destroy p id (placed_reached slabs p sizes placing)
placed_reached slabs q _ (after_alloc p _ sizes id bytes address placing suits e) = R.after_alloc p q id bytes address (placed_reached slabs p sizes placing) e
placed_reached slabs q sizes (after_free p _ _ id address placing e) = R.after_free p q id address (placed_reached slabs p sizes placing) e
placed_reached slabs q sizes (after_store p _ _ address width word placing e) = R.after_store p q address width word (placed_reached slabs p sizes placing) e
