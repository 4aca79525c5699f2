use Rattle.std.proofs.Common.{◌≤◌, drop, length}
use Rattle.pool_rewrite.specs.Places.{TellsPlaces}
use Rattle.pool_rewrite.proofs.locals.Locals.of_places.Given as goal

-- the places from this number on are told
abbrev pub invariant-loop-number : goal.invariant-loop-number
invariant-loop-number l = record {
  within : l.number ≤ length l.places;
  tells : TellsPlaces (drop l.number l.places) l.locals;
}

abbrev pub decreases-loop-number : goal.decreases-loop-number
decreases-loop-number l = l.number
