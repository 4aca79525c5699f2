use Rattle.std.proofs.Common.{◌≡◌, map, take}
use Rattle.pool_ir.specs.Views.{object_of}
use Rattle.pool_rewrite.specs.Places.{frame_objects_of}
use Rattle.pool_rewrite.proofs.frames.objects_of.Given as goal

-- the places before the index
abbrev pub invariant-loop-place : goal.invariant-loop-place
invariant-loop-place l = map object_of l.objects.items ≡ frame_objects_of (take l.place-index l.places)
