use Rattle.std.proofs.Common.{◌≡◌, drop}
use Rattle.std.specs.List.{list_any}
use Rattle.dsa_local.specs.Moved.{moves}
use Rattle.dsa_local.proofs.parts.is_moved.Given as goal

-- a step from the index on moves where one of all does
abbrev pub invariant-loop-part : goal.invariant-loop-part
invariant-loop-part l = list_any moves (drop l.part-index l.parts) ≡ list_any moves l.parts
