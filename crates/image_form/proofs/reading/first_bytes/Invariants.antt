use Rattle.std.proofs.Common.{◌≡◌, take}
use Rattle.image_form.specs.Reading.{first_bytes}
use Rattle.image_form.proofs.reading.first_bytes.Given as goal

abbrev pub invariant-loop-index : goal.invariant-loop-index
invariant-loop-index l = take l.index l.bytes ≡ take l.index first_bytes
