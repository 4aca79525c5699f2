use Rattle.image_form.specs.Reading.{kinds_of}
use Rattle.image_form.proofs.KindFields.{KeepsKinds}
use Rattle.image_form.proofs.kinds.kinds.Given as goal

abbrev pub invariant-loop-index : goal.invariant-loop-index
invariant-loop-index l = KeepsKinds l.count l.bytes l.at l.here l.index (kinds_of l.kinds)
