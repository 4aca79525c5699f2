use Rattle.image_form.specs.Reading.{instrs_of}
use Rattle.image_form.proofs.Instructions.{KeepsCode}
use Rattle.image_form.proofs.code.code.Given as goal

abbrev pub invariant-loop-index : goal.invariant-loop-index
invariant-loop-index l = KeepsCode l.counts l.bytes l.at l.here l.index (instrs_of l.code)
