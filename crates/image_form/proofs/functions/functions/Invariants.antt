use Rattle.image_form.specs.Reading.{functions_of}
use Rattle.image_form.proofs.FunctionFields.{KeepsFunctions}
use Rattle.image_form.proofs.functions.functions.Given as goal

abbrev pub invariant-loop-index : goal.invariant-loop-index
invariant-loop-index l = KeepsFunctions l.kinds l.count l.bytes l.at l.here l.index (functions_of l.functions)
