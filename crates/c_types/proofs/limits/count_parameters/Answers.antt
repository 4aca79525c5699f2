use Rattle.std.proofs.Common.{sym, ap, ◌∙◌, arith}
use Rattle.c_typed.specs.Table.{types_in}
use Rattle.c_types.specs.Limits.{added, count_types}
use Rattle.c_types.proofs.Totals.{count_types-before, added-none}
use Rattle.c_types.proofs.limits.count_parameters.Goals as goal

pub loop-others-init : goal.loop-others-init
loop-others-init c = record { stands = c.requires; fits = omega arith; whole = count_types-before (types_in c.args.types.now c.args.parameters) }

pub returns : goal.returns
returns c =
    let count = c.loop-others.count in
    sym (ap (λ rest. added count (count_types rest)) c.in_default.ensures ∙ added-none count (omega arith)) ∙ c.loop-others.invariant.whole
