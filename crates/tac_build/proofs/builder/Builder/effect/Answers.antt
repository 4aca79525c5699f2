use Rattle.tac_build.specs.declared.lowered.Mode.TheVariants as N
use Rattle.tac_build.specs.Building.{lowered_in}
use Rattle.tac_build.specs.Lowering.{types_of_source}
use Rattle.tac_build.proofs.ValueParts.{value_keeps}
use Rattle.tac_build.proofs.builder.Builder.effect.Goals as goal

pub returns-clause-code : goal.returns-clause-code
returns-clause-code c = λ points fills. (lowered_in (types_of_source c.args.source.now) c.in_ok-value.field-0, c.in_ok-value.ensures.code.0 points fills)

pub returns-clause-variables : goal.returns-clause-variables
returns-clause-variables c = value_keeps c.args.source.now c.args.scope.now N.Dropped c.args.value.now c.args.self.now c.value.new.self c.in_ok-value.field-0 c.in_ok-value.ensures.code
