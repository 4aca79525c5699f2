use Rattle.tac_build.specs.declared.lowered.Mode.TheVariants as N
use Rattle.tac_build.proofs.ValueParts.{value_keeps, condition_integer}
use Rattle.tac_build.proofs.builder.Builder.condition.Goals as goal

pub integer-requires : goal.integer-requires
integer-requires c = condition_integer c.args.source.now c.args.scope.now c.args.value.now c.args.self.now c.value.new.self c.in_ok-value.field-0 c.requires.typed c.in_ok-value.ensures.code

pub returns-clause-variables : goal.returns-clause-variables
returns-clause-variables c = value_keeps c.args.source.now c.args.scope.now N.Kept c.args.value.now c.args.self.now c.value.new.self c.in_ok-value.field-0 c.in_ok-value.ensures.code
