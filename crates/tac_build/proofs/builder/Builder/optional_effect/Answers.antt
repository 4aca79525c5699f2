use Rattle.tac_build.proofs.ValueParts.{step_typed}
use Rattle.tac_build.proofs.builder.Builder.optional_effect.Goals as goal

pub effect-requires-clause-typed : goal.effect-requires-clause-typed
effect-requires-clause-typed c = step_typed c.args.source.now c.args.scope.now c.args.value.now _ c.in-Some.is c.requires.typed
