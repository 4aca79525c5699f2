use Rattle.std.proofs.Common.{ap, ◌∙◌}
use Rattle.tac_ir.specs.declared.program.Counts.{Counts}
use Rattle.tac_build.specs.declared.lowered.Mode.TheVariants as N
use Rattle.tac_build.specs.Spots.{Spot}
use Rattle.tac_build.specs.Lowering.{types_of_source}
use Rattle.tac_build.proofs.Points.{grows_on, grows_equal}
use Rattle.tac_build.proofs.ValueParts.{value_keeps, condition_integer, switched_lowers}
use Rattle.tac_build.proofs.builder.Builder.switched.Goals as goal

pub integer-value-requires : goal.integer-value-requires
integer-value-requires c = condition_integer c.args.source.now c.args.scope.now c.args.value.now c.args.self.now c.value.new.self c.in_ok-value.field-0 c.requires.typed c.in_ok-value.ensures.code

pub returns-clause-code : goal.returns-clause-code
returns-clause-code c =
    switched_lowers c.args.source.now c.args.scope.now c.args.value.now c.args.self.now c.value.new.self c.new_temporary-register.new.self c.append.new.self c.in_ok-value.field-0 c.integer-value.result c.new_temporary-register.result c.into_inner.result
    c.in_ok-value.ensures.code c.integer-value.ensures c.new_temporary-register.ensures.named c.new_temporary-register.ensures.points c.new_temporary-register.ensures.spot c.into_inner.ensures c.in_ok-append.ensures.code c.in_ok-append.ensures.grows

pub returns-clause-grows : goal.returns-clause-grows
returns-clause-grows c =
    grows_on c.args.self.now c.value.new.self c.append.new.self c.in_ok-value.ensures.grows
    (grows_on c.value.new.self c.new_temporary-register.new.self c.append.new.self (grows_equal c.value.new.self c.new_temporary-register.new.self c.new_temporary-register.ensures.points) c.in_ok-append.ensures.grows)

pub returns-clause-variables : goal.returns-clause-variables
returns-clause-variables c =
    ap (λ (counts : Counts). counts.variables) c.in_ok-append.ensures.counts ∙ ap (λ (spot : Spot). spot.counts.variables) (c.new_temporary-register.ensures.spot (types_of_source c.args.source.now))
    ∙ value_keeps c.args.source.now c.args.scope.now N.Kept c.args.value.now c.args.self.now c.value.new.self c.in_ok-value.field-0 c.in_ok-value.ensures.code
