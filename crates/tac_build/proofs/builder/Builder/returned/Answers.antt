use Rattle.std.proofs.Common.{ap, ◌∙◌}
use Rattle.tac_ir.specs.declared.program.Counts.{Counts}
use Rattle.tac_build.specs.declared.lowered.Mode.TheVariants as N
use Rattle.tac_build.proofs.Points.{on_ok, on_ok_then, grows_on}
use Rattle.tac_build.proofs.ValueParts.{on_ok_both, value_keeps, returned_typed, returned_scalar, returned_lowers}
use Rattle.tac_build.proofs.builder.Builder.returned.Goals as goal

pub value-requires-clause-typed : goal.value-requires-clause-typed
value-requires-clause-typed c = returned_typed c.args.source.now c.args.scope.now c.requires.typed.0 c.args.value.now _ c.in-Some.is c.requires.typed.1

pub operand-requires : goal.operand-requires
operand-requires c =
    returned_scalar c.args.source.now c.args.scope.now c.requires.typed.0 c.args.value.now _ c.args.self.now c.value.new.self c.in_ok-given-in-Some.given c.in-Some.is c.requires.typed.1 c.in_ok-given-in-Some.ensures.code

pub returns-in_ok-given-in-Some-clause-code : goal.returns-in_ok-given-in-Some-clause-code
returns-in_ok-given-in-Some-clause-code c =
    on_ok_both c.append.result (returned_lowers c.args.source.now c.args.scope.now c.args.value.now _ c.args.self.now c.value.new.self c.append.new.self c.in_ok-given-in-Some.given c.operand.result c.in-Some.is c.in_ok-given-in-Some.ensures.code c.operand.ensures)
    c.append.ensures.code c.append.ensures.grows

pub returns-in_ok-given-in-Some-clause-grows : goal.returns-in_ok-given-in-Some-clause-grows
returns-in_ok-given-in-Some-clause-grows c = on_ok_then c.append.result (grows_on c.args.self.now c.value.new.self c.append.new.self c.in_ok-given-in-Some.ensures.grows) c.append.ensures.grows

pub returns-in_ok-given-in-Some-clause-variables : goal.returns-in_ok-given-in-Some-clause-variables
returns-in_ok-given-in-Some-clause-variables c =
    on_ok c.append.result (ap (λ (counts : Counts). counts.variables) c.append.ensures.counts ∙ value_keeps c.args.source.now c.args.scope.now N.Kept c.in-Some.value c.args.self.now c.value.new.self c.in_ok-given-in-Some.given c.in_ok-given-in-Some.ensures.code)
