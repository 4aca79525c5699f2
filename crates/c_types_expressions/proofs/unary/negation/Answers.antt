use Rattle.c_num.specs.declared.IntType.TheVariants as I
use Rattle.c_typed.specs.declared.typed.Value.TheVariants as V
use Rattle.c_rules.specs.Known.{give, given}
use Rattle.c_rules.specs.Operators.{condition_of}
use Rattle.c_types_expressions.proofs.OperandSteps.{scalar_part, integer-of, not-some, condition-stands}
use Rattle.c_types_expressions.proofs.unary.negation.Goals as goal

pub returns : goal.returns
returns c =
    let old = c.args.checker.now in
    let new = c.as_condition.new.checker in
    let part = scalar_part old.table c.args.place c.args.operand in
    let stands = condition-stands (given part (λ v. give (condition_of c.args.place v))) old new c.in_ok-condition.field-0 c.in-Some.condition c.in-Some.is c.in_ok-condition.ensures in
    not-some part c.args.place old new c.in_ok-condition.field-0 c.in-Some.condition c.logical_not.result c.integer.result c.in-Some.is c.in_ok-condition.ensures c.logical_not.ensures
    (integer-of new.table c.integer.result I.Int c.logical_not.result c.in_ok-value.value.value (V.Not c.in-Some.condition.test) c.in_ok-value.ensures.ok stands (c.integer.ensures new.table))
