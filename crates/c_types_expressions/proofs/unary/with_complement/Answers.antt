use Rattle.c_typed.specs.declared.typed.Value.TheVariants as V
use Rattle.c_typed.specs.Views.{value_in}
use Rattle.c_types_expressions.proofs.OperandSteps.{integer_part, integer-of, operand-stands, made-complement}
use Rattle.c_types_expressions.proofs.unary.with_complement.Goals as goal

pub promoted_type-int_type-requires : goal.promoted_type-int_type-requires
promoted_type-int_type-requires c =
    (operand-stands (integer_part c.args.checker.now.table c.args.place c.args.operand) c.args.checker.now c.as_integer.new.checker c.in_ok-operand.field-0 c.in-Some.operand c.in-Some.is c.in_ok-operand.ensures).0

pub promoted_value-requires : goal.promoted_value-requires
promoted_value-requires c =
    operand-stands (integer_part c.args.checker.now.table c.args.place c.args.operand) c.args.checker.now c.as_integer.new.checker c.in_ok-operand.field-0 c.in-Some.operand c.in-Some.is c.in_ok-operand.ensures

pub returns : goal.returns
returns c =
    let table = c.as_integer.new.checker.table in
    made-complement (integer_part c.args.checker.now.table c.args.place c.args.operand) c.args.checker.now c.as_integer.new.checker c.in_ok-operand.field-0 c.in-Some.operand c.integer.result (value_in table c.in_ok-promoted_value.field-0.value)
    c.promoted_type-int_type.result c.complemented-constness.result c.in-Some.is c.in_ok-operand.ensures c.promoted_type-int_type.ensures
    c.in_ok-promoted_value.ensures.promoted c.complemented-constness.ensures
    (integer-of table c.integer.result c.promoted_type-int_type.result c.complemented-constness.result c.in_ok-value.value.value (V.Complement c.promoted_type-int_type.result c.in_ok-promoted_value.field-0) c.in_ok-value.ensures.ok c.in_ok-promoted_value.ensures.stands (c.integer.ensures table))
