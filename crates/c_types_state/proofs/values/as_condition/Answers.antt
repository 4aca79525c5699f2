use Rattle.c_rules.specs.Known.{value_rule, given, with_known}
use Rattle.c_rules.specs.Operators.{scalar_rule}
use Rattle.c_types_state.specs.Finding.{each_in, expr_in}
use Rattle.c_types_state.proofs.ReadValues.{finds-operand_stands, finds-condition}
use Rattle.c_types_state.proofs.values.as_condition.Goals as goal

pub condition_of-requires : goal.condition_of-requires
condition_of-requires c =
    finds-operand_stands (given (with_known (each_in expr_in c.args.checker.now.table c.args.part) (value_rule c.args.place)) (scalar_rule c.args.place)) c.args.checker.now c.as_scalar.new.checker c.in_ok-operand.field-0 c.in-Some.operand
    c.in-Some.is c.in_ok-operand.ensures

pub returns : goal.returns
returns c =
    finds-condition (given (with_known (each_in expr_in c.args.checker.now.table c.args.part) (value_rule c.args.place)) (scalar_rule c.args.place)) c.args.checker.now c.as_scalar.new.checker c.in_ok-operand.field-0 c.in-Some.operand
    c.args.place c.in_ok-condition_of.field-0 c.in-Some.is c.in_ok-operand.ensures c.in_ok-condition_of.ensures
