use Rattle.std.proofs.Common.{ap, ◌∙◌}
use Rattle.c_rules.specs.Elaborated.{known_value}
use Rattle.c_types_state.proofs.Findings.{seen-known}
use Rattle.c_types_state.specs.Operands.{OperandStands, operand_in}
use Rattle.c_types_expressions.proofs.Giving.{stands-now}
use Rattle.c_types.proofs.Covering.{covers-passes}
use Rattle.c_types.proofs.KeptValues.{adds-one}
use Rattle.c_types.proofs.values.keep_value.Goals as goal

pub returns-clause-found : goal.returns-clause-found
returns-clause-found c = covers-passes c.in_ok-operand.ensures

pub returns-clause-values : goal.returns-clause-values
returns-clause-values c =
    let table = c.value.new.pass.checker.table in
    let passes = c.in_ok-operand.ensures in
    adds-one c.in_ok-value.value.value c.into_inner.result c.into_inner.ensures c.in_ok-push.ensures.items (c.in_ok-value.ensures.stands table (stands-now OperandStands operand_in passes.finds))
    (c.in_ok-value.ensures.value table ∙ ap known_value (seen-known OperandStands operand_in table c.in_ok-operand.operand _ passes.finds.known))
