use Rattle.c_rules.specs.Operators.{assignment}
use Rattle.c_rules.specs.Known.{with_known}
use Rattle.c_types_state.specs.Finding.{each_in}
use Rattle.c_types_state.specs.Operands.{operand_in, target_in}
use Rattle.c_types_expressions.proofs.Deriving.{operand-known, two-there, one-lacks, second-lacks}
use Rattle.c_types_expressions.proofs.forms.assignment_of.Goals.{in_default-via-in-Some+in_default, in_default-via-in_default}
use Rattle.c_types_expressions.proofs.forms.assignment_of.Goals as goal

pub returns-in_ok-assignment-in-Some-Some : goal.returns-in_ok-assignment-in-Some-Some
returns-in_ok-assignment-in-Some-Some c =
    two-there target_in operand_in (assignment c.args.operator c.args.whole c.args.value_place) c.in-Some-Some.is-0 c.in-Some-Some.is-1
    (operand-known c.in_ok-assignment-in-Some-Some.ensures c.into_known.ensures.stands c.into_known.ensures.known)

pub returns-in_default : goal.returns-in_default
returns-in_default c =
    let rule = assignment c.args.operator c.args.whole c.args.value_place in
    elim c.in_default.branch [
      | in_default-via-in-Some+in_default w ↦ second-lacks target_in operand_in rule c.args.target w.in_default.is-1
      | in_default-via-in_default w ↦ one-lacks target_in (λ object. with_known (each_in operand_in c.args.checker.now.table c.args.operand) (rule object)) w.in_default.is-0
    ]
