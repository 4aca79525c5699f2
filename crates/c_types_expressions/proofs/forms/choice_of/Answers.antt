use Rattle.c_rules.specs.Operators.{choice}
use Rattle.c_rules.specs.Known.{with_known}
use Rattle.c_types_state.specs.Finding.{each_in, condition_in}
use Rattle.c_types_state.specs.Operands.{operand_in}
use Rattle.c_types_expressions.proofs.Deriving.{operand-known, one-there, two-there, one-lacks, second-lacks, third-lacks}
use Rattle.c_types_expressions.proofs.forms.choice_of.Goals.{in_default-via-in-Some+in-Some+in_default, in_default-via-in-Some+in_default, in_default-via-in_default}
use Rattle.c_types_expressions.proofs.forms.choice_of.Goals as goal

pub returns-in_ok-choice-in-Some-Some-Some : goal.returns-in_ok-choice-in-Some-Some-Some
returns-in_ok-choice-in-Some-Some-Some c =
    let table = c.args.checker.now.table in
    one-there condition_in (λ t. with_known (each_in operand_in table c.args.then) (λ a. with_known (each_in operand_in table c.args.otherwise) (choice c.args.whole t a))) c.in-Some-Some-Some.is-0
    (two-there operand_in operand_in (choice c.args.whole (condition_in table c.in-Some-Some-Some.condition)) c.in-Some-Some-Some.is-1 c.in-Some-Some-Some.is-2
    (operand-known c.in_ok-choice-in-Some-Some-Some.ensures c.into_known.ensures.stands c.into_known.ensures.known))

pub returns-in_default : goal.returns-in_default
returns-in_default c =
    let table = c.args.checker.now.table in
    elim c.in_default.branch [
      | in_default-via-in-Some+in-Some+in_default w ↦ third-lacks condition_in operand_in operand_in (choice c.args.whole) c.args.condition c.args.then w.in_default.is-2
      | in_default-via-in-Some+in_default w ↦ second-lacks condition_in operand_in (λ t a. with_known (each_in operand_in table c.args.otherwise) (choice c.args.whole t a)) c.args.condition w.in_default.is-1
      | in_default-via-in_default w ↦ one-lacks condition_in (λ t. with_known (each_in operand_in table c.args.then) (λ a. with_known (each_in operand_in table c.args.otherwise) (choice c.args.whole t a))) w.in_default.is-0
    ]
