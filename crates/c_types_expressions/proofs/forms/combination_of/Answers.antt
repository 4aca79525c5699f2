use Rattle.c_rules.specs.Operators.{combined}
use Rattle.c_types_state.specs.NameTables.{scope_of}
use Rattle.c_types_state.specs.Operands.{operand_in}
use Rattle.c_types_expressions.proofs.Deriving.{operand-known, two-there, one-lacks, second-lacks}
use Rattle.c_rules.specs.Known.{with_known}
use Rattle.c_types_state.specs.Finding.{each_in}
use Rattle.c_types_expressions.proofs.forms.combination_of.Goals.{in_default-via-in-Some+in_default, in_default-via-in_default}
use Rattle.c_types_expressions.proofs.forms.combination_of.Goals as goal

pub returns-in_ok-combined-in-Some-Some : goal.returns-in_ok-combined-in-Some-Some
returns-in_ok-combined-in-Some-Some c =
    two-there operand_in operand_in (combined (scope_of c.args.checker.now) c.args.operator c.args.whole c.args.right_place) c.in-Some-Some.is-0 c.in-Some-Some.is-1
    (operand-known c.in_ok-combined-in-Some-Some.ensures c.into_known.ensures.stands c.into_known.ensures.known)

pub returns-in_default : goal.returns-in_default
returns-in_default c =
    let rule = combined (scope_of c.args.checker.now) c.args.operator c.args.whole c.args.right_place in
    elim c.in_default.branch [
      | in_default-via-in-Some+in_default w ↦ second-lacks operand_in operand_in rule c.args.left w.in_default.is-1
      | in_default-via-in_default w ↦ one-lacks operand_in (λ a. with_known (each_in operand_in c.args.checker.now.table c.args.right) (rule a)) w.in_default.is-0
    ]
