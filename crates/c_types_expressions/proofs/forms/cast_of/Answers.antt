use Rattle.c_typed.specs.Table.{type_in}
use Rattle.c_rules.specs.Operators.{cast_to}
use Rattle.c_types_state.specs.NameTables.{scope_of}
use Rattle.c_types_state.specs.Operands.{operand_in}
use Rattle.c_types_expressions.proofs.Deriving.{operand-known, two-there}
use Rattle.c_types_expressions.proofs.forms.cast_of.Goals as goal

pub returns-in_ok-cast_to-in-Some-Some : goal.returns-in_ok-cast_to-in-Some-Some
returns-in_ok-cast_to-in-Some-Some c =
    two-there type_in operand_in (cast_to (scope_of c.args.checker.now) c.args.whole) c.in-Some-Some.is-0 c.in-Some-Some.is-1
    (operand-known c.in_ok-cast_to-in-Some-Some.ensures c.into_known.ensures.stands c.into_known.ensures.known)
