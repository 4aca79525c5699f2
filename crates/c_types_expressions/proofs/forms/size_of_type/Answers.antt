use Rattle.c_typed.specs.Table.{type_in}
use Rattle.c_rules.specs.Operators.{size_of}
use Rattle.c_types_state.specs.NameTables.{scope_of}
use Rattle.c_types_expressions.proofs.Deriving.{operand-known, one-there}
use Rattle.c_types_expressions.proofs.forms.size_of_type.Goals as goal

pub returns-in_ok-size_of-in-Some : goal.returns-in_ok-size_of-in-Some
returns-in_ok-size_of-in-Some c =
    one-there type_in (size_of (scope_of c.args.checker.now) c.args.place) c.in-Some.is
    (operand-known c.in_ok-size_of-in-Some.ensures c.into_known.ensures.stands c.into_known.ensures.known)
