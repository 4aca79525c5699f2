use Rattle.c_types_state.specs.Finding.{expr_in}
use Rattle.c_types_state.specs.NameTables.{scope_of}
use Rattle.c_types_expressions.specs.Forms.{size_rule}
use Rattle.c_types_expressions.proofs.Deriving.{operand-known, one-there}
use Rattle.c_types_expressions.proofs.forms.size_of_expr.Goals as goal

pub returns-in_ok-size_of-in-Some : goal.returns-in_ok-size_of-in-Some
returns-in_ok-size_of-in-Some c =
    one-there expr_in (size_rule (scope_of c.args.checker.now) c.args.place) c.in-Some.is
    (operand-known c.in_ok-size_of-in-Some.ensures c.into_known.ensures.stands c.into_known.ensures.known)
