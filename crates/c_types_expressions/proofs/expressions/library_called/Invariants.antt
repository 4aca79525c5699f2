use Rattle.c_syntax.specs.Views.{expr_tree}
use Rattle.c_types_expressions.proofs.CTypesExpressions.Calls.{Inside}
use Rattle.c_types_expressions.proofs.expressions.library_called.Given as goal

abbrev pub invariant-loop-function : goal.invariant-loop-function
invariant-loop-function l = Inside (expr_tree l.fn.function) (expr_tree l.function) l.groups
