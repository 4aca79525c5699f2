use Rattle.std.proofs.Common.{◌<◌, length, ◌≤◌, ◌+◌, ◌*◌}
use Rattle.c_grammar.specs.Leaves.{leaves_of}
use Rattle.c_syntax.specs.Views.{expr_tree}
use Rattle.c_reader.specs.ExpressionSteps.{Starts}
use Rattle.c_reader.proofs.OperandRows.{ArgumentsSoFar}
use Rattle.c_reader.proofs.DeclaratorRows.{SuffixesSoFar, ParametersSoFar}
use Rattle.c_reader.proofs.+expr.Given as goal

abbrev pub decreases-expr::read_arguments : goal.decreases-expr::read_arguments
decreases-expr::read_arguments l = 9 * length l.tokens.now + 8

abbrev pub decreases-expr::read_expr : goal.decreases-expr::read_expr
decreases-expr::read_expr l = 9 * length l.tokens.now + 7

abbrev pub decreases-expr::read_operand : goal.decreases-expr::read_operand
decreases-expr::read_operand l = 9 * length l.tokens.now + 6

abbrev pub decreases-expr::read_next : goal.decreases-expr::read_next
decreases-expr::read_next l = 9 * length l.left.rest.now + 6

abbrev pub decreases-expr::read_cast : goal.decreases-expr::read_cast
decreases-expr::read_cast l = 9 * length l.tokens.now + 5

abbrev pub decreases-expr::read_sizeof : goal.decreases-expr::read_sizeof
decreases-expr::read_sizeof l = 9 * length l.tokens.now + 5

abbrev pub decreases-expr::read_term : goal.decreases-expr::read_term
decreases-expr::read_term l = 9 * length l.tokens.now + 5

abbrev pub decreases-expr::read_enclosed_type : goal.decreases-expr::read_enclosed_type
decreases-expr::read_enclosed_type l = 9 * length l.tokens.now + 4

abbrev pub decreases-declarator::read_inner : goal.decreases-declarator::read_inner
decreases-declarator::read_inner l = 9 * length l.tokens.now + 5

abbrev pub decreases-declarator::read_param_direct : goal.decreases-declarator::read_param_direct
decreases-declarator::read_param_direct l = 9 * length l.tokens.now + 4

abbrev pub decreases-declarator::read_suffixes : goal.decreases-declarator::read_suffixes
decreases-declarator::read_suffixes l = 9 * length l.tokens.now + 3

abbrev pub decreases-declarator::read_array : goal.decreases-declarator::read_array
decreases-declarator::read_array l = 9 * length l.tokens.now + 2

abbrev pub decreases-declarator::read_function : goal.decreases-declarator::read_function
decreases-declarator::read_function l = 9 * length l.tokens.now + 2

abbrev pub decreases-declarator::read_parameters : goal.decreases-declarator::read_parameters
decreases-declarator::read_parameters l = 9 * length l.tokens.now + 2

abbrev pub decreases-declarator::read_type : goal.decreases-declarator::read_type
decreases-declarator::read_type l = 9 * length l.tokens.now + 1

abbrev pub invariant-expr::read_expr-loop-next : goal.invariant-expr::read_expr-loop-next
invariant-expr::read_expr-loop-next l = record {
  begun : Starts l.level l.room (leaves_of l.tokens) (expr_tree l.left.expr.value) l.left.height l.left.level (leaves_of l.left.rest.now);
  shorter : length l.left.rest.now < length l.tokens;
}

abbrev pub decreases-expr::read_expr-loop-next : goal.decreases-expr::read_expr-loop-next
decreases-expr::read_expr-loop-next l = length l.left.rest.now

abbrev pub invariant-expr::read_arguments-loop-values : goal.invariant-expr::read_arguments-loop-values
invariant-expr::read_arguments-loop-values l = record {
  so_far : ArgumentsSoFar l.room (leaves_of l.tokens) (leaves_of l.rest) l.values.items l.height;
  shorter : length l.rest ≤ length l.tokens;
}

abbrev pub decreases-expr::read_arguments-loop-values : goal.decreases-expr::read_arguments-loop-values
decreases-expr::read_arguments-loop-values l = length l.rest

abbrev pub invariant-declarator::read_suffixes-loop-suffixes : goal.invariant-declarator::read_suffixes-loop-suffixes
invariant-declarator::read_suffixes-loop-suffixes l = record {
  so_far : SuffixesSoFar l.room (leaves_of l.tokens) (leaves_of l.rest) l.suffixes.items l.height;
  shorter : length l.rest ≤ length l.tokens;
}

abbrev pub decreases-declarator::read_suffixes-loop-suffixes : goal.decreases-declarator::read_suffixes-loop-suffixes
decreases-declarator::read_suffixes-loop-suffixes l = length l.rest

abbrev pub invariant-declarator::read_parameters-loop-parameters : goal.invariant-declarator::read_parameters-loop-parameters
invariant-declarator::read_parameters-loop-parameters l = record {
  so_far : ParametersSoFar l.room (leaves_of l.tokens) (leaves_of l.rest) l.parameters.items l.height;
  shorter : length l.rest ≤ length l.tokens;
}

abbrev pub decreases-declarator::read_parameters-loop-parameters : goal.decreases-declarator::read_parameters-loop-parameters
decreases-declarator::read_parameters-loop-parameters l = length l.rest
