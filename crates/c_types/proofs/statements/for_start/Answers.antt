use Rattle.std.proofs.Common.{ap, ◌∙◌}
use Rattle.c_syntax.specs.Views.{expr_tree, declaration_tree, for_tree}
use Rattle.c_typed.specs.declared.statement.ForStart.TheVariants as F
use Rattle.c_types.proofs.StatementsMade.{start-same, start-nothing, start-value, start-locals}
use Rattle.c_types.proofs.statements.for_start.Goals as goal

pub returns-in_ok-new-in-Nothing : goal.returns-in_ok-new-in-Nothing
returns-in_ok-new-in-Nothing c = start-same (ap for_tree c.in-Nothing.is) c.in_ok-new-in-Nothing.ensures.ok start-nothing

pub returns-in_ok-new-in-Expression : goal.returns-in_ok-new-in-Expression
returns-in_ok-new-in-Expression c =
    start-same (ap for_tree c.in-Expression.is) (c.in_ok-new-in-Expression.ensures.ok ∙ ap F.Value c.into_inner-value.ensures)
    (start-value (expr_tree c.in-Expression.value) c.in_ok-value-in-Expression.ensures)

pub returns-in_ok-new-in-Declaration : goal.returns-in_ok-new-in-Declaration
returns-in_ok-new-in-Declaration c =
    start-same (ap for_tree c.in-Declaration.is) c.in_ok-new-in-Declaration.ensures.ok
    (start-locals (declaration_tree c.in-Declaration.declaration) c.in_ok-locals-in-Declaration.ensures)
