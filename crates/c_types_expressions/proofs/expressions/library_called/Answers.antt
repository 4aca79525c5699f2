use Rattle.std.proofs.Common.{◌+◌, ◌<◌, ◌^◌, ap, sym, ◌∙◌}
use Rattle.c_syntax.specs.Trees as Trees
use Rattle.c_syntax.specs.Views.{expr_tree}
use Rattle.c_types_expressions.proofs.CTypesExpressions.Calls.{inside-counted}
use Rattle.c_types_expressions.proofs.expressions.library_called.Goals as goal

pub loop-function-preserved : goal.loop-function-preserved
loop-function-preserved c =
    let place = c.in-Parenthesized.place in
    let groups = c.loop-function.groups in
    inside-counted (expr_tree c.args.function.now) (expr_tree c.loop-function.function.now) groups place (expr_tree c.deref-function.result.now) c.checked_add.result (groups + 1 < 2 ^ 64) c.in_ok-groups.groups c.checked_add.ensures c.in_ok-groups.ensures.ok_part
    (ap expr_tree c.in-Parenthesized.is ∙ (λ i. Trees.Parenthesized place (expr_tree (sym c.deref-function.ensures i))))
    c.loop-function.invariant
