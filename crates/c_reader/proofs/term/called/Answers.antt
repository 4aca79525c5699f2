use Rattle.std.proofs.Common.{◌∙◌, ap}
use Rattle.c_syntax.specs.Views.{expr_tree}
use Rattle.c_syntax.proofs.SyntaxRows.{expr_tree-call}
use Rattle.c_reader.proofs.term.called.Goals as goal

pub returns-clause-tree : goal.returns-clause-tree
returns-clause-tree c =
    ap expr_tree c.in_ok-boxed.ensures ∙ expr_tree-call c.args.function.expr c.args.opening c.args.arguments.value
