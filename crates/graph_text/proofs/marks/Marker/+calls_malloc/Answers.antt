use Rattle.std.proofs.Common.{sym, ap, ◌∙◌}
use Rattle.c_syntax.specs.Views.{expr_tree}
use Rattle.c_syntax.specs.declared.expr.Expr.{Expr}
use Rattle.c_rules.specs.Names.{meaning_of}
use Rattle.c_types_state.specs.NameTables.{scope_of}
use Rattle.graph_text.specs.Adding.{scope_at}
use Rattle.graph_text.specs.Marks.{is_malloc, calls_malloc}
use Rattle.graph_text.proofs.marks.Marker.+calls_malloc.Goals as goal

pub returns-in-Named : goal.returns-in-Named
unfolding scope_at
returns-in-Named t c =
    let state = c.args.self.now.pass.checker in
    c.is_malloc.ensures state.table ∙ ap is_malloc c.meaning.ensures.means ∙ ap (λ name. is_malloc (meaning_of (scope_of state) name)) c.as_slice.ensures
    ∙ ap (λ (tree : Expr). calls_malloc (scope_of state) (expr_tree tree)) (sym c.in-Named.is)
