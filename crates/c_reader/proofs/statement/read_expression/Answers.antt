use Rattle.std.proofs.Common.{ap, sym, ◌∙◌}
use Rattle.std.proofs.lemmas.Result.{err_from_is_err_and}
use Rattle.c_grammar.specs.Table as tables
use Rattle.c_grammar.specs.Forms as forms
use Rattle.c_grammar.specs.Leaves.{leaves_of}
use Rattle.c_syntax.specs.Trees as trees
use Rattle.c_syntax.specs.Views as views
use Rattle.c_reader.specs.Shapes as shapes
use Rattle.c_reader.proofs.Reaching as Rows
use Rattle.c_reader.proofs.statement.read_expression.Goals as goal

pub returns-in_err-value-clause-gives : goal.returns-in_err-value-clause-gives
returns-in_err-value-clause-gives c =
    let r0 = Rows.start (forms.symbols_of forms.Expression) c.args.room (leaves_of c.args.tokens.now) in
    let p = err_from_is_err_and c.from_residual.result c.from_residual.ensures.1 in
    rw (p.1, p.2) (Rows.part_at _ r0 c.in_err-value.ensures.gives)

pub returns-in_err-semicolon-clause-gives : goal.returns-in_err-semicolon-clause-gives
returns-in_err-semicolon-clause-gives c =
    let r0 = Rows.start (forms.symbols_of forms.Expression) c.args.room (leaves_of c.args.tokens.now) in
    let r1 = Rows.read r0 c.in_ok-value.ensures.gives in
    let p = err_from_is_err_and c.from_residual-in_err-semicolon.result c.from_residual-in_err-semicolon.ensures.1 in
    rw (p.1, p.2) (Rows.unfit_at _ r1 c.in_err-semicolon.ensures.none c.in_err-semicolon.ensures.misfit)

pub returns-clause-gives : goal.returns-clause-gives
returns-clause-gives c =
    let r0 = Rows.start (forms.symbols_of forms.Expression) c.args.room (leaves_of c.args.tokens.now) in
    let r1 = Rows.read r0 c.in_ok-value.ensures.gives in
    let r2 = Rows.token r1 c.in_ok-semicolon.ensures.found in
    let s0 = c.in_ok-value.ensures.gives.shape in
    Rows.finish (λ parts. shapes.stmt_of (tables.Node forms.Expression parts)) _ r2 (ap trees.Expression (s0 ∙ ap views.expr_tree (sym c.into_inner.ensures)))
