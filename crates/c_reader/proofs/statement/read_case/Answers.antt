use Rattle.std.proofs.Common.{refl, ap, sym, ◌∙◌}
use Rattle.std.proofs.lemmas.Result.{err_from_is_err_and}
use Rattle.c_grammar.specs.Table as tables
use Rattle.c_grammar.specs.Forms as forms
use Rattle.c_grammar.specs.Leaves.{leaves_of}
use Rattle.c_syntax.specs.Trees as trees
use Rattle.c_syntax.specs.Views as views
use Rattle.c_reader.specs.Shapes as shapes
use Rattle.c_reader.proofs.Reaching as Rows
use Rattle.c_reader.proofs.statement.read_case.Goals as goal

pub returns-in_err-word-clause-gives : goal.returns-in_err-word-clause-gives
returns-in_err-word-clause-gives c =
    let r0 = Rows.start (forms.symbols_of forms.CaseRow) c.args.room (leaves_of c.args.tokens.now) in
    let p = err_from_is_err_and c.from_residual.result c.from_residual.ensures.1 in
    rw (p.1, p.2) (Rows.unfit_at _ r0 c.in_err-word.ensures.none c.in_err-word.ensures.misfit)

pub returns-in_err-value-clause-gives : goal.returns-in_err-value-clause-gives
returns-in_err-value-clause-gives c =
    let r0 = Rows.start (forms.symbols_of forms.CaseRow) c.args.room (leaves_of c.args.tokens.now) in
    let r1 = Rows.token r0 c.in_ok-word.ensures.found in
    let p = err_from_is_err_and c.from_residual-in_err-value.result c.from_residual-in_err-value.ensures.1 in
    rw (p.1, p.2) (Rows.part_at _ r1 c.in_err-value.ensures.gives)

pub returns-in_err-colon-clause-gives : goal.returns-in_err-colon-clause-gives
returns-in_err-colon-clause-gives c =
    let r0 = Rows.start (forms.symbols_of forms.CaseRow) c.args.room (leaves_of c.args.tokens.now) in
    let r1 = Rows.token r0 c.in_ok-word.ensures.found in
    let r2 = Rows.read r1 c.in_ok-value.ensures.gives in
    let p = err_from_is_err_and c.from_residual-in_err-colon.result c.from_residual-in_err-colon.ensures.1 in
    rw (p.1, p.2) (Rows.unfit_at _ r2 c.in_err-colon.ensures.none c.in_err-colon.ensures.misfit)

pub returns-clause-gives : goal.returns-clause-gives
returns-clause-gives c =
    let r0 = Rows.start (forms.symbols_of forms.CaseRow) c.args.room (leaves_of c.args.tokens.now) in
    let r1 = Rows.token r0 c.in_ok-word.ensures.found in
    let r2 = Rows.read r1 c.in_ok-value.ensures.gives in
    let r3 = Rows.token r2 c.in_ok-colon.ensures.found in
    let s0 = c.in_ok-word.ensures.found.stands in
    let s1 = c.in_ok-value.ensures.gives.shape in
    Rows.leads (λ parts. shapes.switch_of (tables.Node forms.CaseRow parts)) _ shapes.switch_of r3 refl (λ parse. Rows.same_two (λ p v. trees.Case p v (shapes.switch_of parse)) s0 (s1 ∙ ap views.expr_tree (sym c.into_inner.ensures)))
