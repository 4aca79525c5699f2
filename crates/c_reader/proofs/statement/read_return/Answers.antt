use Rattle.std.proofs.lemmas.Result.{err_from_is_err_and}
use Rattle.c_grammar.specs.Table as tables
use Rattle.c_grammar.specs.Forms as forms
use Rattle.c_grammar.specs.Leaves.{leaves_of}
use Rattle.c_syntax.specs.Trees as trees
use Rattle.c_reader.specs.Shapes as shapes
use Rattle.c_reader.proofs.Reaching as Rows
use Rattle.c_reader.proofs.statement.read_return.Goals as goal

pub returns-in_err-word-clause-gives : goal.returns-in_err-word-clause-gives
returns-in_err-word-clause-gives c =
    let r0 = Rows.start (forms.symbols_of forms.ReturnRow) c.args.room (leaves_of c.args.tokens.now) in
    let p = err_from_is_err_and c.from_residual.result c.from_residual.ensures.1 in
    rw (p.1, p.2) (Rows.unfit_at _ r0 c.in_err-word.ensures.none c.in_err-word.ensures.misfit)

pub returns-in_err-value-clause-gives : goal.returns-in_err-value-clause-gives
returns-in_err-value-clause-gives c =
    let r0 = Rows.start (forms.symbols_of forms.ReturnRow) c.args.room (leaves_of c.args.tokens.now) in
    let r1 = Rows.token r0 c.in_ok-word.ensures.found in
    let p = err_from_is_err_and c.from_residual-in_err-value.result c.from_residual-in_err-value.ensures.1 in
    rw (p.1, p.2) (Rows.part_at _ r1 c.in_err-value.ensures.gives)

pub returns-clause-gives : goal.returns-clause-gives
returns-clause-gives c =
    let r0 = Rows.start (forms.symbols_of forms.ReturnRow) c.args.room (leaves_of c.args.tokens.now) in
    let r1 = Rows.token r0 c.in_ok-word.ensures.found in
    let r2 = Rows.found r1 c.in_ok-value.ensures.gives in
    let s0 = c.in_ok-word.ensures.found.stands in
    let s1 = c.in_ok-value.ensures.gives.shape in
    Rows.finish (λ parts. shapes.stmt_of (tables.Node forms.ReturnRow parts)) _ r2 (Rows.same_two trees.Return s0 s1)
