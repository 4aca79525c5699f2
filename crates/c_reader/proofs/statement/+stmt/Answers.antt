use Rattle.std.proofs.Common.{arith, refl, ap, sym, ◌∙◌, [], ◌∷◌, ◌++◌, Some}
use Rattle.std.proofs.lemmas.Result.{err_from_is_err_and}
use Rattle.c_grammar.specs.Table as tables
use Rattle.c_grammar.specs.Forms as forms
use Rattle.c_grammar.specs.Leaves.{leaves_of}
use Rattle.c_syntax.specs.Trees as trees
use Rattle.c_syntax.specs.Views as views
use Rattle.c_reader.specs.Shapes as shapes
use Rattle.c_reader.proofs.Reaching as Rows
use Rattle.c_reader.specs.StmtForms as stmts
use Rattle.c_reader.specs.StmtLists as braces
use Rattle.c_reader.proofs.SameStmts as same
use Rattle.c_reader.proofs.StmtRows as vectors
use Rattle.c_reader.proofs.statement.+stmt.Goals as goal

pub read_stmt-returns-in_err-first_kind-clause-gives : goal.read_stmt-returns-in_err-first_kind-clause-gives
read_stmt-returns-in_err-first_kind-clause-gives t c =
    let p = err_from_is_err_and c.from_residual.result c.from_residual.ensures.1 in
    rw (p.1, p.2) (Rows.empty_fails _ _ _ _ c.in_err-first_kind.ensures.none c.in_err-first_kind.ensures.misfit)

pub read_stmt-returns-in_err-below-in-Some-clause-gives : goal.read_stmt-returns-in_err-below-in-Some-clause-gives
read_stmt-returns-in_err-below-in-Some-clause-gives t c =
    let p = err_from_is_err_and c.from_residual-in_err-below-in-Some.result c.from_residual-in_err-below-in-Some.ensures.1 in
    rw (p.1, p.2) (same.deep_at _ _ c.in_ok-first_kind.ensures.found c.in-Some.ensures c.need.ensures.needs c.in_err-below-in-Some.ensures.none c.in_err-below-in-Some.ensures.deep)

pub read_stmt-returns-in_err-stmt-in-Some-clause-gives : goal.read_stmt-returns-in_err-stmt-in-Some-clause-gives
read_stmt-returns-in_err-stmt-in-Some-clause-gives t c =
    let p = err_from_is_err_and c.from_residual-in_err-stmt-in-Some.result c.from_residual-in_err-stmt-in-Some.ensures.1 in
    rw (p.1, p.2) (same.row_fails c.in-Some.row _ (same.row_at _ c.in_ok-first_kind.ensures.found c.in-Some.ensures c.need.ensures.needs c.in_ok-below-in-Some.ensures.fits c.in_ok-below-in-Some.ensures.found) c.in_err-stmt-in-Some.ensures.gives)

pub read_stmt-returns-in_ok-new-in-Some-clause-gives : goal.read_stmt-returns-in_ok-new-in-Some-clause-gives
read_stmt-returns-in_ok-new-in-Some-clause-gives t c =
    same.row_found c.in-Some.row (same.row_at _ c.in_ok-first_kind.ensures.found c.in-Some.ensures c.need.ensures.needs c.in_ok-below-in-Some.ensures.fits c.in_ok-below-in-Some.ensures.found) c.in_ok-stmt-in-Some.ensures.gives (ap views.stmt_tree (sym c.in_ok-new-in-Some.ensures.ok))

pub read_stmt-returns-in-None-clause-gives : goal.read_stmt-returns-in-None-clause-gives
read_stmt-returns-in-None-clause-gives t c =
    Rows.none_fails _ _ c.in_ok-first_kind.ensures.found c.in-None.ensures c.first_place.ensures

pub read_stmt_row-returns-in-Block-clause-gives : goal.read_stmt_row-returns-in-Block-clause-gives
read_stmt_row-returns-in-Block-clause-gives t c =
    same.by_row _ _ _ _ _ c.in-Block.is c.read_block_stmt.ensures.gives

pub read_stmt_row-returns-in-Empty-clause-gives : goal.read_stmt_row-returns-in-Empty-clause-gives
read_stmt_row-returns-in-Empty-clause-gives t c =
    same.by_row _ _ _ _ _ c.in-Empty.is c.read_empty.ensures.gives

pub read_stmt_row-returns-in-Expression-clause-gives : goal.read_stmt_row-returns-in-Expression-clause-gives
read_stmt_row-returns-in-Expression-clause-gives t c =
    same.by_row _ _ _ _ _ c.in-Expression.is c.read_expression.ensures.gives

pub read_stmt_row-returns-in-If-clause-gives : goal.read_stmt_row-returns-in-If-clause-gives
read_stmt_row-returns-in-If-clause-gives t c =
    same.by_row _ _ _ _ _ c.in-If.is c.read_if.ensures.gives

pub read_stmt_row-returns-in-While-clause-gives : goal.read_stmt_row-returns-in-While-clause-gives
read_stmt_row-returns-in-While-clause-gives t c =
    same.by_row _ _ _ _ _ c.in-While.is c.read_while.ensures.gives

pub read_stmt_row-returns-in-Do-clause-gives : goal.read_stmt_row-returns-in-Do-clause-gives
read_stmt_row-returns-in-Do-clause-gives t c =
    same.by_row _ _ _ _ _ c.in-Do.is c.read_do.ensures.gives

pub read_stmt_row-returns-in-For-clause-gives : goal.read_stmt_row-returns-in-For-clause-gives
read_stmt_row-returns-in-For-clause-gives t c =
    same.by_row _ _ _ _ _ c.in-For.is c.read_for.ensures.gives

pub read_stmt_row-returns-in-Switch-clause-gives : goal.read_stmt_row-returns-in-Switch-clause-gives
read_stmt_row-returns-in-Switch-clause-gives t c =
    same.by_row _ _ _ _ _ c.in-Switch.is c.read_switch.ensures.gives

pub read_stmt_row-returns-in-Break-clause-gives : goal.read_stmt_row-returns-in-Break-clause-gives
read_stmt_row-returns-in-Break-clause-gives t c =
    same.by_row _ _ _ _ _ c.in-Break.is c.read_break.ensures.gives

pub read_stmt_row-returns-in-Continue-clause-gives : goal.read_stmt_row-returns-in-Continue-clause-gives
read_stmt_row-returns-in-Continue-clause-gives t c =
    same.by_row _ _ _ _ _ c.in-Continue.is c.read_continue.ensures.gives

pub read_stmt_row-returns-in-Return-clause-gives : goal.read_stmt_row-returns-in-Return-clause-gives
read_stmt_row-returns-in-Return-clause-gives t c =
    same.by_row _ _ _ _ _ c.in-Return.is c.read_return.ensures.gives

pub read_block_stmt-returns-in_err-opening-clause-gives : goal.read_block_stmt-returns-in_err-opening-clause-gives
read_block_stmt-returns-in_err-opening-clause-gives t c =
    let r0 = Rows.start (forms.symbols_of forms.Block) c.args.room (leaves_of c.args.tokens.now) in
    let p = err_from_is_err_and c.from_residual.result c.from_residual.ensures.1 in
    rw (p.1, p.2) (Rows.unfit_at _ r0 c.in_err-opening.ensures.none c.in_err-opening.ensures.misfit)

pub read_block_stmt-returns-in_err-items-clause-gives : goal.read_block_stmt-returns-in_err-items-clause-gives
read_block_stmt-returns-in_err-items-clause-gives t c =
    let r0 = Rows.start (forms.symbols_of forms.Block) c.args.room (leaves_of c.args.tokens.now) in
    let r1 = Rows.token r0 c.in_ok-opening.ensures.found in
    let p = err_from_is_err_and c.from_residual-in_err-items.result c.from_residual-in_err-items.ensures.1 in
    rw (p.1, p.2) (Rows.part_at _ r1 c.in_err-items.ensures.gives)

pub read_block_stmt-returns-clause-gives : goal.read_block_stmt-returns-clause-gives
read_block_stmt-returns-clause-gives t c =
    let r0 = Rows.start (forms.symbols_of forms.Block) c.args.room (leaves_of c.args.tokens.now) in
    let r1 = Rows.token r0 c.in_ok-opening.ensures.found in
    let r2 = Rows.found r1 c.in_ok-items.ensures.gives in
    let s0 = c.in_ok-opening.ensures.found.stands in
    let s1 = c.in_ok-items.ensures.gives.shape in
    Rows.finish (λ parts. shapes.stmt_of (tables.Node forms.Block parts)) _ r2 (Rows.same_two trees.BlockStmt s0 (s1 ∙ vectors.block_tree-vec c.in_ok-items.items.value))

pub read_if-returns-in_err-word-clause-gives : goal.read_if-returns-in_err-word-clause-gives
read_if-returns-in_err-word-clause-gives t c =
    let r0 = Rows.start (forms.symbols_of forms.IfRow) c.args.room (leaves_of c.args.tokens.now) in
    let p = err_from_is_err_and c.from_residual.result c.from_residual.ensures.1 in
    rw (p.1, p.2) (Rows.unfit_at _ r0 c.in_err-word.ensures.none c.in_err-word.ensures.misfit)

pub read_if-returns-in_err-opening-clause-gives : goal.read_if-returns-in_err-opening-clause-gives
read_if-returns-in_err-opening-clause-gives t c =
    let r0 = Rows.start (forms.symbols_of forms.IfRow) c.args.room (leaves_of c.args.tokens.now) in
    let r1 = Rows.token r0 c.in_ok-word.ensures.found in
    let p = err_from_is_err_and c.from_residual-in_err-opening.result c.from_residual-in_err-opening.ensures.1 in
    rw (p.1, p.2) (Rows.unfit_at _ r1 c.in_err-opening.ensures.none c.in_err-opening.ensures.misfit)

pub read_if-returns-in_err-condition-clause-gives : goal.read_if-returns-in_err-condition-clause-gives
read_if-returns-in_err-condition-clause-gives t c =
    let r0 = Rows.start (forms.symbols_of forms.IfRow) c.args.room (leaves_of c.args.tokens.now) in
    let r1 = Rows.token r0 c.in_ok-word.ensures.found in
    let r2 = Rows.token r1 c.in_ok-opening.ensures.found in
    let p = err_from_is_err_and c.from_residual-in_err-condition.result c.from_residual-in_err-condition.ensures.1 in
    rw (p.1, p.2) (Rows.part_at _ r2 c.in_err-condition.ensures.gives)

pub read_if-returns-in_err-close-clause-gives : goal.read_if-returns-in_err-close-clause-gives
read_if-returns-in_err-close-clause-gives t c =
    let r0 = Rows.start (forms.symbols_of forms.IfRow) c.args.room (leaves_of c.args.tokens.now) in
    let r1 = Rows.token r0 c.in_ok-word.ensures.found in
    let r2 = Rows.token r1 c.in_ok-opening.ensures.found in
    let r3 = Rows.read r2 c.in_ok-condition.ensures.gives in
    let p = err_from_is_err_and c.from_residual-in_err-close.result c.from_residual-in_err-close.ensures.1 in
    rw (p.1, p.2) (Rows.unfit_at _ r3 c.in_err-close.ensures.none c.in_err-close.ensures.misfit)

pub read_if-returns-in_err-then-clause-gives : goal.read_if-returns-in_err-then-clause-gives
read_if-returns-in_err-then-clause-gives t c =
    let r0 = Rows.start (forms.symbols_of forms.IfRow) c.args.room (leaves_of c.args.tokens.now) in
    let r1 = Rows.token r0 c.in_ok-word.ensures.found in
    let r2 = Rows.token r1 c.in_ok-opening.ensures.found in
    let r3 = Rows.read r2 c.in_ok-condition.ensures.gives in
    let r4 = Rows.token r3 c.in_ok-close.ensures.found in
    let p = err_from_is_err_and c.from_residual-in_err-then.result c.from_residual-in_err-then.ensures.1 in
    rw (p.1, p.2) (Rows.part_at _ r4 c.in_err-then.ensures.gives)

pub read_if-returns-in_err-otherwise-clause-gives : goal.read_if-returns-in_err-otherwise-clause-gives
read_if-returns-in_err-otherwise-clause-gives t c =
    let r0 = Rows.start (forms.symbols_of forms.IfRow) c.args.room (leaves_of c.args.tokens.now) in
    let r1 = Rows.token r0 c.in_ok-word.ensures.found in
    let r2 = Rows.token r1 c.in_ok-opening.ensures.found in
    let r3 = Rows.read r2 c.in_ok-condition.ensures.gives in
    let r4 = Rows.token r3 c.in_ok-close.ensures.found in
    let r5 = Rows.found r4 c.in_ok-then.ensures.gives in
    let p = err_from_is_err_and c.from_residual-in_err-otherwise.result c.from_residual-in_err-otherwise.ensures.1 in
    rw (p.1, p.2) (Rows.part_at _ r5 c.in_err-otherwise.ensures.gives)

pub read_if-returns-clause-gives : goal.read_if-returns-clause-gives
read_if-returns-clause-gives t c =
    let r0 = Rows.start (forms.symbols_of forms.IfRow) c.args.room (leaves_of c.args.tokens.now) in
    let r1 = Rows.token r0 c.in_ok-word.ensures.found in
    let r2 = Rows.token r1 c.in_ok-opening.ensures.found in
    let r3 = Rows.read r2 c.in_ok-condition.ensures.gives in
    let r4 = Rows.token r3 c.in_ok-close.ensures.found in
    let r5 = Rows.found r4 c.in_ok-then.ensures.gives in
    let r6 = Rows.found r5 c.in_ok-otherwise.ensures.gives in
    let s0 = c.in_ok-word.ensures.found.stands in
    let s1 = c.in_ok-condition.ensures.gives.shape in
    let s2 = c.in_ok-then.ensures.gives.shape in
    let s3 = c.in_ok-otherwise.ensures.gives.shape in
    Rows.finish (λ parts. shapes.stmt_of (tables.Node forms.IfRow parts)) _ r6 (Rows.same_four shapes.if_of s0 s1 s2 s3 ∙ c.if_stmt.ensures)

pub read_else-returns-in_err-first_kind-clause-gives : goal.read_else-returns-in_err-first_kind-clause-gives
read_else-returns-in_err-first_kind-clause-gives t c =
    let p = err_from_is_err_and c.from_residual.result c.from_residual.ensures.1 in
    rw (p.1, p.2) (Rows.empty_fails _ _ _ _ c.in_err-first_kind.ensures.none c.in_err-first_kind.ensures.misfit)

pub read_else-returns-in_err-has_room-in-Else-clause-gives : goal.read_else-returns-in_err-has_room-in-Else-clause-gives
read_else-returns-in_err-has_room-in-Else-clause-gives t c =
    let p = err_from_is_err_and c.from_residual-in_err-has_room-in-Else.result c.from_residual-in_err-has_room-in-Else.ensures.1 in
    rw (p.1, p.2) (Rows.deep_fails _ c.in_ok-first_kind.ensures.found (c.in-Else.ensures) c.in_err-has_room-in-Else.ensures.none c.in_err-has_room-in-Else.ensures.deep)

pub read_else-returns-in_err-word-in-Else-clause-gives : goal.read_else-returns-in_err-word-in-Else-clause-gives
read_else-returns-in_err-word-in-Else-clause-gives t c =
    let r0 = Rows.begin {below = c.args.room} record { kind = _; begins = c.in_ok-first_kind.ensures.found; tells = c.in-Else.ensures; fits = c.in_ok-has_room-in-Else.ensures.fits; down = omega arith; ends = record { ends = λ own kind. refl } } in
    let p = err_from_is_err_and c.from_residual-in_err-word-in-Else.result c.from_residual-in_err-word-in-Else.ensures.1 in
    rw (p.1, p.2) (Rows.unfit_at _ r0 c.in_err-word-in-Else.ensures.none c.in_err-word-in-Else.ensures.misfit)

pub read_else-returns-in_err-stmt-in-Else-clause-gives : goal.read_else-returns-in_err-stmt-in-Else-clause-gives
read_else-returns-in_err-stmt-in-Else-clause-gives t c =
    let r0 = Rows.begin {below = c.args.room} record { kind = _; begins = c.in_ok-first_kind.ensures.found; tells = c.in-Else.ensures; fits = c.in_ok-has_room-in-Else.ensures.fits; down = omega arith; ends = record { ends = λ own kind. refl } } in
    let r1 = Rows.token r0 c.in_ok-word-in-Else.ensures.found in
    let p = err_from_is_err_and c.from_residual-in_err-stmt-in-Else.result c.from_residual-in_err-stmt-in-Else.ensures.1 in
    rw (p.1, p.2) (Rows.part_at _ r1 c.in_err-stmt-in-Else.ensures.gives)

pub read_else-returns-in_ok-stmt-in-Else-clause-gives : goal.read_else-returns-in_ok-stmt-in-Else-clause-gives
read_else-returns-in_ok-stmt-in-Else-clause-gives t c =
    let r0 = Rows.begin {below = c.args.room} record { kind = _; begins = c.in_ok-first_kind.ensures.found; tells = c.in-Else.ensures; fits = c.in_ok-has_room-in-Else.ensures.fits; down = omega arith; ends = record { ends = λ own kind. refl } } in
    let r1 = Rows.token r0 c.in_ok-word-in-Else.ensures.found in
    let r2 = Rows.found r1 c.in_ok-stmt-in-Else.ensures.gives in
    let s0 = c.in_ok-stmt-in-Else.ensures.gives.shape in
    Rows.finish shapes.else_of _ r2 (ap Some s0)

pub read_else-returns-in-Nothing-clause-gives : goal.read_else-returns-in-Nothing-clause-gives
read_else-returns-in-Nothing-clause-gives t c =
    let r0 = Rows.begin {below = c.args.room} record { kind = _; begins = c.in_ok-first_kind.ensures.found; tells = c.in-Nothing.ensures; fits = omega arith; down = omega arith; ends = record { ends = λ own kind. refl } } in
    Rows.finish shapes.else_of _ r0 (refl)

pub read_while-returns-in_err-word-clause-gives : goal.read_while-returns-in_err-word-clause-gives
read_while-returns-in_err-word-clause-gives t c =
    let r0 = Rows.start (forms.symbols_of forms.WhileRow) c.args.room (leaves_of c.args.tokens.now) in
    let p = err_from_is_err_and c.from_residual.result c.from_residual.ensures.1 in
    rw (p.1, p.2) (Rows.unfit_at _ r0 c.in_err-word.ensures.none c.in_err-word.ensures.misfit)

pub read_while-returns-in_err-opening-clause-gives : goal.read_while-returns-in_err-opening-clause-gives
read_while-returns-in_err-opening-clause-gives t c =
    let r0 = Rows.start (forms.symbols_of forms.WhileRow) c.args.room (leaves_of c.args.tokens.now) in
    let r1 = Rows.token r0 c.in_ok-word.ensures.found in
    let p = err_from_is_err_and c.from_residual-in_err-opening.result c.from_residual-in_err-opening.ensures.1 in
    rw (p.1, p.2) (Rows.unfit_at _ r1 c.in_err-opening.ensures.none c.in_err-opening.ensures.misfit)

pub read_while-returns-in_err-condition-clause-gives : goal.read_while-returns-in_err-condition-clause-gives
read_while-returns-in_err-condition-clause-gives t c =
    let r0 = Rows.start (forms.symbols_of forms.WhileRow) c.args.room (leaves_of c.args.tokens.now) in
    let r1 = Rows.token r0 c.in_ok-word.ensures.found in
    let r2 = Rows.token r1 c.in_ok-opening.ensures.found in
    let p = err_from_is_err_and c.from_residual-in_err-condition.result c.from_residual-in_err-condition.ensures.1 in
    rw (p.1, p.2) (Rows.part_at _ r2 c.in_err-condition.ensures.gives)

pub read_while-returns-in_err-close-clause-gives : goal.read_while-returns-in_err-close-clause-gives
read_while-returns-in_err-close-clause-gives t c =
    let r0 = Rows.start (forms.symbols_of forms.WhileRow) c.args.room (leaves_of c.args.tokens.now) in
    let r1 = Rows.token r0 c.in_ok-word.ensures.found in
    let r2 = Rows.token r1 c.in_ok-opening.ensures.found in
    let r3 = Rows.read r2 c.in_ok-condition.ensures.gives in
    let p = err_from_is_err_and c.from_residual-in_err-close.result c.from_residual-in_err-close.ensures.1 in
    rw (p.1, p.2) (Rows.unfit_at _ r3 c.in_err-close.ensures.none c.in_err-close.ensures.misfit)

pub read_while-returns-in_err-body-clause-gives : goal.read_while-returns-in_err-body-clause-gives
read_while-returns-in_err-body-clause-gives t c =
    let r0 = Rows.start (forms.symbols_of forms.WhileRow) c.args.room (leaves_of c.args.tokens.now) in
    let r1 = Rows.token r0 c.in_ok-word.ensures.found in
    let r2 = Rows.token r1 c.in_ok-opening.ensures.found in
    let r3 = Rows.read r2 c.in_ok-condition.ensures.gives in
    let r4 = Rows.token r3 c.in_ok-close.ensures.found in
    let p = err_from_is_err_and c.from_residual-in_err-body.result c.from_residual-in_err-body.ensures.1 in
    rw (p.1, p.2) (Rows.part_at _ r4 c.in_err-body.ensures.gives)

pub read_while-returns-clause-gives : goal.read_while-returns-clause-gives
read_while-returns-clause-gives t c =
    let r0 = Rows.start (forms.symbols_of forms.WhileRow) c.args.room (leaves_of c.args.tokens.now) in
    let r1 = Rows.token r0 c.in_ok-word.ensures.found in
    let r2 = Rows.token r1 c.in_ok-opening.ensures.found in
    let r3 = Rows.read r2 c.in_ok-condition.ensures.gives in
    let r4 = Rows.token r3 c.in_ok-close.ensures.found in
    let r5 = Rows.found r4 c.in_ok-body.ensures.gives in
    let s0 = c.in_ok-word.ensures.found.stands in
    let s1 = c.in_ok-condition.ensures.gives.shape in
    let s2 = c.in_ok-body.ensures.gives.shape in
    Rows.finish (λ parts. shapes.stmt_of (tables.Node forms.WhileRow parts)) _ r5 (Rows.same_three trees.While s0 (s1 ∙ ap views.expr_tree (sym c.into_inner.ensures)) s2)

pub read_do-returns-in_err-word-clause-gives : goal.read_do-returns-in_err-word-clause-gives
read_do-returns-in_err-word-clause-gives t c =
    let r0 = Rows.start (forms.symbols_of forms.DoRow) c.args.room (leaves_of c.args.tokens.now) in
    let p = err_from_is_err_and c.from_residual.result c.from_residual.ensures.1 in
    rw (p.1, p.2) (Rows.unfit_at _ r0 c.in_err-word.ensures.none c.in_err-word.ensures.misfit)

pub read_do-returns-in_err-body-clause-gives : goal.read_do-returns-in_err-body-clause-gives
read_do-returns-in_err-body-clause-gives t c =
    let r0 = Rows.start (forms.symbols_of forms.DoRow) c.args.room (leaves_of c.args.tokens.now) in
    let r1 = Rows.token r0 c.in_ok-word.ensures.found in
    let p = err_from_is_err_and c.from_residual-in_err-body.result c.from_residual-in_err-body.ensures.1 in
    rw (p.1, p.2) (Rows.part_at _ r1 c.in_err-body.ensures.gives)

pub read_do-returns-in_err-until-clause-gives : goal.read_do-returns-in_err-until-clause-gives
read_do-returns-in_err-until-clause-gives t c =
    let r0 = Rows.start (forms.symbols_of forms.DoRow) c.args.room (leaves_of c.args.tokens.now) in
    let r1 = Rows.token r0 c.in_ok-word.ensures.found in
    let r2 = Rows.found r1 c.in_ok-body.ensures.gives in
    let p = err_from_is_err_and c.from_residual-in_err-until.result c.from_residual-in_err-until.ensures.1 in
    rw (p.1, p.2) (Rows.unfit_at _ r2 c.in_err-until.ensures.none c.in_err-until.ensures.misfit)

pub read_do-returns-in_err-opening-clause-gives : goal.read_do-returns-in_err-opening-clause-gives
read_do-returns-in_err-opening-clause-gives t c =
    let r0 = Rows.start (forms.symbols_of forms.DoRow) c.args.room (leaves_of c.args.tokens.now) in
    let r1 = Rows.token r0 c.in_ok-word.ensures.found in
    let r2 = Rows.found r1 c.in_ok-body.ensures.gives in
    let r3 = Rows.token r2 c.in_ok-until.ensures.found in
    let p = err_from_is_err_and c.from_residual-in_err-opening.result c.from_residual-in_err-opening.ensures.1 in
    rw (p.1, p.2) (Rows.unfit_at _ r3 c.in_err-opening.ensures.none c.in_err-opening.ensures.misfit)

pub read_do-returns-in_err-condition-clause-gives : goal.read_do-returns-in_err-condition-clause-gives
read_do-returns-in_err-condition-clause-gives t c =
    let r0 = Rows.start (forms.symbols_of forms.DoRow) c.args.room (leaves_of c.args.tokens.now) in
    let r1 = Rows.token r0 c.in_ok-word.ensures.found in
    let r2 = Rows.found r1 c.in_ok-body.ensures.gives in
    let r3 = Rows.token r2 c.in_ok-until.ensures.found in
    let r4 = Rows.token r3 c.in_ok-opening.ensures.found in
    let p = err_from_is_err_and c.from_residual-in_err-condition.result c.from_residual-in_err-condition.ensures.1 in
    rw (p.1, p.2) (Rows.part_at _ r4 c.in_err-condition.ensures.gives)

pub read_do-returns-in_err-close-clause-gives : goal.read_do-returns-in_err-close-clause-gives
read_do-returns-in_err-close-clause-gives t c =
    let r0 = Rows.start (forms.symbols_of forms.DoRow) c.args.room (leaves_of c.args.tokens.now) in
    let r1 = Rows.token r0 c.in_ok-word.ensures.found in
    let r2 = Rows.found r1 c.in_ok-body.ensures.gives in
    let r3 = Rows.token r2 c.in_ok-until.ensures.found in
    let r4 = Rows.token r3 c.in_ok-opening.ensures.found in
    let r5 = Rows.read r4 c.in_ok-condition.ensures.gives in
    let p = err_from_is_err_and c.from_residual-in_err-close.result c.from_residual-in_err-close.ensures.1 in
    rw (p.1, p.2) (Rows.unfit_at _ r5 c.in_err-close.ensures.none c.in_err-close.ensures.misfit)

pub read_do-returns-in_err-semicolon-clause-gives : goal.read_do-returns-in_err-semicolon-clause-gives
read_do-returns-in_err-semicolon-clause-gives t c =
    let r0 = Rows.start (forms.symbols_of forms.DoRow) c.args.room (leaves_of c.args.tokens.now) in
    let r1 = Rows.token r0 c.in_ok-word.ensures.found in
    let r2 = Rows.found r1 c.in_ok-body.ensures.gives in
    let r3 = Rows.token r2 c.in_ok-until.ensures.found in
    let r4 = Rows.token r3 c.in_ok-opening.ensures.found in
    let r5 = Rows.read r4 c.in_ok-condition.ensures.gives in
    let r6 = Rows.token r5 c.in_ok-close.ensures.found in
    let p = err_from_is_err_and c.from_residual-in_err-semicolon.result c.from_residual-in_err-semicolon.ensures.1 in
    rw (p.1, p.2) (Rows.unfit_at _ r6 c.in_err-semicolon.ensures.none c.in_err-semicolon.ensures.misfit)

pub read_do-returns-clause-gives : goal.read_do-returns-clause-gives
read_do-returns-clause-gives t c =
    let r0 = Rows.start (forms.symbols_of forms.DoRow) c.args.room (leaves_of c.args.tokens.now) in
    let r1 = Rows.token r0 c.in_ok-word.ensures.found in
    let r2 = Rows.found r1 c.in_ok-body.ensures.gives in
    let r3 = Rows.token r2 c.in_ok-until.ensures.found in
    let r4 = Rows.token r3 c.in_ok-opening.ensures.found in
    let r5 = Rows.read r4 c.in_ok-condition.ensures.gives in
    let r6 = Rows.token r5 c.in_ok-close.ensures.found in
    let r7 = Rows.token r6 c.in_ok-semicolon.ensures.found in
    let s0 = c.in_ok-word.ensures.found.stands in
    let s1 = c.in_ok-body.ensures.gives.shape in
    let s2 = c.in_ok-condition.ensures.gives.shape in
    Rows.finish (λ parts. shapes.stmt_of (tables.Node forms.DoRow parts)) _ r7 (Rows.same_three trees.Do s0 s1 (s2 ∙ ap views.expr_tree (sym c.into_inner.ensures)))

pub read_for-returns-in_err-word-clause-gives : goal.read_for-returns-in_err-word-clause-gives
read_for-returns-in_err-word-clause-gives t c =
    let r0 = Rows.start (forms.symbols_of forms.ForRow) c.args.room (leaves_of c.args.tokens.now) in
    let p = err_from_is_err_and c.from_residual.result c.from_residual.ensures.1 in
    rw (p.1, p.2) (Rows.unfit_at _ r0 c.in_err-word.ensures.none c.in_err-word.ensures.misfit)

pub read_for-returns-in_err-opening-clause-gives : goal.read_for-returns-in_err-opening-clause-gives
read_for-returns-in_err-opening-clause-gives t c =
    let r0 = Rows.start (forms.symbols_of forms.ForRow) c.args.room (leaves_of c.args.tokens.now) in
    let r1 = Rows.token r0 c.in_ok-word.ensures.found in
    let p = err_from_is_err_and c.from_residual-in_err-opening.result c.from_residual-in_err-opening.ensures.1 in
    rw (p.1, p.2) (Rows.unfit_at _ r1 c.in_err-opening.ensures.none c.in_err-opening.ensures.misfit)

pub read_for-returns-in_err-first-clause-gives : goal.read_for-returns-in_err-first-clause-gives
read_for-returns-in_err-first-clause-gives t c =
    let r0 = Rows.start (forms.symbols_of forms.ForRow) c.args.room (leaves_of c.args.tokens.now) in
    let r1 = Rows.token r0 c.in_ok-word.ensures.found in
    let r2 = Rows.token r1 c.in_ok-opening.ensures.found in
    let p = err_from_is_err_and c.from_residual-in_err-first.result c.from_residual-in_err-first.ensures.1 in
    rw (p.1, p.2) (Rows.part_at _ r2 c.in_err-first.ensures.gives)

pub read_for-returns-in_err-condition-clause-gives : goal.read_for-returns-in_err-condition-clause-gives
read_for-returns-in_err-condition-clause-gives t c =
    let r0 = Rows.start (forms.symbols_of forms.ForRow) c.args.room (leaves_of c.args.tokens.now) in
    let r1 = Rows.token r0 c.in_ok-word.ensures.found in
    let r2 = Rows.token r1 c.in_ok-opening.ensures.found in
    let r3 = Rows.found r2 c.in_ok-first.ensures.gives in
    let p = err_from_is_err_and c.from_residual-in_err-condition.result c.from_residual-in_err-condition.ensures.1 in
    rw (p.1, p.2) (Rows.part_at _ r3 c.in_err-condition.ensures.gives)

pub read_for-returns-in_err-semicolon-clause-gives : goal.read_for-returns-in_err-semicolon-clause-gives
read_for-returns-in_err-semicolon-clause-gives t c =
    let r0 = Rows.start (forms.symbols_of forms.ForRow) c.args.room (leaves_of c.args.tokens.now) in
    let r1 = Rows.token r0 c.in_ok-word.ensures.found in
    let r2 = Rows.token r1 c.in_ok-opening.ensures.found in
    let r3 = Rows.found r2 c.in_ok-first.ensures.gives in
    let r4 = Rows.found r3 c.in_ok-condition.ensures.gives in
    let p = err_from_is_err_and c.from_residual-in_err-semicolon.result c.from_residual-in_err-semicolon.ensures.1 in
    rw (p.1, p.2) (Rows.unfit_at _ r4 c.in_err-semicolon.ensures.none c.in_err-semicolon.ensures.misfit)

pub read_for-returns-in_err-step-clause-gives : goal.read_for-returns-in_err-step-clause-gives
read_for-returns-in_err-step-clause-gives t c =
    let r0 = Rows.start (forms.symbols_of forms.ForRow) c.args.room (leaves_of c.args.tokens.now) in
    let r1 = Rows.token r0 c.in_ok-word.ensures.found in
    let r2 = Rows.token r1 c.in_ok-opening.ensures.found in
    let r3 = Rows.found r2 c.in_ok-first.ensures.gives in
    let r4 = Rows.found r3 c.in_ok-condition.ensures.gives in
    let r5 = Rows.token r4 c.in_ok-semicolon.ensures.found in
    let p = err_from_is_err_and c.from_residual-in_err-step.result c.from_residual-in_err-step.ensures.1 in
    rw (p.1, p.2) (Rows.part_at _ r5 c.in_err-step.ensures.gives)

pub read_for-returns-in_err-close-clause-gives : goal.read_for-returns-in_err-close-clause-gives
read_for-returns-in_err-close-clause-gives t c =
    let r0 = Rows.start (forms.symbols_of forms.ForRow) c.args.room (leaves_of c.args.tokens.now) in
    let r1 = Rows.token r0 c.in_ok-word.ensures.found in
    let r2 = Rows.token r1 c.in_ok-opening.ensures.found in
    let r3 = Rows.found r2 c.in_ok-first.ensures.gives in
    let r4 = Rows.found r3 c.in_ok-condition.ensures.gives in
    let r5 = Rows.token r4 c.in_ok-semicolon.ensures.found in
    let r6 = Rows.found r5 c.in_ok-step.ensures.gives in
    let p = err_from_is_err_and c.from_residual-in_err-close.result c.from_residual-in_err-close.ensures.1 in
    rw (p.1, p.2) (Rows.unfit_at _ r6 c.in_err-close.ensures.none c.in_err-close.ensures.misfit)

pub read_for-returns-in_err-body-clause-gives : goal.read_for-returns-in_err-body-clause-gives
read_for-returns-in_err-body-clause-gives t c =
    let r0 = Rows.start (forms.symbols_of forms.ForRow) c.args.room (leaves_of c.args.tokens.now) in
    let r1 = Rows.token r0 c.in_ok-word.ensures.found in
    let r2 = Rows.token r1 c.in_ok-opening.ensures.found in
    let r3 = Rows.found r2 c.in_ok-first.ensures.gives in
    let r4 = Rows.found r3 c.in_ok-condition.ensures.gives in
    let r5 = Rows.token r4 c.in_ok-semicolon.ensures.found in
    let r6 = Rows.found r5 c.in_ok-step.ensures.gives in
    let r7 = Rows.token r6 c.in_ok-close.ensures.found in
    let p = err_from_is_err_and c.from_residual-in_err-body.result c.from_residual-in_err-body.ensures.1 in
    rw (p.1, p.2) (Rows.part_at _ r7 c.in_err-body.ensures.gives)

pub read_for-returns-clause-gives : goal.read_for-returns-clause-gives
read_for-returns-clause-gives t c =
    let r0 = Rows.start (forms.symbols_of forms.ForRow) c.args.room (leaves_of c.args.tokens.now) in
    let r1 = Rows.token r0 c.in_ok-word.ensures.found in
    let r2 = Rows.token r1 c.in_ok-opening.ensures.found in
    let r3 = Rows.found r2 c.in_ok-first.ensures.gives in
    let r4 = Rows.found r3 c.in_ok-condition.ensures.gives in
    let r5 = Rows.token r4 c.in_ok-semicolon.ensures.found in
    let r6 = Rows.found r5 c.in_ok-step.ensures.gives in
    let r7 = Rows.token r6 c.in_ok-close.ensures.found in
    let r8 = Rows.found r7 c.in_ok-body.ensures.gives in
    let s0 = c.in_ok-word.ensures.found.stands in
    let s1 = c.in_ok-first.ensures.gives.shape in
    let s2 = c.in_ok-condition.ensures.gives.shape in
    let s3 = c.in_ok-step.ensures.gives.shape in
    let s4 = c.in_ok-body.ensures.gives.shape in
    Rows.finish (λ parts. shapes.stmt_of (tables.Node forms.ForRow parts)) _ r8 (vectors.same_five trees.For s0 (s1 ∙ ap views.for_tree (sym (c.into_inner.ensures ∙ c.in_ok-start.ensures.ok))) (s2 ∙ sym c.unboxed.ensures) (s3 ∙ sym c.unboxed-2.ensures) s4)

pub read_switch-returns-in_err-word-clause-gives : goal.read_switch-returns-in_err-word-clause-gives
read_switch-returns-in_err-word-clause-gives t c =
    let r0 = Rows.start (forms.symbols_of forms.SwitchRow) c.args.room (leaves_of c.args.tokens.now) in
    let p = err_from_is_err_and c.from_residual.result c.from_residual.ensures.1 in
    rw (p.1, p.2) (Rows.unfit_at _ r0 c.in_err-word.ensures.none c.in_err-word.ensures.misfit)

pub read_switch-returns-in_err-opening-clause-gives : goal.read_switch-returns-in_err-opening-clause-gives
read_switch-returns-in_err-opening-clause-gives t c =
    let r0 = Rows.start (forms.symbols_of forms.SwitchRow) c.args.room (leaves_of c.args.tokens.now) in
    let r1 = Rows.token r0 c.in_ok-word.ensures.found in
    let p = err_from_is_err_and c.from_residual-in_err-opening.result c.from_residual-in_err-opening.ensures.1 in
    rw (p.1, p.2) (Rows.unfit_at _ r1 c.in_err-opening.ensures.none c.in_err-opening.ensures.misfit)

pub read_switch-returns-in_err-value-clause-gives : goal.read_switch-returns-in_err-value-clause-gives
read_switch-returns-in_err-value-clause-gives t c =
    let r0 = Rows.start (forms.symbols_of forms.SwitchRow) c.args.room (leaves_of c.args.tokens.now) in
    let r1 = Rows.token r0 c.in_ok-word.ensures.found in
    let r2 = Rows.token r1 c.in_ok-opening.ensures.found in
    let p = err_from_is_err_and c.from_residual-in_err-value.result c.from_residual-in_err-value.ensures.1 in
    rw (p.1, p.2) (Rows.part_at _ r2 c.in_err-value.ensures.gives)

pub read_switch-returns-in_err-close-clause-gives : goal.read_switch-returns-in_err-close-clause-gives
read_switch-returns-in_err-close-clause-gives t c =
    let r0 = Rows.start (forms.symbols_of forms.SwitchRow) c.args.room (leaves_of c.args.tokens.now) in
    let r1 = Rows.token r0 c.in_ok-word.ensures.found in
    let r2 = Rows.token r1 c.in_ok-opening.ensures.found in
    let r3 = Rows.read r2 c.in_ok-value.ensures.gives in
    let p = err_from_is_err_and c.from_residual-in_err-close.result c.from_residual-in_err-close.ensures.1 in
    rw (p.1, p.2) (Rows.unfit_at _ r3 c.in_err-close.ensures.none c.in_err-close.ensures.misfit)

pub read_switch-returns-in_err-brace-clause-gives : goal.read_switch-returns-in_err-brace-clause-gives
read_switch-returns-in_err-brace-clause-gives t c =
    let r0 = Rows.start (forms.symbols_of forms.SwitchRow) c.args.room (leaves_of c.args.tokens.now) in
    let r1 = Rows.token r0 c.in_ok-word.ensures.found in
    let r2 = Rows.token r1 c.in_ok-opening.ensures.found in
    let r3 = Rows.read r2 c.in_ok-value.ensures.gives in
    let r4 = Rows.token r3 c.in_ok-close.ensures.found in
    let p = err_from_is_err_and c.from_residual-in_err-brace.result c.from_residual-in_err-brace.ensures.1 in
    rw (p.1, p.2) (Rows.unfit_at _ r4 c.in_err-brace.ensures.none c.in_err-brace.ensures.misfit)

pub read_switch-returns-in_err-items-clause-gives : goal.read_switch-returns-in_err-items-clause-gives
read_switch-returns-in_err-items-clause-gives t c =
    let r0 = Rows.start (forms.symbols_of forms.SwitchRow) c.args.room (leaves_of c.args.tokens.now) in
    let r1 = Rows.token r0 c.in_ok-word.ensures.found in
    let r2 = Rows.token r1 c.in_ok-opening.ensures.found in
    let r3 = Rows.read r2 c.in_ok-value.ensures.gives in
    let r4 = Rows.token r3 c.in_ok-close.ensures.found in
    let r5 = Rows.token r4 c.in_ok-brace.ensures.found in
    let p = err_from_is_err_and c.from_residual-in_err-items.result c.from_residual-in_err-items.ensures.1 in
    rw (p.1, p.2) (Rows.part_at _ r5 c.in_err-items.ensures.gives)

pub read_switch-returns-clause-gives : goal.read_switch-returns-clause-gives
read_switch-returns-clause-gives t c =
    let r0 = Rows.start (forms.symbols_of forms.SwitchRow) c.args.room (leaves_of c.args.tokens.now) in
    let r1 = Rows.token r0 c.in_ok-word.ensures.found in
    let r2 = Rows.token r1 c.in_ok-opening.ensures.found in
    let r3 = Rows.read r2 c.in_ok-value.ensures.gives in
    let r4 = Rows.token r3 c.in_ok-close.ensures.found in
    let r5 = Rows.token r4 c.in_ok-brace.ensures.found in
    let r6 = Rows.found r5 c.in_ok-items.ensures.gives in
    let s0 = c.in_ok-word.ensures.found.stands in
    let s1 = c.in_ok-value.ensures.gives.shape in
    let s2 = c.in_ok-items.ensures.gives.shape in
    Rows.finish (λ parts. shapes.stmt_of (tables.Node forms.SwitchRow parts)) _ r6 (Rows.same_three trees.Switch s0 (s1 ∙ ap views.expr_tree (sym c.into_inner.ensures)) (s2 ∙ vectors.switch_tree-vec c.in_ok-items.items.value))

pub read_block_items-loop-items-init : goal.read_block_items-loop-items-init
read_block_items-loop-items-init t c =
    record { listed = Rows.listed_from _ _ _ _ _ _ _ c.new-items.ensures.items; within = omega arith }

pub read_block_items-returns-in_err-next-clause-gives : goal.read_block_items-returns-in_err-next-clause-gives
read_block_items-returns-in_err-next-clause-gives t c =
    let p = err_from_is_err_and c.from_residual.result c.from_residual.ensures.1 in
    rw (p.1, p.2) (Rows.listed_fails _ c.loop-items.invariant.listed c.in_err-next.ensures.gives)

pub read_block_items-loop-items-smaller : goal.read_block_items-loop-items-smaller
read_block_items-loop-items-smaller t c =
    omega (arith, c.in_ok-next.ensures.shorter)

pub read_block_items-returns-in-None-clause-shorter : goal.read_block_items-returns-in-None-clause-shorter
read_block_items-returns-in-None-clause-shorter t c =
    omega (arith, c.in_ok-next.ensures.shorter)

pub read_block_items-loop-items-preserved : goal.read_block_items-loop-items-preserved
read_block_items-loop-items-preserved t c =
    record { listed = Rows.listed_next _ _ _ _ _ c.loop-items.invariant.listed (c.in_ok-push-in-Some.ensures.items ∙ ap (λ v. c.loop-items.items.items ++ v ∷ []) c.in-Some.item-is) c.in-Some.is c.in_ok-next.ensures.gives; within = omega (arith, c.in_ok-next.ensures.shorter) }

pub read_block_items-returns-in-None-clause-gives : goal.read_block_items-returns-in-None-clause-gives
read_block_items-returns-in-None-clause-gives t c =
    Rows.listed_end _ _ _ c.loop-items.invariant.listed c.in-None.is c.in_ok-next.ensures.gives

pub read_switch_items-loop-items-init : goal.read_switch_items-loop-items-init
read_switch_items-loop-items-init t c =
    record { listed = Rows.listed_from _ _ _ _ _ _ _ c.new-items.ensures.items; within = omega arith }

pub read_switch_items-returns-in_err-next-clause-gives : goal.read_switch_items-returns-in_err-next-clause-gives
read_switch_items-returns-in_err-next-clause-gives t c =
    let p = err_from_is_err_and c.from_residual.result c.from_residual.ensures.1 in
    rw (p.1, p.2) (Rows.listed_fails _ c.loop-items.invariant.listed c.in_err-next.ensures.gives)

pub read_switch_items-loop-items-smaller : goal.read_switch_items-loop-items-smaller
read_switch_items-loop-items-smaller t c =
    omega (arith, c.in_ok-next.ensures.shorter)

pub read_switch_items-returns-in-None-clause-shorter : goal.read_switch_items-returns-in-None-clause-shorter
read_switch_items-returns-in-None-clause-shorter t c =
    omega (arith, c.in_ok-next.ensures.shorter)

pub read_switch_items-loop-items-preserved : goal.read_switch_items-loop-items-preserved
read_switch_items-loop-items-preserved t c =
    record { listed = Rows.listed_next _ _ _ _ _ c.loop-items.invariant.listed (c.in_ok-push-in-Some.ensures.items ∙ ap (λ v. c.loop-items.items.items ++ v ∷ []) c.in-Some.item-is) c.in-Some.is c.in_ok-next.ensures.gives; within = omega (arith, c.in_ok-next.ensures.shorter) }

pub read_switch_items-returns-in-None-clause-gives : goal.read_switch_items-returns-in-None-clause-gives
read_switch_items-returns-in-None-clause-gives t c =
    Rows.listed_end _ _ _ c.loop-items.invariant.listed c.in-None.is c.in_ok-next.ensures.gives

pub read_block_item-returns-in_err-first_kind-clause-gives : goal.read_block_item-returns-in_err-first_kind-clause-gives
read_block_item-returns-in_err-first_kind-clause-gives t c =
    let p = err_from_is_err_and c.from_residual.result c.from_residual.ensures.1 in
    rw (p.1, p.2) (Rows.empty_fails _ _ _ _ c.in_err-first_kind.ensures.none c.in_err-first_kind.ensures.misfit)

pub read_block_item-returns-in_err-end-in-Some-End-clause-gives : goal.read_block_item-returns-in_err-end-in-Some-End-clause-gives
read_block_item-returns-in_err-end-in-Some-End-clause-gives t c =
    let r0 = Rows.begin {below = c.args.room} record { kind = _; begins = c.in_ok-first_kind.ensures.found; tells = Rows.tells_at stmts.block_form c.in-Some-End.ensures c.in-Some-End.field-0-is; fits = omega arith; down = omega arith; ends = record { ends = λ own kind. refl } } in
    let p = err_from_is_err_and c.from_residual-in_err-end-in-Some-End.result c.from_residual-in_err-end-in-Some-End.ensures.1 in
    rw (p.1, p.2) (Rows.unfit_at _ r0 c.in_err-end-in-Some-End.ensures.none c.in_err-end-in-Some-End.ensures.misfit)

pub read_block_item-returns-in_ok-end-in-Some-End-clause-gives : goal.read_block_item-returns-in_ok-end-in-Some-End-clause-gives
read_block_item-returns-in_ok-end-in-Some-End-clause-gives t c =
    let r0 = Rows.begin {below = c.args.room} record { kind = _; begins = c.in_ok-first_kind.ensures.found; tells = Rows.tells_at stmts.block_form c.in-Some-End.ensures c.in-Some-End.field-0-is; fits = omega arith; down = omega arith; ends = record { ends = λ own kind. refl } } in
    let r1 = Rows.token r0 c.in_ok-end-in-Some-End.ensures.found in
    Rows.finish shapes.block_of _ r1 (refl)

pub read_block_item-returns-in_err-has_room-in-Some-Declaration-clause-gives : goal.read_block_item-returns-in_err-has_room-in-Some-Declaration-clause-gives
read_block_item-returns-in_err-has_room-in-Some-Declaration-clause-gives t c =
    let p = err_from_is_err_and c.from_residual-in_err-has_room-in-Some-Declaration.result c.from_residual-in_err-has_room-in-Some-Declaration.ensures.1 in
    rw (p.1, p.2) (Rows.deep_fails _ c.in_ok-first_kind.ensures.found (Rows.tells_at stmts.block_form c.in-Some-Declaration.ensures c.in-Some-Declaration.field-0-is) c.in_err-has_room-in-Some-Declaration.ensures.none c.in_err-has_room-in-Some-Declaration.ensures.deep)

pub read_block_item-returns-in_err-declaration-in-Some-Declaration-clause-gives : goal.read_block_item-returns-in_err-declaration-in-Some-Declaration-clause-gives
read_block_item-returns-in_err-declaration-in-Some-Declaration-clause-gives t c =
    let r0 = Rows.begin {below = c.args.room} record { kind = _; begins = c.in_ok-first_kind.ensures.found; tells = Rows.tells_at stmts.block_form c.in-Some-Declaration.ensures c.in-Some-Declaration.field-0-is; fits = c.in_ok-has_room-in-Some-Declaration.ensures.fits; down = omega arith; ends = record { ends = λ own kind. refl } } in
    let p = err_from_is_err_and c.from_residual-in_err-declaration-in-Some-Declaration.result c.from_residual-in_err-declaration-in-Some-Declaration.ensures.1 in
    rw (p.1, p.2) (Rows.part_at _ r0 c.in_err-declaration-in-Some-Declaration.ensures.gives)

pub read_block_item-returns-in_ok-declaration-in-Some-Declaration-clause-gives : goal.read_block_item-returns-in_ok-declaration-in-Some-Declaration-clause-gives
read_block_item-returns-in_ok-declaration-in-Some-Declaration-clause-gives t c =
    let r0 = Rows.begin {below = c.args.room} record { kind = _; begins = c.in_ok-first_kind.ensures.found; tells = Rows.tells_at stmts.block_form c.in-Some-Declaration.ensures c.in-Some-Declaration.field-0-is; fits = c.in_ok-has_room-in-Some-Declaration.ensures.fits; down = omega arith; ends = record { ends = λ own kind. refl } } in
    let r1 = Rows.found r0 c.in_ok-declaration-in-Some-Declaration.ensures.gives in
    let s0 = c.in_ok-declaration-in-Some-Declaration.ensures.gives.shape in
    Rows.leads shapes.block_of _ shapes.block_of r1 refl (λ parse. ap (λ d. trees.Declare d (shapes.block_of parse)) s0)

pub read_block_item-returns-in_err-has_room-in-Some-Statement-clause-gives : goal.read_block_item-returns-in_err-has_room-in-Some-Statement-clause-gives
read_block_item-returns-in_err-has_room-in-Some-Statement-clause-gives t c =
    let p = err_from_is_err_and c.from_residual-in_err-has_room-in-Some-Statement.result c.from_residual-in_err-has_room-in-Some-Statement.ensures.1 in
    rw (p.1, p.2) (Rows.deep_fails _ c.in_ok-first_kind.ensures.found (Rows.tells_at stmts.block_form c.in-Some-Statement.ensures c.in-Some-Statement.field-0-is) c.in_err-has_room-in-Some-Statement.ensures.none c.in_err-has_room-in-Some-Statement.ensures.deep)

pub read_block_item-returns-in_err-stmt-in-Some-Statement-clause-gives : goal.read_block_item-returns-in_err-stmt-in-Some-Statement-clause-gives
read_block_item-returns-in_err-stmt-in-Some-Statement-clause-gives t c =
    let r0 = Rows.begin {below = c.args.room} record { kind = _; begins = c.in_ok-first_kind.ensures.found; tells = Rows.tells_at stmts.block_form c.in-Some-Statement.ensures c.in-Some-Statement.field-0-is; fits = c.in_ok-has_room-in-Some-Statement.ensures.fits; down = omega arith; ends = record { ends = λ own kind. refl } } in
    let p = err_from_is_err_and c.from_residual-in_err-stmt-in-Some-Statement.result c.from_residual-in_err-stmt-in-Some-Statement.ensures.1 in
    rw (p.1, p.2) (Rows.part_at _ r0 c.in_err-stmt-in-Some-Statement.ensures.gives)

pub read_block_item-returns-in_ok-stmt-in-Some-Statement-clause-gives : goal.read_block_item-returns-in_ok-stmt-in-Some-Statement-clause-gives
read_block_item-returns-in_ok-stmt-in-Some-Statement-clause-gives t c =
    let r0 = Rows.begin {below = c.args.room} record { kind = _; begins = c.in_ok-first_kind.ensures.found; tells = Rows.tells_at stmts.block_form c.in-Some-Statement.ensures c.in-Some-Statement.field-0-is; fits = c.in_ok-has_room-in-Some-Statement.ensures.fits; down = omega arith; ends = record { ends = λ own kind. refl } } in
    let r1 = Rows.found r0 c.in_ok-stmt-in-Some-Statement.ensures.gives in
    let s0 = c.in_ok-stmt-in-Some-Statement.ensures.gives.shape in
    Rows.leads shapes.block_of _ shapes.block_of r1 refl (λ parse. ap (λ d. trees.Perform d (shapes.block_of parse)) (s0 ∙ ap views.stmt_tree (sym c.into_inner.ensures)))

pub read_block_item-returns-in-None-clause-gives : goal.read_block_item-returns-in-None-clause-gives
read_block_item-returns-in-None-clause-gives t c =
    Rows.none_fails _ _ c.in_ok-first_kind.ensures.found c.in-None.ensures c.first_place.ensures

pub read_switch_item-returns-in_err-first_kind-clause-gives : goal.read_switch_item-returns-in_err-first_kind-clause-gives
read_switch_item-returns-in_err-first_kind-clause-gives t c =
    let p = err_from_is_err_and c.from_residual.result c.from_residual.ensures.1 in
    rw (p.1, p.2) (Rows.empty_fails _ _ _ _ c.in_err-first_kind.ensures.none c.in_err-first_kind.ensures.misfit)

pub read_switch_item-returns-in_err-end-in-Some-End-clause-gives : goal.read_switch_item-returns-in_err-end-in-Some-End-clause-gives
read_switch_item-returns-in_err-end-in-Some-End-clause-gives t c =
    let r0 = Rows.begin {below = c.args.room} record { kind = _; begins = c.in_ok-first_kind.ensures.found; tells = Rows.tells_at stmts.switch_form c.in-Some-End.ensures c.in-Some-End.field-0-is; fits = omega arith; down = omega arith; ends = record { ends = λ own kind. refl } } in
    let p = err_from_is_err_and c.from_residual-in_err-end-in-Some-End.result c.from_residual-in_err-end-in-Some-End.ensures.1 in
    rw (p.1, p.2) (Rows.unfit_at _ r0 c.in_err-end-in-Some-End.ensures.none c.in_err-end-in-Some-End.ensures.misfit)

pub read_switch_item-returns-in_ok-end-in-Some-End-clause-gives : goal.read_switch_item-returns-in_ok-end-in-Some-End-clause-gives
read_switch_item-returns-in_ok-end-in-Some-End-clause-gives t c =
    let r0 = Rows.begin {below = c.args.room} record { kind = _; begins = c.in_ok-first_kind.ensures.found; tells = Rows.tells_at stmts.switch_form c.in-Some-End.ensures c.in-Some-End.field-0-is; fits = omega arith; down = omega arith; ends = record { ends = λ own kind. refl } } in
    let r1 = Rows.token r0 c.in_ok-end-in-Some-End.ensures.found in
    Rows.finish shapes.switch_of _ r1 (refl)

pub read_switch_item-returns-in_err-has_room-in-Some-Case-clause-gives : goal.read_switch_item-returns-in_err-has_room-in-Some-Case-clause-gives
read_switch_item-returns-in_err-has_room-in-Some-Case-clause-gives t c =
    let p = err_from_is_err_and c.from_residual-in_err-has_room-in-Some-Case.result c.from_residual-in_err-has_room-in-Some-Case.ensures.1 in
    rw (p.1, p.2) (Rows.deep_fails _ c.in_ok-first_kind.ensures.found (Rows.tells_at stmts.switch_form c.in-Some-Case.ensures c.in-Some-Case.field-0-is) c.in_err-has_room-in-Some-Case.ensures.none c.in_err-has_room-in-Some-Case.ensures.deep)

pub read_switch_item-returns-in_ok-has_room-in-Some-Case-clause-gives : goal.read_switch_item-returns-in_ok-has_room-in-Some-Case-clause-gives
read_switch_item-returns-in_ok-has_room-in-Some-Case-clause-gives t c =
    Rows.element_whole shapes.switch_of braces.switch_before _ _ shapes.switch_of _ record { kind = _; begins = c.in_ok-first_kind.ensures.found; tells = Rows.tells_at stmts.switch_form c.in-Some-Case.ensures c.in-Some-Case.field-0-is; fits = c.in_ok-has_room-in-Some-Case.ensures.fits; down = omega arith; ends = record { ends = λ own kind. refl } } c.read_case.ensures.gives

pub read_switch_item-returns-in-Some-Default-clause-gives : goal.read_switch_item-returns-in-Some-Default-clause-gives
read_switch_item-returns-in-Some-Default-clause-gives t c =
    Rows.element_whole shapes.switch_of braces.switch_before _ _ shapes.switch_of _ record { kind = _; begins = c.in_ok-first_kind.ensures.found; tells = Rows.tells_at stmts.switch_form c.in-Some-Default.ensures c.in-Some-Default.field-0-is; fits = omega arith; down = omega arith; ends = record { ends = λ own kind. refl } } c.read_default.ensures.gives

pub read_switch_item-returns-in_err-has_room-in-Some-Statement-clause-gives : goal.read_switch_item-returns-in_err-has_room-in-Some-Statement-clause-gives
read_switch_item-returns-in_err-has_room-in-Some-Statement-clause-gives t c =
    let p = err_from_is_err_and c.from_residual-in_err-has_room-in-Some-Statement.result c.from_residual-in_err-has_room-in-Some-Statement.ensures.1 in
    rw (p.1, p.2) (Rows.deep_fails _ c.in_ok-first_kind.ensures.found (Rows.tells_at stmts.switch_form c.in-Some-Statement.ensures c.in-Some-Statement.field-0-is) c.in_err-has_room-in-Some-Statement.ensures.none c.in_err-has_room-in-Some-Statement.ensures.deep)

pub read_switch_item-returns-in_err-stmt-in-Some-Statement-clause-gives : goal.read_switch_item-returns-in_err-stmt-in-Some-Statement-clause-gives
read_switch_item-returns-in_err-stmt-in-Some-Statement-clause-gives t c =
    let r0 = Rows.begin {below = c.args.room} record { kind = _; begins = c.in_ok-first_kind.ensures.found; tells = Rows.tells_at stmts.switch_form c.in-Some-Statement.ensures c.in-Some-Statement.field-0-is; fits = c.in_ok-has_room-in-Some-Statement.ensures.fits; down = omega arith; ends = record { ends = λ own kind. refl } } in
    let p = err_from_is_err_and c.from_residual-in_err-stmt-in-Some-Statement.result c.from_residual-in_err-stmt-in-Some-Statement.ensures.1 in
    rw (p.1, p.2) (Rows.part_at _ r0 c.in_err-stmt-in-Some-Statement.ensures.gives)

pub read_switch_item-returns-in_ok-stmt-in-Some-Statement-clause-gives : goal.read_switch_item-returns-in_ok-stmt-in-Some-Statement-clause-gives
read_switch_item-returns-in_ok-stmt-in-Some-Statement-clause-gives t c =
    let r0 = Rows.begin {below = c.args.room} record { kind = _; begins = c.in_ok-first_kind.ensures.found; tells = Rows.tells_at stmts.switch_form c.in-Some-Statement.ensures c.in-Some-Statement.field-0-is; fits = c.in_ok-has_room-in-Some-Statement.ensures.fits; down = omega arith; ends = record { ends = λ own kind. refl } } in
    let r1 = Rows.found r0 c.in_ok-stmt-in-Some-Statement.ensures.gives in
    let s0 = c.in_ok-stmt-in-Some-Statement.ensures.gives.shape in
    Rows.leads shapes.switch_of _ shapes.switch_of r1 refl (λ parse. ap (λ d. trees.SwitchStmt d (shapes.switch_of parse)) (s0 ∙ ap views.stmt_tree (sym c.into_inner.ensures)))

pub read_switch_item-returns-in-None-clause-gives : goal.read_switch_item-returns-in-None-clause-gives
read_switch_item-returns-in-None-clause-gives t c =
    Rows.none_fails _ _ c.in_ok-first_kind.ensures.found c.in-None.ensures c.first_place.ensures
