use Rattle.std.proofs.Common.{arith, refl, ap, sym, ◌∙◌}
use Rattle.std.proofs.lemmas.Result.{err_from_is_err_and}
use Rattle.c_syntax.specs.Trees as trees
use Rattle.c_syntax.specs.Views as views
use Rattle.c_reader.specs.Shapes as shapes
use Rattle.c_reader.proofs.Reaching as Rows
use Rattle.c_reader.specs.StmtForms as stmts
use Rattle.c_reader.proofs.statement.read_for_first.Goals as goal

pub returns-in_err-first_kind-clause-gives : goal.returns-in_err-first_kind-clause-gives
returns-in_err-first_kind-clause-gives c =
    let p = err_from_is_err_and c.from_residual.result c.from_residual.ensures.1 in
    rw (p.1, p.2) (Rows.empty_fails _ _ _ _ c.in_err-first_kind.ensures.none c.in_err-first_kind.ensures.misfit)

pub returns-in_err-has_room-in-Some-Declaration-clause-gives : goal.returns-in_err-has_room-in-Some-Declaration-clause-gives
returns-in_err-has_room-in-Some-Declaration-clause-gives c =
    let p = err_from_is_err_and c.from_residual-in_err-has_room-in-Some-Declaration.result c.from_residual-in_err-has_room-in-Some-Declaration.ensures.1 in
    rw (p.1, p.2) (Rows.deep_fails _ c.in_ok-first_kind.ensures.found (Rows.tells_at stmts.for_form c.in-Some-Declaration.ensures c.in-Some-Declaration.field-0-is) c.in_err-has_room-in-Some-Declaration.ensures.none c.in_err-has_room-in-Some-Declaration.ensures.deep)

pub returns-in_err-declaration-in-Some-Declaration-clause-gives : goal.returns-in_err-declaration-in-Some-Declaration-clause-gives
returns-in_err-declaration-in-Some-Declaration-clause-gives c =
    let r0 = Rows.begin {below = c.args.room} record { kind = _; begins = c.in_ok-first_kind.ensures.found; tells = Rows.tells_at stmts.for_form c.in-Some-Declaration.ensures c.in-Some-Declaration.field-0-is; fits = c.in_ok-has_room-in-Some-Declaration.ensures.fits; down = omega arith; ends = record { ends = λ own kind. refl } } in
    let p = err_from_is_err_and c.from_residual-in_err-declaration-in-Some-Declaration.result c.from_residual-in_err-declaration-in-Some-Declaration.ensures.1 in
    rw (p.1, p.2) (Rows.part_at _ r0 c.in_err-declaration-in-Some-Declaration.ensures.gives)

pub returns-in_ok-declaration-in-Some-Declaration-clause-gives : goal.returns-in_ok-declaration-in-Some-Declaration-clause-gives
returns-in_ok-declaration-in-Some-Declaration-clause-gives c =
    let r0 = Rows.begin {below = c.args.room} record { kind = _; begins = c.in_ok-first_kind.ensures.found; tells = Rows.tells_at stmts.for_form c.in-Some-Declaration.ensures c.in-Some-Declaration.field-0-is; fits = c.in_ok-has_room-in-Some-Declaration.ensures.fits; down = omega arith; ends = record { ends = λ own kind. refl } } in
    let r1 = Rows.found r0 c.in_ok-declaration-in-Some-Declaration.ensures.gives in
    let s0 = c.in_ok-declaration-in-Some-Declaration.ensures.gives.shape in
    Rows.finish shapes.for_of _ r1 (ap trees.ForDeclaration s0)

pub returns-in_err-semicolon-in-Some-Nothing-clause-gives : goal.returns-in_err-semicolon-in-Some-Nothing-clause-gives
returns-in_err-semicolon-in-Some-Nothing-clause-gives c =
    let r0 = Rows.begin {below = c.args.room} record { kind = _; begins = c.in_ok-first_kind.ensures.found; tells = Rows.tells_at stmts.for_form c.in-Some-Nothing.ensures c.in-Some-Nothing.field-0-is; fits = omega arith; down = omega arith; ends = record { ends = λ own kind. refl } } in
    let p = err_from_is_err_and c.from_residual-in_err-semicolon-in-Some-Nothing.result c.from_residual-in_err-semicolon-in-Some-Nothing.ensures.1 in
    rw (p.1, p.2) (Rows.unfit_at _ r0 c.in_err-semicolon-in-Some-Nothing.ensures.none c.in_err-semicolon-in-Some-Nothing.ensures.misfit)

pub returns-in_ok-semicolon-in-Some-Nothing-clause-gives : goal.returns-in_ok-semicolon-in-Some-Nothing-clause-gives
returns-in_ok-semicolon-in-Some-Nothing-clause-gives c =
    let r0 = Rows.begin {below = c.args.room} record { kind = _; begins = c.in_ok-first_kind.ensures.found; tells = Rows.tells_at stmts.for_form c.in-Some-Nothing.ensures c.in-Some-Nothing.field-0-is; fits = omega arith; down = omega arith; ends = record { ends = λ own kind. refl } } in
    let r1 = Rows.token r0 c.in_ok-semicolon-in-Some-Nothing.ensures.found in
    Rows.finish shapes.for_of _ r1 (refl)

pub returns-in_err-has_room-in-Some-Expression-clause-gives : goal.returns-in_err-has_room-in-Some-Expression-clause-gives
returns-in_err-has_room-in-Some-Expression-clause-gives c =
    let p = err_from_is_err_and c.from_residual-in_err-has_room-in-Some-Expression.result c.from_residual-in_err-has_room-in-Some-Expression.ensures.1 in
    rw (p.1, p.2) (Rows.deep_fails _ c.in_ok-first_kind.ensures.found (Rows.tells_at stmts.for_form c.in-Some-Expression.ensures c.in-Some-Expression.field-0-is) c.in_err-has_room-in-Some-Expression.ensures.none c.in_err-has_room-in-Some-Expression.ensures.deep)

pub returns-in_err-value-in-Some-Expression-clause-gives : goal.returns-in_err-value-in-Some-Expression-clause-gives
returns-in_err-value-in-Some-Expression-clause-gives c =
    let r0 = Rows.begin {below = c.args.room} record { kind = _; begins = c.in_ok-first_kind.ensures.found; tells = Rows.tells_at stmts.for_form c.in-Some-Expression.ensures c.in-Some-Expression.field-0-is; fits = c.in_ok-has_room-in-Some-Expression.ensures.fits; down = omega arith; ends = record { ends = λ own kind. refl } } in
    let p = err_from_is_err_and c.from_residual-in_err-value-in-Some-Expression.result c.from_residual-in_err-value-in-Some-Expression.ensures.1 in
    rw (p.1, p.2) (Rows.part_at _ r0 c.in_err-value-in-Some-Expression.ensures.gives)

pub returns-in_err-semicolon-in-Some-Expression-clause-gives : goal.returns-in_err-semicolon-in-Some-Expression-clause-gives
returns-in_err-semicolon-in-Some-Expression-clause-gives c =
    let r0 = Rows.begin {below = c.args.room} record { kind = _; begins = c.in_ok-first_kind.ensures.found; tells = Rows.tells_at stmts.for_form c.in-Some-Expression.ensures c.in-Some-Expression.field-0-is; fits = c.in_ok-has_room-in-Some-Expression.ensures.fits; down = omega arith; ends = record { ends = λ own kind. refl } } in
    let r1 = Rows.read r0 c.in_ok-value-in-Some-Expression.ensures.gives in
    let p = err_from_is_err_and c.from_residual-in_err-semicolon-in-Some-Expression.result c.from_residual-in_err-semicolon-in-Some-Expression.ensures.1 in
    rw (p.1, p.2) (Rows.unfit_at _ r1 c.in_err-semicolon-in-Some-Expression.ensures.none c.in_err-semicolon-in-Some-Expression.ensures.misfit)

pub returns-in_ok-semicolon-in-Some-Expression-clause-gives : goal.returns-in_ok-semicolon-in-Some-Expression-clause-gives
returns-in_ok-semicolon-in-Some-Expression-clause-gives c =
    let r0 = Rows.begin {below = c.args.room} record { kind = _; begins = c.in_ok-first_kind.ensures.found; tells = Rows.tells_at stmts.for_form c.in-Some-Expression.ensures c.in-Some-Expression.field-0-is; fits = c.in_ok-has_room-in-Some-Expression.ensures.fits; down = omega arith; ends = record { ends = λ own kind. refl } } in
    let r1 = Rows.read r0 c.in_ok-value-in-Some-Expression.ensures.gives in
    let r2 = Rows.token r1 c.in_ok-semicolon-in-Some-Expression.ensures.found in
    let s0 = c.in_ok-value-in-Some-Expression.ensures.gives.shape in
    Rows.finish shapes.for_of _ r2 (ap trees.ForExpression (s0 ∙ ap views.expr_tree (sym c.into_inner.ensures)))

pub returns-in-None-clause-gives : goal.returns-in-None-clause-gives
returns-in-None-clause-gives c =
    Rows.none_fails _ _ c.in_ok-first_kind.ensures.found c.in-None.ensures c.first_place.ensures
