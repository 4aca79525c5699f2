use Rattle.std.proofs.Common.{arith, refl, ap, sym, ◌∙◌, Some}
use Rattle.std.proofs.lemmas.Result.{err_from_is_err_and}
use Rattle.c_syntax.specs.Views as views
use Rattle.c_reader.specs.Shapes as shapes
use Rattle.c_reader.proofs.Reaching as Rows
use Rattle.c_reader.specs.StmtForms as stmts
use Rattle.c_reader.proofs.statement.read_return_value.Goals as goal

pub returns-in_err-first_kind-clause-gives : goal.returns-in_err-first_kind-clause-gives
returns-in_err-first_kind-clause-gives c =
    let p = err_from_is_err_and c.from_residual.result c.from_residual.ensures.1 in
    rw (p.1, p.2) (Rows.empty_fails _ _ _ _ c.in_err-first_kind.ensures.none c.in_err-first_kind.ensures.misfit)

pub returns-in_err-semicolon-in-Some-Nothing-clause-gives : goal.returns-in_err-semicolon-in-Some-Nothing-clause-gives
returns-in_err-semicolon-in-Some-Nothing-clause-gives c =
    let r0 = Rows.begin {below = c.args.room} record { kind = _; begins = c.in_ok-first_kind.ensures.found; tells = Rows.tells_at stmts.return_form c.in-Some-Nothing.ensures c.in-Some-Nothing.field-0-is; fits = omega arith; down = omega arith; ends = record { ends = λ own kind. refl } } in
    let p = err_from_is_err_and c.from_residual-in_err-semicolon-in-Some-Nothing.result c.from_residual-in_err-semicolon-in-Some-Nothing.ensures.1 in
    rw (p.1, p.2) (Rows.unfit_at _ r0 c.in_err-semicolon-in-Some-Nothing.ensures.none c.in_err-semicolon-in-Some-Nothing.ensures.misfit)

pub returns-in_ok-semicolon-in-Some-Nothing-clause-gives : goal.returns-in_ok-semicolon-in-Some-Nothing-clause-gives
returns-in_ok-semicolon-in-Some-Nothing-clause-gives c =
    let r0 = Rows.begin {below = c.args.room} record { kind = _; begins = c.in_ok-first_kind.ensures.found; tells = Rows.tells_at stmts.return_form c.in-Some-Nothing.ensures c.in-Some-Nothing.field-0-is; fits = omega arith; down = omega arith; ends = record { ends = λ own kind. refl } } in
    let r1 = Rows.token r0 c.in_ok-semicolon-in-Some-Nothing.ensures.found in
    Rows.finish shapes.value_of _ r1 (refl)

pub returns-in_err-has_room-in-Some-Value-clause-gives : goal.returns-in_err-has_room-in-Some-Value-clause-gives
returns-in_err-has_room-in-Some-Value-clause-gives c =
    let p = err_from_is_err_and c.from_residual-in_err-has_room-in-Some-Value.result c.from_residual-in_err-has_room-in-Some-Value.ensures.1 in
    rw (p.1, p.2) (Rows.deep_fails _ c.in_ok-first_kind.ensures.found (Rows.tells_at stmts.return_form c.in-Some-Value.ensures c.in-Some-Value.field-0-is) c.in_err-has_room-in-Some-Value.ensures.none c.in_err-has_room-in-Some-Value.ensures.deep)

pub returns-in_err-value-in-Some-Value-clause-gives : goal.returns-in_err-value-in-Some-Value-clause-gives
returns-in_err-value-in-Some-Value-clause-gives c =
    let r0 = Rows.begin {below = c.args.room} record { kind = _; begins = c.in_ok-first_kind.ensures.found; tells = Rows.tells_at stmts.return_form c.in-Some-Value.ensures c.in-Some-Value.field-0-is; fits = c.in_ok-has_room-in-Some-Value.ensures.fits; down = omega arith; ends = record { ends = λ own kind. refl } } in
    let p = err_from_is_err_and c.from_residual-in_err-value-in-Some-Value.result c.from_residual-in_err-value-in-Some-Value.ensures.1 in
    rw (p.1, p.2) (Rows.part_at _ r0 c.in_err-value-in-Some-Value.ensures.gives)

pub returns-in_err-semicolon-in-Some-Value-clause-gives : goal.returns-in_err-semicolon-in-Some-Value-clause-gives
returns-in_err-semicolon-in-Some-Value-clause-gives c =
    let r0 = Rows.begin {below = c.args.room} record { kind = _; begins = c.in_ok-first_kind.ensures.found; tells = Rows.tells_at stmts.return_form c.in-Some-Value.ensures c.in-Some-Value.field-0-is; fits = c.in_ok-has_room-in-Some-Value.ensures.fits; down = omega arith; ends = record { ends = λ own kind. refl } } in
    let r1 = Rows.read r0 c.in_ok-value-in-Some-Value.ensures.gives in
    let p = err_from_is_err_and c.from_residual-in_err-semicolon-in-Some-Value.result c.from_residual-in_err-semicolon-in-Some-Value.ensures.1 in
    rw (p.1, p.2) (Rows.unfit_at _ r1 c.in_err-semicolon-in-Some-Value.ensures.none c.in_err-semicolon-in-Some-Value.ensures.misfit)

pub returns-in_ok-semicolon-in-Some-Value-clause-gives : goal.returns-in_ok-semicolon-in-Some-Value-clause-gives
returns-in_ok-semicolon-in-Some-Value-clause-gives c =
    let r0 = Rows.begin {below = c.args.room} record { kind = _; begins = c.in_ok-first_kind.ensures.found; tells = Rows.tells_at stmts.return_form c.in-Some-Value.ensures c.in-Some-Value.field-0-is; fits = c.in_ok-has_room-in-Some-Value.ensures.fits; down = omega arith; ends = record { ends = λ own kind. refl } } in
    let r1 = Rows.read r0 c.in_ok-value-in-Some-Value.ensures.gives in
    let r2 = Rows.token r1 c.in_ok-semicolon-in-Some-Value.ensures.found in
    let s0 = c.in_ok-value-in-Some-Value.ensures.gives.shape in
    Rows.finish shapes.value_of _ r2 (ap Some (s0 ∙ ap views.expr_tree (sym c.into_inner.ensures)))

pub returns-in-None-clause-gives : goal.returns-in-None-clause-gives
returns-in-None-clause-gives c =
    Rows.none_fails _ _ c.in_ok-first_kind.ensures.found c.in-None.ensures c.first_place.ensures
