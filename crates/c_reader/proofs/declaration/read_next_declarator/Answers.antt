use Rattle.std.proofs.Common.{arith, refl, ap, ◌∷◌}
use Rattle.std.proofs.lemmas.Result.{err_from_is_err_and}
use Rattle.c_reader.specs.Shapes as shapes
use Rattle.c_reader.specs.RowForms as rows
use Rattle.c_reader.proofs.Reaching as Rows
use Rattle.c_reader.proofs.Same.{same_declarator}
use Rattle.c_reader.proofs.declaration.read_next_declarator.Goals as goal

pub returns-in_err-first_kind-clause-gives : goal.returns-in_err-first_kind-clause-gives
returns-in_err-first_kind-clause-gives c =
    let p = err_from_is_err_and c.from_residual.result c.from_residual.ensures.1 in
    rw (p.1, p.2) (Rows.empty_fails _ _ _ _ c.in_err-first_kind.ensures.none c.in_err-first_kind.ensures.misfit)

pub returns-in_err-end-in-Some-End-clause-gives : goal.returns-in_err-end-in-Some-End-clause-gives
returns-in_err-end-in-Some-End-clause-gives c =
    let r0 = Rows.begin {below = c.args.room} record { kind = _; begins = c.in_ok-first_kind.ensures.found; tells = Rows.tells_at rows.declarators_form c.in-Some-End.ensures c.in-Some-End.field-0-is; fits = omega arith; down = omega arith; ends = record { ends = λ own kind. refl } } in
    let p = err_from_is_err_and c.from_residual-in_err-end-in-Some-End.result c.from_residual-in_err-end-in-Some-End.ensures.1 in
    rw (p.1, p.2) (Rows.unfit_at _ r0 c.in_err-end-in-Some-End.ensures.none c.in_err-end-in-Some-End.ensures.misfit)

pub returns-in_ok-end-in-Some-End-clause-gives : goal.returns-in_ok-end-in-Some-End-clause-gives
returns-in_ok-end-in-Some-End-clause-gives c =
    let r0 = Rows.begin {below = c.args.room} record { kind = _; begins = c.in_ok-first_kind.ensures.found; tells = Rows.tells_at rows.declarators_form c.in-Some-End.ensures c.in-Some-End.field-0-is; fits = omega arith; down = omega arith; ends = record { ends = λ own kind. refl } } in
    let r1 = Rows.token r0 c.in_ok-end-in-Some-End.ensures.found in
    Rows.finish shapes.declarators_of _ r1 (refl)

pub returns-in_err-has_room-in-Some-Next-clause-gives : goal.returns-in_err-has_room-in-Some-Next-clause-gives
returns-in_err-has_room-in-Some-Next-clause-gives c =
    let p = err_from_is_err_and c.from_residual-in_err-has_room-in-Some-Next.result c.from_residual-in_err-has_room-in-Some-Next.ensures.1 in
    rw (p.1, p.2) (Rows.deep_fails _ c.in_ok-first_kind.ensures.found (Rows.tells_at rows.declarators_form c.in-Some-Next.ensures c.in-Some-Next.field-0-is) c.in_err-has_room-in-Some-Next.ensures.none c.in_err-has_room-in-Some-Next.ensures.deep)

pub returns-in_err-comma-in-Some-Next-clause-gives : goal.returns-in_err-comma-in-Some-Next-clause-gives
returns-in_err-comma-in-Some-Next-clause-gives c =
    let r0 = Rows.begin {below = c.args.room} record { kind = _; begins = c.in_ok-first_kind.ensures.found; tells = Rows.tells_at rows.declarators_form c.in-Some-Next.ensures c.in-Some-Next.field-0-is; fits = c.in_ok-has_room-in-Some-Next.ensures.fits; down = omega arith; ends = record { ends = λ own kind. refl } } in
    let p = err_from_is_err_and c.from_residual-in_err-comma-in-Some-Next.result c.from_residual-in_err-comma-in-Some-Next.ensures.1 in
    rw (p.1, p.2) (Rows.unfit_at _ r0 c.in_err-comma-in-Some-Next.ensures.none c.in_err-comma-in-Some-Next.ensures.misfit)

pub returns-in_err-declarator-in-Some-Next-clause-gives : goal.returns-in_err-declarator-in-Some-Next-clause-gives
returns-in_err-declarator-in-Some-Next-clause-gives c =
    let r0 = Rows.begin {below = c.args.room} record { kind = _; begins = c.in_ok-first_kind.ensures.found; tells = Rows.tells_at rows.declarators_form c.in-Some-Next.ensures c.in-Some-Next.field-0-is; fits = c.in_ok-has_room-in-Some-Next.ensures.fits; down = omega arith; ends = record { ends = λ own kind. refl } } in
    let r1 = Rows.token r0 c.in_ok-comma-in-Some-Next.ensures.found in
    let p = err_from_is_err_and c.from_residual-in_err-declarator-in-Some-Next.result c.from_residual-in_err-declarator-in-Some-Next.ensures.1 in
    rw (p.1, p.2) (Rows.part_at _ r1 c.in_err-declarator-in-Some-Next.ensures.gives)

pub returns-in_err-init-in-Some-Next-clause-gives : goal.returns-in_err-init-in-Some-Next-clause-gives
returns-in_err-init-in-Some-Next-clause-gives c =
    let r0 = Rows.begin {below = c.args.room} record { kind = _; begins = c.in_ok-first_kind.ensures.found; tells = Rows.tells_at rows.declarators_form c.in-Some-Next.ensures c.in-Some-Next.field-0-is; fits = c.in_ok-has_room-in-Some-Next.ensures.fits; down = omega arith; ends = record { ends = λ own kind. refl } } in
    let r1 = Rows.token r0 c.in_ok-comma-in-Some-Next.ensures.found in
    let r2 = Rows.read r1 c.in_ok-declarator-in-Some-Next.ensures.gives in
    let p = err_from_is_err_and c.from_residual-in_err-init-in-Some-Next.result c.from_residual-in_err-init-in-Some-Next.ensures.1 in
    rw (p.1, p.2) (Rows.part_at _ r2 c.in_err-init-in-Some-Next.ensures.gives)

pub returns-in_ok-init-in-Some-Next-clause-gives : goal.returns-in_ok-init-in-Some-Next-clause-gives
returns-in_ok-init-in-Some-Next-clause-gives c =
    let r0 = Rows.begin {below = c.args.room} record { kind = _; begins = c.in_ok-first_kind.ensures.found; tells = Rows.tells_at rows.declarators_form c.in-Some-Next.ensures c.in-Some-Next.field-0-is; fits = c.in_ok-has_room-in-Some-Next.ensures.fits; down = omega arith; ends = record { ends = λ own kind. refl } } in
    let r1 = Rows.token r0 c.in_ok-comma-in-Some-Next.ensures.found in
    let r2 = Rows.read r1 c.in_ok-declarator-in-Some-Next.ensures.gives in
    let r3 = Rows.found r2 c.in_ok-init-in-Some-Next.ensures.gives in
    let s0 = c.in_ok-declarator-in-Some-Next.ensures.gives.shape in
    let s1 = c.in_ok-init-in-Some-Next.ensures.gives.shape in
    Rows.leads shapes.declarators_of _ shapes.declarators_of r3 refl (λ parse. ap (λ d. d ∷ shapes.declarators_of parse) (same_declarator s0 s1))

pub returns-in-None-clause-gives : goal.returns-in-None-clause-gives
returns-in-None-clause-gives c =
    Rows.none_fails _ _ c.in_ok-first_kind.ensures.found c.in-None.ensures c.first_place.ensures
