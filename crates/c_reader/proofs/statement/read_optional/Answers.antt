use Rattle.std.proofs.Common.{arith, refl, ap, Some}
use Rattle.std.proofs.lemmas.Result.{err_from_is_err_and}
use Rattle.c_reader.specs.Shapes as shapes
use Rattle.c_reader.proofs.Reaching as Rows
use Rattle.c_reader.proofs.statement.read_optional.Goals as goal

pub returns-in_err-first_kind-clause-gives : goal.returns-in_err-first_kind-clause-gives
returns-in_err-first_kind-clause-gives c =
    let p = err_from_is_err_and c.from_residual.result c.from_residual.ensures.1 in
    rw (p.1, p.2) (Rows.empty_fails _ _ _ _ c.in_err-first_kind.ensures.none c.in_err-first_kind.ensures.misfit)

pub returns-in_err-has_room-in-Value-clause-gives : goal.returns-in_err-has_room-in-Value-clause-gives
returns-in_err-has_room-in-Value-clause-gives c =
    let p = err_from_is_err_and c.from_residual-in_err-has_room-in-Value.result c.from_residual-in_err-has_room-in-Value.ensures.1 in
    rw (p.1, p.2) (Rows.deep_fails _ c.in_ok-first_kind.ensures.found (c.in-Value.ensures) c.in_err-has_room-in-Value.ensures.none c.in_err-has_room-in-Value.ensures.deep)

pub returns-in_err-value-in-Value-clause-gives : goal.returns-in_err-value-in-Value-clause-gives
returns-in_err-value-in-Value-clause-gives c =
    let r0 = Rows.begin {below = c.args.room} record { kind = _; begins = c.in_ok-first_kind.ensures.found; tells = c.in-Value.ensures; fits = c.in_ok-has_room-in-Value.ensures.fits; down = omega arith; ends = record { ends = λ own kind. refl } } in
    let p = err_from_is_err_and c.from_residual-in_err-value-in-Value.result c.from_residual-in_err-value-in-Value.ensures.1 in
    rw (p.1, p.2) (Rows.part_at _ r0 c.in_err-value-in-Value.ensures.gives)

pub returns-in_ok-value-in-Value-clause-gives : goal.returns-in_ok-value-in-Value-clause-gives
returns-in_ok-value-in-Value-clause-gives c =
    let r0 = Rows.begin {below = c.args.room} record { kind = _; begins = c.in_ok-first_kind.ensures.found; tells = c.in-Value.ensures; fits = c.in_ok-has_room-in-Value.ensures.fits; down = omega arith; ends = record { ends = λ own kind. refl } } in
    let r1 = Rows.read r0 c.in_ok-value-in-Value.ensures.gives in
    let s0 = c.in_ok-value-in-Value.ensures.gives.shape in
    Rows.finish shapes.value_of _ r1 (ap Some s0)

pub returns-in-Nothing-clause-gives : goal.returns-in-Nothing-clause-gives
returns-in-Nothing-clause-gives c =
    let r0 = Rows.begin {below = c.args.room} record { kind = _; begins = c.in_ok-first_kind.ensures.found; tells = c.in-Nothing.ensures; fits = omega arith; down = omega arith; ends = record { ends = λ own kind. refl } } in
    Rows.finish shapes.value_of _ r0 (refl)
