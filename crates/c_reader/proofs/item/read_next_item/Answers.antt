use Rattle.std.proofs.Common.{arith, refl, ap, ◌∷◌}
use Rattle.std.proofs.lemmas.Result.{err_from_is_err_and}
use Rattle.c_reader.specs.Shapes as shapes
use Rattle.c_reader.proofs.Reaching as Rows
use Rattle.c_reader.proofs.item.read_next_item.Goals as goal

pub returns-in_err-first_kind-clause-gives : goal.returns-in_err-first_kind-clause-gives
returns-in_err-first_kind-clause-gives c =
    let p = err_from_is_err_and c.from_residual.result c.from_residual.ensures.1 in
    rw (p.1, p.2) (Rows.empty_fails _ _ _ _ c.in_err-first_kind.ensures.none c.in_err-first_kind.ensures.misfit)

pub returns-in_err-item-in-Item-clause-gives : goal.returns-in_err-item-in-Item-clause-gives
returns-in_err-item-in-Item-clause-gives c =
    let r0 = Rows.begin {below = c.args.room} record { kind = _; begins = c.in_ok-first_kind.ensures.found; tells = c.in-Item.ensures; fits = omega arith; down = omega arith; ends = record { ends = λ own kind. refl } } in
    let p = err_from_is_err_and c.from_residual-in_err-item-in-Item.result c.from_residual-in_err-item-in-Item.ensures.1 in
    rw (p.1, p.2) (Rows.part_at _ r0 c.in_err-item-in-Item.ensures.gives)

pub returns-in_ok-item-in-Item-clause-gives : goal.returns-in_ok-item-in-Item-clause-gives
returns-in_ok-item-in-Item-clause-gives c =
    let r0 = Rows.begin {below = c.args.room} record { kind = _; begins = c.in_ok-first_kind.ensures.found; tells = c.in-Item.ensures; fits = omega arith; down = omega arith; ends = record { ends = λ own kind. refl } } in
    let r1 = Rows.found r0 c.in_ok-item-in-Item.ensures.gives in
    let s0 = c.in_ok-item-in-Item.ensures.gives.shape in
    Rows.leads shapes.items_of _ shapes.items_of r1 refl (λ parse. ap (λ d. d ∷ shapes.items_of parse) s0)

pub returns-in-End-clause-gives : goal.returns-in-End-clause-gives
returns-in-End-clause-gives c =
    let r0 = Rows.begin {below = c.args.room} record { kind = _; begins = c.in_ok-first_kind.ensures.found; tells = c.in-End.ensures; fits = omega arith; down = omega arith; ends = record { ends = λ own kind. refl } } in
    Rows.finish shapes.items_of _ r0 (refl)
