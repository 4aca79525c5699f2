use Rattle.std.proofs.Common.{arith, refl, ap, ◌∙◌, ◌∷◌}
use Rattle.std.proofs.lemmas.Result.{err_from_is_err_and}
use Rattle.c_syntax.specs.Trees as trees
use Rattle.c_syntax.specs.Views as views
use Rattle.c_reader.specs.Shapes as shapes
use Rattle.c_reader.proofs.Reaching as Rows
use Rattle.c_reader.specs.ItemLists as before
use Rattle.c_reader.proofs.item.read_struct.Goals as goal

pub returns-in_err-first_kind-clause-gives : goal.returns-in_err-first_kind-clause-gives
returns-in_err-first_kind-clause-gives c =
    let p = err_from_is_err_and c.from_residual.result c.from_residual.ensures.1 in
    rw (p.1, p.2) (Rows.empty_fails _ _ _ _ c.in_err-first_kind.ensures.none c.in_err-first_kind.ensures.misfit)

pub returns-in_err-has_room-in-Members-clause-gives : goal.returns-in_err-has_room-in-Members-clause-gives
returns-in_err-has_room-in-Members-clause-gives c =
    let p = err_from_is_err_and c.from_residual-in_err-has_room-in-Members.result c.from_residual-in_err-has_room-in-Members.ensures.1 in
    rw (p.1, p.2) (Rows.deep_fails _ c.in_ok-first_kind.ensures.found (c.in-Members.ensures) c.in_err-has_room-in-Members.ensures.none c.in_err-has_room-in-Members.ensures.deep)

pub returns-in_err-opening-in-Members-clause-gives : goal.returns-in_err-opening-in-Members-clause-gives
returns-in_err-opening-in-Members-clause-gives c =
    let r0 = Rows.begin {below = c.args.room} record { kind = _; begins = c.in_ok-first_kind.ensures.found; tells = c.in-Members.ensures; fits = c.in_ok-has_room-in-Members.ensures.fits; down = omega arith; ends = record { ends = λ own kind. refl } } in
    let p = err_from_is_err_and c.from_residual-in_err-opening-in-Members.result c.from_residual-in_err-opening-in-Members.ensures.1 in
    rw (p.1, p.2) (Rows.unfit_at _ r0 c.in_err-opening-in-Members.ensures.none c.in_err-opening-in-Members.ensures.misfit)

pub returns-in_err-first-in-Members-clause-gives : goal.returns-in_err-first-in-Members-clause-gives
returns-in_err-first-in-Members-clause-gives c =
    let r0 = Rows.begin {below = c.args.room} record { kind = _; begins = c.in_ok-first_kind.ensures.found; tells = c.in-Members.ensures; fits = c.in_ok-has_room-in-Members.ensures.fits; down = omega arith; ends = record { ends = λ own kind. refl } } in
    let r1 = Rows.token r0 c.in_ok-opening-in-Members.ensures.found in
    let p = err_from_is_err_and c.from_residual-in_err-first-in-Members.result c.from_residual-in_err-first-in-Members.ensures.1 in
    rw (p.1, p.2) (Rows.part_at _ r1 c.in_err-first-in-Members.ensures.gives)

pub returns-in_err-members-in-Members-clause-gives : goal.returns-in_err-members-in-Members-clause-gives
returns-in_err-members-in-Members-clause-gives c =
    let r0 = Rows.begin {below = c.args.room} record { kind = _; begins = c.in_ok-first_kind.ensures.found; tells = c.in-Members.ensures; fits = c.in_ok-has_room-in-Members.ensures.fits; down = omega arith; ends = record { ends = λ own kind. refl } } in
    let r1 = Rows.token r0 c.in_ok-opening-in-Members.ensures.found in
    let r2 = Rows.found r1 c.in_ok-first-in-Members.ensures.gives in
    let p = err_from_is_err_and c.from_residual-in_err-members-in-Members.result c.from_residual-in_err-members-in-Members.ensures.1 in
    rw (p.1, p.2) (Rows.part_at _ r2 c.in_err-members-in-Members.ensures.gives)

pub returns-in_ok-members-in-Members-clause-gives : goal.returns-in_ok-members-in-Members-clause-gives
returns-in_ok-members-in-Members-clause-gives c =
    let r0 = Rows.begin {below = c.args.room} record { kind = _; begins = c.in_ok-first_kind.ensures.found; tells = c.in-Members.ensures; fits = c.in_ok-has_room-in-Members.ensures.fits; down = omega arith; ends = record { ends = λ own kind. refl } } in
    let r1 = Rows.token r0 c.in_ok-opening-in-Members.ensures.found in
    let r2 = Rows.found r1 c.in_ok-first-in-Members.ensures.gives in
    let r3 = Rows.found r2 c.in_ok-members-in-Members.ensures.gives in
    let s0 = c.in_ok-first-in-Members.ensures.gives.shape in
    let s1 = c.in_ok-members-in-Members.ensures.gives.shape in
    Rows.finish (before.struct_from c.args.place c.args.name) _ r3 (ap (trees.StructBody c.args.place (views.name_tree c.args.name)) (ap (λ d. d ∷ shapes.more_members_of c.in_ok-members-in-Members.ensures.gives.parse) s0 ∙ s1))

pub returns-in-Nothing-clause-gives : goal.returns-in-Nothing-clause-gives
returns-in-Nothing-clause-gives c =
    let r0 = Rows.begin {below = c.args.room} record { kind = _; begins = c.in_ok-first_kind.ensures.found; tells = c.in-Nothing.ensures; fits = omega arith; down = omega arith; ends = record { ends = λ own kind. refl } } in
    Rows.finish (before.struct_from c.args.place c.args.name) _ r0 (refl)
