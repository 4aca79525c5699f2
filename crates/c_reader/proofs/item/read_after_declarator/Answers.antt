use Rattle.std.proofs.Common.{arith, refl, ap, sym, map, ◌∙◌, ◌∷◌}
use Rattle.std.proofs.lemmas.Result.{err_from_is_err_and}
use Rattle.c_syntax.specs.Trees as trees
use Rattle.c_syntax.specs.Views as views
use Rattle.c_reader.specs.Shapes as shapes
use Rattle.c_reader.proofs.Reaching as Rows
use Rattle.c_reader.specs.ItemForms as items
use Rattle.c_reader.specs.ItemLists as before
use Rattle.c_reader.proofs.ItemRows as steps
use Rattle.c_reader.proofs.SameItems as same
use Rattle.c_reader.proofs.item.read_after_declarator.Goals as goal

pub returns-in_err-first_kind-clause-gives : goal.returns-in_err-first_kind-clause-gives
returns-in_err-first_kind-clause-gives c =
    let p = err_from_is_err_and c.from_residual.result c.from_residual.ensures.1 in
    rw (p.1, p.2) (Rows.empty_fails _ _ _ _ c.in_err-first_kind.ensures.none c.in_err-first_kind.ensures.misfit)

pub returns-in_err-has_room-in-Some-Body-clause-gives : goal.returns-in_err-has_room-in-Some-Body-clause-gives
returns-in_err-has_room-in-Some-Body-clause-gives c =
    let p = err_from_is_err_and c.from_residual-in_err-has_room-in-Some-Body.result c.from_residual-in_err-has_room-in-Some-Body.ensures.1 in
    rw (p.1, p.2) (Rows.deep_fails _ c.in_ok-first_kind.ensures.found (Rows.tells_at items.after_form c.in-Some-Body.ensures c.in-Some-Body.field-0-is) c.in_err-has_room-in-Some-Body.ensures.none c.in_err-has_room-in-Some-Body.ensures.deep)

pub returns-in_ok-has_room-in-Some-Body-clause-gives : goal.returns-in_ok-has_room-in-Some-Body-clause-gives
returns-in_ok-has_room-in-Some-Body-clause-gives c =
    let r0 = Rows.begin {below = c.args.room} record { kind = _; begins = c.in_ok-first_kind.ensures.found; tells = Rows.tells_at items.after_form c.in-Some-Body.ensures c.in-Some-Body.field-0-is; fits = c.in_ok-has_room-in-Some-Body.ensures.fits; down = omega arith; ends = record { ends = λ own kind. refl } } in
    steps.part_through (before.after_of (views.base_tree c.args.base.value) (views.declarator_tree c.args.declarator.value)) (shapes.body_of (views.base_tree c.args.base.value) (views.declarator_tree c.args.declarator.value)) views.item_tree _ r0 (λ parse. refl) c.read_function.ensures.gives

pub returns-in_err-init-in-Some-Values-clause-gives : goal.returns-in_err-init-in-Some-Values-clause-gives
returns-in_err-init-in-Some-Values-clause-gives c =
    let r0 = Rows.begin {below = c.args.room} record { kind = _; begins = c.in_ok-first_kind.ensures.found; tells = Rows.tells_at items.after_form c.in-Some-Values.ensures c.in-Some-Values.field-0-is; fits = omega arith; down = omega arith; ends = record { ends = λ own kind. refl } } in
    let p = err_from_is_err_and c.from_residual-in_err-init-in-Some-Values.result c.from_residual-in_err-init-in-Some-Values.ensures.1 in
    rw (p.1, p.2) (Rows.part_at _ r0 c.in_err-init-in-Some-Values.ensures.gives)

pub returns-in_err-declarators-in-Some-Values-clause-gives : goal.returns-in_err-declarators-in-Some-Values-clause-gives
returns-in_err-declarators-in-Some-Values-clause-gives c =
    let r0 = Rows.begin {below = c.args.room} record { kind = _; begins = c.in_ok-first_kind.ensures.found; tells = Rows.tells_at items.after_form c.in-Some-Values.ensures c.in-Some-Values.field-0-is; fits = omega arith; down = omega arith; ends = record { ends = λ own kind. refl } } in
    let r1 = Rows.found r0 c.in_ok-init-in-Some-Values.ensures.gives in
    let p = err_from_is_err_and c.from_residual-in_err-declarators-in-Some-Values.result c.from_residual-in_err-declarators-in-Some-Values.ensures.1 in
    rw (p.1, p.2) (Rows.part_at _ r1 c.in_err-declarators-in-Some-Values.ensures.gives)

pub returns-in_ok-declarators-in-Some-Values-clause-gives : goal.returns-in_ok-declarators-in-Some-Values-clause-gives
returns-in_ok-declarators-in-Some-Values-clause-gives c =
    let r0 = Rows.begin {below = c.args.room} record { kind = _; begins = c.in_ok-first_kind.ensures.found; tells = Rows.tells_at items.after_form c.in-Some-Values.ensures c.in-Some-Values.field-0-is; fits = omega arith; down = omega arith; ends = record { ends = λ own kind. refl } } in
    let r1 = Rows.found r0 c.in_ok-init-in-Some-Values.ensures.gives in
    let r2 = Rows.found r1 c.in_ok-declarators-in-Some-Values.ensures.gives in
    let s0 = c.in_ok-init-in-Some-Values.ensures.gives.shape in
    let s1 = c.in_ok-declarators-in-Some-Values.ensures.gives.shape in
    Rows.finish (before.after_of (views.base_tree c.args.base.value) (views.declarator_tree c.args.declarator.value)) _ r2 (ap (trees.Declaration (views.base_tree c.args.base.value)) (ap (λ d. same.made (views.declarator_tree d) (shapes.first_value_of c.in_ok-init-in-Some-Values.ensures.gives.parse) ∷ shapes.declarators_of c.in_ok-declarators-in-Some-Values.ensures.gives.parse) (sym c.into_inner.ensures) ∙ ap (λ i. same.made (views.declarator_tree c.into_inner.result) i ∷ shapes.declarators_of c.in_ok-declarators-in-Some-Values.ensures.gives.parse) s0 ∙ s1) ∙ ap (λ b. trees.Declaration (views.base_tree b) (map views.init_declarator_tree c.in_ok-declarators-in-Some-Values.declarators.value.items)) (sym c.into_inner-in-Some-Values.ensures))

pub returns-in-None-clause-gives : goal.returns-in-None-clause-gives
returns-in-None-clause-gives c =
    Rows.none_fails _ _ c.in_ok-first_kind.ensures.found c.in-None.ensures c.first_place.ensures
