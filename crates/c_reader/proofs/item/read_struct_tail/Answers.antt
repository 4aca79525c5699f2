use Rattle.std.proofs.Common.{arith, refl, ap, sym, ◌∙◌}
use Rattle.std.proofs.lemmas.Result.{err_from_is_err_and}
use Rattle.c_syntax.specs.Trees as trees
use Rattle.c_syntax.specs.Views as views
use Rattle.c_reader.specs.Shapes as shapes
use Rattle.c_reader.proofs.Reaching as Rows
use Rattle.c_reader.specs.ItemForms as items
use Rattle.c_reader.proofs.ItemRows as steps
use Rattle.c_reader.proofs.WordRows as words
use Rattle.std.proofs.Common.{true, map}
use Rattle.run_theory.specs.Places.{first_place}
use Rattle.c_reader.proofs.item.read_struct_tail.Goals as goal

pub returns-in_err-first_kind-clause-gives : goal.returns-in_err-first_kind-clause-gives
returns-in_err-first_kind-clause-gives c =
    let p = err_from_is_err_and c.from_residual.result c.from_residual.ensures.1 in
    rw (p.1, p.2) (Rows.empty_fails _ _ _ _ c.in_err-first_kind.ensures.none c.in_err-first_kind.ensures.misfit)

pub returns-in_err-semicolon-in-Some-Alone-clause-gives : goal.returns-in_err-semicolon-in-Some-Alone-clause-gives
returns-in_err-semicolon-in-Some-Alone-clause-gives c =
    let r0 = Rows.begin {below = c.args.room} record { kind = _; begins = c.in_ok-first_kind.ensures.found; tells = Rows.tells_at items.tail_form c.in-Some-Alone.ensures c.in-Some-Alone.field-0-is; fits = omega arith; down = omega arith; ends = record { ends = λ own kind. refl } } in
    let p = err_from_is_err_and c.from_residual-in_err-semicolon-in-Some-Alone.result c.from_residual-in_err-semicolon-in-Some-Alone.ensures.1 in
    rw (p.1, p.2) (Rows.unfit_at _ r0 c.in_err-semicolon-in-Some-Alone.ensures.none c.in_err-semicolon-in-Some-Alone.ensures.misfit)

pub returns-in_err-has_room-in-Some-Typed-clause-gives : goal.returns-in_err-has_room-in-Some-Typed-clause-gives
returns-in_err-has_room-in-Some-Typed-clause-gives c =
    let p = err_from_is_err_and c.from_residual-in_err-has_room-in-Some-Typed.result c.from_residual-in_err-has_room-in-Some-Typed.ensures.1 in
    rw (p.1, p.2) (Rows.deep_fails _ c.in_ok-first_kind.ensures.found (Rows.tells_at items.tail_form c.in-Some-Typed.ensures c.in-Some-Typed.field-0-is) c.in_err-has_room-in-Some-Typed.ensures.none c.in_err-has_room-in-Some-Typed.ensures.deep)

pub returns-in_err-first_kind-in-Some-Typed-clause-gives : goal.returns-in_err-first_kind-in-Some-Typed-clause-gives
returns-in_err-first_kind-in-Some-Typed-clause-gives c =
    let r0 = Rows.begin {below = c.args.room} record { kind = _; begins = c.in_ok-first_kind.ensures.found; tells = Rows.tells_at items.tail_form c.in-Some-Typed.ensures c.in-Some-Typed.field-0-is; fits = c.in_ok-has_room-in-Some-Typed.ensures.fits; down = omega arith; ends = record { ends = λ own kind. refl } } in
    let p = err_from_is_err_and c.from_residual-in_err-first_kind-in-Some-Typed.result c.from_residual-in_err-first_kind-in-Some-Typed.ensures.1 in
    rw (p.1, p.2) (Rows.part_at _ r0 (words.words_cut c.args.room _ (c.pass_words-consts.ensures.passes true c.args.room) c.in_err-first_kind-in-Some-Typed.ensures.none c.in_err-first_kind-in-Some-Typed.ensures.misfit))

pub returns-in_ok-semicolon-in-Some-Alone-clause-gives : goal.returns-in_ok-semicolon-in-Some-Alone-clause-gives
returns-in_ok-semicolon-in-Some-Alone-clause-gives c =
    let r0 = Rows.begin {below = c.args.room} record { kind = _; begins = c.in_ok-first_kind.ensures.found; tells = Rows.tells_at items.tail_form c.in-Some-Alone.ensures c.in-Some-Alone.field-0-is; fits = omega arith; down = omega arith; ends = record { ends = λ own kind. refl } } in
    let r1 = Rows.token r0 c.in_ok-semicolon-in-Some-Alone.ensures.found in
    Rows.finish (shapes.tail_of (views.base_tree c.args.base.value)) _ r1 (ap (λ declarators. trees.Declaration (views.base_tree c.args.base.value) (map views.init_declarator_tree declarators)) (sym c.new.ensures.items) ∙ ap (λ b. trees.Declaration (views.base_tree b) (map views.init_declarator_tree c.new.result.items)) (sym c.into_inner.ensures))

pub returns-in_ok-first_kind-in-Some-Typed-clause-gives : goal.returns-in_ok-first_kind-in-Some-Typed-clause-gives
returns-in_ok-first_kind-in-Some-Typed-clause-gives c =
    let r0 = Rows.begin {below = c.args.room} record { kind = _; begins = c.in_ok-first_kind.ensures.found; tells = Rows.tells_at items.tail_form c.in-Some-Typed.ensures c.in-Some-Typed.field-0-is; fits = c.in_ok-has_room-in-Some-Typed.ensures.fits; down = omega arith; ends = record { ends = λ own kind. refl } } in
    let r1 = Rows.found r0 (steps.words_behind first_place (c.pass_words-consts.ensures.passes true c.args.room) c.pass_words-consts.ensures.ends c.in_ok-first_kind-in-Some-Typed.ensures.found) in
    steps.part_through (shapes.tail_of (views.base_tree c.args.base.value)) (shapes.declared_of (views.base_tree c.args.base.value)) views.item_tree _ r1 (λ parse. refl) c.read_declared.ensures.gives

pub returns-in-None-clause-gives : goal.returns-in-None-clause-gives
returns-in-None-clause-gives c =
    Rows.none_fails _ _ c.in_ok-first_kind.ensures.found c.in-None.ensures c.first_place.ensures
