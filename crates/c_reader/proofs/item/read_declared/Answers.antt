use Rattle.std.proofs.Common.{arith, refl, ap, sym, ◌∙◌}
use Rattle.std.proofs.lemmas.Result.{err_from_is_err_and}
use Rattle.c_grammar.specs.Table as tables
use Rattle.c_grammar.specs.Forms as forms
use Rattle.c_syntax.specs.Views as views
use Rattle.c_reader.specs.Shapes as shapes
use Rattle.c_reader.proofs.Reaching as Rows
use Rattle.c_grammar.specs.Chooses as chooses
use Rattle.c_reader.specs.ItemLists as before
use Rattle.c_reader.proofs.ItemRows as steps
use Rattle.c_reader.proofs.item.read_declared.Goals as goal

pub returns-in_err-first_kind-clause-gives : goal.returns-in_err-first_kind-clause-gives
returns-in_err-first_kind-clause-gives c =
    let p = err_from_is_err_and c.from_residual.result c.from_residual.ensures.1 in
    rw (p.1, p.2) (Rows.empty_fails _ _ _ _ c.in_err-first_kind.ensures.none c.in_err-first_kind.ensures.misfit)

pub returns-then-not-begins_declarator-clause-gives : goal.returns-then-not-begins_declarator-clause-gives
returns-then-not-begins_declarator-clause-gives c =
    Rows.none_fails _ _ c.in_ok-first_kind.ensures.found (Rows.tells_none forms.DeclaredRow (chooses.begins_declarator c.in_ok-first_kind.field-0) (sym c.begins_declarator.ensures ∙ c.if-not-begins_declarator.true) (λ next. refl)) c.first_place.ensures

pub returns-in_err-has_room-clause-gives : goal.returns-in_err-has_room-clause-gives
returns-in_err-has_room-clause-gives c =
    let p = err_from_is_err_and c.from_residual-in_err-has_room.result c.from_residual-in_err-has_room.ensures.1 in
    rw (p.1, p.2) (Rows.deep_fails _ c.in_ok-first_kind.ensures.found (Rows.tells_if forms.DeclaredRow tables.Never (chooses.begins_declarator c.in_ok-first_kind.field-0) (sym c.begins_declarator.ensures ∙ c.if-not-begins_declarator.false) (λ next. refl)) c.in_err-has_room.ensures.none c.in_err-has_room.ensures.deep)

pub returns-in_err-declarator-clause-gives : goal.returns-in_err-declarator-clause-gives
returns-in_err-declarator-clause-gives c =
    let r0 = Rows.begin {below = c.args.room} record { kind = _; begins = c.in_ok-first_kind.ensures.found; tells = Rows.tells_if forms.DeclaredRow tables.Never (chooses.begins_declarator c.in_ok-first_kind.field-0) (sym c.begins_declarator.ensures ∙ c.if-not-begins_declarator.false) (λ next. refl); fits = c.in_ok-has_room.ensures.fits; down = omega arith; ends = record { ends = λ own kind. refl } } in
    let p = err_from_is_err_and c.from_residual-in_err-declarator.result c.from_residual-in_err-declarator.ensures.1 in
    rw (p.1, p.2) (Rows.part_at _ r0 c.in_err-declarator.ensures.gives)

pub returns-clause-gives : goal.returns-clause-gives
returns-clause-gives c =
    let r0 = Rows.begin {below = c.args.room} record { kind = _; begins = c.in_ok-first_kind.ensures.found; tells = Rows.tells_if forms.DeclaredRow tables.Never (chooses.begins_declarator c.in_ok-first_kind.field-0) (sym c.begins_declarator.ensures ∙ c.if-not-begins_declarator.false) (λ next. refl); fits = c.in_ok-has_room.ensures.fits; down = omega arith; ends = record { ends = λ own kind. refl } } in
    let r1 = Rows.read r0 c.in_ok-declarator.ensures.gives in
    let s0 = c.in_ok-declarator.ensures.gives.shape in
    steps.part_through (shapes.declared_of (views.base_tree c.args.base.value)) (before.after_of (views.base_tree c.args.base.value) (views.declarator_tree c.in_ok-boxed.boxed.value)) views.item_tree _ r1 (λ parse. steps.declared_after (views.base_tree c.args.base.value) _ parse _ (s0 ∙ ap views.declarator_tree (sym c.in_ok-boxed.ensures.ok))) c.read_after_declarator.ensures.gives
