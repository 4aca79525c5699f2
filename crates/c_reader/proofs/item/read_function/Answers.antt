use Rattle.std.proofs.Common.{refl, sym, ◌∙◌}
use Rattle.std.proofs.lemmas.Result.{err_from_is_err_and}
use Rattle.c_grammar.specs.Forms as forms
use Rattle.c_syntax.specs.Trees as trees
use Rattle.c_syntax.specs.Views as views
use Rattle.c_reader.specs.Shapes as shapes
use Rattle.c_reader.proofs.Reaching as Rows
use Rattle.c_grammar.specs.Kinds as kinds
use Rattle.c_grammar.specs.declared.kind.Kind.TheVariants as K
use Rattle.c_reader.proofs.SameItems as same
use Rattle.c_reader.proofs.item.read_function.Goals as goal

pub returns-in_err-first_kind-clause-gives : goal.returns-in_err-first_kind-clause-gives
returns-in_err-first_kind-clause-gives c =
    let p = err_from_is_err_and c.from_residual.result c.from_residual.ensures.1 in
    rw (p.1, p.2) (Rows.empty_fails _ _ _ _ c.in_err-first_kind.ensures.none c.in_err-first_kind.ensures.misfit)

pub returns-then-not-is-clause-gives : goal.returns-then-not-is-clause-gives
returns-then-not-is-clause-gives c =
    Rows.none_fails _ _ c.in_ok-first_kind.ensures.found (Rows.tells_none forms.BodyRow (kinds.is _ K.OpenBrace) (sym c.is.ensures ∙ c.if-not-is.true) (λ next. refl)) c.first_place.ensures

pub returns-in_err-below-clause-gives : goal.returns-in_err-below-clause-gives
returns-in_err-below-clause-gives c =
    let p = err_from_is_err_and c.from_residual-in_err-below.result c.from_residual-in_err-below.ensures.1 in
    rw (p.1, p.2) (Rows.deep_fails _ c.in_ok-first_kind.ensures.found (Rows.tells_if forms.BodyRow _ (kinds.is _ K.OpenBrace) (sym c.is.ensures ∙ c.if-not-is.false) (λ next. refl)) c.in_err-below.ensures.none c.in_err-below.ensures.deep)

pub returns-in_err-opening-clause-gives : goal.returns-in_err-opening-clause-gives
returns-in_err-opening-clause-gives c =
    let r0 = Rows.begin record { kind = _; begins = c.in_ok-first_kind.ensures.found; tells = Rows.tells_if forms.BodyRow _ (kinds.is _ K.OpenBrace) (sym c.is.ensures ∙ c.if-not-is.false) (λ next. refl); fits = c.in_ok-below.ensures.fits; down = c.in_ok-below.ensures.found; ends = record { ends = λ own kind. refl } } in
    let p = err_from_is_err_and c.from_residual-in_err-opening.result c.from_residual-in_err-opening.ensures.1 in
    rw (p.1, p.2) (Rows.unfit_at _ r0 c.in_err-opening.ensures.none c.in_err-opening.ensures.misfit)

pub returns-in_err-items-clause-gives : goal.returns-in_err-items-clause-gives
returns-in_err-items-clause-gives c =
    let r0 = Rows.begin record { kind = _; begins = c.in_ok-first_kind.ensures.found; tells = Rows.tells_if forms.BodyRow _ (kinds.is _ K.OpenBrace) (sym c.is.ensures ∙ c.if-not-is.false) (λ next. refl); fits = c.in_ok-below.ensures.fits; down = c.in_ok-below.ensures.found; ends = record { ends = λ own kind. refl } } in
    let r1 = Rows.token r0 c.in_ok-opening.ensures.found in
    let p = err_from_is_err_and c.from_residual-in_err-items.result c.from_residual-in_err-items.ensures.1 in
    rw (p.1, p.2) (Rows.part_at _ r1 c.in_err-items.ensures.gives)

pub returns-clause-gives : goal.returns-clause-gives
returns-clause-gives c =
    let r0 = Rows.begin record { kind = _; begins = c.in_ok-first_kind.ensures.found; tells = Rows.tells_if forms.BodyRow _ (kinds.is _ K.OpenBrace) (sym c.is.ensures ∙ c.if-not-is.false) (λ next. refl); fits = c.in_ok-below.ensures.fits; down = c.in_ok-below.ensures.found; ends = record { ends = λ own kind. refl } } in
    let r1 = Rows.token r0 c.in_ok-opening.ensures.found in
    let r2 = Rows.found r1 c.in_ok-items.ensures.gives in
    let s0 = c.in_ok-opening.ensures.found.stands in
    let s1 = c.in_ok-items.ensures.gives.shape in
    Rows.finish (shapes.body_of (views.base_tree c.args.base.value) (views.declarator_tree c.args.declarator.value)) _ r2 (Rows.same_two (trees.Function (views.base_tree c.args.base.value) (views.declarator_tree c.args.declarator.value)) s0 (s1 ∙ same.block_of-folds c.in_ok-items.items.value.items) ∙ Rows.same_two (λ b d. trees.Function (views.base_tree b) (views.declarator_tree d) c.in_ok-opening.opening.place (views.block_of c.in_ok-items.items.value.items)) (sym c.into_inner.ensures) (sym c.into_inner-2.ensures))
