use Rattle.std.proofs.Common.{arith, ap, sym, ◌∙◌}
use Rattle.std.proofs.lemmas.Result.{err_from_is_err_and}
use Rattle.c_grammar.specs.Forms as forms
use Rattle.c_reader.specs.declared.syntax_err.SyntaxErr.TheVariants.{At}
use Rattle.c_reader.proofs.Rows.{no_row, no_tokens}
use Rattle.c_reader.proofs.DeclaratorRows as rows
use Rattle.c_reader.proofs.declarator.+declarator.Goals as goal

pub read_declarator-returns-in_err-first_kind-clause-gives : goal.read_declarator-returns-in_err-first_kind-clause-gives
read_declarator-returns-in_err-first_kind-clause-gives t c =
    let p = err_from_is_err_and c.from_residual.result c.from_residual.ensures.1 in
    rw (p.1, p.2) (no_row _ _ (no_tokens (forms.Declarator) 0 c.in_err-first_kind.ensures.none) c.in_err-first_kind.ensures.misfit)

pub read_declarator-returns-then-not-begins_declarator-clause-gives : goal.read_declarator-returns-then-not-begins_declarator-clause-gives
read_declarator-returns-then-not-begins_declarator-clause-gives t c =
    rows.no_declarator _ _ c.in_ok-first_kind.ensures.found (sym c.begins_declarator.ensures ∙ c.if-not-begins_declarator.true) (ap At c.first_place.ensures)

pub read_declarator-returns-in_err-below-clause-gives : goal.read_declarator-returns-in_err-below-clause-gives
read_declarator-returns-in_err-below-clause-gives t c =
    let p = err_from_is_err_and c.from_residual-in_err-below.result c.from_residual-in_err-below.ensures.1 in
    rw (p.1, p.2) (rows.declarator_deep _ _ c.in_ok-first_kind.ensures.found (sym c.begins_declarator.ensures ∙ c.if-not-begins_declarator.false) c.in_err-below.ensures.none c.in_err-below.ensures.deep)

pub read_declarator-returns-in_err-count-clause-gives : goal.read_declarator-returns-in_err-count-clause-gives
read_declarator-returns-in_err-count-clause-gives t c =
    let p = err_from_is_err_and c.from_residual-in_err-count.result c.from_residual-in_err-count.ensures.1 in
    rw (p.1, p.2) (rows.declarator_stars_fault _ _ _ c.in_ok-first_kind.ensures.found (sym c.begins_declarator.ensures ∙ c.if-not-begins_declarator.false) c.in_ok-below.ensures.fits c.in_ok-below.ensures.found (c.in_err-count.ensures.gives c.in_ok-below.below))

pub read_declarator-returns-in_err-direct-clause-gives : goal.read_declarator-returns-in_err-direct-clause-gives
read_declarator-returns-in_err-direct-clause-gives t c =
    let p = err_from_is_err_and c.from_residual-in_err-direct.result c.from_residual-in_err-direct.ensures.1 in
    rw (p.1, p.2) (rows.declarator_fault _ _ _ c.in_ok-first_kind.ensures.found (sym c.begins_declarator.ensures ∙ c.if-not-begins_declarator.false) c.in_ok-below.ensures.fits c.in_ok-below.ensures.found (c.in_ok-count.ensures.gives c.in_ok-below.below) c.in_err-direct.ensures.gives)

pub read_declarator-returns-clause-gives : goal.read_declarator-returns-clause-gives
read_declarator-returns-clause-gives t c =
    rows.declarator_read _ c.in_ok-first_kind.ensures.found (sym c.begins_declarator.ensures ∙ c.if-not-begins_declarator.false) c.in_ok-below.ensures.fits c.in_ok-below.ensures.found (c.in_ok-count.ensures.gives c.in_ok-below.below) c.in_ok-direct.ensures.gives

pub read_declarator-overflow_add-result : goal.read_declarator-overflow_add-result
read_declarator-overflow_add-result t c =
    omega (arith, rows.high_fits c.in_ok-direct.ensures.gives, c.in_ok-below.ensures.found)

pub read_direct-returns-in_err-first_kind-clause-gives : goal.read_direct-returns-in_err-first_kind-clause-gives
read_direct-returns-in_err-first_kind-clause-gives t c =
    let p = err_from_is_err_and c.from_residual.result c.from_residual.ensures.1 in
    rw (p.1, p.2) (no_row _ _ (no_tokens (forms.Direct) 0 c.in_err-first_kind.ensures.none) c.in_err-first_kind.ensures.misfit)

pub read_direct-returns-in-Name-clause-gives : goal.read_direct-returns-in-Name-clause-gives
read_direct-returns-in-Name-clause-gives t c =
    rows.direct_named _ _ _ c.in_ok-first_kind.ensures.found c.in-Name.is c.read_named.ensures.gives

pub read_direct-returns-in_err-room_below-in-OpenParenthesis-clause-gives : goal.read_direct-returns-in_err-room_below-in-OpenParenthesis-clause-gives
read_direct-returns-in_err-room_below-in-OpenParenthesis-clause-gives t c =
    let p = err_from_is_err_and c.from_residual-in_err-room_below-in-OpenParenthesis.result c.from_residual-in_err-room_below-in-OpenParenthesis.ensures.1 in
    rw (p.1, p.2) (rows.nested_deep _ _ c.in_ok-first_kind.ensures.found c.in-OpenParenthesis.is c.in_err-room_below-in-OpenParenthesis.ensures.none c.in_err-room_below-in-OpenParenthesis.ensures.deep)

pub read_direct-returns-in_err-open-in-OpenParenthesis-clause-gives : goal.read_direct-returns-in_err-open-in-OpenParenthesis-clause-gives
read_direct-returns-in_err-open-in-OpenParenthesis-clause-gives t c =
    let p = err_from_is_err_and c.from_residual-in_err-open-in-OpenParenthesis.result c.from_residual-in_err-open-in-OpenParenthesis.ensures.1 in
    rw (p.1, p.2) (rows.nested_unopened _ _ c.in_ok-first_kind.ensures.found c.in-OpenParenthesis.is c.in_ok-room_below-in-OpenParenthesis.ensures.fits c.in_err-open-in-OpenParenthesis.ensures.none c.in_err-open-in-OpenParenthesis.ensures.misfit)

pub read_direct-returns-in_err-inner-in-OpenParenthesis-clause-gives : goal.read_direct-returns-in_err-inner-in-OpenParenthesis-clause-gives
read_direct-returns-in_err-inner-in-OpenParenthesis-clause-gives t c =
    let p = err_from_is_err_and c.from_residual-in_err-inner-in-OpenParenthesis.result c.from_residual-in_err-inner-in-OpenParenthesis.ensures.1 in
    rw (p.1, p.2) (rows.nested_inner_fault _ _ c.in_ok-first_kind.ensures.found c.in-OpenParenthesis.is c.in_ok-room_below-in-OpenParenthesis.ensures.fits c.in_ok-open-in-OpenParenthesis.ensures.found c.in_err-inner-in-OpenParenthesis.ensures.gives)

pub read_direct-returns-in_err-close-in-OpenParenthesis-clause-gives : goal.read_direct-returns-in_err-close-in-OpenParenthesis-clause-gives
read_direct-returns-in_err-close-in-OpenParenthesis-clause-gives t c =
    let p = err_from_is_err_and c.from_residual-in_err-close-in-OpenParenthesis.result c.from_residual-in_err-close-in-OpenParenthesis.ensures.1 in
    rw (p.1, p.2) (rows.nested_unclosed _ _ c.in_ok-first_kind.ensures.found c.in-OpenParenthesis.is c.in_ok-room_below-in-OpenParenthesis.ensures.fits c.in_ok-open-in-OpenParenthesis.ensures.found c.in_ok-inner-in-OpenParenthesis.ensures.gives c.in_err-close-in-OpenParenthesis.ensures.none c.in_err-close-in-OpenParenthesis.ensures.misfit)

pub read_direct-returns-in_err-suffixes-in-OpenParenthesis-clause-gives : goal.read_direct-returns-in_err-suffixes-in-OpenParenthesis-clause-gives
read_direct-returns-in_err-suffixes-in-OpenParenthesis-clause-gives t c =
    let p = err_from_is_err_and c.from_residual-in_err-suffixes-in-OpenParenthesis.result c.from_residual-in_err-suffixes-in-OpenParenthesis.ensures.1 in
    rw (p.1, p.2) (rows.nested_fault _ _ c.in_ok-first_kind.ensures.found c.in-OpenParenthesis.is c.in_ok-room_below-in-OpenParenthesis.ensures.fits c.in_ok-open-in-OpenParenthesis.ensures.found c.in_ok-inner-in-OpenParenthesis.ensures.gives c.in_ok-close-in-OpenParenthesis.ensures.found c.in_err-suffixes-in-OpenParenthesis.ensures.gives)

pub read_direct-returns-in_ok-suffixes-in-OpenParenthesis-clause-gives : goal.read_direct-returns-in_ok-suffixes-in-OpenParenthesis-clause-gives
read_direct-returns-in_ok-suffixes-in-OpenParenthesis-clause-gives t c =
    rows.nested_read c.in_ok-first_kind.ensures.found c.in-OpenParenthesis.is c.in_ok-room_below-in-OpenParenthesis.ensures.fits c.in_ok-open-in-OpenParenthesis.ensures.found c.in_ok-inner-in-OpenParenthesis.ensures.gives c.in_ok-close-in-OpenParenthesis.ensures.found c.in_ok-suffixes-in-OpenParenthesis.ensures.gives (rows.nested_tree c.args.stars c.in_ok-inner-in-OpenParenthesis.inner.value c.in_ok-nested-in-OpenParenthesis.nested _ c.in_ok-nested-in-OpenParenthesis.ensures.ok) (sym c.max.ensures)

pub read_direct-returns-in_default-clause-gives : goal.read_direct-returns-in_default-clause-gives
read_direct-returns-in_default-clause-gives t c =
    rows.no_direct _ _ c.in_ok-first_kind.ensures.found c.in_default.not-Name c.in_default.not-OpenParenthesis (ap At c.first_place.ensures)
