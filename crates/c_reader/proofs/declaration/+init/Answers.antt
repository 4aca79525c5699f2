use Rattle.std.proofs.Common.{arith, refl, ap, sym, ◌∙◌, [], ◌∷◌, ◌++◌}
use Rattle.std.proofs.lemmas.Result.{err_from_is_err_and}
use Rattle.c_grammar.specs.Table as tables
use Rattle.c_grammar.specs.Forms as forms
use Rattle.c_grammar.specs.Leaves.{leaves_of}
use Rattle.c_syntax.specs.Trees as trees
use Rattle.c_syntax.specs.Views as views
use Rattle.c_reader.specs.Shapes as shapes
use Rattle.c_reader.specs.StatementLists as lists
use Rattle.c_reader.specs.RowForms as rows
use Rattle.c_reader.proofs.Reaching as Rows
use Rattle.c_reader.proofs.Same.{same_list}
use Rattle.c_reader.proofs.declaration.+init.Goals as goal

pub read_init-returns-in_err-first_kind-clause-gives : goal.read_init-returns-in_err-first_kind-clause-gives
read_init-returns-in_err-first_kind-clause-gives t c =
    let p = err_from_is_err_and c.from_residual.result c.from_residual.ensures.1 in
    rw (p.1, p.2) (Rows.empty_fails _ _ _ _ c.in_err-first_kind.ensures.none c.in_err-first_kind.ensures.misfit)

pub read_init-returns-in_err-below-in-Some-List-clause-gives : goal.read_init-returns-in_err-below-in-Some-List-clause-gives
read_init-returns-in_err-below-in-Some-List-clause-gives t c =
    let p = err_from_is_err_and c.from_residual-in_err-below-in-Some-List.result c.from_residual-in_err-below-in-Some-List.ensures.1 in
    rw (p.1, p.2) (Rows.deep_fails _ c.in_ok-first_kind.ensures.found (Rows.tells_at rows.init_form c.in-Some-List.ensures c.in-Some-List.field-0-is) c.in_err-below-in-Some-List.ensures.none c.in_err-below-in-Some-List.ensures.deep)

pub read_init-returns-in_ok-below-in-Some-List-clause-gives : goal.read_init-returns-in_ok-below-in-Some-List-clause-gives
read_init-returns-in_ok-below-in-Some-List-clause-gives t c =
    Rows.whole_gives shapes.init_of views.init_tree _ record { kind = _; begins = c.in_ok-first_kind.ensures.found; tells = Rows.tells_at rows.init_form c.in-Some-List.ensures c.in-Some-List.field-0-is; fits = c.in_ok-below-in-Some-List.ensures.fits; down = c.in_ok-below-in-Some-List.ensures.found; ends = record { ends = λ own kind. refl } } c.read_init_list.ensures.gives

pub read_init-returns-in_err-below-in-Some-Value-clause-gives : goal.read_init-returns-in_err-below-in-Some-Value-clause-gives
read_init-returns-in_err-below-in-Some-Value-clause-gives t c =
    let p = err_from_is_err_and c.from_residual-in_err-below-in-Some-Value.result c.from_residual-in_err-below-in-Some-Value.ensures.1 in
    rw (p.1, p.2) (Rows.deep_fails _ c.in_ok-first_kind.ensures.found (Rows.tells_at rows.init_form c.in-Some-Value.ensures c.in-Some-Value.field-0-is) c.in_err-below-in-Some-Value.ensures.none c.in_err-below-in-Some-Value.ensures.deep)

pub read_init-returns-in_err-value-in-Some-Value-clause-gives : goal.read_init-returns-in_err-value-in-Some-Value-clause-gives
read_init-returns-in_err-value-in-Some-Value-clause-gives t c =
    let r0 = Rows.begin record { kind = _; begins = c.in_ok-first_kind.ensures.found; tells = Rows.tells_at rows.init_form c.in-Some-Value.ensures c.in-Some-Value.field-0-is; fits = c.in_ok-below-in-Some-Value.ensures.fits; down = c.in_ok-below-in-Some-Value.ensures.found; ends = record { ends = λ own kind. refl } } in
    let p = err_from_is_err_and c.from_residual-in_err-value-in-Some-Value.result c.from_residual-in_err-value-in-Some-Value.ensures.1 in
    rw (p.1, p.2) (Rows.part_at _ r0 c.in_err-value-in-Some-Value.ensures.gives)

pub read_init-returns-in_ok-value-in-Some-Value-clause-gives : goal.read_init-returns-in_ok-value-in-Some-Value-clause-gives
read_init-returns-in_ok-value-in-Some-Value-clause-gives t c =
    let r0 = Rows.begin record { kind = _; begins = c.in_ok-first_kind.ensures.found; tells = Rows.tells_at rows.init_form c.in-Some-Value.ensures c.in-Some-Value.field-0-is; fits = c.in_ok-below-in-Some-Value.ensures.fits; down = c.in_ok-below-in-Some-Value.ensures.found; ends = record { ends = λ own kind. refl } } in
    let r1 = Rows.read r0 c.in_ok-value-in-Some-Value.ensures.gives in
    let s0 = c.in_ok-value-in-Some-Value.ensures.gives.shape in
    Rows.finish shapes.init_of _ r1 (ap trees.InitValue (s0 ∙ ap views.expr_tree (sym c.into_inner.ensures)))

pub read_init-returns-in-None-clause-gives : goal.read_init-returns-in-None-clause-gives
read_init-returns-in-None-clause-gives t c =
    Rows.none_fails _ _ c.in_ok-first_kind.ensures.found c.in-None.ensures c.first_place.ensures

pub read_init_behind_comma-returns-in_err-first_kind-clause-gives : goal.read_init_behind_comma-returns-in_err-first_kind-clause-gives
read_init_behind_comma-returns-in_err-first_kind-clause-gives t c =
    let p = err_from_is_err_and c.from_residual.result c.from_residual.ensures.1 in
    rw (p.1, p.2) (Rows.empty_fails _ _ _ _ c.in_err-first_kind.ensures.none c.in_err-first_kind.ensures.misfit)

pub read_init_behind_comma-returns-in_err-close-in-Some-Close-clause-gives : goal.read_init_behind_comma-returns-in_err-close-in-Some-Close-clause-gives
read_init_behind_comma-returns-in_err-close-in-Some-Close-clause-gives t c =
    let r0 = Rows.begin {below = c.args.room} record { kind = _; begins = c.in_ok-first_kind.ensures.found; tells = Rows.tells_at rows.init_next_form c.in-Some-Close.ensures c.in-Some-Close.field-0-is; fits = omega arith; down = omega arith; ends = record { ends = λ own kind. refl } } in
    let p = err_from_is_err_and c.from_residual-in_err-close-in-Some-Close.result c.from_residual-in_err-close-in-Some-Close.ensures.1 in
    rw (p.1, p.2) (Rows.unfit_at _ r0 c.in_err-close-in-Some-Close.ensures.none c.in_err-close-in-Some-Close.ensures.misfit)

pub read_init_behind_comma-returns-in_ok-close-in-Some-Close-clause-gives : goal.read_init_behind_comma-returns-in_ok-close-in-Some-Close-clause-gives
read_init_behind_comma-returns-in_ok-close-in-Some-Close-clause-gives t c =
    let r0 = Rows.begin {below = c.args.room} record { kind = _; begins = c.in_ok-first_kind.ensures.found; tells = Rows.tells_at rows.init_next_form c.in-Some-Close.ensures c.in-Some-Close.field-0-is; fits = omega arith; down = omega arith; ends = record { ends = λ own kind. refl } } in
    let r1 = Rows.token r0 c.in_ok-close-in-Some-Close.ensures.found in
    Rows.finish lists.inits_behind _ r1 (refl)

pub read_init_behind_comma-returns-in_err-has_room-in-Some-Other-clause-gives : goal.read_init_behind_comma-returns-in_err-has_room-in-Some-Other-clause-gives
read_init_behind_comma-returns-in_err-has_room-in-Some-Other-clause-gives t c =
    let p = err_from_is_err_and c.from_residual-in_err-has_room-in-Some-Other.result c.from_residual-in_err-has_room-in-Some-Other.ensures.1 in
    rw (p.1, p.2) (Rows.deep_fails _ c.in_ok-first_kind.ensures.found (Rows.tells_at rows.init_next_form c.in-Some-Other.ensures c.in-Some-Other.field-0-is) c.in_err-has_room-in-Some-Other.ensures.none c.in_err-has_room-in-Some-Other.ensures.deep)

pub read_init_behind_comma-returns-in_err-init-in-Some-Other-clause-gives : goal.read_init_behind_comma-returns-in_err-init-in-Some-Other-clause-gives
read_init_behind_comma-returns-in_err-init-in-Some-Other-clause-gives t c =
    let r0 = Rows.begin {below = c.args.room} record { kind = _; begins = c.in_ok-first_kind.ensures.found; tells = Rows.tells_at rows.init_next_form c.in-Some-Other.ensures c.in-Some-Other.field-0-is; fits = c.in_ok-has_room-in-Some-Other.ensures.fits; down = omega arith; ends = record { ends = λ own kind. refl } } in
    let p = err_from_is_err_and c.from_residual-in_err-init-in-Some-Other.result c.from_residual-in_err-init-in-Some-Other.ensures.1 in
    rw (p.1, p.2) (Rows.part_at _ r0 c.in_err-init-in-Some-Other.ensures.gives)

pub read_init_behind_comma-returns-in_ok-init-in-Some-Other-clause-gives : goal.read_init_behind_comma-returns-in_ok-init-in-Some-Other-clause-gives
read_init_behind_comma-returns-in_ok-init-in-Some-Other-clause-gives t c =
    let r0 = Rows.begin {below = c.args.room} record { kind = _; begins = c.in_ok-first_kind.ensures.found; tells = Rows.tells_at rows.init_next_form c.in-Some-Other.ensures c.in-Some-Other.field-0-is; fits = c.in_ok-has_room-in-Some-Other.ensures.fits; down = omega arith; ends = record { ends = λ own kind. refl } } in
    let r1 = Rows.found r0 c.in_ok-init-in-Some-Other.ensures.gives in
    let s0 = c.in_ok-init-in-Some-Other.ensures.gives.shape in
    Rows.leads lists.inits_behind _ shapes.inits_of r1 refl (λ parse. ap (λ init. trees.Inits init (shapes.inits_of parse)) s0)

pub read_init_behind_comma-returns-in-None-clause-gives : goal.read_init_behind_comma-returns-in-None-clause-gives
read_init_behind_comma-returns-in-None-clause-gives t c =
    Rows.none_fails _ _ c.in_ok-first_kind.ensures.found c.in-None.ensures c.first_place.ensures

pub read_init_list-returns-in_err-opening-clause-gives : goal.read_init_list-returns-in_err-opening-clause-gives
read_init_list-returns-in_err-opening-clause-gives t c =
    let r0 = Rows.start (forms.symbols_of forms.InitList) c.args.room (leaves_of c.args.tokens.now) in
    let p = err_from_is_err_and c.from_residual.result c.from_residual.ensures.1 in
    rw (p.1, p.2) (Rows.unfit_at _ r0 c.in_err-opening.ensures.none c.in_err-opening.ensures.misfit)

pub read_init_list-returns-in_err-first-clause-gives : goal.read_init_list-returns-in_err-first-clause-gives
read_init_list-returns-in_err-first-clause-gives t c =
    let r0 = Rows.start (forms.symbols_of forms.InitList) c.args.room (leaves_of c.args.tokens.now) in
    let r1 = Rows.token r0 c.in_ok-opening.ensures.found in
    let p = err_from_is_err_and c.from_residual-in_err-first.result c.from_residual-in_err-first.ensures.1 in
    rw (p.1, p.2) (Rows.part_at _ r1 c.in_err-first.ensures.gives)

pub read_init_list-returns-in_err-more-clause-gives : goal.read_init_list-returns-in_err-more-clause-gives
read_init_list-returns-in_err-more-clause-gives t c =
    let r0 = Rows.start (forms.symbols_of forms.InitList) c.args.room (leaves_of c.args.tokens.now) in
    let r1 = Rows.token r0 c.in_ok-opening.ensures.found in
    let r2 = Rows.found r1 c.in_ok-first.ensures.gives in
    let p = err_from_is_err_and c.from_residual-in_err-more.result c.from_residual-in_err-more.ensures.1 in
    rw (p.1, p.2) (Rows.part_at _ r2 c.in_err-more.ensures.gives)

pub read_init_list-returns-clause-gives : goal.read_init_list-returns-clause-gives
read_init_list-returns-clause-gives t c =
    let r0 = Rows.start (forms.symbols_of forms.InitList) c.args.room (leaves_of c.args.tokens.now) in
    let r1 = Rows.token r0 c.in_ok-opening.ensures.found in
    let r2 = Rows.found r1 c.in_ok-first.ensures.gives in
    let r3 = Rows.found r2 c.in_ok-more.ensures.gives in
    let s0 = c.in_ok-opening.ensures.found.stands in
    let s1 = c.in_ok-first.ensures.gives.shape in
    let s2 = c.in_ok-more.ensures.gives.shape in
    Rows.finish (λ parts. shapes.init_of (tables.Node forms.InitList parts)) _ r3 (same_list c.in_ok-first.first.value c.push.new.self c.in_ok-more.more.value (c.in_ok-push.ensures.items ∙ ap (λ vs. vs ++ c.in_ok-first.first.value ∷ []) c.new-inits.ensures.items) s0 s1 s2)

pub read_inits-loop-inits-init : goal.read_inits-loop-inits-init
read_inits-loop-inits-init t c =
    record { listed = Rows.listed_start _ _ _ _ _ _; within = omega arith }

pub read_inits-returns-in_err-next-clause-gives : goal.read_inits-returns-in_err-next-clause-gives
read_inits-returns-in_err-next-clause-gives t c =
    let p = err_from_is_err_and c.from_residual.result c.from_residual.ensures.1 in
    rw (p.1, p.2) (Rows.listed_fails _ c.loop-inits.invariant.listed c.in_err-next.ensures.gives)

pub read_inits-loop-inits-smaller : goal.read_inits-loop-inits-smaller
read_inits-loop-inits-smaller t c =
    omega (arith, c.in_ok-next.ensures.shorter)

pub read_inits-returns-in-None-clause-shorter : goal.read_inits-returns-in-None-clause-shorter
read_inits-returns-in-None-clause-shorter t c =
    omega (arith, c.in_ok-next.ensures.shorter)

pub read_inits-loop-inits-preserved : goal.read_inits-loop-inits-preserved
read_inits-loop-inits-preserved t c =
    record { listed = Rows.listed_next _ _ _ _ _ c.loop-inits.invariant.listed (c.in_ok-push-in-Some.ensures.items ∙ ap (λ v. c.loop-inits.inits.items ++ v ∷ []) c.in-Some.init-is) c.in-Some.is c.in_ok-next.ensures.gives; within = omega (arith, c.in_ok-next.ensures.shorter) }

pub read_inits-returns-in-None-clause-gives : goal.read_inits-returns-in-None-clause-gives
read_inits-returns-in-None-clause-gives t c =
    Rows.listed_end _ _ _ c.loop-inits.invariant.listed c.in-None.is c.in_ok-next.ensures.gives

pub read_next_init-returns-in_err-first_kind-clause-gives : goal.read_next_init-returns-in_err-first_kind-clause-gives
read_next_init-returns-in_err-first_kind-clause-gives t c =
    let p = err_from_is_err_and c.from_residual.result c.from_residual.ensures.1 in
    rw (p.1, p.2) (Rows.empty_fails _ _ _ _ c.in_err-first_kind.ensures.none c.in_err-first_kind.ensures.misfit)

pub read_next_init-returns-in_err-end-in-Some-End-clause-gives : goal.read_next_init-returns-in_err-end-in-Some-End-clause-gives
read_next_init-returns-in_err-end-in-Some-End-clause-gives t c =
    let r0 = Rows.begin {below = c.args.room} record { kind = _; begins = c.in_ok-first_kind.ensures.found; tells = Rows.tells_at rows.init_more_form c.in-Some-End.ensures c.in-Some-End.field-0-is; fits = omega arith; down = omega arith; ends = record { ends = λ own kind. refl } } in
    let p = err_from_is_err_and c.from_residual-in_err-end-in-Some-End.result c.from_residual-in_err-end-in-Some-End.ensures.1 in
    rw (p.1, p.2) (Rows.unfit_at _ r0 c.in_err-end-in-Some-End.ensures.none c.in_err-end-in-Some-End.ensures.misfit)

pub read_next_init-returns-in_ok-end-in-Some-End-clause-gives : goal.read_next_init-returns-in_ok-end-in-Some-End-clause-gives
read_next_init-returns-in_ok-end-in-Some-End-clause-gives t c =
    let r0 = Rows.begin {below = c.args.room} record { kind = _; begins = c.in_ok-first_kind.ensures.found; tells = Rows.tells_at rows.init_more_form c.in-Some-End.ensures c.in-Some-End.field-0-is; fits = omega arith; down = omega arith; ends = record { ends = λ own kind. refl } } in
    let r1 = Rows.token r0 c.in_ok-end-in-Some-End.ensures.found in
    Rows.finish shapes.inits_of _ r1 (refl)

pub read_next_init-returns-in_err-comma-in-Some-Comma-clause-gives : goal.read_next_init-returns-in_err-comma-in-Some-Comma-clause-gives
read_next_init-returns-in_err-comma-in-Some-Comma-clause-gives t c =
    let r0 = Rows.begin {below = c.args.room} record { kind = _; begins = c.in_ok-first_kind.ensures.found; tells = Rows.tells_at rows.init_more_form c.in-Some-Comma.ensures c.in-Some-Comma.field-0-is; fits = omega arith; down = omega arith; ends = record { ends = λ own kind. refl } } in
    let p = err_from_is_err_and c.from_residual-in_err-comma-in-Some-Comma.result c.from_residual-in_err-comma-in-Some-Comma.ensures.1 in
    rw (p.1, p.2) (Rows.unfit_at _ r0 c.in_err-comma-in-Some-Comma.ensures.none c.in_err-comma-in-Some-Comma.ensures.misfit)

pub read_next_init-returns-in_ok-comma-in-Some-Comma-clause-gives : goal.read_next_init-returns-in_ok-comma-in-Some-Comma-clause-gives
read_next_init-returns-in_ok-comma-in-Some-Comma-clause-gives t c =
    let r0 = Rows.begin {below = c.args.room} record { kind = _; begins = c.in_ok-first_kind.ensures.found; tells = Rows.tells_at rows.init_more_form c.in-Some-Comma.ensures c.in-Some-Comma.field-0-is; fits = omega arith; down = omega arith; ends = record { ends = λ own kind. refl } } in
    let r1 = Rows.token r0 c.in_ok-comma-in-Some-Comma.ensures.found in
    Rows.element_through shapes.inits_of lists.init_before _ lists.inits_behind _ shapes.inits_of _ r1 refl (λ parse. refl) c.read_init_behind_comma.ensures.gives

pub read_next_init-returns-in-None-clause-gives : goal.read_next_init-returns-in-None-clause-gives
read_next_init-returns-in-None-clause-gives t c =
    Rows.none_fails _ _ c.in_ok-first_kind.ensures.found c.in-None.ensures c.first_place.ensures
